-- Numbers joined one after another.
use Rattle.std.proofs.Common.{◌≡◌, ℕ, suc, ◌+◌, ◌<◌, List, [], ◌∷◌, ◌++◌, Option, Some, drop, length, get_or, refl, ap, sym, ◌∙◌, arith}
use Rattle.std.specs.Prelude.{ℤ}
use Rattle.std.proofs.Math.Seq.{drop-cons}
use Rattle.chare_base.specs.declared.cells.Cells.{Cells}
use Rattle.chare_base.specs.declared.plan.How.{How}
use Rattle.chare_base.specs.declared.plan.State.{State}
use Rattle.chare_base.specs.Total.{both, joined_to}
use Rattle.run_report.specs.Answers.{numbers_in, numbers_over}

joined_behind : (how : How) (total : Option ℤ) (xs ys : List ℤ) → joined_to how total (xs ++ ys) ≡ joined_to how (joined_to how total xs) ys
joined_behind how total [] ys = refl
joined_behind how total (x ∷ xs) ys = joined_behind how (both how total (Some x)) xs ys

-- one more element
pub member_next : (how : How) (s : State) (members : List Cells) (i : ℕ) (cells : Cells) (total next whole : Option ℤ) → i < length members → cells ≡ get_or members i cells →
    next ≡ joined_to how total (numbers_in s cells) → joined_to how total (numbers_over s (drop i members)) ≡ whole → joined_to how next (numbers_over s (drop (i + 1) members)) ≡ whole
member_next how s members i cells total next whole h is joined told =
    ap (λ t. joined_to how t (numbers_over s (drop (i + 1) members))) joined
    ∙ sym (joined_behind how total (numbers_in s cells) (numbers_over s (drop (i + 1) members)))
    ∙ ap (λ xs. joined_to how total (numbers_over s xs)) (sym split)
    ∙ told
  where
    split : drop i members ≡ cells ∷ drop (i + 1) members
    split = drop-cons members i cells h ∙ ap (λ y. y ∷ drop (suc i) members) (sym is) ∙ ap (λ n. cells ∷ drop n members) (let q : suc i ≡ i + 1 = omega arith in q)

-- The rules of expressions.
use Rattle.std.proofs.Common.{◌≡◌, ℕ, zero, suc, Bool, true, false, ◌⊎◌, inl, inr, List, [], ◌∷◌, ◌++◌, map, refl, ap, sym, ◌∙◌, arith, Option, Some, None, subst}
use Rattle.std.specs.Prelude.{◌||◌, not}
use Rattle.job_tree.specs.declared.token.Kind.{Kind}
use Rattle.job_tree.specs.declared.token.Kind.TheVariants as kinds
use Rattle.job_tree.specs.declared.token.Mark.TheVariants as marks
use Rattle.job_tree.specs.declared.token.Num.{Num}
use Rattle.job_tree.specs.declared.token.Span.{Span}
use Rattle.job_tree.specs.declared.tree.AddOp.{AddOp}
use Rattle.job_tree.specs.declared.tree.AddOp.TheVariants as adds
use Rattle.job_tree.specs.declared.tree.MulOp.{MulOp}
use Rattle.job_tree.specs.declared.tree.MulOp.TheVariants as muls
use Rattle.job_tree.specs.declared.tree.CompareOp.{CompareOp}
use Rattle.job_tree.specs.declared.tree.CompareOp.TheVariants as compares
use Rattle.job_tree.specs.declared.tree.Here.{Here}
use Rattle.job_tree.specs.declared.tree.Here.TheVariants as heres
use Rattle.job_tree.specs.declared.tree.Choice.{Choice}
use Rattle.job_tree.specs.declared.tree.Choice.TheVariants as choices
use Rattle.job_tree.specs.declared.tree.Atom.{Atom, roll-Atom, out-Atom, roll-out-Atom}
use Rattle.job_tree.specs.declared.tree.Test.{Test, roll-Test, out-Test, roll-out-Test}
use Rattle.job_tree.specs.declared.tree.Unary.{Unary, roll-Unary, out-Unary, roll-out-Unary}
use Rattle.job_tree.specs.declared.tree.Conj.{Conj, roll-Conj, out-Conj, roll-out-Conj}
use Rattle.job_tree.specs.declared.tree.Expr.{Expr, roll-Expr, out-Expr, roll-out-Expr}
use Rattle.job_tree.specs.declared.tree.Product.{Product, roll-Product, out-Product, roll-out-Product}
use Rattle.job_tree.specs.declared.tree.ProductTerm.{ProductTerm, roll-ProductTerm, out-ProductTerm, roll-out-ProductTerm}
use Rattle.job_tree.specs.declared.tree.Sum.{Sum, roll-Sum, out-Sum, roll-out-Sum}
use Rattle.job_tree.specs.declared.tree.SumTerm.{SumTerm, roll-SumTerm, out-SumTerm, roll-out-SumTerm}
use Rattle.job_tree.specs.declared.tree.Atom.TheVariants as atoms
use Rattle.job_tree.specs.declared.tree.Test.TheVariants as tests
use Rattle.job_tree.specs.declared.tree.Unary.TheVariants as unaries
use Rattle.job_tree.specs.declared.tree.Atom.TheOpen.{Atom-F, Test-F, Unary-F, Conj-F, Expr-F, Product-F, ProductTerm-F, Sum-F, SumTerm-F}
use Rattle.job_tree.specs.declared.tree.Atom.TheFolds.{fold-roll-Atom, fold-roll-Test, fold-roll-Unary, fold-roll-Conj, fold-roll-Expr, fold-roll-Product, fold-roll-ProductTerm, fold-roll-Sum, fold-roll-SumTerm}
use Rattle.job_tree.specs.Readers.{Reader, is_mark}
use Rattle.job_tree.specs.Word.{Word, Name, Number, kind_of}
use Rattle.job_tree.specs.Spelling.{Spelling, mark as bare, placed, opener, placed_opener, joined, joined_behind, add_mark, mul_mark, compare_mark, here_mark, choice_mark, index_spelling, atom_step, test_step, unary_step, conj_step, expr_step, product_step, product_term_step, sum_step, sum_term_step, atom_spelling, test_spelling, unary_spelling, conj_spelling, expr_spelling, product_spelling, product_term_spelling, sum_spelling, sum_term_spelling}
use Rattle.job_tree.specs.Reading.{told, behind, deeper, is_name, is_num, is_add, is_mul, is_compare, is_choice, leaf_at, test_of, named_of, product_term_with, product_with, sum_term_with, sum_with, comparison_with, compared_with, conj_with, expr_with, group_with, choice_with, index_with, named_with, atom_with, minus_with, unary_with, not_with, test_with, unary_at, test_at, expr_at}
use Rattle.std.proofs.lemmas.List.{append-nil}
use Rattle.job_tree.proofs.Lists.{Headed}
use Rattle.job_tree.proofs.Law.{Example}
use Rattle.job_tree.proofs.Joined.{Free}
use Rattle.job_tree.proofs.Many.{Shrinks, or_right}
use Rattle.job_tree.proofs.Loops.{rule_less, rule_shrinks, behind_shrinks}
use Rattle.job_tree.proofs.Rules.{Rule, Maybe, never, in_words, skip, opened, bracket, then, last, end, choice, maybe, front, top, fewer}
use Rattle.job_tree.proofs.Singles.{Spelt, name, num, add, mul, compare, here, choice as choice_op, add_there, mul_there, compare_there, choice_there, add_told, mul_told, all, behinds, all_free, behind_free}

-- ---- the tokens with which each goes on

abbrev pub on_unary : Kind → Bool
on_unary k = is_mark marks.OpenBracket k || never k

abbrev pub on_product : Kind → Bool
on_product k = is_mul k || on_unary k

abbrev pub on_sum : Kind → Bool
on_sum k = is_add k || on_product k

abbrev pub on_test : Kind → Bool
on_test k = is_compare k || on_sum k

abbrev pub on_conj : Kind → Bool
on_conj k = is_mark marks.And k || on_test k

abbrev pub on_expr : Kind → Bool
on_expr k = is_mark marks.Or k || on_conj k

-- ---- spellings of the parts

product_is : (y : Product-F Atom Test Unary Conj Expr Product ProductTerm Sum SumTerm) (o : ℕ) → product_spelling (roll-Product y) o ≡ unary_spelling y.first o ++ joined o (map product_term_spelling y.others)
product_is y o = ap (λ (f : Spelling). f o) (fold-roll-Product Spelling Spelling Spelling Spelling Spelling Spelling Spelling Spelling Spelling atom_step test_step unary_step conj_step expr_step product_step product_term_step sum_step sum_term_step y)

product_term_is : (y : ProductTerm-F Atom Test Unary Conj Expr Product ProductTerm Sum SumTerm) (o : ℕ) → product_term_spelling (roll-ProductTerm y) o ≡ placed (mul_mark y.op) y.at ∷ unary_spelling y.value o
product_term_is y o = ap (λ (f : Spelling). f o) (fold-roll-ProductTerm Spelling Spelling Spelling Spelling Spelling Spelling Spelling Spelling Spelling atom_step test_step unary_step conj_step expr_step product_step product_term_step sum_step sum_term_step y)

sum_is : (y : Sum-F Atom Test Unary Conj Expr Product ProductTerm Sum SumTerm) (o : ℕ) → sum_spelling (roll-Sum y) o ≡ product_spelling y.first o ++ joined o (map sum_term_spelling y.others)
sum_is y o = ap (λ (f : Spelling). f o) (fold-roll-Sum Spelling Spelling Spelling Spelling Spelling Spelling Spelling Spelling Spelling atom_step test_step unary_step conj_step expr_step product_step product_term_step sum_step sum_term_step y)

sum_term_is : (y : SumTerm-F Atom Test Unary Conj Expr Product ProductTerm Sum SumTerm) (o : ℕ) → sum_term_spelling (roll-SumTerm y) o ≡ placed (add_mark y.op) y.at ∷ product_spelling y.value o
sum_term_is y o = ap (λ (f : Spelling). f o) (fold-roll-SumTerm Spelling Spelling Spelling Spelling Spelling Spelling Spelling Spelling Spelling atom_step test_step unary_step conj_step expr_step product_step product_term_step sum_step sum_term_step y)

conj_is : (y : Conj-F Atom Test Unary Conj Expr Product ProductTerm Sum SumTerm) (o : ℕ) → conj_spelling (roll-Conj y) o ≡ test_spelling y.first o ++ joined_behind marks.And o (map test_spelling y.others)
conj_is y o = ap (λ (f : Spelling). f o) (fold-roll-Conj Spelling Spelling Spelling Spelling Spelling Spelling Spelling Spelling Spelling atom_step test_step unary_step conj_step expr_step product_step product_term_step sum_step sum_term_step y)

expr_is : (y : Expr-F Atom Test Unary Conj Expr Product ProductTerm Sum SumTerm) (o : ℕ) → expr_spelling (roll-Expr y) o ≡ conj_spelling y.first o ++ joined_behind marks.Or o (map conj_spelling y.others)
expr_is y o = ap (λ (f : Spelling). f o) (fold-roll-Expr Spelling Spelling Spelling Spelling Spelling Spelling Spelling Spelling Spelling atom_step test_step unary_step conj_step expr_step product_step product_term_step sum_step sum_term_step y)

atom_number_is : (n : Num) (o : ℕ) → atom_spelling (atoms.Number n) o ≡ Number n ∷ []
atom_number_is n o = ap (λ z. atom_spelling z o) (sym (atoms.rolls-Number n)) ∙ ap (λ (f : Spelling). f o) (fold-roll-Atom Spelling Spelling Spelling Spelling Spelling Spelling Spelling Spelling Spelling atom_step test_step unary_step conj_step expr_step product_step product_term_step sum_step sum_term_step (Atom-F.Number n))

atom_name_is : (s : Span) (o : ℕ) → atom_spelling (atoms.Name s) o ≡ Name s ∷ []
atom_name_is s o = ap (λ z. atom_spelling z o) (sym (atoms.rolls-Name s)) ∙ ap (λ (f : Spelling). f o) (fold-roll-Atom Spelling Spelling Spelling Spelling Spelling Spelling Spelling Spelling Spelling atom_step test_step unary_step conj_step expr_step product_step product_term_step sum_step sum_term_step (Atom-F.Name s))

atom_cell_is : (name : Span) (index : Expr) (o : ℕ) → atom_spelling (atoms.Cell name index) o ≡ Name name ∷ index_spelling index o
atom_cell_is name index o = ap (λ z. atom_spelling z o) (sym (atoms.rolls-Cell name index)) ∙ ap (λ (f : Spelling). f o) (fold-roll-Atom Spelling Spelling Spelling Spelling Spelling Spelling Spelling Spelling Spelling atom_step test_step unary_step conj_step expr_step product_step product_term_step sum_step sum_term_step (Atom-F.Cell name index))

atom_here_is : (at : ℕ) (word : Here) (o : ℕ) → atom_spelling (atoms.Here at word) o ≡ placed (here_mark word) at ∷ []
atom_here_is at word o = ap (λ z. atom_spelling z o) (sym (atoms.rolls-Here at word)) ∙ ap (λ (f : Spelling). f o) (fold-roll-Atom Spelling Spelling Spelling Spelling Spelling Spelling Spelling Spelling Spelling atom_step test_step unary_step conj_step expr_step product_step product_term_step sum_step sum_term_step (Atom-F.Here at word))

atom_choice_is : (at : ℕ) (choice : Choice) (first second : Expr) (o : ℕ) → atom_spelling (atoms.Choice at choice first second) o ≡ placed (choice_mark choice) at ∷ opener marks.OpenParen o ∷ (expr_spelling first (suc o) ++ bare marks.Comma ∷ (expr_spelling second (suc o) ++ bare marks.CloseParen ∷ []))
atom_choice_is at choice first second o = ap (λ z. atom_spelling z o) (sym (atoms.rolls-Choice at choice first second)) ∙ ap (λ (f : Spelling). f o) (fold-roll-Atom Spelling Spelling Spelling Spelling Spelling Spelling Spelling Spelling Spelling atom_step test_step unary_step conj_step expr_step product_step product_term_step sum_step sum_term_step (Atom-F.Choice at choice first second))

atom_group_is : (at : ℕ) (inner : Expr) (o : ℕ) → atom_spelling (atoms.Group at inner) o ≡ placed_opener marks.OpenParen at o ∷ (expr_spelling inner (suc o) ++ bare marks.CloseParen ∷ [])
atom_group_is at inner o = ap (λ z. atom_spelling z o) (sym (atoms.rolls-Group at inner)) ∙ ap (λ (f : Spelling). f o) (fold-roll-Atom Spelling Spelling Spelling Spelling Spelling Spelling Spelling Spelling Spelling atom_step test_step unary_step conj_step expr_step product_step product_term_step sum_step sum_term_step (Atom-F.Group at inner))

unary_minus_is : (at : ℕ) (operand : Unary) (o : ℕ) → unary_spelling (unaries.Minus at operand) o ≡ placed_opener marks.Minus at o ∷ unary_spelling operand (suc o)
unary_minus_is at operand o = ap (λ z. unary_spelling z o) (sym (unaries.rolls-Minus at operand)) ∙ ap (λ (f : Spelling). f o) (fold-roll-Unary Spelling Spelling Spelling Spelling Spelling Spelling Spelling Spelling Spelling atom_step test_step unary_step conj_step expr_step product_step product_term_step sum_step sum_term_step (Unary-F.Minus at operand))

unary_atom_is : (a : Atom) (o : ℕ) → unary_spelling (unaries.Atom a) o ≡ atom_spelling a o
unary_atom_is a o = ap (λ z. unary_spelling z o) (sym (unaries.rolls-Atom a)) ∙ ap (λ (f : Spelling). f o) (fold-roll-Unary Spelling Spelling Spelling Spelling Spelling Spelling Spelling Spelling Spelling atom_step test_step unary_step conj_step expr_step product_step product_term_step sum_step sum_term_step (Unary-F.Atom a))

test_not_is : (at : ℕ) (operand : Test) (o : ℕ) → test_spelling (tests.Not at operand) o ≡ placed_opener marks.Not at o ∷ test_spelling operand (suc o)
test_not_is at operand o = ap (λ z. test_spelling z o) (sym (tests.rolls-Not at operand)) ∙ ap (λ (f : Spelling). f o) (fold-roll-Test Spelling Spelling Spelling Spelling Spelling Spelling Spelling Spelling Spelling atom_step test_step unary_step conj_step expr_step product_step product_term_step sum_step sum_term_step (Test-F.Not at operand))

test_alone_is : (sum : Sum) (o : ℕ) → test_spelling (tests.Alone sum) o ≡ sum_spelling sum o
test_alone_is sum o = ap (λ z. test_spelling z o) (sym (tests.rolls-Alone sum)) ∙ ap (λ (f : Spelling). f o) (fold-roll-Test Spelling Spelling Spelling Spelling Spelling Spelling Spelling Spelling Spelling atom_step test_step unary_step conj_step expr_step product_step product_term_step sum_step sum_term_step (Test-F.Alone sum))

test_compare_is : (left : Sum) (op : CompareOp) (right : Sum) (o : ℕ) → test_spelling (tests.Compare left op right) o ≡ sum_spelling left o ++ bare (compare_mark op) ∷ sum_spelling right o
test_compare_is left op right o = ap (λ z. test_spelling z o) (sym (tests.rolls-Compare left op right)) ∙ ap (λ (f : Spelling). f o) (fold-roll-Test Spelling Spelling Spelling Spelling Spelling Spelling Spelling Spelling Spelling atom_step test_step unary_step conj_step expr_step product_step product_term_step sum_step sum_term_step (Test-F.Compare left op right))

-- ---- how they begin

-- neither a minus nor `not`
abbrev plain : Kind → Bool
plain k = not (is_mark marks.Minus k || is_mark marks.Not k)

abbrev affirmed : Kind → Bool
affirmed k = not (is_mark marks.Not k)

here_plain : (h : Here) → plain (kinds.Mark (here_mark h)) ≡ true
here_plain heres.Index = refl
here_plain _ = refl

choice_plain : (c : Choice) → plain (kinds.Mark (choice_mark c)) ≡ true
choice_plain choices.Min = refl
choice_plain choices.Max = refl

atom_heads : (a : Atom) (o : ℕ) → Headed plain (atom_spelling a o)
atom_heads a o = subst (λ z. Headed plain (atom_spelling z o)) (roll-out-Atom a) (by (out-Atom a))
  where
    by : (y : Atom-F Atom Test Unary Conj Expr Product ProductTerm Sum SumTerm) → Headed plain (atom_spelling (roll-Atom y) o)
    by (Atom-F.Number n) = subst (λ z. Headed plain (atom_spelling z o)) (sym (atoms.rolls-Number n)) (subst (Headed plain) (sym (atom_number_is n o)) refl)
    by (Atom-F.Name s) = subst (λ z. Headed plain (atom_spelling z o)) (sym (atoms.rolls-Name s)) (subst (Headed plain) (sym (atom_name_is s o)) refl)
    by (Atom-F.Cell s e) = subst (λ z. Headed plain (atom_spelling z o)) (sym (atoms.rolls-Cell s e)) (subst (Headed plain) (sym (atom_cell_is s e o)) refl)
    by (Atom-F.Here at h) = subst (λ z. Headed plain (atom_spelling z o)) (sym (atoms.rolls-Here at h)) (subst (Headed plain) (sym (atom_here_is at h o)) (here_plain h))
    by (Atom-F.Choice at c e f) = subst (λ z. Headed plain (atom_spelling z o)) (sym (atoms.rolls-Choice at c e f)) (subst (Headed plain) (sym (atom_choice_is at c e f o)) (choice_plain c))
    by (Atom-F.Group at e) = subst (λ z. Headed plain (atom_spelling z o)) (sym (atoms.rolls-Group at e)) (subst (Headed plain) (sym (atom_group_is at e o)) refl)

headed_less : (f g : Kind → Bool) → ((k : Kind) → f k ≡ true → g k ≡ true) → (ws : List Word) → Headed f ws → Headed g ws
headed_less f g h [] is = is
headed_less f g h (w ∷ ws) is = h (kind_of w) is

headed_more : (f : Kind → Bool) (us vs : List Word) → Headed f us → Headed f (us ++ vs)
headed_more f [] vs is = absurd is
headed_more f (w ∷ us) vs is = is

not_right : (a b : Bool) → not (a || b) ≡ true → not b ≡ true
not_right true b e = absurd cc
not_right false b e = e

not_left : (a b : Bool) → not (a || b) ≡ true → a ≡ false
not_left true b e = absurd cc
not_left false b e = refl

not_false : (a : Bool) → not a ≡ true → a ≡ false
not_false true e = absurd cc
not_false false e = refl

pub headed_free : (f off on : Kind → Bool) → ((k : Kind) → f k ≡ true → off k ≡ false) → (ws : List Word) → Headed f ws → Free off on ws
headed_free f off on h [] is = absurd is
headed_free f off on h (w ∷ ws) is = h (kind_of w) is

unary_heads : (u : Unary) (o : ℕ) → Headed affirmed (unary_spelling u o)
unary_heads u o = subst (λ z. Headed affirmed (unary_spelling z o)) (roll-out-Unary u) (by (out-Unary u))
  where
    by : (y : Unary-F Atom Test Unary Conj Expr Product ProductTerm Sum SumTerm) → Headed affirmed (unary_spelling (roll-Unary y) o)
    by (Unary-F.Minus at e) = subst (λ z. Headed affirmed (unary_spelling z o)) (sym (unaries.rolls-Minus at e)) (subst (Headed affirmed) (sym (unary_minus_is at e o)) refl)
    by (Unary-F.Atom a) =
        subst (λ z. Headed affirmed (unary_spelling z o)) (sym (unaries.rolls-Atom a))
        (subst (Headed affirmed) (sym (unary_atom_is a o)) (headed_less plain affirmed (λ k e. not_right (is_mark marks.Minus k) (is_mark marks.Not k) e) (atom_spelling a o) (atom_heads a o)))

sum_heads : (s : Sum) (o : ℕ) → Headed affirmed (sum_spelling s o)
sum_heads s o =
    let y = out-Sum s in
    subst (λ z. Headed affirmed (sum_spelling z o)) (roll-out-Sum s)
    (subst (Headed affirmed) (sym (sum_is y o)) (headed_more affirmed (product_spelling y.first o) (joined o (map sum_term_spelling y.others)) (product_heads y.first)))
  where
    product_heads : (p : Product) → Headed affirmed (product_spelling p o)
    product_heads p =
        let y = out-Product p in
        subst (λ z. Headed affirmed (product_spelling z o)) (roll-out-Product p)
        (subst (Headed affirmed) (sym (product_is y o)) (headed_more affirmed (unary_spelling y.first o) (joined o (map product_term_spelling y.others)) (unary_heads y.first o)))

product_term_heads : (o : ℕ) (x : ProductTerm) → Headed is_mul (product_term_spelling x o)
product_term_heads o x =
    let y = out-ProductTerm x in
    subst (λ z. Headed is_mul (product_term_spelling z o)) (roll-out-ProductTerm x) (subst (Headed is_mul) (sym (product_term_is y o)) (ap told (mul_there y.op)))

sum_term_heads : (o : ℕ) (x : SumTerm) → Headed is_add (sum_term_spelling x o)
sum_term_heads o x =
    let y = out-SumTerm x in
    subst (λ z. Headed is_add (sum_term_spelling z o)) (roll-out-SumTerm x) (subst (Headed is_add) (sym (sum_term_is y o)) (ap told (add_there y.op)))

-- ---- operators don't go on what stands before them

mul_apart : (x : MulOp) → on_unary (kinds.Mark (mul_mark x)) ≡ false
mul_apart muls.Times = refl
mul_apart _ = refl

add_apart : (x : AddOp) → on_product (kinds.Mark (add_mark x)) ≡ false
add_apart adds.Plus = refl
add_apart adds.Minus = refl

compare_apart : (x : CompareOp) → on_sum (kinds.Mark (compare_mark x)) ≡ false
compare_apart compares.Equal = refl
compare_apart _ = refl

choice_paren : (c : Choice) → is_mark marks.OpenParen (kinds.Mark (choice_mark c)) ≡ false
choice_paren choices.Min = refl
choice_paren choices.Max = refl

here_paren : (h : Here) → is_mark marks.OpenParen (kinds.Mark (here_mark h)) ≡ false
here_paren heres.Index = refl
here_paren _ = refl

here_choice : (h : Here) → is_choice (kinds.Mark (here_mark h)) ≡ false
here_choice heres.Index = refl
here_choice _ = refl

-- ---- sums and tests of unaries

module _ {k : ℕ} {unary : ℕ → Reader Unary} (ru : Rule k (Spelt unary_spelling) on_unary unary) where
  product_term_rule : Rule k (Spelt product_term_spelling) on_unary (λ n. product_term_with (unary n))
  unfolding product_term_with
  product_term_rule = in_words (mul (λ op. last ru (λ value. roll-ProductTerm (record { at = op.0; op = op.1; value = value }))))
      (λ o x ws t. let is = product_term_is (record { at = t.0.0; op = t.0.1; value = t.3.0 }) o in cc)
      (λ o x ws e. let y = out-ProductTerm x in ((y.at, y.op), unary_spelling y.value o, e ∙ ap (λ z. product_term_spelling z o) (sym (roll-out-ProductTerm x)) ∙ product_term_is y o, (y.value, refl, roll-out-ProductTerm x)))

  product_rule : Rule k (Spelt product_spelling) on_product (λ n. product_with (unary n))
  unfolding product_with
  product_rule = in_words
      (then ru (λ first. last (all product_term_spelling is_mul product_term_rule product_term_heads (mul_told on_unary mul_apart)) (λ others. roll-Product (record { first = first; others = others })))
      (λ o a x vs q. all_free product_term_spelling is_mul on_unary o q.0 vs product_term_heads (mul_told on_unary mul_apart) q.1))
      (λ o x ws t. let is = product_is (record { first = t.0; others = t.5.0 }) o in cc)
      (λ o x ws e.
      let y = out-Product x in
      (y.first, unary_spelling y.first o, joined o (map product_term_spelling y.others), e ∙ ap (λ z. product_spelling z o) (sym (roll-out-Product x)) ∙ product_is y o, refl, (y.others, refl, roll-out-Product x)))

  sum_term_rule : Rule k (Spelt sum_term_spelling) on_product (λ n. sum_term_with (unary n))
  unfolding sum_term_with
  sum_term_rule = in_words (add (λ op. last product_rule (λ value. roll-SumTerm (record { at = op.0; op = op.1; value = value }))))
      (λ o x ws t. let is = sum_term_is (record { at = t.0.0; op = t.0.1; value = t.3.0 }) o in cc)
      (λ o x ws e. let y = out-SumTerm x in ((y.at, y.op), product_spelling y.value o, e ∙ ap (λ z. sum_term_spelling z o) (sym (roll-out-SumTerm x)) ∙ sum_term_is y o, (y.value, refl, roll-out-SumTerm x)))

  sum_rule : Rule k (Spelt sum_spelling) on_sum (λ n. sum_with (unary n))
  unfolding sum_with
  sum_rule = in_words
      (then product_rule (λ first. last (all sum_term_spelling is_add sum_term_rule sum_term_heads (add_told on_product add_apart)) (λ others. roll-Sum (record { first = first; others = others })))
      (λ o a x vs q. all_free sum_term_spelling is_add on_product o q.0 vs sum_term_heads (add_told on_product add_apart) q.1))
      (λ o x ws t. let is = sum_is (record { first = t.0; others = t.5.0 }) o in cc)
      (λ o x ws e.
      let y = out-Sum x in
      (y.first, product_spelling y.first o, joined o (map sum_term_spelling y.others), e ∙ ap (λ z. sum_spelling z o) (sym (roll-out-Sum x)) ∙ sum_is y o, refl, (y.others, refl, roll-out-Sum x)))

  comparison_rule : Rule k (λ o (x : CompareOp × Sum) ws. ws ≡ bare (compare_mark x.0) ∷ sum_spelling x.1 o) on_sum (λ n. comparison_with (unary n))
  unfolding comparison_with
  comparison_rule = in_words (compare (λ op. last sum_rule (λ right. (op, right))))
      (λ o x ws t. t.2 ∙ ap (λ z. bare (compare_mark t.0) ∷ z) t.3.1 ∙ ap (λ (z : CompareOp × Sum). bare (compare_mark z.0) ∷ sum_spelling z.1 o) t.3.2)
      (λ o x ws e. (x.0, sum_spelling x.1 o, e, (x.1, refl, refl)))

module _ {k : ℕ} {test : ℕ → Reader Test} (rt : Rule k (Spelt test_spelling) on_test test) where
  conj_rule : Rule k (Spelt conj_spelling) on_conj (λ n. conj_with (test n))
  unfolding conj_with
  conj_rule = in_words
      (then rt (λ first. last (behinds test_spelling marks.And rt refl) (λ others. roll-Conj (record { first = first; others = others }))) (λ o a x vs q. behind_free marks.And test_spelling on_test o q.0 vs refl q.1))
      (λ o x ws t. let is = conj_is (record { first = t.0; others = t.5.0 }) o in cc)
      (λ o x ws e.
      let y = out-Conj x in
      (y.first, test_spelling y.first o, joined_behind marks.And o (map test_spelling y.others), e ∙ ap (λ z. conj_spelling z o) (sym (roll-out-Conj x)) ∙ conj_is y o, refl, (y.others, refl, roll-out-Conj x)))

  pub expr_rule : Rule k (Spelt expr_spelling) on_expr (λ n. expr_with (test n))
  unfolding expr_with
  expr_rule = in_words
      (then conj_rule (λ first. last (behinds conj_spelling marks.Or conj_rule refl) (λ others. roll-Expr (record { first = first; others = others }))) (λ o a x vs q. behind_free marks.Or conj_spelling on_conj o q.0 vs refl q.1))
      (λ o x ws t. let is = expr_is (record { first = t.0; others = t.5.0 }) o in cc)
      (λ o x ws e.
      let y = out-Expr x in
      (y.first, conj_spelling y.first o, joined_behind marks.Or o (map conj_spelling y.others), e ∙ ap (λ z. expr_spelling z o) (sym (roll-out-Expr x)) ∙ expr_is y o, refl, (y.others, refl, roll-out-Expr x)))

-- ---- atoms, unaries and tests, whose operands stand a level deeper

pub by_case : {A B C : Type 0} → (A → C) → (B → C) → A ⊎ B → C
by_case f g (inl a) = f a
by_case f g (inr b) = g b

-- what a value is, by its variants
atom_cases : {C : Type 0} (x : Atom) → ((n : Num) → atoms.Number n ≡ x → C) → ((s : Span) → atoms.Name s ≡ x → C) → ((s : Span) (e : Expr) → atoms.Cell s e ≡ x → C) → ((at : ℕ) (h : Here) → atoms.Here at h ≡ x → C) →
    ((at : ℕ) (c : Choice) (e f : Expr) → atoms.Choice at c e f ≡ x → C) → ((at : ℕ) (e : Expr) → atoms.Group at e ≡ x → C) → C
atom_cases {C = C} x number name cell here choice group = by (out-Atom x) (roll-out-Atom x)
  where
    by : (y : Atom-F Atom Test Unary Conj Expr Product ProductTerm Sum SumTerm) → roll-Atom y ≡ x → C
    by (Atom-F.Number n) e = number n (sym (atoms.rolls-Number n) ∙ e)
    by (Atom-F.Name s) e = name s (sym (atoms.rolls-Name s) ∙ e)
    by (Atom-F.Cell s i) e = cell s i (sym (atoms.rolls-Cell s i) ∙ e)
    by (Atom-F.Here at h) e = here at h (sym (atoms.rolls-Here at h) ∙ e)
    by (Atom-F.Choice at c a b) e = choice at c a b (sym (atoms.rolls-Choice at c a b) ∙ e)
    by (Atom-F.Group at i) e = group at i (sym (atoms.rolls-Group at i) ∙ e)

unary_cases : {C : Type 0} (x : Unary) → ((at : ℕ) (u : Unary) → unaries.Minus at u ≡ x → C) → ((a : Atom) → unaries.Atom a ≡ x → C) → C
unary_cases {C = C} x minus atom = by (out-Unary x) (roll-out-Unary x)
  where
    by : (y : Unary-F Atom Test Unary Conj Expr Product ProductTerm Sum SumTerm) → roll-Unary y ≡ x → C
    by (Unary-F.Minus at u) e = minus at u (sym (unaries.rolls-Minus at u) ∙ e)
    by (Unary-F.Atom a) e = atom a (sym (unaries.rolls-Atom a) ∙ e)

test_cases : {C : Type 0} (x : Test) → ((at : ℕ) (u : Test) → tests.Not at u ≡ x → C) → ((s : Sum) → tests.Alone s ≡ x → C) → ((l : Sum) (op : CompareOp) (r : Sum) → tests.Compare l op r ≡ x → C) → C
test_cases {C = C} x denied alone compared = by (out-Test x) (roll-out-Test x)
  where
    by : (y : Test-F Atom Test Unary Conj Expr Product ProductTerm Sum SumTerm) → roll-Test y ≡ x → C
    by (Test-F.Not at u) e = denied at u (sym (tests.rolls-Not at u) ∙ e)
    by (Test-F.Alone s) e = alone s (sym (tests.rolls-Alone s) ∙ e)
    by (Test-F.Compare l op r) e = compared l op r (sym (tests.rolls-Compare l op r) ∙ e)

module _ {k : ℕ} (ru : Rule k (Spelt unary_spelling) on_unary unary_at) (rt : Rule k (Spelt test_spelling) on_test test_at) where
  within : Rule k (Spelt expr_spelling) on_expr expr_at
  within = expr_rule rt

  index_rule : Rule (suc k) (Spelt index_spelling) never (λ n. index_with n (deeper n))
  unfolding index_with
  index_rule = in_words
      (bracket (omega arith) marks.OpenBracket _ (λ at. then within (λ index. skip marks.CloseBracket (λ c. end index)) (λ o a x vs q. front on_expr never q.1 refl)))
      (λ o x ws t. cc)
      (λ o x ws e. (_, e, (x, expr_spelling x (suc o), bare marks.CloseBracket ∷ [], refl, refl, ([], refl, (refl, refl)))))

  named_to : (o : ℕ) (s : Span) (m : Option Expr) (x : Atom) (vs ws : List Word) → ws ≡ Name s ∷ vs → Maybe (Spelt index_spelling o) m vs → named_of s m ≡ x → Spelt atom_spelling o x ws
  named_to o s None x vs ws e is h = e ∙ ap (λ z. Name s ∷ z) is ∙ sym (atom_name_is s o) ∙ ap (λ z. atom_spelling z o) h
  named_to o s (Some i) x vs ws e is h = e ∙ ap (λ z. Name s ∷ z) is ∙ sym (atom_cell_is s i o) ∙ ap (λ z. atom_spelling z o) h

  atom_rule : Rule (suc k) (Spelt atom_spelling) on_unary (λ n. atom_with n (deeper n))
  unfolding atom_with group_with choice_with named_with leaf_at
  atom_rule = in_words
      (choice (is_mark marks.OpenParen)
      (opened (omega arith) marks.OpenParen _ (λ at. then within (λ inner. skip marks.CloseParen (λ c. end (atoms.Group at inner))) (λ o a x vs q. front on_expr on_unary q.1 refl)))
      (choice is_choice
      (choice_op (λ c. bracket (omega arith) marks.OpenParen _
      (λ at. then within (λ first. skip marks.Comma (λ m. then within (λ second. skip marks.CloseParen (λ z. end (atoms.Choice c.0 c.1 first second))) (λ o a x vs q. front on_expr on_unary q.1 refl))) (λ o a x vs q. front on_expr on_unary q.1 refl))))
      (choice is_name
      (name (λ s. last (maybe (is_mark marks.OpenBracket) index_rule (λ o x ws is. top (is_mark marks.OpenBracket) is refl)) (named_of s)))
      (choice is_num (num (λ n. end (atoms.Number n))) (here (λ h. end (atoms.Here h.0 h.1))) (λ o x ws is. top is_num is.2 refl) (λ o x ws is. front is_num on_unary is.2 refl))
      (λ o x ws is. top is_name is.2 refl) (λ o x ws is. by_case (λ a. front is_name on_unary a.2 refl) (λ b. front is_name on_unary b.2 refl) is))
      (λ o x ws is. top is_choice is.2 (ap told (choice_there is.0.1)))
      (λ o x ws is. by_case (λ a. front is_choice on_unary a.2 refl) (λ b. by_case (λ a. front is_choice on_unary a.2 refl) (λ c. front is_choice on_unary c.2 (here_choice c.0.1)) b) is))
      (λ o x ws is. top (is_mark marks.OpenParen) is.2 refl)
      (λ o x ws is. by_case (λ a. front (is_mark marks.OpenParen) on_unary a.2 (choice_paren a.0.1))
      (λ b. by_case (λ a. front (is_mark marks.OpenParen) on_unary a.2 refl) (λ c. by_case (λ a. front (is_mark marks.OpenParen) on_unary a.2 refl) (λ d. front (is_mark marks.OpenParen) on_unary d.2 (here_paren d.0.1)) c) b) is))
      (λ o x ws t. by_case (λ g. let is = atom_group_is g.0 g.3.0 o in cc)
      (λ u. by_case (λ g. let is = atom_choice_is g.0.0 g.0.1 g.3.2.0 g.3.2.5.2.0 o in cc)
      (λ v. by_case (λ g. named_to o g.0 g.3.0 x g.1 ws g.2 g.3.1 g.3.2)
      (λ w. by_case (λ g. let is = atom_number_is g.0 o in cc) (λ g. let is = atom_here_is g.0.0 g.0.1 o in cc) w) v) u) t)
      (λ o x ws e. atom_cases x
      (λ n h. inr (inr (inr (inl (n, [], e ∙ ap (λ z. atom_spelling z o) (sym h) ∙ atom_number_is n o, (h, refl))))))
      (λ s h. inr (inr (inl (s, [], e ∙ ap (λ z. atom_spelling z o) (sym h) ∙ atom_name_is s o, (None, refl, h)))))
      (λ s i h. inr (inr (inl (s, index_spelling i o, e ∙ ap (λ z. atom_spelling z o) (sym h) ∙ atom_cell_is s i o, (Some i, refl, h)))))
      (λ at w h. inr (inr (inr (inr ((at, w), [], e ∙ ap (λ z. atom_spelling z o) (sym h) ∙ atom_here_is at w o, (h, refl))))))
      (λ at c a b h. inr (inl (
        (at, c),
        _,
        e ∙ ap (λ z. atom_spelling z o) (sym h) ∙ atom_choice_is at c a b o,
        (
          _,
          refl,
          (
            a,
            expr_spelling a (suc o),
            bare marks.Comma ∷ (expr_spelling b (suc o) ++ bare marks.CloseParen ∷ []),
            refl,
            refl,
            (_, refl, (b, expr_spelling b (suc o), bare marks.CloseParen ∷ [], refl, refl, ([], refl, (h, refl)))),
          ),
        ),
      )))
      (λ at i h. inl (at, _, e ∙ ap (λ z. atom_spelling z o) (sym h) ∙ atom_group_is at i o, (i, expr_spelling i (suc o), bare marks.CloseParen ∷ [], refl, refl, ([], refl, (h, refl))))))

  unary_next : Rule (suc k) (Spelt unary_spelling) on_unary unary_at
  unfolding unary_with minus_with
  unary_next = in_words
      (choice (is_mark marks.Minus) (opened (omega arith) marks.Minus _ (λ at. last ru (λ u. unaries.Minus at u))) (last atom_rule (λ a. unaries.Atom a))
      (λ o x ws is. top (is_mark marks.Minus) is.2 refl)
      (λ o x ws is. subst (Free (is_mark marks.Minus) on_unary) (sym is.1) (headed_free plain (is_mark marks.Minus) on_unary (λ k e. not_left (is_mark marks.Minus k) (is_mark marks.Not k) e) (atom_spelling is.0 o) (atom_heads is.0 o))))
      (λ o x ws t. by_case (λ g. let is = unary_minus_is g.0 g.3.0 o in cc) (λ g. let is = unary_atom_is g.0 o in cc) t)
      (λ o x ws e. unary_cases x
      (λ at u h. inl (at, unary_spelling u (suc o), e ∙ ap (λ z. unary_spelling z o) (sym h) ∙ unary_minus_is at u o, (u, refl, h)))
      (λ a h. inr (a, e ∙ ap (λ z. unary_spelling z o) (sym h) ∙ unary_atom_is a o, h)))

test_to : (o : ℕ) (l : Sum) (m : Option (CompareOp × Sum)) (x : Test) (us vs ws : List Word) → ws ≡ us ++ vs → us ≡ sum_spelling l o → Maybe (λ (y : CompareOp × Sum) zs. zs ≡ bare (compare_mark y.0) ∷ sum_spelling y.1 o) m vs → test_of l m ≡ x → Spelt test_spelling o x ws
test_to o l None x us vs ws e u v h = e ∙ ap (λ z. us ++ z) v ∙ append-nil us ∙ u ∙ sym (test_alone_is l o) ∙ ap (λ z. test_spelling z o) h
test_to o l (Some y) x us vs ws e u v h = e ∙ ap (λ z. us ++ z) v ∙ ap (λ z. z ++ (bare (compare_mark y.0) ∷ sum_spelling y.1 o)) u ∙ sym (test_compare_is l y.0 y.1 o) ∙ ap (λ z. test_spelling z o) h

compare_free : (o : ℕ) (m : Option (CompareOp × Sum)) (vs : List Word) → Maybe (λ (y : CompareOp × Sum) zs. zs ≡ bare (compare_mark y.0) ∷ sum_spelling y.1 o) m vs → Free on_sum on_test vs
compare_free o None vs is = subst (Free on_sum on_test) (sym is) (λ x e. or_right (is_compare x) (on_sum x) e)
compare_free o (Some y) vs is = front on_sum on_test is (compare_apart y.0)

module _ {k : ℕ} (ru : Rule (suc k) (Spelt unary_spelling) on_unary unary_at) (rt : Rule k (Spelt test_spelling) on_test test_at) where
  test_next : Rule (suc k) (Spelt test_spelling) on_test test_at
  unfolding test_with not_with compared_with
  test_next = in_words
      (choice (is_mark marks.Not) (opened (omega arith) marks.Not _ (λ at. last rt (λ u. tests.Not at u)))
      (then (sum_rule ru) (λ left. last (maybe is_compare (comparison_rule ru) (λ o x ws is. top is_compare is (ap told (compare_there x.0)))) (test_of left)) (λ o a x vs q. compare_free o q.0 vs q.1))
      (λ o x ws is. top (is_mark marks.Not) is.2 refl)
      (λ o x ws is. subst (Free (is_mark marks.Not) on_test) (sym (is.3 ∙ ap (λ z. z ++ is.2) is.4))
      (headed_free affirmed (is_mark marks.Not) on_test (λ k e. not_false (is_mark marks.Not k) e) (sum_spelling is.0 o ++ is.2) (headed_more affirmed (sum_spelling is.0 o) is.2 (sum_heads is.0 o)))))
      (λ o x ws t. by_case (λ g. let is = test_not_is g.0 g.3.0 o in cc) (λ g. test_to o g.0 g.5.0 x g.1 g.2 ws g.3 g.4 g.5.1 g.5.2) t)
      (λ o x ws e. test_cases x
      (λ at u h. inl (at, test_spelling u (suc o), e ∙ ap (λ z. test_spelling z o) (sym h) ∙ test_not_is at u o, (u, refl, h)))
      (λ s h. inr (s, sum_spelling s o, [], e ∙ ap (λ z. test_spelling z o) (sym h) ∙ test_alone_is s o ∙ sym (append-nil (sum_spelling s o)), refl, (None, refl, h)))
      (λ l op r h. inr (l, sum_spelling l o, bare (compare_mark op) ∷ sum_spelling r o, e ∙ ap (λ z. test_spelling z o) (sym h) ∙ test_compare_is l op r o, refl, (Some (op, r), refl, h))))

-- ---- at every level

abbrev zero_num : Num
zero_num = record { at = 0; value = 0 }

abbrev some_unary : Unary
some_unary = unaries.Atom (atoms.Number zero_num)

unary_example : (o : ℕ) → Example (Spelt unary_spelling o)
unary_example o = (some_unary, unary_spelling some_unary o, refl)

abbrev some_sum : Sum
some_sum = roll-Sum (record { first = roll-Product (record { first = some_unary; others = [] }); others = [] })

test_example : (o : ℕ) → Example (Spelt test_spelling o)
test_example o = (tests.Alone some_sum, test_spelling (tests.Alone some_sum) o, refl)

-- below none, nothing is read
none_rule : {A : Type 0} {R : ℕ → A → List Word → Type 0} {on : Kind → Bool} {at : ℕ → Reader A} → ((o : ℕ) → Example (R o)) → Rule 0 R on at
none_rule some = record { some = some; law = λ max o n h e. absurd (omega arith); grows = λ n m h l ts. absurd (omega arith) }

record Rules (k : ℕ) : Type 0 where
  unary : Rule k (Spelt unary_spelling) on_unary unary_at
  test : Rule k (Spelt test_spelling) on_test test_at

rules : (k : ℕ) → Rules k
rules zero = record { unary = none_rule unary_example; test = none_rule test_example }
rules (suc k) = let below = rules k in let unary = unary_next below.unary below.test in record { unary = unary; test = test_next unary below.test }

pub expr : (k : ℕ) → Rule k (Spelt expr_spelling) on_expr expr_at
expr k = expr_rule (rules k).test

-- a bracket with an index
pub index : (k : ℕ) → Rule k (Spelt index_spelling) never (λ n. index_with n (deeper n))
index k = fewer (index_rule (rules k).unary (rules k).test)

-- ---- what a loop reads has a token

pub or_shrinks : (n : ℕ) → Shrinks (behind marks.Or (conj_with (test_at n)))
or_shrinks n = behind_shrinks marks.Or _ (rule_less n (conj_rule (rules (suc n)).test))

pub and_shrinks : (n : ℕ) → Shrinks (behind marks.And (test_at n))
and_shrinks n = behind_shrinks marks.And _ (rule_less n (rules (suc n)).test)

pub sum_term_shrinks : (n : ℕ) → Shrinks (sum_term_with (unary_at n))
sum_term_shrinks n = rule_shrinks n is_add (sum_term_rule (rules (suc n)).unary) (λ x ws is. subst (Headed is_add) (sym is) (sum_term_heads 0 x))

pub product_term_shrinks : (n : ℕ) → Shrinks (product_term_with (unary_at n))
product_term_shrinks n = rule_shrinks n is_mul (product_term_rule (rules (suc n)).unary) (λ x ws is. subst (Headed is_mul) (sym is) (product_term_heads 0 x))

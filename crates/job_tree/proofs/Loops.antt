-- A loop that reads items.
use Rattle.std.proofs.Common.{◌≡◌, ℕ, suc, ◌+◌, ◌<◌, ◌≤◌, length, Bool, true, Option, Some, None, List, [], ◌∷◌, ◌++◌, refl, ap, sym, ◌∙◌, append_assoc, arith, Ok, Err, subst}
use Rattle.job_tree.specs.declared.token.Kind.{Kind}
use Rattle.job_tree.specs.declared.token.Mark.{Mark}
use Rattle.job_tree.specs.declared.token.Token.{Token}
use Rattle.job_tree.specs.Readers.{Read, Reader, and_then, done, taken, goes, mark_of, mark_at, many}
use Rattle.job_tree.specs.Reading.{behind, deeper, inner, unary_at, test_at, expr_with, expr_at, statements_at}
use Rattle.job_tree.specs.Word.{Word}
use Rattle.job_tree.proofs.Lists.{ok_same, left_of, Headed}
use Rattle.job_tree.proofs.Law.{less, bind_ok}
use Rattle.job_tree.proofs.Many.{Shrinks, shrinks_by, many_next}
use Rattle.job_tree.proofs.Rules.{Rule}

-- what was read already, in front of what is read
abbrev pub with_front : {A : Type 0} → List A → Read (List A) → Read (List A)
with_front front read = and_then read (λ xs. done (front ++ xs))

fronts : {A : Type 0} (front : List A) (x : A) (read : Read (List A)) → with_front front (and_then read (λ xs. done (x ∷ xs))) ≡ with_front (front ++ x ∷ []) read
fronts front x (Ok y) = ap (λ l. Ok (l, y.1)) (sym (append_assoc front (x ∷ []) y.0))
fronts front x (Err s) = refl

module _ {A : Type 0} (on : Kind → Bool) (item : Reader A) (shrinks : Shrinks item) where
  -- one more item
  pub loop_next : (items all : List A) (ts : List Token) (x : A) (after : List Token) (r : Read (List A)) →
      true ≡ goes on ts → item ts ≡ Ok (x, after) → all ≡ items ++ x ∷ [] → with_front items (many on item ts) ≡ r → with_front all (many on item after) ≡ r
  loop_next items all ts x after r b f g told =
      ap (λ o. with_front o (many on item after)) g
      ∙ sym (fronts items x (many on item after))
      ∙ ap (with_front items) (sym (many_next on item shrinks ts x after (sym b) f))
      ∙ told

-- ---- what stands a level deeper

pub deeper_expr : (n l : ℕ) → l + 1 ≡ n → expr_with (deeper n).test ≡ expr_at l
deeper_expr n l e = let same : suc l ≡ n = omega (arith, e) in subst (λ k. expr_with (deeper k).test ≡ expr_at l) same refl

pub deeper_unary : (n l : ℕ) → l + 1 ≡ n → (deeper n).unary ≡ unary_at l
deeper_unary n l e = let same : suc l ≡ n = omega (arith, e) in subst (λ k. (deeper k).unary ≡ unary_at l) same refl

pub deeper_test : (n l : ℕ) → l + 1 ≡ n → (deeper n).test ≡ test_at l
deeper_test n l e = let same : suc l ≡ n = omega (arith, e) in subst (λ k. (deeper k).test ≡ test_at l) same refl

pub deeper_statements : (n l : ℕ) → l + 1 ≡ n → inner n ≡ statements_at l
deeper_statements n l e = let same : suc l ≡ n = omega (arith, e) in subst (λ k. inner k ≡ statements_at l) same refl

-- ---- a loop's item has a token

pub rule_less : {A : Type 0} (n : ℕ) {R : ℕ → A → List Word → Type 0} {on : Kind → Bool} {at : ℕ → Reader A} → Rule (suc n) R on at → (ts : List Token) → length (left_of (at n ts)) ≤ length ts
rule_less n rule ts = less (rule.law n 0 n (omega arith) (omega arith)) ts

pub rule_shrinks : {A : Type 0} (n : ℕ) {R : ℕ → A → List Word → Type 0} {on : Kind → Bool} {at : ℕ → Reader A} (first : Kind → Bool) → Rule (suc n) R on at → ((x : A) (ws : List Word) → R 0 x ws → Headed first ws) → Shrinks (at n)
rule_shrinks n first rule heads = shrinks_by first (rule.law n 0 n (omega arith) (omega arith)) heads

mark_shorter : (m : Mark) (ts : List Token) (at : ℕ) (after : List Token) → mark_at m ts ≡ Ok (at, after) → length after < length ts
unfolding mark_at
mark_shorter m [] at after e = absurd cc
mark_shorter m (t ∷ ts) at after e = by (mark_of m t) e
  where
    by : (o : Option ℕ) → taken o t ts ≡ Ok (at, after) → length after < length (t ∷ ts)
    by (Some x) e = let same : (x, ts) ≡ (at, after) = ok_same (x, ts) (at, after) e in omega (arith, ap (λ (z : ℕ × List Token). length z.1) same)
    by None e = absurd cc

pub behind_shrinks : {A : Type 0} (m : Mark) (item : Reader A) → ((ts : List Token) → length (left_of (item ts)) ≤ length ts) → Shrinks (behind m item)
behind_shrinks m item h ts x after e =
    let v = bind_ok (mark_at m ts) (λ at. item) (x, after) e in
    omega (arith, mark_shorter m ts v.0 v.1 v.2, h v.1, ap (λ r. length (left_of r)) v.3)

pub behind_ok : {A : Type 0} (m : Mark) (item : Reader A) (ts : List Token) (at : ℕ) (between : List Token) (x : A) (after : List Token) → mark_at m ts ≡ Ok (at, between) → item between ≡ Ok (x, after) → behind m item ts ≡ Ok (x, after)
behind_ok m item ts at between x after a b = ap (λ r. and_then r (λ at. item)) a ∙ b

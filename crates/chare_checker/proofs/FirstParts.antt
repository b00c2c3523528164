-- A table in which all uses are marked tells of its states.
use Rattle.std.proofs.Common.{◌≡◌, ℕ, suc, ◌<◌, ◌≤◌, Bool, true, false, List, [], ◌∷◌, length, get_or, refl, ap, sym, ◌∙◌, arith}
use Rattle.std.specs.Prelude.{◌&&◌, ◌||◌, ◌==◌, nat_lt, leb, if◌then◌else◌, replicate, slice_set}
use Rattle.std.specs.List.{list_any}
use Rattle.std.proofs.Math.Bool.{or_assoc}
use Rattle.std.proofs.lemmas.Bool.{eqb-true, eqb-false, lt-ltb, le-ltb, ltb-true, ltb-false}
use Rattle.std.proofs.lemmas.Grind.{get_or-set_at}
use Rattle.std.proofs.lemmas.List.{get_or-replicate, get_or-set_other, length-replicate, length-set}
use Rattle.std.proofs.Math.Dec.{leb-suc-suc}
use Rattle.job_rules.specs.declared.notes.StateUse.{StateUse}
use Rattle.job_rules.specs.Overlap.{written_by}
use Rattle.chare_checker.specs.FirstUses.{Tells, all_marked, counts, marked, used_in}

or_false : (a : Bool) → a ≡ (a || false)
or_false true = refl
or_false false = refl

-- the lesser of two numbers is below a third where one of them is
lower : (a p j : ℕ) (b : Bool) → p < a → nat_lt a j ≡ b → nat_lt p j ≡ (b || nat_lt p j)
lower a p j true less is = lt-ltb p j (omega (arith, less, ltb-true a j is))
lower a p j false less is = refl

higher : (a p j : ℕ) (b : Bool) → a ≤ p → nat_lt p j ≡ b → nat_lt a j ≡ (nat_lt a j || b)
higher a p j true less is = let below : nat_lt a j ≡ true = lt-ltb a j (omega (arith, less, ltb-true p j is)) in rw below
higher a p j false less is = or_false (nat_lt a j)

-- one more use of state x in part p, which counts or not
module _ (t : List ℕ) (s j x p : ℕ) where
  step : (c same less : Bool) → s < length t → (x == s) ≡ same → nat_lt p (get_or t x 0) ≡ less →
      nat_lt (get_or (if c && less then slice_set t x p else t) s 0) j ≡ (nat_lt (get_or t s 0) j || (same && (c && nat_lt p j)))
  step true true true within here is =
      let at : x ≡ s = eqb-true x s here in
      let less : p < get_or t s 0 = ltb-true p (get_or t s 0) (ap (λ y. nat_lt p (get_or t y 0)) (sym at) ∙ is) in
      ap (λ n. nat_lt n j) (get_or-set_at t x s p 0 (sym at) (omega (arith, within, at))) ∙ lower (get_or t s 0) p j (nat_lt (get_or t s 0) j) less refl
  step true true false within here is =
      let at : x ≡ s = eqb-true x s here in
      let most : get_or t s 0 ≤ p = ltb-false p (get_or t s 0) (ap (λ y. nat_lt p (get_or t y 0)) (sym at) ∙ is) in
      higher (get_or t s 0) p j (nat_lt p j) most refl
  step true false true within there is =
      ap (λ n. nat_lt n j) (get_or-set_other t x s p 0 (λ e. eqb-false x s there (sym e))) ∙ or_false (nat_lt (get_or t s 0) j)
  step true false false within there is = or_false (nat_lt (get_or t s 0) j)
  step false true less within at is = or_false (nat_lt (get_or t s 0) j)
  step false false less within at is = or_false (nat_lt (get_or t s 0) j)

length_if : (b : Bool) (t : List ℕ) (x p : ℕ) → length (if b then slice_set t x p else t) ≡ length t
length_if true t x p = length-set t x p
length_if false t x p = refl

pub length_marked : (w : Bool) (t : List ℕ) (v : StateUse) → length (marked w t v) ≡ length t
length_marked w t v = length_if (counts w v && nat_lt v.part (get_or t v.state 0)) t v.state v.part

pub length_all_marked : (w : Bool) (t : List ℕ) (uses : List StateUse) → length (all_marked w t uses) ≡ length t
length_all_marked w t [] = refl
length_all_marked w t (v ∷ more) = length_all_marked w (marked w t v) more ∙ length_marked w t v

pub after_all : (w : Bool) (t : List ℕ) (s j : ℕ) (uses : List StateUse) → s < length t →
    nat_lt (get_or (all_marked w t uses) s 0) j ≡ (nat_lt (get_or t s 0) j || list_any (used_in w s j) uses)
after_all w t s j [] within = or_false (nat_lt (get_or t s 0) j)
after_all w t s j (v ∷ more) within =
    let now : nat_lt (get_or (marked w t v) s 0) j ≡ (nat_lt (get_or t s 0) j || used_in w s j v) =
    step t s j v.state v.part (counts w v) (v.state == s) (nat_lt v.part (get_or t v.state 0)) within refl refl in
    let later = after_all w (marked w t v) s j more (omega (arith, within, length_marked w t v)) in
    later ∙ (ap (λ b. b || list_any (used_in w s j) more) now ∙ or_assoc (nat_lt (get_or t s 0) j) (used_in w s j v) (list_any (used_in w s j) more))

-- a table that begins with the greatest number everywhere
abbrev greatest : ℕ
greatest = 18446744073709551615

none_before : (n state part : ℕ) → state < n → part ≤ greatest → nat_lt (get_or (replicate n greatest) state 0) part ≡ false
none_before n state part within most = ap (λ m. nat_lt m part) (get_or-replicate n state greatest 0 within) ∙ le-ltb greatest part most

pub tells : (w : Bool) (uses : List StateUse) (n : ℕ) → Tells w uses (all_marked w (replicate n 18446744073709551615) uses)
tells w uses n state part within most =
    let start = replicate n greatest in
    let few : state < n = omega (arith, within, length_all_marked w start uses, length-replicate n greatest) in
    let few_there : state < length start = omega (arith, few, length-replicate n greatest) in
    after_all w start state part uses few_there ∙ ap (λ b. b || list_any (used_in w state part) uses) (none_before n state part few most)

-- A write up to a part is one before the next part.
pub up_to : (u : StateUse) (uses : List StateUse) → list_any (used_in true u.state (suc u.part)) uses ≡ list_any (written_by u) uses
up_to u [] = refl
up_to u (v ∷ more) =
    ap (λ b. (v.state == u.state && (v.written && b)) || list_any (used_in true u.state (suc u.part)) more) (leb-suc-suc v.part u.part)
    ∙ ap (λ b. written_by u v || b) (up_to u more)

pub written_before_next : (u : StateUse) (uses : List StateUse) (table : List ℕ) → Tells true uses table → u.state < length table → u.part < 18446744073709551615 →
    leb (get_or table u.state 0) u.part ≡ list_any (written_by u) uses
written_before_next u uses table tells within least =
    sym (leb-suc-suc (get_or table u.state 0) u.part) ∙ (tells u.state (suc u.part) within (omega (arith, least)) ∙ up_to u uses)

-- Lines that are only spent.
use Rattle.std.proofs.Common.{◌≡◌, ℕ, zero, suc, Bool, true, false, cond, List, [], ◌∷◌, refl, ap, sym, ◌∙◌, subst, Option, Some, None}
use Rattle.std.specs.Prelude.{map, slice_get, slice_set}
use Rattle.fault_script.specs.declared.fault.Fault.{Fault}
use Rattle.fault_script.specs.declared.fault.Fault.TheVariants as faults
use Rattle.run_ledger.specs.declared.line.LedgerLine.{LedgerLine}
use Rattle.run_ledger.specs.Lines.{fault_of, flip_spent, flips_where, is_based, is_flip_below, spent_at, spent_line, with_spent}
use Rattle.run_ledger.specs.Laws.{AllSettled, Settled}
use Rattle.run_ledger.proofs.Lineages.{put, where_next}

-- the same but that it may be spent
pub record Less (x y : LedgerLine) : Type 0 where
  pub fault : y.fault ≡ x.fault
  pub based : y.based ≡ x.based
  pub live : y.live ≡ true → x.live ≡ true

abbrev pub AllLess : List LedgerLine → List LedgerLine → Type 0
AllLess [] [] = Unit {0}
AllLess [] (y ∷ ys) = ⊥
AllLess (x ∷ xs) [] = ⊥
AllLess (x ∷ xs) (y ∷ ys) = Less x y × AllLess xs ys

same_line : (x : LedgerLine) → Less x x
same_line x = record { fault = refl; based = refl; live = λ h. h }

same_lines : (xs : List LedgerLine) → AllLess xs xs
same_lines [] = tt
same_lines (x ∷ xs) = (same_line x, same_lines xs)

less_spent : (x : LedgerLine) → Less x (spent_line x)
less_spent x = record { fault = refl; based = refl; live = λ h. absurd (let q : false ≡ true = h in cc) }

spent_if : (b : Bool) (x : LedgerLine) → Less x (cond b (spent_line x) x)
spent_if true x = less_spent x
spent_if false x = same_line x

pub flips_less : (k : ℕ) (xs : List LedgerLine) → AllLess xs (map (flip_spent k) xs)
flips_less k [] = tt
flips_less k (x ∷ xs) = (spent_if (is_flip_below k x.fault) x, flips_less k xs)

set_less : (xs : List LedgerLine) (at : ℕ) (x : LedgerLine) → slice_get xs at ≡ Some x → AllLess xs (slice_set xs at (spent_line x))
set_less [] at x h = tt
set_less (y ∷ ys) zero x h =
    let same : y ≡ x = cc in
    (record { fault = ap (λ (l : LedgerLine). l.fault) (sym same); based = ap (λ (l : LedgerLine). l.based) (sym same); live = λ q. absurd (let z : false ≡ true = q in cc) }, same_lines ys)
set_less (y ∷ ys) (suc i) x h = (same_line y, set_less ys i x h)

pub spent_less : (xs : List LedgerLine) (at : ℕ) → AllLess xs (spent_at at xs)
spent_less xs at = by (slice_get xs at) refl
  where
    by : (o : Option LedgerLine) → slice_get xs at ≡ o → AllLess xs (with_spent xs at o)
    by None h = same_lines xs
    by (Some x) h = set_less xs at x h

pub less_faults : (xs ys : List LedgerLine) → AllLess xs ys → map fault_of ys ≡ map fault_of xs
less_faults [] [] h = refl
less_faults [] (y ∷ ys) h = absurd h
less_faults (x ∷ xs) [] h = absurd h
less_faults (x ∷ xs) (y ∷ ys) h = ap (λ f. f ∷ map fault_of ys) h.0.fault ∙ ap (λ fs. x.fault ∷ fs) (less_faults xs ys h.1)

pub less_based : (xs ys : List LedgerLine) → AllLess xs ys → flips_where is_based ys ≡ flips_where is_based xs
less_based [] [] h = refl
less_based [] (y ∷ ys) h = absurd h
less_based (x ∷ xs) [] h = absurd h
less_based (x ∷ xs) (y ∷ ys) h =
    where_next is_based y ys
    ∙ ap (λ b. put b y.fault (flips_where is_based ys)) h.0.based
    ∙ ap (λ f. put x.based f (flips_where is_based ys)) h.0.fault
    ∙ ap (put x.based x.fault) (less_based xs ys h.1)
    ∙ sym (where_next is_based x xs)

less_one : (base : ℕ) (f : Fault) (live based live' : Bool) → (live' ≡ true → live ≡ true) → Settled base f live based → Settled base f live' based
less_one base (faults.Crash slot at) live based live' h s = tt
less_one base (faults.Flip r e c m at) live based live' h s = (λ q. s.0 (h q), s.1)

pub less_settled : (base : ℕ) (xs ys : List LedgerLine) → AllLess xs ys → AllSettled base xs → AllSettled base ys
less_settled base [] [] h s = tt
less_settled base [] (y ∷ ys) h s = absurd h
less_settled base (x ∷ xs) [] h s = absurd h
less_settled base (x ∷ xs) (y ∷ ys) h s =
    let P : Fault → Type 0 = λ f. Settled base f y.live x.based in
    let Q : Bool → Type 0 = λ b. Settled base y.fault y.live b in
    (subst Q (sym h.0.based) (subst P (sym h.0.fault) (less_one base x.fault x.live x.based y.live h.0.live s.0)), less_settled base xs ys h.1 s.1)

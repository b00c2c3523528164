-- How many live lines kill a slot.
use Rattle.std.proofs.Common.{◌≡◌, ℕ, zero, suc, ◌+◌, ◌<◌, ◌≤◌, Bool, true, false, cond, List, [], ◌∷◌, length, get_or, refl, ap, arith, Option, Some, None}
use Rattle.std.specs.Prelude.{map, slice_get, slice_set}
use Rattle.chare_base.specs.declared.slots.SlotId.{SlotId}
use Rattle.run_ledger.specs.declared.line.LedgerLine.{LedgerLine}
use Rattle.run_ledger.specs.Lines.{accepted, adopted, crash_at, crash_count, crash_slot, flip_spent, is_below, is_flip_below, live_crashes, rebased, spent_at, spent_line, with_spent}

abbrev Fewer : LedgerLine → LedgerLine → Type 0
Fewer y x = crash_count (crash_slot y) ≤ crash_count (crash_slot x)

fewer_all : (f : LedgerLine → LedgerLine) → ((x : LedgerLine) → Fewer (f x) x) → (xs : List LedgerLine) → live_crashes (map f xs) ≤ live_crashes xs
fewer_all f each [] = omega arith
fewer_all f each (x ∷ xs) = omega (arith, each x, fewer_all f each xs)

spent_if : (b : Bool) (x : LedgerLine) → Fewer (cond b (spent_line x) x) x
spent_if true x = omega arith
spent_if false x = omega arith

pub flips_fewer : (k : ℕ) (xs : List LedgerLine) → live_crashes (map (flip_spent k) xs) ≤ live_crashes xs
flips_fewer k xs = fewer_all (flip_spent k) (λ x. spent_if (is_flip_below k x.fault) x) xs

pub accepted_fewer : (k : ℕ) (xs : List LedgerLine) → live_crashes (map (accepted k) xs) ≤ live_crashes xs
accepted_fewer k xs = fewer_all (accepted k) (λ x. spent_if (is_flip_below k x.fault) (rebased 0 k x)) xs

pub adopted_fewer : (k from : ℕ) (xs : List LedgerLine) → live_crashes (map (adopted k from) xs) ≤ live_crashes xs
adopted_fewer k from xs = fewer_all (adopted k from) (λ x. spent_if (is_below k x.fault) (rebased from k x)) xs

one_at_most : (o : Option SlotId) → crash_count o ≤ 1
one_at_most None = omega arith
one_at_most (Some slot) = omega arith

pub crashes_few : (xs : List LedgerLine) → live_crashes xs ≤ length xs
crashes_few [] = omega arith
crashes_few (x ∷ xs) = omega (arith, one_at_most (crash_slot x), crashes_few xs)

-- ---- one line is spent

spent_length : (xs : List LedgerLine) (at : ℕ) (o : Option LedgerLine) → length (with_spent xs at o) ≡ length xs
spent_length xs at None = refl
spent_length xs at (Some x) = set_length xs at (spent_line x)
  where
    set_length : (xs : List LedgerLine) (at : ℕ) (y : LedgerLine) → length (slice_set xs at y) ≡ length xs
    set_length [] at y = refl
    set_length (x ∷ xs) zero y = refl
    set_length (x ∷ xs) (suc i) y = ap suc (set_length xs i y)

pub spent_at_length : (xs : List LedgerLine) (at : ℕ) → length (spent_at at xs) ≡ length xs
spent_at_length xs at = spent_length xs at (slice_get xs at)

-- a crash line that is spent at its place
pub spent_here : (xs : List LedgerLine) (at : ℕ) (x : LedgerLine) (slot : SlotId) → at < length xs → x ≡ get_or xs at x → crash_at xs at ≡ Some slot →
    live_crashes (slice_set xs at (spent_line x)) + 1 ≡ live_crashes xs
spent_here [] at x slot h same is = absurd cc
spent_here (y ∷ ys) zero x slot h same is =
    let one : crash_count (crash_slot y) ≡ 1 = ap crash_count is in
    omega (arith, one)
spent_here (y ∷ ys) (suc i) x slot h same is = omega (arith, spent_here ys i x slot (omega (arith, h)) same is)

-- no line beyond the last
pub none_beyond : (xs : List LedgerLine) (at : ℕ) → length xs ≤ at → crash_at xs at ≡ None
none_beyond [] at h = refl
none_beyond (y ∷ ys) zero h = absurd (omega (arith, h))
none_beyond (y ∷ ys) (suc i) h = none_beyond ys i (omega (arith, h))

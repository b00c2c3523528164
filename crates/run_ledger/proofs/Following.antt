-- How lineages change with the records.
use Rattle.std.proofs.Common.{◌≡◌, ℕ, zero, suc, ◌≤◌, Bool, true, false, List, [], ◌∷◌, refl, ap, sym, ◌∙◌, arith, Option, Some, None}
use Rattle.std.specs.Prelude.{map, nat_le, slice_get, slice_set}
use Rattle.chare_base.specs.declared.slots.SlotId.{SlotId}
use Rattle.chare_base.specs.Flip.{Flip}
use Rattle.chare_eval.specs.Laws.{flips_before}
use Rattle.fault_script.specs.declared.fault.Fault.{Fault}
use Rattle.fault_script.specs.declared.fault.Fault.TheVariants as faults
use Rattle.fault_script.specs.Lines.{flips_among}
use Rattle.run_ledger.specs.declared.line.LedgerLine.{LedgerLine}
use Rattle.run_ledger.specs.declared.record.Record.{Record}
use Rattle.run_ledger.specs.declared.record.Record.TheVariants.{Accept, Differ, Crash, Mend, Adopt, Both, NoSpare, Lost, Done}
use Rattle.run_ledger.specs.Lines.{accepted, adopted, crash_at, crash_slot, fault_of, flip_spent, flips_where, fresh_line, shapes, slot_if, slot_in, spent_line, with_spent}
use Rattle.run_ledger.specs.Ledgers.{LedgerState, after, lineage, with_crash}
use Rattle.run_ledger.specs.Conditions.{unlawful}
use Rattle.run_ledger.specs.Laws.{AcceptsMakeTheBase, AcceptsRebase, AdoptsRebase, AllSettled, CrashesKeepLineages, DiffersKeepTheBase, FaultsStay, LineagesAreSets, LineagesShareTheBase, Rebases, Settled, StaysTidy, Tidy}
use Rattle.run_ledger.proofs.Lineages.{BaseMoves, accepted_moves, adopted_moves, at_twice, base_part, before_is, below, flips_at, from_is, line_of, put, sets_select, where_next}
use Rattle.run_ledger.proofs.Spending.{flips_less, less_based, less_faults, less_settled, spent_less}

-- ---- sets, and the base

pub lineages_are_sets : LineagesAreSets
lineages_are_sets replica l = ap flips_among (sets_select l.lines (shapes replica))

pub share_the_base : LineagesShareTheBase
share_the_base l one other tidy = base_part l.base one l.lines tidy ∙ sym (base_part l.base other l.lines tidy)

pub differs_keep : DiffersKeepTheBase
differs_keep l k replica element tidy =
    base_part l.base replica (map (flip_spent k) l.lines) (less_settled l.base l.lines (map (flip_spent k) l.lines) (flips_less k l.lines) tidy)
    ∙ ap (flips_at (below l.base)) (less_based l.lines (map (flip_spent k) l.lines) (flips_less k l.lines))
    ∙ sym (base_part l.base replica l.lines tidy)

-- ---- a new base

moved_rebases : (f : LedgerLine → LedgerLine) (l new : LedgerState) (k from : ℕ) → new.lines ≡ map f l.lines → BaseMoves f k from → Tidy l → l.base ≤ k → Rebases l new k from
moved_rebases f l new k from is moves tidy h = record {
  later = λ replica.
      from_is k (lineage replica new) ∙ ap (λ xs. flips_at (nat_le k) (flips_where (shapes replica) xs)) is ∙ moves.later l.base replica l.lines h tidy ∙ sym (from_is k (lineage replica l));
  earlier = λ replica.
      ap (λ xs. flips_before k (flips_where (shapes replica) xs)) is
      ∙ base_part k replica (map f l.lines) (moves.settled l.lines)
      ∙ ap (flips_at (below k)) (moves.base l.lines)
      ∙ at_twice (below k) (flips_where (shapes from) l.lines)
      ∙ sym (before_is k (lineage from l));
}

pub accepts_rebase : AcceptsRebase
accepts_rebase l k tidy h = moved_rebases (accepted k) l (after l (Accept k)) k 0 refl (accepted_moves k) tidy h

pub accepts_make_the_base : AcceptsMakeTheBase
accepts_make_the_base l k = (accepted_moves k).base l.lines ∙ sym (before_is k (lineage 0 l))

pub adopts_rebase : AdoptsRebase
adopts_rebase l k from tidy h = moved_rebases (adopted k from) l (after l (Adopt k from)) k from refl (adopted_moves k from) tidy h

-- ---- the lines

fresh_faults : (script : List Fault) → map fault_of (map fresh_line script) ≡ script
fresh_faults [] = refl
fresh_faults (f ∷ more) = ap (λ fs. f ∷ fs) (fresh_faults more)

fresh_settled : (script : List Fault) → AllSettled 0 (map fresh_line script)
fresh_settled [] = tt
fresh_settled (f ∷ more) = (one f, fresh_settled more)
  where
    one : (f : Fault) → Settled 0 f true false
    one (faults.Flip r e c m at) = (λ h. omega arith, λ h. absurd (let q : false ≡ true = h in cc))
    one (faults.Crash slot at) = tt

pub stays_tidy : StaysTidy
stays_tidy = record {
  opening = λ script o n. fresh_settled script;
  after = step;
}
  where
    crash : (l : LedgerState) (line : ℕ) (o : Option SlotId) → Tidy l → Tidy (with_crash line o l)
    crash l line None tidy = tidy
    crash l line (Some slot) tidy = less_settled l.base l.lines (with_crash line (Some slot) l).lines (spent_less l.lines line) tidy

    step : (l : LedgerState) (r : Record) → unlawful l r ≡ None → Tidy l → Tidy (after l r)
    step l (Accept k) ok tidy = (accepted_moves k).settled l.lines
    step l (Differ k element) ok tidy = less_settled l.base l.lines (map (flip_spent k) l.lines) (flips_less k l.lines) tidy
    step l (Crash line) ok tidy = crash l line (crash_at l.lines line) tidy
    step l (Mend replica) ok tidy = tidy
    step l (Adopt k from) ok tidy = (adopted_moves k from).settled l.lines
    step l Both ok tidy = tidy
    step l NoSpare ok tidy = tidy
    step l (Lost node) ok tidy = tidy
    step l Done ok tidy = tidy

pub faults_stay : FaultsStay
faults_stay = record {
  opening = λ script o n. fresh_faults script;
  after = step;
}
  where
    crash : (l : LedgerState) (line : ℕ) (o : Option SlotId) → map fault_of (with_crash line o l).lines ≡ map fault_of l.lines
    crash l line None = refl
    crash l line (Some slot) = less_faults l.lines (with_crash line (Some slot) l).lines (spent_less l.lines line)

    step : (l : LedgerState) (r : Record) → map fault_of (after l r).lines ≡ map fault_of l.lines
    step l (Accept k) = (accepted_moves k).faults l.lines
    step l (Differ k element) = less_faults l.lines (map (flip_spent k) l.lines) (flips_less k l.lines)
    step l (Crash line) = crash l line (crash_at l.lines line)
    step l (Mend replica) = refl
    step l (Adopt k from) = (adopted_moves k from).faults l.lines
    step l Both = refl
    step l NoSpare = refl
    step l (Lost node) = refl
    step l Done = refl

-- ---- crashes

-- a crash line that is spent was no flip
crash_put : (replica : ℕ) (f : Fault) (live based : Bool) (slot : SlotId) (xs : List Flip) → slot_if live f ≡ Some slot →
    put (shapes replica (line_of f false based)) f xs ≡ put (shapes replica (line_of f live based)) f xs
crash_put replica (faults.Flip r e c m at) true based slot xs is = absurd cc
crash_put replica (faults.Flip r e c m at) false based slot xs is = absurd cc
crash_put replica (faults.Crash s at) true true slot xs is = refl
crash_put replica (faults.Crash s at) true false slot xs is = refl
crash_put replica (faults.Crash s at) false based slot xs is = refl

spent_where : (replica : ℕ) (xs : List LedgerLine) (at : ℕ) (line : LedgerLine) (slot : SlotId) → slice_get xs at ≡ Some line → crash_slot line ≡ Some slot →
    flips_where (shapes replica) (slice_set xs at (spent_line line)) ≡ flips_where (shapes replica) xs
spent_where replica [] at line slot there is = refl
spent_where replica (x ∷ xs) zero line slot there is =
    let same : x ≡ line = cc in
    where_next (shapes replica) (spent_line line) xs
    ∙ crash_put replica line.fault line.live line.based slot (flips_where (shapes replica) xs) is
    ∙ sym (where_next (shapes replica) line xs)
    ∙ ap (λ y. flips_where (shapes replica) (y ∷ xs)) (sym same)
spent_where replica (x ∷ xs) (suc i) line slot there is =
    where_next (shapes replica) x (slice_set xs i (spent_line line)) ∙ ap (put (shapes replica x) x.fault) (spent_where replica xs i line slot there is) ∙ sym (where_next (shapes replica) x xs)

pub crashes_keep : CrashesKeepLineages
crashes_keep l line replica = by (slice_get l.lines line) refl
  where
    slots : (o : Option SlotId) (x : LedgerLine) → slice_get l.lines line ≡ Some x → crash_slot x ≡ o → lineage replica (with_crash line o l) ≡ lineage replica l
    slots None x there is = refl
    slots (Some slot) x there is = ap (λ o. flips_where (shapes replica) (with_spent l.lines line o)) there ∙ spent_where replica l.lines line x slot there is

    by : (o : Option LedgerLine) → slice_get l.lines line ≡ o → lineage replica (with_crash line (slot_in o) l) ≡ lineage replica l
    by None there = refl
    by (Some x) there = slots (crash_slot x) x there refl

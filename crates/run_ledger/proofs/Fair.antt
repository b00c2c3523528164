-- Records where no fault is to come.
use Rattle.std.proofs.Common.{◌≡◌, ℕ, ◌+◌, ◌≤◌, Bool, true, false, List, [], ◌∷◌, refl, ap, arith, None, Option, Some}
use Rattle.std.specs.Prelude.{◌==◌, ◌&&◌, min, nat_le, nat_lt, map}
use Rattle.std.proofs.lemmas.Bool.Decides.{nat_tests}
use Rattle.chare_base.specs.declared.slots.SlotId.{SlotId}
use Rattle.chare_base.proofs.Facts.{iterations_some}
use Rattle.run_ledger.specs.declared.record.Record.{Record}
use Rattle.run_ledger.specs.declared.record.Record.TheVariants.{Accept, Differ, Crash, Mend, Adopt, Both, NoSpare, Lost, Done}
use Rattle.run_ledger.specs.Lines.{accepted, adopted, crash_at, flip_spent, flips_where, shapes, spent_at}
use Rattle.run_ledger.specs.Ledgers.{LedgerState, after, after_all, lineage, opening_ledger, with_crash}
use Rattle.run_ledger.specs.Conditions.{first_false}
use Rattle.run_ledger.specs.Laws.{AcceptThenDoneIsLawful, LineagesStayEmpty}

-- a ledger over an empty script
abbrev pub Quiet : LedgerState → Type 0
Quiet l = l.lines ≡ []

quiet_crash : (l : LedgerState) (line : ℕ) (o : Option SlotId) → Quiet l → Quiet (with_crash line o l)
quiet_crash l line None q = q
quiet_crash l line (Some slot) q = ap (spent_at line) q

pub quiet_after : (l : LedgerState) (r : Record) → Quiet l → Quiet (after l r)
quiet_after l (Accept k) q = ap (map (accepted k)) q
quiet_after l (Differ k element) q = ap (map (flip_spent k)) q
quiet_after l (Crash line) q = quiet_crash l line (crash_at l.lines line) q
quiet_after l (Mend replica) q = q
quiet_after l (Adopt k from) q = ap (map (adopted k from)) q
quiet_after l Both q = q
quiet_after l NoSpare q = q
quiet_after l (Lost node) q = q
quiet_after l Done q = q

pub quiet_lineage : (l : LedgerState) (replica : ℕ) → Quiet l → lineage replica l ≡ []
quiet_lineage l replica q = ap (flips_where (shapes replica)) q

quiet_all : (l : LedgerState) (records : List Record) → Quiet l → Quiet (after_all l records)
quiet_all l [] q = q
quiet_all l (r ∷ more) q = quiet_all (after l r) more (quiet_after l r q)

pub lineages_stay_empty : LineagesStayEmpty
lineages_stay_empty o n records replica = quiet_lineage (after_all (opening_ledger [] o n) records) replica (quiet_all (opening_ledger [] o n) records refl)

-- ---- one checkpoint at the end

due_at_end : (every n : ℕ) → nat_le (min (0 + every) n) n ≡ true
due_at_end every n = grind (arith, nat_tests)

after_start : (n : ℕ) → 1 ≤ n → nat_lt 0 n ≡ true
after_start n h = grind (arith, nat_tests)

at_end : (n : ℕ) → nat_le n n ≡ true
at_end n = grind (arith, nat_tests)

is_itself : (n : ℕ) → (n == n) ≡ true
is_itself n = grind (arith, nat_tests)

accepts : (a b c : Bool) → a ≡ true → b ≡ true → c ≡ true → first_false 1 (true ∷ true ∷ ((a && b) && c) ∷ true ∷ []) ≡ None
accepts true true true p q r = refl
accepts true true false p q r = absurd cc
accepts true false c p q r = absurd cc
accepts false b c p q r = absurd cc

ends : (a : Bool) → a ≡ true → first_false 1 (true ∷ a ∷ true ∷ []) ≡ None
ends true p = refl
ends false p = absurd cc

pub accept_then_done : AcceptThenDoneIsLawful
accept_then_done p o = record {
  steps = (
    record {
      lawful = accepts (nat_le (min (0 + o.every) p.iterations) p.iterations) (nat_lt 0 p.iterations) (nat_le p.iterations p.iterations) (due_at_end o.every p.iterations)
          (after_start p.iterations (iterations_some p)) (at_end p.iterations);
      tells = refl;
    },
    record { 0 = record { lawful = ends (p.iterations == p.iterations) (is_itself p.iterations); tells = tt }; 1 = tt },
  );
  last = Done;
  ends = record { before = Accept p.iterations ∷ []; all = refl };
  over = tt;
}

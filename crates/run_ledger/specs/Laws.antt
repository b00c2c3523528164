-- Laws of the ledger.
use Rattle.std.specs.Prelude.{◌≡◌, ℕ, ◌<◌, ◌≤◌, Bool, true, List, [], ◌∷◌, map, None}
use Rattle.std.specs.List.{AllByRecursion}
use Rattle.chare_base.specs.declared.options.Options.{Options}
use Rattle.chare_base.specs.declared.plan.ElementId.{ElementId}
use Rattle.chare_base.specs.declared.plan.Plan.{Plan}
use Rattle.chare_eval.specs.Laws.{flips_before}
use Rattle.fault_script.specs.declared.fault.Fault.{Fault}
use Rattle.fault_script.specs.declared.fault.Fault.TheVariants as faults
use Rattle.fault_script.specs.Lines.{flips_in}
use Rattle.run_ledger.specs.declared.line.LedgerLine.{LedgerLine}
use Rattle.run_ledger.specs.declared.record.Record.{Record}
use Rattle.run_ledger.specs.declared.record.Record.TheVariants.{Accept, Differ, Crash, Adopt, Done}
use Rattle.chare_eval.specs.Later.{flips_from}
use Rattle.run_ledger.specs.Lines.{fault_of}
use Rattle.run_ledger.specs.Ledgers.{LedgerState, after, after_all, base_flips, lineage, lineage_set, opening_ledger}
use Rattle.run_ledger.specs.Conditions.{unlawful}
use Rattle.run_ledger.specs.Lawful.{Lawful}

-- ---- without faults

-- With no fault to come, one checkpoint at the end and then the end are lawful, whatever the options.
abbrev pub AcceptThenDoneIsLawful : Type 0
AcceptThenDoneIsLawful = (p : Plan) (o : Options) → Lawful p [] o (Accept p.iterations ∷ Done ∷ [])

-- with no fault to come, no flip strikes a replica after any records
abbrev pub LineagesStayEmpty : Type 0
LineagesStayEmpty = (o : Options) (n : ℕ) (records : List Record) (replica : ℕ) → lineage replica (after_all (opening_ledger [] o n) records) ≡ []

-- ---- ledgers that records make

-- Flips that are live strike at the base or later, those that shaped it strike before it.
abbrev pub Settled : ℕ → Fault → Bool → Bool → Type 0
Settled base (faults.Flip r e c m at) live based = (live ≡ true → base ≤ at) × (based ≡ true → at < base)
Settled base (faults.Crash slot at) live based = Unit {0}

abbrev pub AllSettled : ℕ → List LedgerLine → Type 0
AllSettled base lines = AllByRecursion (λ (line : LedgerLine). Settled base line.fault line.live line.based) lines

abbrev pub Tidy : LedgerState → Type 0
Tidy l = AllSettled l.base l.lines

-- at the start and after each lawful record
pub record StaysTidy : Type 0 where
  pub opening : (script : List Fault) (o : Options) (n : ℕ) → Tidy (opening_ledger script o n)
  pub after : (l : LedgerState) (r : Record) → unlawful l r ≡ None → Tidy l → Tidy (after l r)

-- the lines stay those of the script
pub record FaultsStay : Type 0 where
  pub opening : (script : List Fault) (o : Options) (n : ℕ) → map fault_of (opening_ledger script o n).lines ≡ script
  pub after : (l : LedgerState) (r : Record) → map fault_of (after l r).lines ≡ map fault_of l.lines

-- ---- lineages

-- the set of a lineage selects its flips
abbrev pub LineagesAreSets : Type 0
LineagesAreSets = (replica : ℕ) (l : LedgerState) → flips_in (map fault_of l.lines) (lineage_set replica l) ≡ lineage replica l

-- The flips below the base are the same in all lineages: a replica's copy of the base is the other's too.
abbrev pub LineagesShareTheBase : Type 0
LineagesShareTheBase = (l : LedgerState) (one other : ℕ) → Tidy l → flips_before l.base (lineage one l) ≡ flips_before l.base (lineage other l)

-- a difference leaves the flips below the base
abbrev pub DiffersKeepTheBase : Type 0
DiffersKeepTheBase = (l : LedgerState) (k replica : ℕ) (element : ElementId) → Tidy l →
    flips_before l.base (lineage replica (after l (Differ k element))) ≡ flips_before l.base (lineage replica l)

-- A new base leaves each replica's flips from there on; below it they are those of the replica whose checkpoint it is.
pub record Rebases (l new : LedgerState) (k from : ℕ) : Type 0 where
  pub later : (replica : ℕ) → flips_from k (lineage replica new) ≡ flips_from k (lineage replica l)
  pub earlier : (replica : ℕ) → flips_before k (lineage replica new) ≡ flips_before k (lineage from l)

abbrev pub AcceptsRebase : Type 0
AcceptsRebase = (l : LedgerState) (k : ℕ) → Tidy l → l.base ≤ k → Rebases l (after l (Accept k)) k 0

-- and the base then has the flips below it that shaped that replica
abbrev pub AcceptsMakeTheBase : Type 0
AcceptsMakeTheBase = (l : LedgerState) (k : ℕ) → base_flips (after l (Accept k)) ≡ flips_before k (lineage 0 l)

abbrev pub AdoptsRebase : Type 0
AdoptsRebase = (l : LedgerState) (k from : ℕ) → Tidy l → l.base ≤ k → Rebases l (after l (Adopt k from)) k from

-- a crash changes no lineage
abbrev pub CrashesKeepLineages : Type 0
CrashesKeepLineages = (l : LedgerState) (line replica : ℕ) → lineage replica (after l (Crash line)) ≡ lineage replica l

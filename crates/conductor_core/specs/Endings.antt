-- What the ending of a run has.
use Rattle.std.specs.Prelude.{◌≡◌, ℕ, List, [], ◌∷◌, ◌++◌}
use Rattle.chare_base.specs.declared.cells.Cells.{Cells}
use Rattle.chare_base.specs.declared.options.Options.{Options}
use Rattle.chare_base.specs.declared.plan.Plan.{Plan}
use Rattle.chare_eval.specs.Fold.{fold}
use Rattle.pup_state.specs.Spelling.{pack}
use Rattle.fault_script.specs.declared.fault.Fault.{Fault}
use Rattle.run_ledger.specs.declared.record.Record.{Record}
use Rattle.run_ledger.specs.declared.record.Record.TheVariants.{Accept, Differ, Crash, Mend, Adopt, Both, NoSpare, Lost, Done}
use Rattle.run_ledger.specs.Ledgers.{LedgerState, after, base_flips, opening_ledger}
use Rattle.run_ledger.specs.Lawful.{Lawful, checkpoint}
use Rattle.checkpoint_store.specs.declared.mark.Mark.{Mark}
use Rattle.checkpoint_store.specs.Marks.{mark_of}
use Rattle.conductor_core.specs.declared.ending.Ending.{Ending}
use Rattle.conductor_core.specs.declared.ending.Outcome.{Outcome}
use Rattle.conductor_core.specs.declared.ending.Outcome.TheVariants as outcomes

-- the mark of the checkpoint that a record makes the base, in the ledger before it
abbrev pub marks_by : Plan → LedgerState → Record → List Mark
marks_by p l (Accept k) = mark_of k (checkpoint p l 0 k) ∷ []
marks_by p l (Differ k element) = []
marks_by p l (Crash line) = []
marks_by p l (Mend replica) = []
marks_by p l (Adopt k from) = mark_of k (checkpoint p l from k) ∷ []
marks_by p l Both = []
marks_by p l NoSpare = []
marks_by p l (Lost node) = []
marks_by p l Done = []

abbrev pub marks_from : Plan → LedgerState → List Record → List Mark
marks_from p l [] = []
marks_from p l (r ∷ more) = marks_by p l r ++ marks_from p (after l r) more

-- the states at the last iteration, of a ledger whose base has done it
abbrev pub last_states : Plan → LedgerState → List Cells
last_states p l = fold p (base_flips l) p.iterations

-- what the last bytes are where a record is made: with Done, the checkpoint of the last states
abbrev pub IsLastAt : Plan → LedgerState → Record → List ℕ → Type 0
IsLastAt p l (Accept k) last = Unit {0}
IsLastAt p l (Differ k element) last = Unit {0}
IsLastAt p l (Crash line) last = Unit {0}
IsLastAt p l (Mend replica) last = Unit {0}
IsLastAt p l (Adopt k from) last = Unit {0}
IsLastAt p l Both last = Unit {0}
IsLastAt p l NoSpare last = last ≡ []
IsLastAt p l (Lost node) last = last ≡ []
IsLastAt p l Done last = last ≡ pack p p.iterations (last_states p l)

abbrev pub IsLast : Plan → LedgerState → List Record → List ℕ → Type 0
IsLast p l [] last = Unit {0}
IsLast p l (r ∷ more) last = IsLastAt p l r last × IsLast p (after l r) more last

-- the outcome that a last record tells
abbrev pub TellsOutcome : Record → Outcome → Type 0
TellsOutcome (Accept k) outcome = ⊥
TellsOutcome (Differ k element) outcome = ⊥
TellsOutcome (Crash line) outcome = ⊥
TellsOutcome (Mend replica) outcome = ⊥
TellsOutcome (Adopt k from) outcome = ⊥
TellsOutcome Both outcome = ⊥
TellsOutcome NoSpare outcome = outcome ≡ outcomes.NoSpare
TellsOutcome (Lost node) outcome = outcome ≡ outcomes.Lost node
TellsOutcome Done outcome = outcome ≡ outcomes.Done

-- the ending of a lawful run
pub record IsEnding (p : Plan) (script : List Fault) (o : Options) (ending : Ending) : Type 0 where
  pub lawful : Lawful p script o ending.records.items
  pub outcome : TellsOutcome lawful.last ending.outcome
  pub marks : ending.marks ≡ marks_from p (opening_ledger script o p.iterations) ending.records.items
  pub last : IsLast p (opening_ledger script o p.iterations) ending.records.items ending.last

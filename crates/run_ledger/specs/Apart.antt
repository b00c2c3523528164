-- What a run accepts where no flips make wrong states that look alike.
use Rattle.std.specs.Prelude.{◌≡◌, ℕ, ◌<◌, ◌≤◌, ◌&&◌, Bool, false, List, [], ◌∷◌}
use Rattle.std.specs.List.{filter, list_any}
use Rattle.chare_base.specs.declared.options.Mode.TheVariants.{Strong}
use Rattle.chare_base.specs.declared.options.Options.{Options}
use Rattle.chare_base.specs.declared.plan.Plan.{Plan}
use Rattle.chare_base.specs.Flip.{Flip}
use Rattle.chare_eval.specs.Fold.{fold, plain}
use Rattle.pup_state.specs.Spelling.{pack}
use Rattle.fault_script.specs.declared.fault.Fault.{Fault}
use Rattle.fault_script.specs.Lines.{flips_among, selection}
use Rattle.run_ledger.specs.declared.line.LedgerLine.{LedgerLine}
use Rattle.run_ledger.specs.declared.record.Record.{Record}
use Rattle.run_ledger.specs.declared.record.Record.TheVariants.{Accept, Differ, Crash, Mend, Adopt, Both, NoSpare, Lost, Done}
use Rattle.run_ledger.specs.Lines.{is_flip_below, is_flip_of}
use Rattle.run_ledger.specs.Ledgers.{LedgerState, after, base_flips, opening_ledger}
use Rattle.run_ledger.specs.Lawful.{Steps, checkpoint}

-- the flips of one replica in a set of lines
abbrev pub flips_on : ℕ → List Fault → ℕ → List Flip
flips_on replica script set = flips_among (filter (is_flip_of replica) (selection script set))

-- No flips of the two replicas make equal checkpoints that are wrong.
abbrev pub Apart : Plan → List Fault → Type 0
Apart p script = (a b k : ℕ) → k ≤ p.iterations →
    pack p k (fold p (flips_on 0 script a) k) ≡ pack p k (fold p (flips_on 1 script b) k) →
    pack p k (fold p (flips_on 0 script a) k) ≡ pack p k (plain p k)

-- Where one of the two replicas has no flip, the checkpoint of that replica is right.
abbrev pub OneReplicaIsApart : Type 0
OneReplicaIsApart = (p : Plan) (script : List Fault) (clean : ℕ) → clean < 2 → list_any (is_flip_of clean) script ≡ false → Apart p script

-- a live flip of a replica below an iteration
abbrev pub is_live_below : ℕ → ℕ → LedgerLine → Bool
is_live_below replica k line = line.live && (is_flip_of replica line.fault && is_flip_below k line.fault)

-- where a checkpoint of one replica is adopted, no flip struck the replica since the base
abbrev pub AdoptsUnstruck : LedgerState → Record → Type 0
AdoptsUnstruck l (Accept k) = Unit {0}
AdoptsUnstruck l (Differ k element) = Unit {0}
AdoptsUnstruck l (Crash line) = Unit {0}
AdoptsUnstruck l (Mend replica) = Unit {0}
AdoptsUnstruck l (Adopt k from) = list_any (is_live_below from k) l.lines ≡ false
AdoptsUnstruck l Both = Unit {0}
AdoptsUnstruck l NoSpare = Unit {0}
AdoptsUnstruck l (Lost node) = Unit {0}
AdoptsUnstruck l Done = Unit {0}

abbrev pub AllUnstruck : LedgerState → List Record → Type 0
AllUnstruck l [] = Unit {0}
AllUnstruck l (r ∷ more) = AdoptsUnstruck l r × AllUnstruck (after l r) more

-- What a record says of the fault-free run: a new base is its checkpoint, and the base at the end is its state.
abbrev pub Right : Plan → LedgerState → Record → Type 0
Right p l (Accept k) = checkpoint p l 0 k ≡ pack p k (plain p k)
Right p l (Differ k element) = Unit {0}
Right p l (Crash line) = Unit {0}
Right p l (Mend replica) = Unit {0}
Right p l (Adopt k from) = checkpoint p l from k ≡ pack p k (plain p k)
Right p l Both = Unit {0}
Right p l NoSpare = Unit {0}
Right p l (Lost node) = Unit {0}
Right p l Done = fold p (base_flips l) p.iterations ≡ plain p p.iterations

abbrev pub AllRight : Plan → LedgerState → List Record → Type 0
AllRight p l [] = Unit {0}
AllRight p l (r ∷ more) = Right p l r × AllRight p (after l r) more

-- Where no flips make equal checkpoints that are wrong, every checkpoint that a run accepts is that of the fault-free
-- run, and so is the state at its end. A run that adopts is to adopt from unstruck replicas alone.
abbrev pub RecordsAreRight : Type 0
RecordsAreRight = (p : Plan) (script : List Fault) (o : Options) (records : List Record) → Apart p script →
    AllUnstruck (opening_ledger script o p.iterations) records → Steps p script o records → AllRight p (opening_ledger script o p.iterations) records

-- in strong mode nothing is adopted
abbrev pub StrongRecordsAreRight : Type 0
StrongRecordsAreRight = (p : Plan) (script : List Fault) (o : Options) (records : List Record) → o.mode ≡ Strong → Apart p script →
    Steps p script o records → AllRight p (opening_ledger script o p.iterations) records

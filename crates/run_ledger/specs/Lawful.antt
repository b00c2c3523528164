-- Which records are lawful.
use Rattle.std.specs.Prelude.{◌≡◌, ◌≢◌, ℕ, ◌<◌, ◌≤◌, ◌+◌, List, [], ◌∷◌, ◌++◌, None}
use Rattle.chare_base.specs.declared.options.Options.{Options}
use Rattle.chare_base.specs.declared.plan.Plan.{Plan}
use Rattle.chare_base.specs.Elements.{elements}
use Rattle.chare_eval.specs.Fold.{fold}
use Rattle.chare_eval.specs.Inside.{cells_between}
use Rattle.pup_state.specs.Spelling.{pack, record_spelling}
use Rattle.fault_script.specs.declared.fault.Fault.{Fault}
use Rattle.run_ledger.specs.declared.record.Record.{Record}
use Rattle.run_ledger.specs.declared.record.Record.TheVariants.{Accept, Differ, Crash, Mend, Adopt, Both, NoSpare, Lost, Done}
use Rattle.run_ledger.specs.Ledgers.{LedgerState, Journal, after, lineage, opening_ledger}
use Rattle.run_ledger.specs.Conditions.{unlawful}

-- the checkpoint of a replica after k iterations, and the record of an element in it
abbrev pub checkpoint : Plan → LedgerState → ℕ → ℕ → List ℕ
checkpoint p l replica k = pack p k (fold p (lineage replica l) k)

abbrev pub record_in : Plan → LedgerState → ℕ → ℕ → ℕ → List ℕ
record_in p l replica k e = record_spelling p e k (cells_between p (lineage replica l) k e)

-- The checkpoints of both replicas differ, and this is the least element whose records do.
pub record DiffersAt (p : Plan) (l : LedgerState) (k e : ℕ) : Type 0 where
  pub there : e < elements p
  pub differs : record_in p l 0 k e ≢ record_in p l 1 k e
  pub before : (i : ℕ) → i < e → record_in p l 0 k i ≡ record_in p l 1 k i

-- what a record says of the replicas' states
abbrev pub Tells : Plan → LedgerState → Record → Type 0
Tells p l (Accept k) = checkpoint p l 0 k ≡ checkpoint p l 1 k
Tells p l (Differ k element) = DiffersAt p l k element.0
Tells p l (Crash line) = Unit {0}
Tells p l (Mend replica) = Unit {0}
Tells p l (Adopt k from) = Unit {0}
Tells p l Both = Unit {0}
Tells p l NoSpare = Unit {0}
Tells p l (Lost node) = Unit {0}
Tells p l Done = Unit {0}

-- a record may be made: the ledger allows it, and what it says is true
pub record Allows (p : Plan) (l : LedgerState) (r : Record) : Type 0 where
  pub lawful : unlawful l r ≡ None
  pub tells : Tells p l r

-- records one after another, each allowed by the ledger that the earlier ones left
abbrev pub StepsFrom : Plan → LedgerState → List Record → Type 0
StepsFrom p l [] = Unit {0}
StepsFrom p l (r ∷ more) = Allows p l r × StepsFrom p (after l r) more

-- from the start
abbrev pub Steps : Plan → List Fault → Options → List Record → Type 0
Steps p script o records = StepsFrom p (opening_ledger script o p.iterations) records

-- a record with which a run is over
abbrev pub IsEnd : Record → Type 0
IsEnd (Accept k) = ⊥
IsEnd (Differ k element) = ⊥
IsEnd (Crash line) = ⊥
IsEnd (Mend replica) = ⊥
IsEnd (Adopt k from) = ⊥
IsEnd Both = ⊥
IsEnd NoSpare = Unit {0}
IsEnd (Lost node) = Unit {0}
IsEnd Done = Unit {0}

-- the last of some records
pub record EndsWith (records : List Record) (last : Record) : Type 0 where
  pub before : List Record
  pub all : records ≡ before ++ last ∷ []

-- the records of a whole run
pub record Lawful (p : Plan) (script : List Fault) (o : Options) (records : List Record) : Type 0 where
  pub steps : Steps p script o records
  pub last : Record
  pub ends : EndsWith records last
  pub over : IsEnd last

-- ---- one call

-- a ledger moves on by a record
pub record Moves (old new : Journal) (r : Record) : Type 0 where
  pub lawful : unlawful old.ledger r ≡ None
  pub ledger : new.ledger ≡ after old.ledger r
  pub records : new.records ≡ old.records ++ r ∷ []
  -- the record took the room of one
  pub spare : old.spare ≤ new.spare + 1

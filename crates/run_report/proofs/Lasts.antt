-- The last bytes of a run that is done can be read back.
use Rattle.std.proofs.Common.{ℕ, List, arith}
use Rattle.chare_base.specs.declared.plan.Plan.{Plan}
use Rattle.conductor_core.specs.Endings.{IsLastAt, last_states}
use Rattle.pup_state.specs.Laws.{State}
use Rattle.pup_state.specs.Packs.{IsPack}
use Rattle.run_ledger.specs.declared.record.Record.TheVariants.{Done}
use Rattle.run_ledger.specs.Checkpoints.{FoldsAreLawful}
use Rattle.run_ledger.specs.Ledgers.{LedgerState, base_flips}

pub last_is : FoldsAreLawful → (p : Plan) (l : LedgerState) (last : List ℕ) → IsLastAt p l Done last → IsPack p last p.iterations (last_states p l)
last_is lawful p l last is = record { spelled = is; lawful = lawful p (base_flips l) p.iterations (omega arith) }

pub last_state : FoldsAreLawful → (p : Plan) (l : LedgerState) (last : List ℕ) → IsLastAt p l Done last → State p last
last_state lawful p l last is = record { done = p.iterations; all = last_states p l; is = last_is lawful p l last is }

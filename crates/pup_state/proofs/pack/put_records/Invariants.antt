use Rattle.std.proofs.Common.{◌≡◌, ◌++◌, drop}
use Rattle.pup_state.specs.Spelling.{records_from}
use Rattle.pup_state.proofs.pack.put_records.Given as goal

-- the records of the elements that are left go behind those that were put
abbrev pub invariant-loop-e : goal.invariant-loop-e
invariant-loop-e l = l.out ++ records_from l.plan l.done l.e (drop l.e l.all) ≡ l.fn.out ++ records_from l.plan l.done 0 l.all

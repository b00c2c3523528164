use Rattle.pup_state.proofs.Consequences.{always_one, never_both, never_memory, no_records_memory, one_cause}
use Rattle.pup_state.proofs.laws.one_outcome.Goals as goal

pub returns : goal.returns
returns c = record { always = always_one; never = never_both; once = one_cause; memory = never_memory; record_memory = no_records_memory }

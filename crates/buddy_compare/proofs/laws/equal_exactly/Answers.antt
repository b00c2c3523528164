use Rattle.buddy_compare.proofs.Walking.{equal_exactly}
use Rattle.buddy_compare.proofs.laws.equal_exactly.Goals as goal

pub returns : goal.returns
returns c = equal_exactly

use Rattle.buddy_compare.proofs.Verdicts.{all_equal, least_of_all}
use Rattle.buddy_compare.proofs.laws.verdicts_tell.Goals as goal

pub returns : goal.returns
returns c = record { differ = least_of_all; equal = all_equal }

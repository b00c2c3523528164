-- The plan of a job's tree, which is total: it means something also where the tree breaks a rule.
use Rattle.std.specs.Prelude.{ℕ, List, map}
use Rattle.chare_base.specs.Elements.{Fields}
use Rattle.job_tree.specs.declared.tree.Job.{Job}
use Rattle.job_rules.specs.declared.tables.JobNames.{JobNames}
use Rattle.job_rules.specs.Names.{bytes_at}
use Rattle.job_rules.specs.PlannedAnswers.{answer_planned}
use Rattle.job_rules.specs.PlannedArrays.{arrays_from}
use Rattle.job_rules.specs.PlannedMembers.{entries_from, reductions_from}

unfoldable pub planned : List ℕ → JobNames → Job → Fields
planned text names job = record {
  name = bytes_at text job.name;
  iterations = job.iterations.value;
  arrays = arrays_from text names 0 0 job.arrays;
  entries = entries_from text names.arrays 0 job.arrays;
  reductions = reductions_from text 0 job.arrays;
  answers = map (answer_planned text names (arrays_from text names 0 0 job.arrays)) job.answers;
}

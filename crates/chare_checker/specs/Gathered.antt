-- What the planner gives.
use Rattle.chare_base.specs.Elements.{Fields}
use Rattle.chare_checker.specs.declared.planning.PlannedJob.{PlannedJob}

-- the fields of what the planner gives
abbrev pub fields_in : PlannedJob → Fields
fields_in p = record {
  name = p.name;
  iterations = p.iterations;
  arrays = p.arrays;
  entries = p.entries;
  reductions = p.reductions;
  answers = p.answers;
}

-- The plan of a step.
use Rattle.std.specs.Prelude.{ℕ, List, [], ◌∷◌, map}
use Rattle.chare_base.specs.declared.message.Need.TheVariants as needs
use Rattle.chare_base.specs.declared.plan.Part.{Part}
use Rattle.chare_base.specs.declared.plan.Step.{Step}
use Rattle.job_tree.specs.declared.tree.Block.{Block}
use Rattle.job_tree.specs.declared.tree.PartDecl.{PartDecl}
use Rattle.job_tree.specs.declared.tree.StepBody.{StepBody}
use Rattle.job_tree.specs.declared.tree.StepBody.TheVariants as bodies
use Rattle.job_tree.specs.declared.tree.StepDecl.{StepDecl}
use Rattle.job_rules.specs.declared.tables.JobNames.{JobNames}
use Rattle.job_rules.specs.Names.{Known, bytes_at, lookup, names_listed}
use Rattle.job_rules.specs.PlannedNames.{port_meant}
use Rattle.job_rules.specs.PlannedStatements.{block_planned}

-- names are those of the job and of an array's table
module _ (text : List ℕ) (names : JobNames) (table : List Known) where
  -- a block that waits for nothing
  abbrev pub free_part : Block → Part
  free_part block = record { need = needs.Nothing; block = block_planned text names table [] block [] }

  abbrev pub part_planned : PartDecl → Part
  part_planned p = record {
    need = needs.Port (port_meant (lookup table (bytes_at text p.port)));
    block = block_planned text names table (names_listed p.names) p.block [];
  }

  abbrev pub body_planned : StepBody → List Part
  body_planned (bodies.Block block) = free_part block ∷ []
  body_planned (bodies.Part part) = part_planned part ∷ []
  body_planned (bodies.Overlap at parts) = map part_planned parts

  abbrev pub step_planned : StepDecl → Step
  step_planned s = record { parts = body_planned s.body }

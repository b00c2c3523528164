-- What the initial values and the steps of a job note.
use Rattle.std.specs.Prelude.{ℕ, suc, false, not, ◌||◌, ◌==◌, is_some, List, [], ◌∷◌, length, Option, Some}
use Rattle.job_tree.specs.declared.token.Span.{Span}
use Rattle.job_tree.specs.declared.tree.ArrayDecl.{ArrayDecl}
use Rattle.job_tree.specs.declared.tree.Block.{Block}
use Rattle.job_tree.specs.declared.tree.Job.{Job}
use Rattle.job_tree.specs.declared.tree.PartDecl.{PartDecl}
use Rattle.job_tree.specs.declared.tree.StateDecl.{StateDecl}
use Rattle.job_tree.specs.declared.tree.StepBody.{StepBody}
use Rattle.job_tree.specs.declared.tree.StepBody.TheVariants as bodies
use Rattle.job_tree.specs.declared.tree.StepDecl.{StepDecl}
use Rattle.job_rules.specs.declared.walk.Site.TheVariants as sites
use Rattle.job_rules.specs.declared.fault.CheckFault.TheVariants as faults
use Rattle.job_rules.specs.declared.names.Meaning.{Meaning}
use Rattle.job_rules.specs.declared.names.Meaning.TheVariants as meanings
use Rattle.job_rules.specs.declared.walk.PartAt.{PartAt}
use Rattle.job_rules.specs.declared.tables.JobNames.{JobNames}
use Rattle.job_rules.specs.Expressions.{value_walked}
use Rattle.job_rules.specs.Faults.{fault_if, name_fault}
use Rattle.job_rules.specs.Names.{Known, bytes_at, local_named, lookup, names_listed}
use Rattle.job_rules.specs.Notes.{Walk, noted, received_noted}
use Rattle.job_rules.specs.Overlap.{overlap_found}
use Rattle.job_rules.specs.Statements.{block_walked, is_number, mismatch_fault, port_use}
use Rattle.job_rules.specs.Tables.{table_at}

-- ---- what a part waits for

-- a number of names at a port with this meaning, behind a `when` at this place
abbrev pub port_named : PartAt → ℕ → ℕ → Option Meaning → Span → Walk
port_named part at count (Some (meanings.Entry port number source values)) name n =
    received_noted (port_use port part at false) (noted (fault_if (not (count == values)) (faults.Kind name.at)) n)
port_named part at count (Some (meanings.Reduction port number)) name n =
    received_noted (port_use port part at false) (noted (fault_if (not (count == 1)) (faults.Kind name.at)) n)
port_named part at count meaning name n = noted (mismatch_fault meaning name) n

unfoldable pub when_walked : List ℕ → List Known → PartAt → ℕ → ℕ → Span → Walk
when_walked text table part at count name n = port_named part at count (lookup table (bytes_at text name)) name (noted (name_fault name) n)

-- ---- parameters

-- a parameter's name isn't declared in the array, and no parameter before has it
unfoldable pub param_walked : List ℕ → List Known → List Span → ℕ → Span → Walk
param_walked text table params number name n =
    noted (fault_if (is_some (lookup table (bytes_at text name)) || not (is_number number (local_named text params name))) (faults.Twice name.at)) (noted (name_fault name) n)

-- the parameters from this number on
abbrev pub params_walked : List ℕ → List Known → List Span → ℕ → List Span → Walk
params_walked text table params number [] n = n
params_walked text table params number (p ∷ more) n = params_walked text table params (suc number) more (param_walked text table params number p n)

-- ---- steps

-- Parts that clash are known at the end of their step.
unfoldable pub step_closed : Walk
step_closed n = record { found = overlap_found n.uses n.found; uses = []; sent = n.sent; received = n.received }

abbrev pub part_at : ℕ → ℕ → ℕ → PartAt
part_at array step part = record { array = array; step = step; part = part }

-- names are those of the job and of an array's table
module _ (text : List ℕ) (names : JobNames) (table : List Known) where
  -- a block that waits for nothing
  abbrev pub free_part : PartAt → Block → Walk
  free_part part block n = block_walked text names table part [] block [] false n

  -- a part that waits for these parameters
  unfoldable pub part_with : PartAt → List Span → PartDecl → Walk
  part_with part params p n =
      block_walked text names table part params p.block [] false
      (params_walked text table params 0 params (when_walked text table part p.at (length params) p.port n))

  abbrev pub part_walked : PartAt → PartDecl → Walk
  part_walked part p n = part_with part (names_listed p.names) p n

  -- the parts from this number on
  abbrev pub parts_walked : ℕ → ℕ → ℕ → List PartDecl → Walk
  parts_walked array step number [] n = n
  parts_walked array step number (p ∷ more) n = parts_walked array step (suc number) more (part_walked (part_at array step number) p n)

  abbrev pub body_walked : ℕ → ℕ → StepBody → Walk
  body_walked array step (bodies.Block block) n = free_part (part_at array step 0) block n
  body_walked array step (bodies.Part p) n = part_walked (part_at array step 0) p n
  body_walked array step (bodies.Overlap at parts) n = parts_walked array step 0 parts n

  abbrev pub step_walked : ℕ → ℕ → StepDecl → Walk
  step_walked array number s n = step_closed (body_walked array number s.body n)

  -- the steps from this number on
  abbrev pub steps_walked : ℕ → ℕ → List StepDecl → Walk
  steps_walked array number [] n = n
  steps_walked array number (s ∷ more) n = steps_walked array (suc number) more (step_walked array number s n)

-- ---- initial values

abbrev pub start_walked : List ℕ → List Known → StateDecl → Walk
start_walked text table s n = value_walked text table (sites.Start (is_some s.cells)) [] [] s.start n

abbrev pub starts_walked : List ℕ → List Known → List StateDecl → Walk
starts_walked text table [] n = n
starts_walked text table (s ∷ more) n = starts_walked text table more (start_walked text table s n)

-- ---- arrays

-- an array with these names
abbrev pub array_with : List ℕ → JobNames → List Known → ℕ → ArrayDecl → Walk
array_with text names table number a n = steps_walked text names table number 0 a.steps (starts_walked text table a.states n)

abbrev pub array_walked : List ℕ → JobNames → ℕ → ArrayDecl → Walk
array_walked text names number a n = array_with text names (table_at names number) number a n

-- the arrays from this number on
abbrev pub arrays_walked : List ℕ → JobNames → ℕ → List ArrayDecl → Walk
arrays_walked text names number [] n = n
arrays_walked text names number (a ∷ more) n = arrays_walked text names (suc number) more (array_walked text names number a n)

unfoldable pub job_walked : List ℕ → JobNames → Job → Walk
job_walked text names job n = arrays_walked text names 0 job.arrays n

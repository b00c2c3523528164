-- The plans of answers, over the plans of the arrays.
use Rattle.std.specs.Prelude.{ℕ, ◌+◌, ◌*◌, List, Option, Some, None, slice_get}
use Rattle.chare_base.specs.declared.plan.Answer.{Answer}
use Rattle.chare_base.specs.declared.plan.Answer.TheVariants.{Over, At}
use Rattle.chare_base.specs.declared.plan.Array.{Array}
use Rattle.chare_base.specs.declared.plan.ElementId.{ElementId}
use Rattle.chare_base.specs.declared.range.Range.{Range}
use Rattle.job_tree.specs.declared.token.Num.{Num}
use Rattle.job_tree.specs.declared.tree.AnswerDecl.{AnswerDecl}
use Rattle.job_tree.specs.declared.tree.AnswerDecl.TheVariants as answers
use Rattle.job_tree.specs.declared.tree.Coordinates.{Coordinates}
use Rattle.job_rules.specs.declared.tables.JobNames.{JobNames}
use Rattle.job_rules.specs.Tables.{array_number}
use Rattle.job_rules.specs.PlannedMembers.{how_planned}
use Rattle.job_rules.specs.PlannedNames.{member, range_meant, range_or_none, state_meant}
use Rattle.job_rules.specs.Numbers.{narrow32, number16}

-- an element's index in an array of cols columns, row by row
abbrev pub index_written : ℕ → Num → Option Num → ℕ
index_written cols first None = narrow32 first.value
index_written cols first (Some second) = narrow32 (narrow32 (narrow32 first.value * cols) + narrow32 second.value)

-- the number of an array's element
abbrev pub element_in : Coordinates → Array → ℕ
element_in c a = narrow32 (a.first + index_written a.cols c.first c.second)

abbrev pub array_meant : List Array → Option ℕ → Option Array
array_meant arrays (Some number) = slice_get arrays number
array_meant arrays None = None

abbrev pub element_or_none : Coordinates → Option Array → ElementId
element_or_none c (Some a) = record { 0 = element_in c a }
element_or_none c None = record { 0 = 4294967295 }

-- Without an index it is the first cell.
abbrev pub cell_written : Option Num → ℕ
cell_written None = 0
cell_written (Some n) = narrow32 n.value

abbrev pub cell_in : Option Num → Range → ℕ
cell_in cell range = narrow32 (range.at + cell_written cell)

module _ (text : List ℕ) (names : JobNames) (arrays : List Array) where
  abbrev pub answer_planned : AnswerDecl → Answer
  answer_planned (answers.Over at how array state) =
      Over (how_planned how) (number16 (array_number text names.arrays array)) (number16 (state_meant (member text names array state)))
  answer_planned (answers.At at array element state cell) =
      At (element_or_none element (array_meant arrays (array_number text names.arrays array)))
      (cell_in cell (range_or_none (range_meant (member text names array state))))

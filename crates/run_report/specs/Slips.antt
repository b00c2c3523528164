-- The end of a report: which elements slipped.
use Rattle.std.specs.Prelude.{ℕ, suc, ◌==◌, if◌then◌else◌, List, [], ◌∷◌, ◌++◌, codes, length, take}
use Rattle.std.specs.Fmt.{decimal}
use Rattle.chare_base.specs.declared.cells.Cells.{Cells}
use Rattle.chare_base.specs.declared.cells.Slip.{Slip}
use Rattle.chare_base.specs.declared.plan.Plan.{Plan}
use Rattle.chare_eval.specs.Value.{division, read, write}
use Rattle.run_report.specs.declared.slips.Slipped.{Slipped}
use Rattle.run_report.specs.Names.{element_name}

-- the elements with a slip, in element order; the first of these elements has the given number
abbrev pub slipped_from : ℕ → List Cells → List Slipped
slipped_from e [] = []
slipped_from e (cells ∷ more) =
    if cells.slip.kind == 0 then slipped_from (suc e) more
    else record { element = record { 0 = e }; slip = cells.slip } ∷ slipped_from (suc e) more

-- the word of a kind of slip
unfoldable pub slip_word : ℕ → List ℕ
slip_word kind =
    if kind == division then codes "division"
    else if kind == read then codes "read"
    else if kind == write then codes "write"
    else []

-- WORD step S iteration K
unfoldable pub slip_text : Slip → List ℕ
slip_text slip = slip_word slip.kind ++ (codes " step " ++ (decimal slip.step ++ (codes " iteration " ++ (decimal slip.iteration ++ codes "\n"))))

-- slip ELEMENT, and that
unfoldable pub slip_line : Plan → Slipped → List ℕ
slip_line p s = codes "slip " ++ (element_name p s.element.0 ++ (codes " " ++ slip_text s.slip))

abbrev pub slip_lines : Plan → List Slipped → List ℕ
slip_lines p [] = []
slip_lines p (s ∷ more) = slip_line p s ++ slip_lines p more

-- how many elements slipped, and a line for each of the first eight: slips X
unfoldable pub slips_text : Plan → List Slipped → List ℕ
slips_text p slipped = codes "slips " ++ (decimal (length slipped) ++ (codes "\n" ++ slip_lines p (take 8 slipped)))

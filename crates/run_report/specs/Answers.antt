-- The end of a report: what the job answers.
use Rattle.std.specs.Prelude.{ℕ, ◌+◌, ◌&&◌, ℤ, pos, nat_le, nat_lt, if◌then◌else◌, List, [], ◌∷◌, ◌++◌, codes, drop, slice_get, take, Option, Some, None, unwrap_or}
use Rattle.std.specs.Fmt.{signed_decimal}
use Rattle.std.specs.Option.{option_map_or}
use Rattle.chare_base.specs.declared.cells.Cells.{Cells}
use Rattle.chare_base.specs.declared.plan.Answer.{Answer}
use Rattle.chare_base.specs.declared.plan.Answer.TheVariants.{Over, At}
use Rattle.chare_base.specs.declared.plan.Array.{Array}
use Rattle.chare_base.specs.declared.plan.How.{How}
use Rattle.chare_base.specs.declared.plan.How.TheVariants.{Sum, Min, Max}
use Rattle.chare_base.specs.declared.plan.Plan.{Plan}
use Rattle.chare_base.specs.declared.plan.State.{State}
use Rattle.chare_base.specs.Elements.{array_of}
use Rattle.chare_base.specs.Sizes.{size_of}
use Rattle.chare_base.specs.Total.{joined_to}
use Rattle.chare_eval.specs.Value.{number_at}
use Rattle.run_report.specs.Names.{cell_name, element_name}
use Rattle.run_report.specs.Slips.{slipped_from, slips_text}

-- ---- one number of all cells of a state

-- the states of an array's elements
abbrev pub members : Array → List Cells → List Cells
members a all = take (size_of a) (drop a.first all)

-- the cells of a state in one element, and in several
abbrev pub numbers_in : State → Cells → List ℤ
numbers_in s cells = take s.cells (drop s.at cells.numbers)

abbrev pub numbers_over : State → List Cells → List ℤ
numbers_over s [] = []
numbers_over s (cells ∷ more) = numbers_in s cells ++ numbers_over s more

-- A plan's arrays have elements and its states cells, so there is a number.
abbrev pub number_over : How → State → List Cells → ℤ
number_over how s these = unwrap_or (joined_to how None (numbers_over s these)) (pos 0)

abbrev pub how_word : How → List ℕ
how_word Sum = codes "sum"
how_word Min = codes "min"
how_word Max = codes "max"

-- answer HOW ARRAY.STATE V
unfoldable pub over_line : List Cells → How → Array → State → List ℕ
over_line all how a s =
    codes "answer " ++ (how_word how
    ++ (codes " " ++ (a.name ++ (codes "." ++ (s.name
    ++ (codes " " ++ (signed_decimal (number_over how s (members a all)) ++ codes "\n")))))))

abbrev pub over_state : List Cells → How → Array → Option State → List ℕ
over_state all how a None = []
over_state all how a (Some s) = over_line all how a s

abbrev pub over_array : List Cells → How → ℕ → Option Array → List ℕ
over_array all how state None = []
over_array all how state (Some a) = over_state all how a (slice_get a.states state)

-- ---- one cell of one element

-- the state that has the cell of this number of an element
abbrev pub state_with : ℕ → List State → Option State
state_with cell [] = None
state_with cell (s ∷ more) = if nat_le s.at cell && nat_lt cell (s.at + s.cells) then Some s else state_with cell more

-- the cell of this number of an element
abbrev pub number_in : List Cells → ℕ → ℕ → ℤ
number_in all e cell = option_map_or (λ (cells : Cells). number_at cells.numbers cell) (slice_get all e) (pos 0)

-- answer at ELEMENT.STATE V
unfoldable pub at_line : Plan → List Cells → ℕ → ℕ → State → List ℕ
at_line p all e cell s =
    codes "answer at " ++ (element_name p e
    ++ (codes "." ++ (cell_name s cell
    ++ (codes " " ++ (signed_decimal (number_in all e cell) ++ codes "\n")))))

abbrev pub at_state : Plan → List Cells → ℕ → ℕ → Option State → List ℕ
at_state p all e cell None = []
at_state p all e cell (Some s) = at_line p all e cell s

abbrev pub at_array : Plan → List Cells → ℕ → ℕ → Option Array → List ℕ
at_array p all e cell None = []
at_array p all e cell (Some a) = at_state p all e cell (state_with cell a.states)

-- ---- all answers

-- An answer of a plan names a state or a cell that is there, so it has a line.
unfoldable pub answer_line : Plan → List Cells → Answer → List ℕ
answer_line p all (Over how array state) = over_array all how state (slice_get p.arrays array)
answer_line p all (At element cell) = at_array p all element.0 cell (array_of p element.0)

abbrev pub answer_lines : Plan → List Cells → List Answer → List ℕ
answer_lines p all [] = []
answer_lines p all (answer ∷ more) = answer_line p all answer ++ answer_lines p all more

-- the answers from the states at the end, and which elements slipped
unfoldable pub results : Plan → List Cells → List ℕ
results p all = answer_lines p all p.answers ++ slips_text p (slipped_from 0 all)

-- the same, and that the run is over
unfoldable pub ending : Plan → List Cells → List ℕ
ending p all = results p all ++ codes "end done\n"

-- The numbers by which a plan names its parts.
use Rattle.std.specs.Prelude.{ℕ, suc, ◌+◌, ◌==◌, ℤ, pos, negsuc, Bool, true, false, not, ◌&&◌, ◌||◌, nat_lt, nat_le, List, [], ◌∷◌, length, Option, Some, None, slice_get}
use Rattle.std.specs.List.{list_all, list_any}
use Rattle.std.specs.Option.{option_map_or}
use Rattle.chare_base.specs.declared.expression.Expr.{Expr}
use Rattle.chare_base.specs.declared.expression.Expr.TheOpen.{Expr-F, Term-F, Factor-F}
use Rattle.chare_base.specs.declared.expression.Expr.TheFolds.{fold-Expr, fold-Term, fold-Factor}
use Rattle.chare_base.specs.declared.expression.Term.{Term}
use Rattle.chare_base.specs.declared.expression.Factor.{Factor}
use Rattle.chare_base.specs.declared.plan.Array.{Array}
use Rattle.chare_base.specs.declared.plan.Answer.{Answer}
use Rattle.chare_base.specs.declared.plan.Answer.TheVariants.{Over, At}
use Rattle.chare_base.specs.declared.message.Need.{Need}
use Rattle.chare_base.specs.declared.message.Need.TheVariants as needs
use Rattle.chare_base.specs.declared.message.Port.{Port}
use Rattle.chare_base.specs.declared.message.Port.TheVariants as ports
use Rattle.chare_base.specs.declared.plan.Entry.{Entry}
use Rattle.chare_base.specs.declared.plan.Part.{Part}
use Rattle.chare_base.specs.declared.plan.Reduction.{Reduction}
use Rattle.chare_base.specs.declared.plan.State.{State}
use Rattle.chare_base.specs.declared.plan.Step.{Step}
use Rattle.chare_base.specs.declared.plan.Stmt.{Stmt, out-Stmt}
use Rattle.chare_base.specs.declared.plan.Stmt.TheOpen.{Stmt-F}
use Rattle.chare_base.specs.declared.plan.Stmt.TheFolds.{fold-Stmt}
use Rattle.chare_base.specs.declared.scope.Scope.{Scope}
use Rattle.chare_base.specs.Sizes.{size_of, cells_in}

abbrev pub all_of : List Bool → Bool
all_of [] = true
all_of (b ∷ more) = b && all_of more

-- ---- expressions

-- the only cell of a state
unfoldable pub plain_at : List State → ℕ → Bool
plain_at states cell = list_any (λ s. s.plain && s.at == cell) states

-- the cells of a state that is named with an index
unfoldable pub indexed_at : List State → ℕ → ℕ → Bool
indexed_at states at cells = list_any (λ s. not s.plain && (s.at == at && s.cells == cells)) states

-- whether an expression reads what is there alone: cells of these states, and what its scope has
abbrev pub expr_step : List State → Scope → Expr-F Bool Bool Bool → Bool
expr_step states scope (Expr-F.Number n) = true
expr_step states scope (Expr-F.Cell cell) = plain_at states cell
expr_step states scope (Expr-F.CellAt at cells place) = indexed_at states at cells && place
expr_step states scope (Expr-F.Mail value) = nat_lt value scope.values
expr_step states scope (Expr-F.Loop slot) = nat_lt slot scope.loops
expr_step states scope Expr-F.Index = true
expr_step states scope Expr-F.Row = true
expr_step states scope Expr-F.Col = true
expr_step states scope Expr-F.Which = scope.which
expr_step states scope Expr-F.Iter = scope.iter
expr_step states scope (Expr-F.Minus e) = e
expr_step states scope (Expr-F.Not e) = e
expr_step states scope (Expr-F.Least a b) = a && b
expr_step states scope (Expr-F.Greatest a b) = a && b
expr_step states scope (Expr-F.Compare op a b) = a && b
expr_step states scope (Expr-F.Sum first others) = first && all_of others
expr_step states scope (Expr-F.Product first others) = first && all_of others
expr_step states scope (Expr-F.All operands) = all_of operands
expr_step states scope (Expr-F.Any operands) = all_of operands

abbrev pub term_step : Term-F Bool Bool Bool → Bool
term_step t = t.value

abbrev pub factor_step : Factor-F Bool Bool Bool → Bool
factor_step f = f.value

abbrev pub expr_in_range : List State → Scope → Expr → Bool
expr_in_range states scope = fold-Expr Bool Bool Bool (expr_step states scope) factor_step term_step

abbrev pub term_in_range : List State → Scope → Term → Bool
term_in_range states scope = fold-Term Bool Bool Bool (expr_step states scope) factor_step term_step

abbrev pub factor_in_range : List State → Scope → Factor → Bool
factor_in_range states scope = fold-Factor Bool Bool Bool (expr_step states scope) factor_step term_step

-- An initial value reads no cell, message, loop or iteration. That of a state that is named with an index reads the cell's number.
abbrev pub start_in_range : State → Bool
start_in_range s = expr_in_range [] (record { values = 0; loops = 0; which = not s.plain; iter = false }) s.start

-- what a part's expressions read, by the number of values that come and of loops around
abbrev pub part_scope : ℕ → ℕ → Scope
part_scope values loops = record { values = values; loops = loops; which = false; iter = true }

-- ---- statements

-- an expression of a part, by the number of values that come and of loops around
unfoldable pub value_in_range : List State → ℕ → ℕ → Expr → Bool
value_in_range states values loops e = expr_in_range states (part_scope values loops) e

-- the entry is sent by elements of this array, with count values
abbrev pub sent_from : ℕ → ℕ → Option Entry → Bool
sent_from array count None = false
sent_from array count (Some e) = e.source == array && e.values == count

-- the reduction is one of this array
abbrev pub reduced_in : ℕ → Option Reduction → Bool
reduced_in array None = false
reduced_in array (Some r) = r.owner == array

-- whether a statement names what is there alone, by the number of loops around it
abbrev pub Test : Type 0
Test = ℕ → Bool

abbrev pub all_in : List Test → Test
all_in [] loops = true
all_in (t ∷ more) loops = t loops && all_in more loops

module _ (states : List State) (values : ℕ) where
  abbrev pub stmt_step : Stmt-F Test → Test
  stmt_step (Stmt-F.Set cell value) loops = plain_at states cell && value_in_range states values loops value
  stmt_step (Stmt-F.SetAt at cells place value) loops =
      indexed_at states at cells && (value_in_range states values loops place && value_in_range states values loops value)
  stmt_step (Stmt-F.If test a b) loops = value_in_range states values loops test && (all_in a loops && all_in b loops)
  stmt_step (Stmt-F.For slot low high block) loops = slot == loops && (nat_lt loops 32 && all_in block (suc loops))
  stmt_step (Stmt-F.Send entry sent) loops = list_all (value_in_range states values loops) sent
  stmt_step (Stmt-F.Contribute reduction value) loops = value_in_range states values loops value

  abbrev pub stmt_in_range : Stmt → Test
  stmt_in_range = fold-Stmt Test stmt_step

-- whether a statement itself sends to an entry or a reduction that elements of this array send to
abbrev pub send_in_range : {A : Type 0} → List Entry → List Reduction → ℕ → Stmt-F A → Bool
send_in_range entries reductions array (Stmt-F.Set cell value) = true
send_in_range entries reductions array (Stmt-F.SetAt at cells place value) = true
send_in_range entries reductions array (Stmt-F.If test a b) = true
send_in_range entries reductions array (Stmt-F.For slot low high block) = true
send_in_range entries reductions array (Stmt-F.Send entry sent) = sent_from array (length sent) (slice_get entries entry.0)
send_in_range entries reductions array (Stmt-F.Contribute reduction value) = reduced_in array (slice_get reductions reduction.0)

abbrev pub sends_in_range : List Entry → List Reduction → ℕ → Stmt → Bool
sends_in_range entries reductions array stmt = send_in_range entries reductions array (out-Stmt stmt)

-- ---- parts

-- the entry is received by elements of this array
abbrev pub received_by : ℕ → Option Entry → Bool
received_by array None = false
received_by array (Some e) = e.owner == array

abbrev pub port_in_range : List Entry → List Reduction → ℕ → Port → Bool
port_in_range entries reductions array (ports.Entry entry) = received_by array (slice_get entries entry.0)
port_in_range entries reductions array (ports.Total reduction) = reduced_in array (slice_get reductions reduction.0)

abbrev pub need_in_range : List Entry → List Reduction → ℕ → Need → Bool
need_in_range entries reductions array needs.Nothing = true
need_in_range entries reductions array (needs.Port port) = port_in_range entries reductions array port

-- how many values come at a port
abbrev pub port_values : List Entry → Port → ℕ
port_values entries (ports.Entry entry) = option_map_or (λ e. e.values) (slice_get entries entry.0) 0
port_values entries (ports.Total reduction) = 1

-- how many values come with what is needed
abbrev pub values_of : List Entry → Need → ℕ
values_of entries needs.Nothing = 0
values_of entries (needs.Port port) = port_values entries port

module _ (entries : List Entry) (reductions : List Reduction) (array : ℕ) (states : List State) where
  abbrev pub part_in_range : Part → Bool
  part_in_range part =
      need_in_range entries reductions array part.need
      && list_all (sends_in_range entries reductions array) part.block
      && list_all (λ stmt. stmt_in_range states (values_of entries part.need) stmt 0) part.block

  abbrev pub step_in_range : Step → Bool
  step_in_range step = list_all part_in_range step.parts

abbrev pub array_in_range : List Entry → List Reduction → ℕ → Array → Bool
array_in_range entries reductions number a =
    list_all start_in_range a.states && list_all (step_in_range entries reductions number a.states) a.steps

-- the arrays, the first of which has the given number
abbrev pub arrays_in_range : List Entry → List Reduction → ℕ → List Array → Bool
arrays_in_range entries reductions number [] = true
arrays_in_range entries reductions number (a ∷ more) =
    array_in_range entries reductions number a && arrays_in_range entries reductions (suc number) more

-- ---- entries, reductions, answers

-- two arrays have one shape
abbrev pub same_shape : Array → Array → Bool
same_shape a b = (a.flat && b.flat || not a.flat && not b.flat) && (a.rows == b.rows && a.cols == b.cols)

abbrev pub no_offset : ℤ → Bool
no_offset (pos n) = n == 0
no_offset (negsuc n) = false

-- Both arrays are there, and of one shape. Within an array of one dimension a neighbour is in the same row.
abbrev pub exchanged : ℤ → Option Array → Option Array → Bool
exchanged down (Some a) (Some b) = same_shape a b && (not a.flat || no_offset down)
exchanged down (Some a) None = false
exchanged down None b = false

abbrev pub entry_in_range : List Array → Entry → Bool
entry_in_range arrays e = exchanged e.down (slice_get arrays e.owner) (slice_get arrays e.source)

abbrev pub reduction_in_range : List Array → Reduction → Bool
reduction_in_range arrays r = nat_lt r.owner (length arrays)

abbrev pub state_there : ℕ → Option Array → Bool
state_there state None = false
state_there state (Some a) = nat_lt state (length a.states)

-- the first element of an array is at most this one, which comes before the next array's, and the cell is one of its cells
abbrev pub cell_of_array : ℕ → ℕ → Array → Bool
cell_of_array element cell a = nat_le a.first element && (nat_lt element (a.first + size_of a) && nat_lt cell (cells_in a.states))

abbrev pub answer_in_range : List Array → Answer → Bool
answer_in_range arrays (Over how array state) = state_there state (slice_get arrays array)
answer_in_range arrays (At element cell) = list_any (cell_of_array element.0 cell) arrays

unfoldable pub ranges_hold : List Array → List Entry → List Reduction → List Answer → Bool
ranges_hold arrays entries reductions answers =
    arrays_in_range entries reductions 0 arrays && list_all (entry_in_range arrays) entries
    && list_all (reduction_in_range arrays) reductions && list_all (answer_in_range arrays) answers

use Rattle.std.proofs.Common.{◌≡◌, ◌+◌, ◌*◌, ◌-◌, ◌≤◌, ◌++◌, drop, length, vec_len, vec_capacity}
use Rattle.pup_state.specs.Spelling.{cells_spelling}
use Rattle.pup_state.proofs.put.put_cells.Given as goal

-- what is left of the cells goes behind what was put, and there is room for it
abbrev pub invariant-loop-cell : goal.invariant-loop-cell
invariant-loop-cell l = record {
  told : l.out.items ++ cells_spelling (drop l.cell-index l.cells) ≡ l.fn.out.items ++ cells_spelling l.cells;
  room : vec_len l.out + 8 * (length l.cells - l.cell-index) ≤ vec_capacity l.out;
}

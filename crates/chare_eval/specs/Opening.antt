-- The states before iteration 0.
use Rattle.std.specs.Prelude.{ℕ, zero, suc, ℤ, List, [], ◌∷◌, ◌++◌}
use Rattle.std.specs.Int.{w64, int_wrap}
use Rattle.chare_base.specs.declared.cells.Cells.{Cells}
use Rattle.chare_base.specs.declared.cells.Slip.{Slip}
use Rattle.chare_base.specs.declared.expression.Expr.{Expr}
use Rattle.chare_base.specs.declared.plan.Plan.{Plan}
use Rattle.chare_base.specs.declared.plan.State.{State}
use Rattle.chare_base.specs.Elements.{elements, states_of}
use Rattle.chare_base.specs.Entries.{nothing}
use Rattle.chare_eval.specs.declared.value.Scene.{Scene}
use Rattle.chare_eval.specs.Value.{value_of}
use Rattle.chare_eval.specs.Block.{scene_of}

abbrev pub no_slip : Slip
no_slip = record { kind = 0; step = 0; iteration = 0 }

-- the initial value of the cell of this number within its state, in 64 bits
abbrev pub start_value : Scene → Expr → ℕ → ℤ
start_value scene start which = int_wrap w64 (value_of start (record scene { which = which }) []).value

-- those of n cells, from one on
abbrev pub cell_starts : Scene → Expr → ℕ → ℕ → List ℤ
cell_starts scene start which zero = []
cell_starts scene start which (suc n) = start_value scene start which ∷ cell_starts scene start (suc which) n

-- those of all states, in text order
abbrev pub starts : Scene → List State → List ℤ
starts scene [] = []
starts scene (s ∷ more) = cell_starts scene s.start 0 s.cells ++ starts scene more

-- An element's initial cells. Slips of initial values are not kept.
unfoldable pub start_of : Plan → ℕ → Cells
start_of p e = record { numbers = starts (scene_of p e 0 nothing) (states_of p e); slip = no_slip }

-- n elements, from e on
abbrev pub starts_from : Plan → ℕ → ℕ → List Cells
starts_from p zero e = []
starts_from p (suc n) e = start_of p e ∷ starts_from p n (suc e)

-- the opening state: all elements, in element order
unfoldable pub opening : Plan → List Cells
opening p = starts_from p (elements p) 0

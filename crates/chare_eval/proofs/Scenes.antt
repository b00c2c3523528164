-- What an element's expressions read beside its cells.
use Rattle.std.proofs.Common.{◌≡◌, ℕ, ◌<◌, ◌≤◌, ◌/◌, ◌%◌, Option, Some, None, refl, arith}
use Rattle.std.proofs.Math.Nat.{div-eq_of_lt, mod-eq_of_lt}
use Rattle.std.specs.Option.{option_map_or}
use Rattle.chare_base.specs.declared.plan.Array.{Array}
use Rattle.chare_base.specs.declared.plan.Plan.{Plan}
use Rattle.chare_base.specs.Elements.{array_of, cols_at}
use Rattle.chare_base.proofs.Facts.{fits}

cols_of : (p : Plan) (e : ℕ) (o : Option Array) → array_of p e ≡ o → 1 ≤ option_map_or (λ (a : Array). a.cols) o 1
cols_of p e None is = omega arith
cols_of p e (Some a) is = (fits p e a is).cols.0

-- an array has a column
pub cols_some : (p : Plan) (e : ℕ) → 1 ≤ cols_at p e
cols_some p e = cols_of p e (array_of p e) refl

pub first_row : (index cols : ℕ) → index < cols → index / cols ≡ 0
first_row index cols h = div-eq_of_lt h

pub first_col : (index cols : ℕ) → index < cols → index % cols ≡ index
first_col index cols h = mod-eq_of_lt h

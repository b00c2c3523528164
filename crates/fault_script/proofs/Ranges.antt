-- What a line in range says of its numbers.
use Rattle.std.proofs.Common.{ℕ, ◌^◌, ◌<◌, ◌≤◌, arith}
use Rattle.std.specs.Prelude.{IsTrue}
use Rattle.std.proofs.lemmas.Bool.{and_parts, ltb-true}
use Rattle.chare_base.specs.declared.plan.Array.{Array}
use Rattle.chare_base.specs.declared.plan.Plan.{Plan}
use Rattle.chare_base.specs.declared.plan.State.{State}
use Rattle.fault_script.specs.Forms.{CrashLine, FlipLine}
use Rattle.fault_script.specs.Meaning.{InRange, col, crash_within, flip_within, place, row}

pub record Flips (iterations : ℕ) (f : FlipLine) (a : Array) (s : State) : Type 0 where
  pub replica : f.replica < 2
  pub row : row f.element < a.rows
  pub col : col f.element < a.cols
  pub place : place f.cell < s.cells
  pub some : 0 < f.mask
  pub mask : f.mask < 2 ^ 64
  pub at : f.at < iterations

pub flips : (iterations : ℕ) (f : FlipLine) (a : Array) (s : State) → IsTrue (flip_within iterations f a s) → Flips iterations f a s
unfolding flip_within
flips iterations f a s h =
    let at = and_parts _ _ h in
    let mask = and_parts _ _ at.0 in
    let some = and_parts _ _ mask.0 in
    let place_in = and_parts _ _ some.0 in
    let col_in = and_parts _ _ place_in.0 in
    let row_in = and_parts _ _ col_in.0 in
    record {
      replica = ltb-true _ _ row_in.0;
      row = ltb-true _ _ row_in.1;
      col = ltb-true _ _ col_in.1;
      place = ltb-true _ _ place_in.1;
      some = ltb-true _ _ some.1;
      mask = ltb-true _ _ mask.1;
      at = ltb-true _ _ at.1;
    }

pub in_range : (iterations : ℕ) (f : FlipLine) (a : Array) (s : State) → iterations ≤ 2 ^ 64 → IsTrue (flip_within iterations f a s) → InRange f a s
in_range iterations f a s often h =
    let all : Flips iterations f a s = flips iterations f a s h in
    record { replica = all.replica; row = all.row; col = all.col; place = all.place; mask = all.mask; at = omega (arith, all.at) }

pub record Crashes (p : Plan) (nodes : ℕ) (c : CrashLine) : Type 0 where
  pub replica : c.replica < 2
  pub node : c.node < nodes
  pub at : c.at < p.iterations

pub crashes : (p : Plan) (nodes : ℕ) (c : CrashLine) → IsTrue (crash_within p.iterations nodes c) → Crashes p nodes c
unfolding crash_within
crashes p nodes c h =
    let at = and_parts _ _ h in
    let node = and_parts _ _ at.0 in
    record { replica = ltb-true _ _ node.0; node = ltb-true _ _ node.1; at = ltb-true _ _ at.1 }

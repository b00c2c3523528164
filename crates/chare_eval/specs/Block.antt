-- What a block does to an element, and what it sends.
use Rattle.std.specs.Prelude.{ℕ, zero, suc, ◌+◌, ℤ, pos, negsuc, ◌+ℤ◌, ◌-ℤ◌, List, [], ◌∷◌, ◌++◌, length, replicate, slice_set, min, nat_lt, ◌&&◌, ◌==◌, if◌then◌else◌, Option, Some, None}
use Rattle.std.specs.Int.{w64, int_wrap}
use Rattle.chare_base.specs.declared.cells.Cells.{Cells}
use Rattle.chare_base.specs.declared.cells.Slip.{Slip}
use Rattle.chare_base.specs.declared.expression.Expr.{Expr}
use Rattle.chare_base.specs.declared.message.EntryId.{EntryId}
use Rattle.chare_base.specs.declared.message.Payload.{Payload}
use Rattle.chare_base.specs.declared.plan.ElementId.{ElementId}
use Rattle.chare_base.specs.declared.plan.Plan.{Plan}
use Rattle.chare_base.specs.declared.plan.Stmt.{Stmt, out-Stmt}
use Rattle.chare_base.specs.declared.plan.Stmt.TheOpen.{Stmt-F}
use Rattle.chare_base.specs.declared.plan.Stmt.TheFolds.{fold-Stmt}
use Rattle.chare_base.specs.Costs.{numbers_below}
use Rattle.chare_base.specs.Elements.{place_of, row_of, col_of, block_at}
use Rattle.chare_base.specs.Entries.{target_of}
use Rattle.chare_eval.specs.declared.effects.Outgoing.{Outgoing}
use Rattle.chare_eval.specs.declared.effects.Outgoing.TheVariants.{Parcel, Contribution}
use Rattle.chare_eval.specs.declared.value.Computed.{Computed}
use Rattle.chare_eval.specs.declared.value.Scene.{Scene}
use Rattle.chare_eval.specs.Value.{is_true, least_kind, value_of, write}

-- ---- statements on cells

-- what a statement works on: the scene, the cells, and the least kind of slip so far
pub record Run : Type 0 where
  pub scene : Scene
  pub cells : List ℤ
  pub slip : ℕ

abbrev pub Act : Type 0
Act = Run → Run

abbrev pub with_slip : ℕ → Act
with_slip kind run = record { scene = run.scene; cells = run.cells; slip = least_kind run.slip kind }

-- A value is written into a cell, if there is one. A cell holds 64 bits, whatever numbers a plan has.
abbrev pub written : ℕ → Computed → Act
written at c run = record {
  scene = run.scene;
  cells = slice_set run.cells at (int_wrap w64 c.value);
  slip = if nat_lt at (length run.cells) then least_kind run.slip c.slip else least_kind (least_kind run.slip c.slip) write;
}

-- the same for the cell at a place of a state
abbrev pub written_in : ℕ → ℕ → ℤ → Computed → Act
written_in at count (pos i) c run = if nat_lt i count then written (at + i) c run else with_slip write (with_slip c.slip run)
written_in at count (negsuc i) c run = with_slip write (with_slip c.slip run)

-- a loop's variable has a value
abbrev pub with_loop : ℕ → ℤ → Act
with_loop slot i run = record { scene = record run.scene { loops = slice_set run.scene.loops slot i }; cells = run.cells; slip = run.slip }

abbrev pub in_order : List Act → Act
in_order [] run = run
in_order (a ∷ more) run = in_order more (a run)

-- n turns of a loop, whose variable is i in the first
abbrev pub turns : ℕ → ℤ → ℕ → Act → Act
turns zero i slot block run = run
turns (suc n) i slot block run = turns n (i +ℤ pos 1) slot block (block (with_loop slot i run))

abbrev pub chosen : Computed → Act → Act → Act
chosen test a b run = if is_true test.value then a (with_slip test.slip run) else b (with_slip test.slip run)

-- what an expression computes now
abbrev pub computed : Expr → Run → Computed
computed e run = value_of e run.scene run.cells

-- Sends and contributions stand directly in a block alone, and do nothing elsewhere.
abbrev pub stmt_step : Stmt-F Act → Act
stmt_step (Stmt-F.Set at e) run = written at (computed e run) run
stmt_step (Stmt-F.SetAt at count place e) run = written_in at count (computed place run).value (computed e run) (with_slip (computed place run).slip run)
stmt_step (Stmt-F.If test a b) run = chosen (computed test run) (in_order a) (in_order b) run
stmt_step (Stmt-F.For slot low high block) run = turns (numbers_below (high -ℤ low)) low slot (in_order block) run
stmt_step (Stmt-F.Send entry values) run = run
stmt_step (Stmt-F.Contribute reduction value) run = run

abbrev pub act : Stmt → Act
act = fold-Stmt Act stmt_step

-- ---- sends and contributions

-- what a block works on, and what it sent
pub record Top : Type 0 where
  pub run : Run
  pub sent : List Outgoing

-- values of a message, and the least kind of slip so far
pub record Filled : Type 0 where
  pub values : List ℤ
  pub slip : ℕ

-- what the expressions compute, from value i on
abbrev pub filled_from : ℕ → List Expr → Run → Filled → Filled
filled_from i [] run f = f
filled_from i (e ∷ more) run f =
    filled_from (suc i) more run (record { values = slice_set f.values i (computed e run).value; slip = least_kind f.slip (computed e run).slip })

-- A message has 8 values at most.
abbrev pub filled_of : List Expr → Run → Filled
filled_of values run = filled_from 0 values run (record { values = replicate 8 (pos 0); slip = run.slip })

abbrev pub payload_of : List Expr → Filled → Payload
payload_of values f = record { count = min 8 (length values); values = f.values }

-- to nobody where no element has the sender as its source
abbrev pub parcels : EntryId → Option ElementId → Payload → List Outgoing
parcels entry None payload = []
parcels entry (Some to) payload = Parcel entry to payload ∷ []

abbrev pub with_sent : ℕ → List Outgoing → Top → Top
with_sent slip more t = record { run = record { scene = t.run.scene; cells = t.run.cells; slip = slip }; sent = t.sent ++ more }

abbrev pub with_act : Stmt → Top → Top
with_act s t = record { run = act s t.run; sent = t.sent }

module _ (p : Plan) (e : ℕ) where
  -- what a statement of a block does, which directly stands there
  abbrev pub top_step : Stmt → Stmt-F Stmt → Top → Top
  top_step s (Stmt-F.Set at value) t = with_act s t
  top_step s (Stmt-F.SetAt at count place value) t = with_act s t
  top_step s (Stmt-F.If test a b) t = with_act s t
  top_step s (Stmt-F.For slot low high block) t = with_act s t
  top_step s (Stmt-F.Send entry values) t =
      with_sent (filled_of values t.run).slip (parcels entry (target_of p entry.0 e) (payload_of values (filled_of values t.run))) t
  top_step s (Stmt-F.Contribute reduction value) t =
      with_sent (least_kind t.run.slip (computed value t.run).slip) (Contribution reduction (computed value t.run).value ∷ []) t

  -- statements in order, each on what the earlier ones left
  abbrev pub top_acts : List Stmt → Top → Top
  top_acts [] t = t
  top_acts (s ∷ more) t = top_acts more (top_step s (out-Stmt s) t)

-- ---- a block

-- what a block does to cells: the new ones, the least kind of slip, and what it sends
pub record Done : Type 0 where
  pub numbers : List ℤ
  pub kind : ℕ
  pub sent : List Outgoing

abbrev pub done_of : Top → Done
done_of t = record { numbers = t.run.cells; kind = t.run.slip; sent = t.sent }

abbrev pub block_does : Plan → ℕ → List Stmt → Scene → List ℤ → Done
block_does p e block scene numbers = done_of (top_acts p e block (record { run = record { scene = scene; cells = numbers; slip = 0 }; sent = [] }))

-- ---- the slip that is kept

-- A slip is kept where none is kept yet; of the same step and iteration the lesser kind stays.
abbrev pub noted : ℕ → ℕ → ℕ → ℕ → Slip → Slip
noted step iteration kind zero kept = record { kind = kind; step = step; iteration = iteration }
noted step iteration kind (suc k) kept =
    if kept.step == step && kept.iteration == iteration then record { kind = least_kind kept.kind kind; step = step; iteration = iteration } else kept

abbrev pub slip_after : ℕ → ℕ → ℕ → Slip → Slip
slip_after step iteration zero kept = kept
slip_after step iteration (suc kind) kept = noted step iteration (suc kind) kept.kind kept

-- ---- an element

-- an element's cells, and what was sent on the way to them
pub record Effect : Type 0 where
  pub cells : Cells
  pub sent : List Outgoing

-- an element with these cells sent nothing yet
abbrev pub quiet : Cells → Effect
quiet cells = record { cells = cells; sent = [] }

-- what a block did in a step of an iteration
abbrev pub with_done : ℕ → ℕ → Done → Effect → Effect
with_done step iteration d f = record {
  cells = record { numbers = d.numbers; slip = slip_after step iteration d.kind f.cells.slip };
  sent = f.sent ++ d.sent;
}

-- what an element's expressions read beside its cells in an iteration, with the values of a message
unfoldable pub scene_of : Plan → ℕ → ℕ → Payload → Scene
scene_of p e iteration payload = record {
  index = (place_of p e).index;
  row = row_of p e;
  col = col_of p e;
  which = 0;
  iteration = iteration;
  values = payload.values;
  loops = replicate 32 (pos 0);
}

-- a message of these values
abbrev pub with_values : List ℤ → Payload
with_values values = record { count = 8; values = values }

-- what a part of a step does in an iteration, where this payload came with the message that the part needs
abbrev pub block_runs : Plan → ℕ → ℕ → ℕ → List Stmt → Payload → Effect → Effect
block_runs p e step iteration stmts payload f =
    with_done step iteration (block_does p e stmts (scene_of p e iteration payload) f.cells.numbers) f

abbrev pub block : Plan → ℕ → ℕ → ℕ → ℕ → Payload → Cells → Effect
block p e step part iteration payload cells = block_runs p e step iteration (block_at p e step part) payload (quiet cells)

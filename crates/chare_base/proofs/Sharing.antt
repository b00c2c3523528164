-- A plan crosses threads. A call finds this anew for each type that holds a recursive one, and at a whole plan it may
-- give up, so it is shown here once, type by type.
use mathlib.Core.List.{[], ◌∷◌}
use mir.Syntax.{Sym}
use denote.RattleType.{RattleType}
use denote.Ref.{NamedLft}
use denote.Param.{param}
use denote.Param.Send.{IsSend, IsSync, shr_send, param_send, param_sync, arg_send, arg_sync, sendable}
use denote.Param.SendFields.{declared_send, as_row_send}
use denote.Struct.Field.{row_field, shr_ref_field}
use denote.Struct.Tuple.{TupleAt, type_at}
use Rattle.sqlite_items.proofs.boxed.Boxed.TheSendSync as boxed
use Rattle.sqlite_items.proofs.items.Items.TheSendSync as items
use Rattle.chare_bytes.proofs.bytes.Name.TheSendSync as name
use Rattle.chare_base.proofs.message.Need.TheSendSync as need
use Rattle.chare_base.proofs.plan.Entry.TheSendSync as entry
use Rattle.chare_base.proofs.plan.Reduction.TheSendSync as reduction
use Rattle.chare_base.proofs.plan.Answer.TheSendSync as answer
use Rattle.chare_base.proofs.expression.Expr.TheLaws.TheKnot.{sync-Expr, send-Expr}
use Rattle.chare_base.proofs.plan.Stmt.TheLaws.TheKnot.{sync-Stmt, send-Stmt}
use Rattle.chare_base.specs.contracts.expression.Expr as Expr
use Rattle.chare_base.specs.contracts.plan.Stmt as Stmt
use Rattle.chare_base.specs.contracts.plan.Part as Part
use Rattle.chare_base.specs.contracts.plan.Step as Step
use Rattle.chare_base.specs.contracts.plan.State as State
use Rattle.chare_base.specs.contracts.plan.Array as Array
use Rattle.chare_base.specs.contracts.plan.Plan as Plan

expr_sync : IsSync (Expr.the_field).row
expr_sync = search (sendable, sync-Expr, boxed.the_sync, items.the_sync) depth 20

stmt_sync : IsSync (Stmt.the_field).row
stmt_sync = search (sendable, sync-Stmt, expr_sync, items.the_sync) depth 20

part_sync : IsSync Part.the_row
part_sync = search (sendable, need.the_field_sync, stmt_sync, items.the_sync) depth 20

step_sync : IsSync Step.the_row
step_sync = search (sendable, part_sync, items.the_sync) depth 20

state_sync : IsSync State.the_row
state_sync = search (sendable, expr_sync, name.the_sync) depth 20

array_sync : IsSync Array.the_row
array_sync = search (sendable, state_sync, step_sync, name.the_sync, items.the_sync) depth 20

pub plan_sync : IsSync Plan.the_row
plan_sync = search (sendable, array_sync, entry.the_sync, reduction.the_sync, answer.the_sync, name.the_sync, items.the_sync) depth 20

expr_send : IsSend (Expr.the_field).row
expr_send = search (sendable, send-Expr, boxed.the_send, items.the_send) depth 20

stmt_send : IsSend (Stmt.the_field).row
stmt_send = search (sendable, send-Stmt, expr_send, items.the_send) depth 20

part_send : IsSend Part.the_row
part_send = search (sendable, need.the_field_send, stmt_send, items.the_send) depth 20

step_send : IsSend Step.the_row
step_send = search (sendable, part_send, items.the_send) depth 20

state_send : IsSend State.the_row
state_send = search (sendable, expr_send, name.the_send) depth 20

array_send : IsSend Array.the_row
array_send = search (sendable, state_send, step_send, name.the_send, items.the_send) depth 20

pub plan_send : IsSend Plan.the_row
plan_send = search (sendable, array_send, entry.the_send, reduction.the_send, answer.the_send, name.the_send, items.the_send) depth 20

-- What a spawn asks of its closure. A lemma names each captured type whole, since `search` finds no argument of one in a
-- closure's type.
pub one_send : (ν : Sym) (A : RattleType) → IsSend A → IsSend (TupleAt ν (A ∷ []))
one_send ν A a = declared_send (type_at ν (A ∷ [])) (as_row_send (row_field A) a, tt)

pub two_send : (ν : Sym) (A B : RattleType) → IsSend A → IsSend B → IsSend (TupleAt ν (A ∷ B ∷ []))
two_send ν A B a b = declared_send (type_at ν (A ∷ B ∷ [])) (as_row_send (row_field A) a, (as_row_send (row_field B) b, tt))

pub three_send : (ν : Sym) (A B C : RattleType) → IsSend A → IsSend B → IsSend C → IsSend (TupleAt ν (A ∷ B ∷ C ∷ []))
three_send ν A B C a b c =
    declared_send (type_at ν (A ∷ B ∷ C ∷ []))
    (as_row_send (row_field A) a, (as_row_send (row_field B) b, (as_row_send (row_field C) c, tt)))

-- a reference to a handle whose type is the first parameter of the function around the closure
pub handle_lent : (ℓ : NamedLft) (R : RattleType) → IsSync R → IsSend (shr_ref_field ℓ (param 0 R) tt).row
handle_lent ℓ R s = shr_send ℓ.mir ℓ.lft (param 0 R) (param_sync 0 R s)

pub plan_lent : (ℓ : NamedLft) → IsSend (shr_ref_field ℓ Plan.the_row tt).row
plan_lent ℓ = shr_send ℓ.mir ℓ.lft Plan.the_row plan_sync

pub ruleset crossing = (
  param_send,
  param_sync,
  arg_send,
  arg_sync,
  plan_send,
  plan_sync,
  one_send,
  two_send,
  three_send,
  handle_lent,
  plan_lent,
)

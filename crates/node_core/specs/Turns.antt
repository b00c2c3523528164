-- One turn of one object.
use Rattle.std.specs.Prelude.{ℕ, Bool, true, false, ◌&&◌, ◌==◌, if◌then◌else◌, nat_lt, nat_le, is_none, List, [], Option, Some, None}
use Rattle.chare_base.specs.declared.message.Payload.{Payload}
use Rattle.chare_base.specs.declared.plan.Plan.{Plan}
use Rattle.chare_base.specs.declared.plan.Spot.{Spot}
use Rattle.chare_base.specs.Flip.{Flip}
use Rattle.chare_eval.specs.declared.effects.Outgoing.{Outgoing}
use Rattle.ref_messages.specs.declared.key.RefKey.{RefKey}
use Rattle.ref_messages.specs.Queue.{message}
use Rattle.object_steps.specs.declared.ready.Ready.{Ready}
use Rattle.object_steps.specs.declared.ready.Ready.TheVariants as ready_as
use Rattle.object_steps.specs.Laws.{struck_by}
use Rattle.object_steps.specs.Objects.{Progress, advanced, begun, mailed, ran, ready}

-- an object after a turn, the part that it ran, if any, and what it sent
pub record Turned : Type 0 where
  pub object : Progress
  pub spot : Option Spot
  pub sent : List Outgoing

abbrev pub stays : Progress → Turned
stays o = record { object = o; spot = None; sent = [] }

-- its ready part, where it has one
abbrev pub goes_at : Plan → Progress → Ready → Turned
goes_at p o (ready_as.Step spot) = record { object = advanced p o spot; spot = Some spot; sent = (ran p o spot).sent }
goes_at p o (ready_as.Await port) = stays o
goes_at p o ready_as.AtTop = stays o

abbrev pub goes : Plan → Progress → Turned
goes p o = goes_at p o (ready p o)

-- Between two iterations it begins one below a limit, with its flips, and runs its first part.
abbrev pub turned : Plan → List Flip → ℕ → Progress → Turned
turned p lines limit o =
    if is_none o.step then
    (if nat_lt o.done limit && nat_lt o.done p.iterations then goes p (begun (struck_by lines o)) else stays o)
    else goes p o

-- a message that comes is held where its iteration isn't over and none is held under its key
abbrev pub takes : Progress → RefKey → Payload → Progress
takes o key payload = if nat_le o.mail.since key.iteration && is_none (message o.mail key) then mailed o key payload else o

-- ---- who can run

abbrev pub is_step : Ready → Bool
is_step (ready_as.Step spot) = true
is_step (ready_as.Await port) = false
is_step ready_as.AtTop = false

-- an element has a ready part, or would begin an iteration below the limit and of the plan
abbrev pub can_run : Plan → ℕ → Progress → Bool
can_run p limit o = if is_none o.step then nat_lt o.done limit && nat_lt o.done p.iterations else is_step (ready p o)

-- it is before one of the iterations
abbrev pub begins : ℕ → Progress → Bool
begins iterations o = is_none o.step && nat_lt o.done iterations

-- it has completed k iterations, and hasn't begun the next
abbrev pub is_at : ℕ → Progress → Bool
is_at k o = is_none o.step && o.done == k

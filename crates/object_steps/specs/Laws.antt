-- An object follows the definition, in whatever order its messages come and its parts run.
use Rattle.std.specs.Prelude.{◌≡◌, ℕ, ◌<◌, ◌≤◌, List, [], ◌∷◌, Option, Some, None}
use Rattle.std.specs.List.{AllByRecursion}
use Rattle.chare_base.specs.declared.cells.Cells.{Cells}
use Rattle.chare_base.specs.declared.message.Payload.{Payload}
use Rattle.chare_base.specs.declared.plan.Plan.{Plan}
use Rattle.chare_base.specs.declared.plan.Spot.{Spot}
use Rattle.chare_base.specs.Elements.{elements}
use Rattle.chare_base.specs.Flip.{Flip}
use Rattle.chare_eval.specs.Inside.{cells_between, cells_inside, message_to, struck_at}
use Rattle.chare_eval.specs.Laws.{Reaches}
use Rattle.chare_eval.specs.Opening.{start_of}
use Rattle.ref_messages.specs.declared.key.RefKey.{RefKey}
use Rattle.object_steps.specs.declared.ready.Ready.TheVariants as ready_as
use Rattle.object_steps.specs.Objects.{Progress, Fits, advanced, begun, mailed, ran, ready, started}

-- the definition's cells of an element that is so far
abbrev pub cells_at : Plan → List Flip → Progress → Option ℕ → Cells
cells_at p lines o None = cells_between p lines o.done o.element.0
cells_at p lines o (Some s) = cells_inside p lines o.done s o.parts o.element.0

-- a payload is what the definition's element finds, at the port and in the iteration of a key
abbrev pub IsMessage : Plan → List Flip → ℕ → RefKey → Payload → Type 0
IsMessage p lines e key payload = message_to p lines key.iteration key.port e ≡ Some payload

-- The object fits, its cells are the definition's, and each message held is the definition's, of an iteration not yet
-- completed.
pub record Follows (p : Plan) (lines : List Flip) (o : Progress) : Type 0 where
  pub fits : Fits p o
  pub cells : o.cells ≡ cells_at p lines o o.step
  pub mail : AllByRecursion (λ m. IsMessage p lines o.element.0 m.0 m.1) o.mail.held
  pub present : AllByRecursion (λ m. o.done ≤ m.0.iteration) o.mail.held

-- as an iteration begins, its flips strike
abbrev pub struck_by : List Flip → Progress → Progress
struck_by lines o = record o { cells = struck_at lines o.done o.element.0 o.cells }

pub record FollowsOn (p : Plan) (lines : List Flip) (o : Progress) : Type 0 where
  -- a part leads to the definition's cells, and sends the definition's messages
  pub parts : (spot : Spot) → ready p o ≡ ready_as.Step spot →
      Follows p lines (advanced p o spot) × AllByRecursion (Reaches p lines o.done o.element.0) (ran p o spot).sent
  pub begins : o.step ≡ None → o.done < p.iterations → Follows p lines (begun (struck_by lines o))
  -- a message of an iteration not yet completed may come at any time
  pub receives : (key : RefKey) (payload : Payload) → o.done ≤ key.iteration → IsMessage p lines o.element.0 key payload → Follows p lines (mailed o key payload)

pub record ObjectsFollow : Type 0 where
  -- from the opening, and from the definition's cells after k iterations
  pub starts : (p : Plan) (lines : List Flip) (e : ℕ) → e < elements p → Follows p lines (started p e (start_of p e) 0)
  pub resumes : (p : Plan) (lines : List Flip) (k e : ℕ) → e < elements p → k ≤ p.iterations → Follows p lines (started p e (cells_between p lines k e) k)
  pub on : (p : Plan) (lines : List Flip) (o : Progress) → Follows p lines o → FollowsOn p lines o

-- ---- any list of turns

-- what an object does next, or what comes to it
pub data Turn : Type 0 where
  Runs : (spot : Spot) → Turn
  Begins : Turn
  Receives : (key : RefKey) (payload : Payload) → Turn

abbrev pub turned : Plan → List Flip → Progress → Turn → Progress
turned p lines o (Runs spot) = advanced p o spot
turned p lines o Begins = begun (struck_by lines o)
turned p lines o (Receives key payload) = mailed o key payload

-- A part runs where the object answers it. An iteration begins between two. A message is the definition's, of an
-- iteration not yet completed.
abbrev pub Allowed : Plan → List Flip → Progress → Turn → Type 0
Allowed p lines o (Runs spot) = ready p o ≡ ready_as.Step spot
Allowed p lines o Begins = (o.step ≡ None) × (o.done < p.iterations)
Allowed p lines o (Receives key payload) = (o.done ≤ key.iteration) × IsMessage p lines o.element.0 key payload

abbrev pub after_turns : Plan → List Flip → Progress → List Turn → Progress
after_turns p lines o [] = o
after_turns p lines o (turn ∷ more) = after_turns p lines (turned p lines o turn) more

abbrev pub AllAllowed : Plan → List Flip → Progress → List Turn → Type 0
AllAllowed p lines o [] = Unit {0}
AllAllowed p lines o (turn ∷ more) = Allowed p lines o turn × AllAllowed p lines (turned p lines o turn) more

-- An object that follows the definition does so after every list of allowed turns.
abbrev pub TurnsFollow : Type 0
TurnsFollow = (p : Plan) (lines : List Flip) (o : Progress) (turns : List Turn) → Follows p lines o → AllAllowed p lines o turns → Follows p lines (after_turns p lines o turns)

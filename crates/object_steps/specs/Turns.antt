-- What an object's answers tell of it, and what its calls keep.
use Rattle.std.specs.Prelude.{◌≡◌, ℕ, ◌<◌, true, false, slice_get, Some, None}
use Rattle.chare_base.specs.declared.message.Need.TheVariants as needs
use Rattle.chare_base.specs.declared.message.Port.{Port}
use Rattle.chare_base.specs.declared.plan.Part.{Part}
use Rattle.chare_base.specs.declared.plan.Plan.{Plan}
use Rattle.chare_base.specs.declared.plan.Spot.{Spot}
use Rattle.chare_base.specs.Elements.{parts_at}
use Rattle.chare_eval.specs.Inside.{is_done}
use Rattle.object_steps.specs.declared.ready.Ready.TheVariants as ready_as
use Rattle.object_steps.specs.Objects.{Fits, Progress, Underway, advanced, arrived, can_run, ready}

-- A part that an object can run is one of its step that isn't done, and what it needs is there.
pub record Goes (p : Plan) (o : Progress) (spot : Spot) : Type 0 where
  pub step : o.step ≡ Some spot.step
  pub underway : Underway p o spot.step
  pub part : Part
  pub there : slice_get (parts_at p o.element.0 spot.step) spot.part ≡ Some part
  pub fresh : is_done o.parts spot.part ≡ false
  pub runs : can_run (arrived p o) part.need ≡ true

-- An object that waits has a step of which no part that isn't done can run. It waits at the port of the first of these.
pub record Waits (p : Plan) (o : Progress) (port : Port) : Type 0 where
  pub at : ℕ
  pub step : o.step ≡ Some at
  pub first : ℕ
  pub part : Part
  pub there : slice_get (parts_at p o.element.0 at) first ≡ Some part
  pub fresh : is_done o.parts first ≡ false
  pub need : part.need ≡ needs.Port port
  pub missing : arrived p o port ≡ None
  pub before : (i : ℕ) → i < first → is_done o.parts i ≡ true
  pub none : (i : ℕ) (other : Part) → slice_get (parts_at p o.element.0 at) i ≡ Some other → is_done o.parts i ≡ false → can_run (arrived p o) other.need ≡ false

pub record ReadyTells : Type 0 where
  pub step : (p : Plan) (o : Progress) (spot : Spot) → Fits p o → ready p o ≡ ready_as.Step spot → Goes p o spot
  pub await : (p : Plan) (o : Progress) (port : Port) → Fits p o → ready p o ≡ ready_as.Await port → Waits p o port
  pub top : (p : Plan) (o : Progress) → Fits p o → ready p o ≡ ready_as.AtTop → o.step ≡ None
  pub between : (p : Plan) (o : Progress) → o.step ≡ None → ready p o ≡ ready_as.AtTop

-- An object stays its element's.
pub record ElementStays : Type 0 where
  pub element : (p : Plan) (o : Progress) (spot : Spot) → (advanced p o spot).element ≡ o.element
  pub place : (p : Plan) (o : Progress) (spot : Spot) → (advanced p o spot).place ≡ o.place

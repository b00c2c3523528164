-- Laws of the fold, and of each element inside an iteration.
use Rattle.std.specs.Prelude.{◌≡◌, ℕ, zero, suc, ◌<◌, ◌≤◌, ◌⊎◌, ℤ, Bool, true, false, FitsSigned, nat_lt, if◌then◌else◌, List, [], ◌∷◌, ◌++◌, length, slice_get, slice_set, Option, Some, None, unwrap_or}
use Rattle.std.specs.Int.{w64}
use Rattle.std.specs.List.{AllByRecursion}
use Rattle.std.specs.Option.{option_map_or}
use Rattle.chare_base.specs.declared.cells.Cells.{Cells}
use Rattle.chare_base.specs.declared.cells.Slip.{Slip}
use Rattle.chare_base.specs.declared.message.EntryId.{EntryId}
use Rattle.chare_base.specs.declared.message.Payload.{Payload}
use Rattle.chare_base.specs.declared.message.Port.TheVariants as ports
use Rattle.chare_base.specs.declared.message.ReductionId.{ReductionId}
use Rattle.chare_base.specs.declared.plan.ElementId.{ElementId}
use Rattle.chare_base.specs.declared.plan.Entry.{Entry}
use Rattle.chare_base.specs.declared.plan.Part.{Part}
use Rattle.chare_base.specs.declared.plan.Plan.{Plan}
use Rattle.chare_base.specs.declared.plan.Reduction.{Reduction}
use Rattle.chare_base.specs.Elements.{elements, parts_at, place_of, steps_of}
use Rattle.chare_base.specs.Entries.{entry_of, first_of, reduction_of, target_of}
use Rattle.chare_base.specs.Flip.{Flip}
use Rattle.chare_base.specs.Ports.{entry_port, sending_step, total_port}
use Rattle.chare_base.specs.Shape.{Shaped}
use Rattle.chare_base.specs.Total.{joined_to}
use Rattle.chare_eval.specs.declared.effects.Outgoing.{Outgoing}
use Rattle.chare_eval.specs.declared.effects.Outgoing.TheVariants.{Parcel, Contribution}
use Rattle.chare_eval.specs.Block.{quiet}
use Rattle.chare_eval.specs.Fold.{fold}
use Rattle.chare_eval.specs.Inside.{cells_before, cells_between, cells_inside, is_done, message_to, messages_to, none_done, struck_at}
use Rattle.chare_eval.specs.Opening.{no_slip}
use Rattle.chare_eval.specs.Stage.{contributions, members, part_runs, step_of, total_payload}

-- ---- every fold

-- the states of every fold have the shape of the plan's elements
abbrev pub FoldIsShaped : Type 0
FoldIsShaped = (p : Plan) (lines : List Flip) (n : ℕ) → Shaped p (fold p lines n)

-- an element's cells are numbers of 64 bits
abbrev pub NumbersFit : Cells → Type 0
NumbersFit cells = AllByRecursion (FitsSigned w64) cells.numbers

-- the cells of every fold are, whatever numbers the plan and the flips have
abbrev pub FoldsFit : Type 0
FoldsFit = (p : Plan) (lines : List Flip) (n : ℕ) → AllByRecursion NumbersFit (fold p lines n)

-- a slip of one of the steps, in one of the iterations
pub record Noted (steps iterations : ℕ) (slip : Slip) : Type 0 where
  pub some : 1 ≤ slip.kind
  pub kinds : slip.kind ≤ 3
  pub step : slip.step < steps
  pub iteration : slip.iteration < iterations

-- every slip of a fold is none, or one of the element's steps in a completed iteration
abbrev pub SlipsAreNoted : Type 0
SlipsAreNoted = (p : Plan) (lines : List Flip) (n e : ℕ) → e < elements p →
    ((cells_between p lines n e).slip ≡ no_slip) ⊎ Noted (length (steps_of p e)) n (cells_between p lines n e).slip

-- the flips of iterations before one
abbrev pub flips_before : ℕ → List Flip → List Flip
flips_before k [] = []
flips_before k (f ∷ more) = if nat_lt f.at k then f ∷ flips_before k more else flips_before k more

-- later flips don't matter
abbrev pub EarlierFlipsDecide : Type 0
EarlierFlipsDecide = (p : Plan) (lines : List Flip) (k : ℕ) → fold p lines k ≡ fold p (flips_before k lines) k

-- ---- an element inside an iteration

-- an iteration begins with the flips of each element on its own cells
abbrev pub StrikesAreLocal : Type 0
StrikesAreLocal = (p : Plan) (lines : List Flip) (k e : ℕ) → e < elements p →
    cells_inside p lines k 0 none_done e ≡ struck_at lines k e (cells_between p lines k e)

-- all parts of a step are done
abbrev pub AllDone : Plan → ℕ → ℕ → List Bool → Type 0
AllDone p e s done = (i : ℕ) → i < length (parts_at p e s) → is_done done i ≡ true

-- After all its parts an element is before its next step, and after its last step before the next iteration.
pub record StepsFollow : Type 0 where
  pub next : (p : Plan) (lines : List Flip) (k s : ℕ) (done : List Bool) (e : ℕ) → e < elements p → suc s < length (steps_of p e) → AllDone p e s done →
      cells_inside p lines k s done e ≡ cells_inside p lines k (suc s) none_done e
  pub last : (p : Plan) (lines : List Flip) (k s : ℕ) (done : List Bool) (e : ℕ) → e < elements p → suc s ≡ length (steps_of p e) → AllDone p e s done →
      cells_inside p lines k s done e ≡ cells_between p lines (suc k) e

-- what an element sends in a step of an iteration
abbrev pub sent_in : Plan → List Flip → ℕ → ℕ → ℕ → List Outgoing
sent_in p lines k s e = (step_of p s k e (messages_to p lines k e) (cells_before p lines k s e)).sent

abbrev pub first_number : List ℤ → Option ℤ
first_number [] = None
first_number (v ∷ more) = Some v

-- what an element contributes to a reduction in an iteration
unfoldable pub contribution_of : Plan → List Flip → ℕ → ℕ → ℕ → Option ℤ
contribution_of p lines k r e = first_number (contributions (sent_in p lines k (unwrap_or (sending_step (total_port r) (steps_of p e)) 0) e) r)

-- what an element sends is what its receiver finds, and what it contributes is its contribution
abbrev pub Reaches : Plan → List Flip → ℕ → ℕ → Outgoing → Type 0
Reaches p lines k e (Parcel entry to payload) = (to.0 < elements p) × (message_to p lines k (ports.Entry entry) to.0 ≡ Some payload)
Reaches p lines k e (Contribution reduction value) = contribution_of p lines k reduction.0 e ≡ Some value

-- A part that isn't done yet leads to the cells where it is done too, whichever parts were done before it, and what
-- it sends is the definition's.
pub record PartRuns (p : Plan) (lines : List Flip) (k s : ℕ) (done : List Bool) (e j : ℕ) (part : Part) : Type 0 where
  pub cells : (part_runs p e s k (messages_to p lines k e) part (quiet (cells_inside p lines k s done e))).cells ≡ cells_inside p lines k s (slice_set done j true) e
  pub sent : AllByRecursion (Reaches p lines k e) (part_runs p e s k (messages_to p lines k e) part (quiet (cells_inside p lines k s done e))).sent

abbrev pub PartsRunInAnyOrder : Type 0
PartsRunInAnyOrder = (p : Plan) (lines : List Flip) (k s : ℕ) (done : List Bool) (e j : ℕ) (part : Part) → e < elements p → s < length (steps_of p e) →
    slice_get (parts_at p e s) j ≡ Some part → j < length done → is_done done j ≡ false → PartRuns p lines k s done e j part

-- ---- totals

abbrev pub some_number : Option ℤ → List ℤ
some_number None = []
some_number (Some v) = v ∷ []

-- the contributions of n elements, from e on, in element order
abbrev pub contributions_from : Plan → List Flip → ℕ → ℕ → ℕ → ℕ → List ℤ
contributions_from p lines k r e zero = []
contributions_from p lines k r e (suc n) = some_number (contribution_of p lines k r e) ++ contributions_from p lines k r (suc e) n

abbrev pub first_member : Plan → ℕ → ℕ
first_member p r = option_map_or (λ (x : Reduction). first_of p.arrays x.owner) (reduction_of p r) 0

-- Each element of a reduction's array contributes once, and each finds the total of all of them.
pub record TotalsAreTrue : Type 0 where
  pub each : (p : Plan) (lines : List Flip) (k r e : ℕ) (x : Reduction) → reduction_of p r ≡ Some x → e < elements p → (place_of p e).array ≡ x.owner →
      (v : ℤ) × (contribution_of p lines k r e ≡ Some v)
  pub total : (p : Plan) (lines : List Flip) (k r e : ℕ) (x : Reduction) → reduction_of p r ≡ Some x → (place_of p e).array ≡ x.owner →
      message_to p lines k (total_port r) e ≡ total_payload (joined_to x.how None (contributions_from p lines k r (first_member p r) (members p r)))

-- ---- a step sends all that it should

-- one of what was sent
abbrev pub SentTo : Plan → ℕ → ElementId → Outgoing → Type 0
SentTo p x t (Parcel entry to payload) = (entry.0 ≡ x) × (to ≡ t)
SentTo p x t (Contribution reduction value) = ⊥

abbrev pub AnySent : (Outgoing → Type 0) → List Outgoing → Type 0
AnySent P [] = ⊥
AnySent P (o ∷ more) = P o ⊎ AnySent P more

-- In its sending step an element sends to the element whose source it is.
abbrev pub StepsSend : Type 0
StepsSend = (p : Plan) (lines : List Flip) (k s x e : ℕ) (t : ElementId) → e < elements p → sending_step (entry_port x) (steps_of p e) ≡ Some s →
    target_of p x e ≡ Some t → AnySent (SentTo p x t) (sent_in p lines k s e)

-- ---- how many values come

-- What an element finds at an entry has as many values as the entry says, and a total is one value.
pub record MessagesFit : Type 0 where
  pub values : (p : Plan) (lines : List Flip) (k e : ℕ) (x : EntryId) (entry : Entry) (payload : Payload) → entry_of p x.0 ≡ Some entry →
      message_to p lines k (ports.Entry x) e ≡ Some payload → payload.count ≡ entry.values
  pub one : (p : Plan) (lines : List Flip) (k e : ℕ) (r : ReductionId) (payload : Payload) → message_to p lines k (ports.Total r) e ≡ Some payload → payload.count ≡ 1

-- An element as it goes through its iterations.
use Rattle.std.specs.Prelude.{◌≡◌, ℕ, zero, suc, ◌<◌, ◌≤◌, ◌==◌, ◌&&◌, ◌||◌, not, Bool, true, false, if◌then◌else◌, List, [], ◌∷◌, length, Option, Some, None, IfSome, is_some, slice_set, unwrap_or}
use Rattle.std.specs.Option.{option_or}
use Rattle.chare_base.specs.declared.cells.Cells.{Cells}
use Rattle.chare_base.specs.declared.message.Need.{Need}
use Rattle.chare_base.specs.declared.message.Need.TheVariants as needs
use Rattle.chare_base.specs.declared.message.Payload.{Payload}
use Rattle.chare_base.specs.declared.message.Port.{Port}
use Rattle.chare_base.specs.declared.message.Port.TheVariants as ports
use Rattle.chare_base.specs.declared.message.Source.{Source}
use Rattle.chare_base.specs.declared.message.Source.TheVariants as sources
use Rattle.chare_base.specs.declared.plan.ElementId.{ElementId}
use Rattle.chare_base.specs.declared.plan.Entry.{Entry}
use Rattle.chare_base.specs.declared.plan.Part.{Part}
use Rattle.chare_base.specs.declared.plan.Place.{Place}
use Rattle.chare_base.specs.declared.plan.Plan.{Plan}
use Rattle.chare_base.specs.declared.plan.Spot.{Spot}
use Rattle.chare_base.specs.Elements.{cells_of, elements, need_at, parts_at, place_of, steps_of}
use Rattle.chare_base.specs.Entries.{nothing, source_of}
use Rattle.chare_base.specs.Ports.{port_needed}
use Rattle.chare_eval.specs.Block.{Effect, block}
use Rattle.chare_eval.specs.Inside.{is_done, none_done}
use Rattle.chare_eval.specs.Stage.{Inbox, flipped, found_at, given}
use Rattle.chare_eval.specs.Value.{number_at}
use Rattle.ref_messages.specs.declared.key.RefKey.{RefKey}
use Rattle.ref_messages.specs.Queue.{Queue, from, message, put, without}
use Rattle.object_steps.specs.declared.ready.Ready.{Ready}
use Rattle.object_steps.specs.declared.ready.Ready.TheVariants as ready_as

-- an element, its cells, and how far it is
pub record Progress : Type 0 where
  pub element : ElementId
  -- where it stands
  pub place : Place
  -- whether some element sends to it at each entry of its array
  pub surrounded : Bool
  pub cells : Cells
  -- the iterations completed
  pub done : ℕ
  -- the step that it is in, none between two iterations
  pub step : Option ℕ
  -- the parts of that step that are done
  pub parts : List Bool
  -- the messages that came and weren't taken yet
  pub mail : Queue

-- what an edge gives where nobody stands who would send
abbrev pub edge_of : Source → Option Payload
edge_of (sources.Element sender) = None
edge_of (sources.Edge payload) = Some payload

-- whether some element sends to an element at each of these entries, the first of which has number n, that is of its array
abbrev pub sent_from : Plan → ℕ → ℕ → List Entry → Bool
sent_from p e n [] = true
sent_from p e n (entry ∷ more) = not (entry.owner == (place_of p e).array && is_some (edge_of (source_of p n e))) && sent_from p e (suc n) more

-- whether some element sends to an element at each entry of its array
unfoldable pub is_surrounded : Plan → ℕ → Bool
is_surrounded p e = sent_from p e 0 p.entries

-- whether the first n parts are done
abbrev pub all_done : List Bool → ℕ → Bool
all_done parts zero = true
all_done parts (suc n) = all_done parts n && is_done parts n

-- the step is one of the element's, of an iteration that the plan has, and a part of it is left
pub record Underway (p : Plan) (o : Progress) (s : ℕ) : Type 0 where
  pub step : s < length (steps_of p o.element.0)
  pub iteration : o.done < p.iterations
  pub left : all_done o.parts (length (parts_at p o.element.0 s)) ≡ false

-- the element is one of this plan's, and its progress one that it can make
pub record Fits (p : Plan) (o : Progress) : Type 0 where
  pub there : o.element.0 < elements p
  pub place : o.place ≡ place_of p o.element.0
  pub surrounded : o.surrounded ≡ is_surrounded p o.element.0
  pub cells : length o.cells.numbers ≡ cells_of p o.element.0
  pub within : o.done ≤ p.iterations
  pub since : o.mail.since ≡ o.done
  pub parts : length o.parts ≡ 8
  pub between : o.step ≡ None → o.parts ≡ none_done
  pub underway : IfSome o.step (Underway p o)

-- ---- what comes next

abbrev pub key_of : ℕ → Port → RefKey
key_of iteration port = record { iteration = iteration; port = port }

-- what an element finds at each port in an iteration, and in the present one
abbrev pub arrived_at : Plan → ℕ → ℕ → Queue → Inbox
arrived_at p e iteration mail port = found_at p e port (message mail (key_of iteration port))

abbrev pub arrived : Plan → Progress → Inbox
arrived p o = arrived_at p o.element.0 o.done o.mail

-- what an edge gives where nobody stands who would send at a port, and for what a part needs
abbrev pub edge_at : Plan → ℕ → Port → Option Payload
edge_at p e (ports.Entry entry) = edge_of (source_of p entry.0 e)
edge_at p e (ports.Total reduction) = None

abbrev pub edge_given : Plan → ℕ → Need → Option Payload
edge_given p e needs.Nothing = None
edge_given p e (needs.Port port) = edge_at p e port

-- the message held of those that a part needs
abbrev pub held_for : Need → ℕ → Queue → Option Payload
held_for needs.Nothing iteration mail = None
held_for (needs.Port port) iteration mail = message mail (key_of iteration port)

-- what a part reads of an edge's payload and a message that is held
abbrev pub read_from : Option Payload → Option Payload → Payload
read_from edge held = unwrap_or (option_or edge held) nothing

-- a part can run where it needs nothing or what it needs is there
abbrev pub can_run : Inbox → Need → Bool
can_run box needs.Nothing = true
can_run box (needs.Port port) = is_some (box port)

abbrev pub waiting : Option Port → Ready
waiting None = ready_as.AtTop
waiting (Some port) = ready_as.Await port

abbrev pub spot_of : ℕ → ℕ → Spot
spot_of s q = record { step = s; part = q }

-- Of the parts of a step from number n on: the first that isn't done and can run, else the first port that such a part
-- waits at, if an earlier one doesn't wait already.
abbrev pub ready_from : Inbox → ℕ → List Bool → ℕ → Option Port → List Part → Ready
ready_from box s done n missing [] = waiting missing
ready_from box s done n missing (part ∷ more) =
    if is_done done n then ready_from box s done (suc n) missing more
    else (if can_run box part.need then ready_as.Step (spot_of s n) else ready_from box s done (suc n) (option_or missing (port_needed part.need)) more)

abbrev pub ready_at : Plan → Progress → Option ℕ → Ready
ready_at p o None = ready_as.AtTop
ready_at p o (Some s) = ready_from (arrived p o) s o.parts 0 None (parts_at p o.element.0 s)

unfoldable pub ready : Plan → Progress → Ready
ready p o = ready_at p o o.step

-- whether a part needs the message of an entry
abbrev pub needs_entry : ℕ → Need → Bool
needs_entry entry needs.Nothing = false
needs_entry entry (needs.Port (ports.Entry e)) = e.0 == entry
needs_entry entry (needs.Port (ports.Total reduction)) = false

-- whether one of these parts, the first of which has number n, isn't done and needs it
abbrev pub awaited_from : ℕ → List Bool → ℕ → List Part → Bool
awaited_from entry done n [] = false
awaited_from entry done n (part ∷ more) = not (is_done done n) && needs_entry entry part.need || awaited_from entry done (suc n) more

abbrev pub awaits_at : Plan → Progress → ℕ → ℕ → Option ℕ → Bool
awaits_at p o iteration entry None = false
awaits_at p o iteration entry (Some s) = iteration == o.done && awaited_from entry o.parts 0 (parts_at p o.element.0 s)

-- whether an element is in an iteration and a part of its step that isn't done needs the message of an entry
abbrev pub awaits : Plan → Progress → ℕ → ℕ → Bool
awaits p o iteration entry = awaits_at p o iteration entry o.step

-- ---- what each call makes of it

-- an element at its top, without mail
abbrev pub started : Plan → ℕ → Cells → ℕ → Progress
started p e cells done = record {
  element = record { 0 = e };
  place = place_of p e;
  surrounded = is_surrounded p e;
  cells = cells;
  done = done;
  step = None;
  parts = none_done;
  mail = record { since = done; held = [] };
}

-- a cell struck by a flip
abbrev pub struck : Progress → ℕ → ℕ → Progress
struck o at mask = record o { cells = record { numbers = slice_set o.cells.numbers at (flipped mask (number_at o.cells.numbers at)); slip = o.cells.slip } }

abbrev pub begun : Progress → Progress
begun o = record o { step = Some 0 }

abbrev pub mailed : Progress → RefKey → Payload → Progress
mailed o key payload = record o { mail = put o.mail key payload }

-- what a part needs
abbrev pub need_of : Plan → Progress → Spot → Need
need_of p o spot = need_at p o.element.0 spot.step spot.part

-- what a part does, with what it needs
abbrev pub ran : Plan → Progress → Spot → Effect
ran p o spot = block p o.element.0 spot.step spot.part o.done (given (need_of p o spot) (arrived p o)) o.cells

-- the mail without the message that was needed
abbrev pub taken : Need → ℕ → Queue → Queue
taken needs.Nothing done mail = mail
taken (needs.Port port) done mail = without mail (key_of done port)

-- After the last part of a step comes the next step; after the last step an iteration more is completed, and its
-- messages are over.
abbrev pub gone_on : ℕ → ℕ → ℕ → Progress → Progress
gone_on steps parts s o =
    if all_done o.parts parts then
    (if suc s == steps then record o { done = suc o.done; step = None; parts = none_done; mail = from o.mail (suc o.done) }
    else record o { step = Some (suc s); parts = none_done })
    else o

unfoldable pub advanced : Plan → Progress → Spot → Progress
advanced p o spot =
    gone_on (length (steps_of p o.element.0)) (length (parts_at p o.element.0 spot.step)) spot.step
    (record o { cells = (ran p o spot).cells; parts = slice_set o.parts spot.part true; mail = taken (need_of p o spot) o.done o.mail })

-- What a run of all elements keeps of the messages of an iteration, sorted by receiver and by reduction.
use Rattle.std.specs.Prelude.{ℕ, zero, suc, ◌+◌, ℤ, List, [], ◌∷◌, ◌++◌, map, min, ◌==◌, if◌then◌else◌, slice_get, slice_set, Option, Some, None, unwrap_or}
use Rattle.chare_base.specs.declared.cells.Cells.{Cells}
use Rattle.chare_base.specs.declared.message.Payload.{Payload}
use Rattle.chare_base.specs.declared.message.Port.{Port}
use Rattle.chare_base.specs.declared.message.Port.TheVariants as ports
use Rattle.chare_base.specs.declared.plan.Array.{Array}
use Rattle.chare_base.specs.declared.plan.Plan.{Plan}
use Rattle.chare_base.specs.declared.plan.Reduction.{Reduction}
use Rattle.chare_base.specs.Elements.{elements, steps_in_round}
use Rattle.chare_base.specs.Entries.{nothing}
use Rattle.chare_base.specs.Total.{both}
use Rattle.chare_eval.specs.declared.effects.Outgoing.{Outgoing}
use Rattle.chare_eval.specs.declared.effects.Outgoing.TheVariants.{Parcel, Contribution}
use Rattle.chare_eval.specs.declared.tables.Letter.{Letter}
use Rattle.chare_eval.specs.declared.tables.Mail.{Mail}
use Rattle.chare_eval.specs.declared.tables.Tally.{Tally}
use Rattle.chare_eval.specs.Block.{Effect}
use Rattle.chare_eval.specs.Stage.{Inbox, found_at, members_in, state_at, step_of, total_payload}

pub record Tables : Type 0 where
  pub boxes : List (List Letter)
  pub tallies : List Tally

abbrev pub tables_of : Mail → Tables
tables_of m = record { boxes = m.boxes.items; tallies = m.tallies.items }

-- ---- what is kept

-- the message at an entry: the first, where there is more than one
abbrev pub letter_at : List Letter → ℕ → Option Payload
letter_at [] x = None
letter_at (l ∷ more) x = if l.entry.0 == x then Some l.payload else letter_at more x

-- one more behind the others, where there is such a box
abbrev pub put_in : List (List Letter) → ℕ → Letter → Option (List Letter) → List (List Letter)
put_in boxes to letter None = boxes
put_in boxes to letter (Some box) = slice_set boxes to (box ++ letter ∷ [])

-- Counts stop at the greatest number of 64 bits.
abbrev pub with_value : ℤ → Tally → Tally
with_value v t = record { how = t.how; members = t.members; count = min 18446744073709551615 (t.count + 1); total = both t.how t.total (Some v) }

abbrev pub add_in : List Tally → ℕ → ℤ → Option Tally → List Tally
add_in tallies r v None = tallies
add_in tallies r v (Some t) = slice_set tallies r (with_value v t)

abbrev pub no_value : List Array → Reduction → Tally
no_value arrays r = record { how = r.how; members = members_in arrays (Some r); count = 0; total = None }

abbrev pub tally_total : Option Tally → Option Payload
tally_total None = None
tally_total (Some t) = if t.count == t.members then total_payload t.total else None

abbrev pub delivered : Outgoing → Tables → Tables
delivered (Parcel entry to payload) t =
    record { boxes = put_in t.boxes to.0 (record { entry = entry; payload = payload }) (slice_get t.boxes to.0); tallies = t.tallies }
delivered (Contribution reduction value) t =
    record { boxes = t.boxes; tallies = add_in t.tallies reduction.0 value (slice_get t.tallies reduction.0) }

-- what was sent, in order
abbrev pub all_delivered : List Outgoing → Tables → Tables
all_delivered [] t = t
all_delivered (o ∷ more) t = all_delivered more (delivered o t)

-- nothing, before an iteration
abbrev pub emptied : Plan → Tables → Tables
emptied p t = record { boxes = map (λ box. []) t.boxes; tallies = map (no_value p.arrays) p.reductions }

-- what is kept for an element at a port
abbrev pub kept : Tables → ℕ → Port → Option Payload
kept t e (ports.Entry entry) = letter_at (unwrap_or (slice_get t.boxes e) []) entry.0
kept t e (ports.Total reduction) = tally_total (slice_get t.tallies reduction.0)

-- the values of a message, 0 where there is none
abbrev pub values_or_none : Option Payload → List ℤ
values_or_none message = (unwrap_or message nothing).values

-- what an element finds at each port
abbrev pub box_of : Plan → Tables → ℕ → Inbox
box_of p t e port = found_at p e port (kept t e port)

-- ---- a run

-- all elements' states, and what is kept of the messages
pub record Sorted : Type 0 where
  pub states : List Cells
  pub tables : Tables

abbrev pub after_effect : ℕ → Effect → Sorted → Sorted
after_effect e f b = record { states = slice_set b.states e f.cells; tables = all_delivered f.sent b.tables }

-- one step of an element
abbrev pub element_runs : Plan → ℕ → ℕ → ℕ → Sorted → Sorted
element_runs p s k e b = after_effect e (step_of p s k e (box_of p b.tables e) (state_at b.states e)) b

-- the same of the first e elements
unfoldable pub elements_run : Plan → ℕ → ℕ → ℕ → Sorted → Sorted
elements_run p s k zero b = b
elements_run p s k (suc e) b = element_runs p s k e (elements_run p s k e b)

-- the first s steps of all elements
unfoldable pub steps_run : Plan → ℕ → ℕ → Sorted → Sorted
steps_run p k zero b = b
steps_run p k (suc s) b = elements_run p s k (elements p) (steps_run p k s b)

abbrev pub round_runs : Plan → ℕ → Sorted → Sorted
round_runs p k b = steps_run p k (steps_in_round p) (record { states = b.states; tables = emptied p b.tables })

-- the first k iterations
unfoldable pub rounds_run : Plan → ℕ → Sorted → Sorted
rounds_run p zero b = b
rounds_run p (suc k) b = round_runs p k (rounds_run p k b)

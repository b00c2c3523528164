-- One element inside an iteration of the fold.
use Rattle.std.specs.Prelude.{ℕ, suc, ◌&&◌, ◌==◌, Bool, false, if◌then◌else◌, List, [], ◌∷◌, slice_index_or, Option, Some, None}
use Rattle.std.specs.Option.{option_map_or}
use Rattle.chare_base.specs.declared.cells.Cells.{Cells}
use Rattle.chare_base.specs.declared.message.Payload.{Payload}
use Rattle.chare_base.specs.declared.message.Port.{Port}
use Rattle.chare_base.specs.declared.message.Port.TheVariants as ports
use Rattle.chare_base.specs.declared.plan.Entry.{Entry}
use Rattle.chare_base.specs.declared.plan.Part.{Part}
use Rattle.chare_base.specs.declared.plan.Plan.{Plan}
use Rattle.chare_base.specs.declared.plan.Reduction.{Reduction}
use Rattle.chare_base.specs.Elements.{parts_at, place_of, steps_in_round}
use Rattle.chare_base.specs.Entries.{entry_of, reduction_of}
use Rattle.chare_base.specs.Flip.{Flip}
use Rattle.chare_eval.specs.Block.{quiet}
use Rattle.chare_eval.specs.Fold.{fold}
use Rattle.chare_eval.specs.Stage.{Inbox, inbox, part_runs, stage, state_at, with_flip}

-- ---- between two iterations

-- an element's cells after k iterations
abbrev pub cells_between : Plan → List Flip → ℕ → ℕ → Cells
cells_between p lines k e = state_at (fold p lines k) e

-- an element's cells, struck by its flips of an iteration
abbrev pub struck_at : List Flip → ℕ → ℕ → Cells → Cells
struck_at [] k e cells = cells
struck_at (f ∷ more) k e cells = struck_at more k e (if f.at == k && f.element == e then with_flip f cells else cells)

-- ---- what comes to an element in an iteration

-- what is found at a port by elements of the port's array
abbrev pub found_in : Plan → List Flip → ℕ → Port → ℕ → Option Payload
found_in p lines k port e = inbox p (stage p lines k (fold p lines k) (steps_in_round p)).mail e port

abbrev pub messages_to : Plan → List Flip → ℕ → ℕ → Inbox
messages_to p lines k e port = found_in p lines k port e

-- the array whose elements receive at a port
abbrev pub port_array : Plan → Port → Option ℕ
port_array p (ports.Entry entry) = option_map_or (λ (x : Entry). Some x.owner) (entry_of p entry.0) None
port_array p (ports.Total reduction) = option_map_or (λ (x : Reduction). Some x.owner) (reduction_of p reduction.0) None

abbrev pub is_number : ℕ → Option ℕ → Bool
is_number n None = false
is_number n (Some m) = m == n

-- What an element finds at a port in an iteration: nothing at a port of another array.
unfoldable pub message_to : Plan → List Flip → ℕ → Port → ℕ → Option Payload
message_to p lines k port e = if is_number (place_of p e).array (port_array p port) then found_in p lines k port e else None

-- ---- within a step

-- whether a part is among those that are done
abbrev pub is_done : List Bool → ℕ → Bool
is_done done i = slice_index_or done i false

abbrev pub none_done : List Bool
none_done = false ∷ false ∷ false ∷ false ∷ false ∷ false ∷ false ∷ false ∷ []

module _ (p : Plan) (e step iteration : ℕ) (box : Inbox) where
  -- those of these parts that are done, in text order; the first has number n
  abbrev pub set_runs : (ℕ → Bool) → ℕ → List Part → Cells → Cells
  set_runs done n [] cells = cells
  set_runs done n (part ∷ more) cells = set_runs done (suc n) more (if done n then (part_runs p e step iteration box part (quiet cells)).cells else cells)

-- an element's cells before a step of an iteration
abbrev pub cells_before : Plan → List Flip → ℕ → ℕ → ℕ → Cells
cells_before p lines k s e = state_at (stage p lines k (fold p lines k) s).states e

-- an element's cells in an iteration, where of a step these parts are done, in text order
unfoldable pub cells_inside : Plan → List Flip → ℕ → ℕ → List Bool → ℕ → Cells
cells_inside p lines k s done e = set_runs p e s k (messages_to p lines k e) (is_done done) 0 (parts_at p e s) (cells_before p lines k s e)

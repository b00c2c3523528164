-- The lines of a script as a run stands to them.
use Rattle.std.specs.Prelude.{ℕ, ◌+◌, Bool, true, false, ◌==◌, ◌&&◌, ◌||◌, if◌then◌else◌, nat_lt, List, [], ◌∷◌, map, slice_get, slice_set, Option, Some, None}
use Rattle.std.specs.List.{filter}
use Rattle.chare_base.specs.declared.slots.SlotId.{SlotId}
use Rattle.chare_base.specs.Flip.{Flip}
use Rattle.fault_script.specs.declared.fault.Fault.{Fault}
use Rattle.fault_script.specs.declared.fault.Fault.TheVariants as faults
use Rattle.fault_script.specs.Lines.{flips_among}
use Rattle.run_ledger.specs.declared.line.LedgerLine.{LedgerLine}
use Rattle.run_ledger.specs.declared.line.Which.{Which}
use Rattle.run_ledger.specs.declared.line.Which.TheVariants as which

-- ---- what a line does

abbrev pub is_flip_of : ℕ → Fault → Bool
is_flip_of replica (faults.Flip r element cell mask at) = r == replica
is_flip_of replica (faults.Crash slot at) = false

abbrev pub is_flip_below : ℕ → Fault → Bool
is_flip_below k (faults.Flip r element cell mask at) = nat_lt at k
is_flip_below k (faults.Crash slot at) = false

-- a flip or a crash before an iteration
abbrev pub is_below : ℕ → Fault → Bool
is_below k (faults.Flip r element cell mask at) = nat_lt at k
is_below k (faults.Crash slot at) = nat_lt at k

abbrev pub crashed_slot : Fault → Option SlotId
crashed_slot (faults.Flip r element cell mask at) = None
crashed_slot (faults.Crash slot at) = Some slot

abbrev pub kills_below : ℕ → Fault → Bool
kills_below k (faults.Flip r element cell mask at) = false
kills_below k (faults.Crash slot at) = nat_lt at k

abbrev pub kills_of_below : ℕ → ℕ → Fault → Bool
kills_of_below replica k (faults.Flip r element cell mask at) = false
kills_of_below replica k (faults.Crash slot at) = slot.replica == replica && nat_lt at k

-- ---- one line

abbrev pub fault_of : LedgerLine → Fault
fault_of line = line.fault

abbrev pub is_live : LedgerLine → Bool
is_live line = line.live

abbrev pub is_based : LedgerLine → Bool
is_based line = line.based

-- a live line that kills a slot before an iteration
abbrev pub is_crash_below : ℕ → LedgerLine → Bool
is_crash_below k line = line.live && kills_below k line.fault

-- a live line that kills a slot of a replica before an iteration
abbrev pub is_crash_of_below : ℕ → ℕ → LedgerLine → Bool
is_crash_of_below replica k line = line.live && kills_of_below replica k line.fault

-- A line shapes a replica where it shaped the base, or is a live flip of the replica.
abbrev pub shapes : ℕ → LedgerLine → Bool
shapes replica line = line.based || (line.live && is_flip_of replica line.fault)

-- the test by which a set of lines is made
abbrev pub is_of : Which → LedgerLine → Bool
is_of which.Live = is_live
is_of (which.Shapes replica) = shapes replica

-- before the first record
abbrev pub fresh_line : Fault → LedgerLine
fresh_line fault = record { fault = fault; live = true; based = false }

abbrev pub spent_line : LedgerLine → LedgerLine
spent_line line = record { fault = line.fault; live = false; based = line.based }

-- a flip below an iteration is spent
abbrev pub flip_spent : ℕ → LedgerLine → LedgerLine
flip_spent k line = if is_flip_below k line.fault then spent_line line else line

-- a flip or a crash below an iteration is spent
abbrev pub below_spent : ℕ → LedgerLine → LedgerLine
below_spent k line = if is_below k line.fault then spent_line line else line

-- The base is a replica's checkpoint at an iteration: the flips below it that shape the replica are the base's.
abbrev pub rebased : ℕ → ℕ → LedgerLine → LedgerLine
rebased replica k line = record { fault = line.fault; live = line.live; based = shapes replica line && is_flip_below k line.fault }

-- both replicas' checkpoints at an iteration are the base
abbrev pub accepted : ℕ → LedgerLine → LedgerLine
accepted k line = flip_spent k (rebased 0 k line)

-- one replica's checkpoint is the base of both
abbrev pub adopted : ℕ → ℕ → LedgerLine → LedgerLine
adopted k from line = below_spent k (rebased from k line)

-- ---- all lines

-- the slot that the line at a place kills, where it is a live crash line
abbrev pub slot_if : Bool → Fault → Option SlotId
slot_if live fault = if live then crashed_slot fault else None

abbrev pub crash_slot : LedgerLine → Option SlotId
crash_slot line = slot_if line.live line.fault

abbrev pub slot_in : Option LedgerLine → Option SlotId
slot_in None = None
slot_in (Some line) = crash_slot line

abbrev pub crash_at : List LedgerLine → ℕ → Option SlotId
crash_at lines at = slot_in (slice_get lines at)

-- the line at a place is spent
abbrev pub with_spent : List LedgerLine → ℕ → Option LedgerLine → List LedgerLine
with_spent lines at None = lines
with_spent lines at (Some line) = slice_set lines at (spent_line line)

abbrev pub spent_at : ℕ → List LedgerLine → List LedgerLine
spent_at at lines = with_spent lines at (slice_get lines at)

-- 1 where there is a slot that a line kills, else 0
abbrev pub crash_count : Option SlotId → ℕ
crash_count None = 0
crash_count (Some slot) = 1

-- how many live lines kill a slot
abbrev pub live_crashes : List LedgerLine → ℕ
live_crashes [] = 0
live_crashes (line ∷ more) = crash_count (crash_slot line) + live_crashes more

-- the flips of the lines that pass a test, in the script's order
abbrev pub flips_where : (LedgerLine → Bool) → List LedgerLine → List Flip
flips_where test lines = flips_among (map fault_of (filter test lines))

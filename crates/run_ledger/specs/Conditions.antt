-- What each record needs of the ledger.
use Rattle.std.specs.Prelude.{ℕ, zero, suc, ◌+◌, min, Bool, true, false, not, ◌==◌, ◌&&◌, ◌||◌, if◌then◌else◌, nat_le, nat_lt, is_some, is_none, List, [], ◌∷◌, slice_index_or, Option, Some, None}
use Rattle.std.specs.List.{list_any}
use Rattle.chare_base.specs.declared.options.Mode.{Mode}
use Rattle.chare_base.specs.declared.options.Mode.TheVariants as modes
use Rattle.run_ledger.specs.declared.record.Record.{Record}
use Rattle.run_ledger.specs.declared.record.Record.TheVariants.{Accept, Differ, Crash, Mend, Adopt, Both, NoSpare, Lost, Done}
use Rattle.run_ledger.specs.Lines.{crash_at, is_crash_below, is_crash_of_below}
use Rattle.run_ledger.specs.Ledgers.{LedgerState, is_down}

-- ---- tests

abbrev pub is_strong : Mode → Bool
is_strong modes.Strong = true
is_strong modes.Medium = false
is_strong modes.Weak = false

abbrev pub is_weak : Mode → Bool
is_weak modes.Strong = false
is_weak modes.Medium = false
is_weak modes.Weak = true

abbrev pub is_up : LedgerState → ℕ → Bool
is_up l replica = if replica == 0 then not l.first_down else if replica == 1 then not l.second_down else false

abbrev pub other : ℕ → ℕ
other replica = if replica == 0 then 1 else 0

abbrev pub both_up : LedgerState → Bool
both_up l = not l.first_down && not l.second_down

-- the least iteration of the next checkpoint
abbrev pub due : LedgerState → ℕ
due l = min (l.base + l.options.every) l.iterations

-- a checkpoint of both replicas: not before it is due, after the base, and within the job
abbrev pub is_next : LedgerState → ℕ → Bool
is_next l k = nat_le (due l) k && nat_lt l.base k && nat_le k l.iterations

-- A checkpoint of one replica may be the base itself. In weak mode it isn't before it is due.
abbrev pub is_adoptable : LedgerState → ℕ → Bool
is_adoptable l k = nat_le l.base k && nat_le k l.iterations && (not (is_weak l.options.mode) || nat_le (due l) k)

abbrev pub is_spared : LedgerState → Bool
is_spared l = nat_le l.crashes l.options.spares

abbrev pub crash_free : LedgerState → ℕ → Bool
crash_free l k = not (list_any (is_crash_below k) l.lines)

abbrev pub crash_free_of : LedgerState → ℕ → ℕ → Bool
crash_free_of l replica k = not (list_any (is_crash_of_below replica k) l.lines)

-- A node has a copy of its piece of the base where one of its two slots has.
abbrev pub has_copy : List Bool → List Bool → ℕ → Bool
has_copy first second j = slice_index_or first j false || slice_index_or second j false

-- the least of n nodes, from node j on, that has no copy
abbrev pub bare_from : List Bool → List Bool → ℕ → ℕ → Option ℕ
bare_from first second j zero = None
bare_from first second j (suc n) = if has_copy first second j then bare_from first second (suc j) n else Some j

-- the least node that has no copy
abbrev pub bare_node : LedgerState → Option ℕ
bare_node l = bare_from l.first_copies l.second_copies 0 l.options.nodes

abbrev pub is_number : ℕ → Option ℕ → Bool
is_number n None = false
is_number n (Some m) = m == n

-- ---- conditions

-- Of each record the conditions in order, from number 1 on. Where a replica is down and the other is up, the copies that
-- the lost slots need are those of their buddies.
abbrev pub conditions : LedgerState → Record → List Bool
conditions l (Accept k) = not l.ended ∷ both_up l ∷ is_next l k ∷ crash_free l k ∷ []
conditions l (Differ k element) = not l.ended ∷ both_up l ∷ is_next l k ∷ crash_free l k ∷ []
conditions l (Crash line) = not l.ended ∷ is_some (crash_at l.lines line) ∷ []
conditions l (Mend replica) =
    not l.ended ∷ (is_down l replica && is_up l (other replica)) ∷ is_strong l.options.mode ∷ is_spared l ∷ is_none (bare_node l) ∷ []
conditions l (Adopt k from) =
    not l.ended ∷ (is_up l from && is_down l (other from)) ∷ not (is_strong l.options.mode) ∷ is_adoptable l k ∷ crash_free_of l from k
    ∷ is_spared l ∷ is_none (bare_node l) ∷ []
conditions l Both = not l.ended ∷ (l.first_down && l.second_down) ∷ is_spared l ∷ is_none (bare_node l) ∷ []
conditions l NoSpare = not l.ended ∷ not (is_spared l) ∷ []
conditions l (Lost node) = not l.ended ∷ is_spared l ∷ is_number node (bare_node l) ∷ []
conditions l Done = not l.ended ∷ (l.base == l.iterations) ∷ both_up l ∷ []

-- the number of the first of some conditions that fails
abbrev pub first_false : ℕ → List Bool → Option ℕ
first_false i [] = None
first_false i (b ∷ more) = if not b then Some i else first_false (suc i) more

-- the number of the first condition that fails: none where the record may be made
abbrev pub unlawful : LedgerState → Record → Option ℕ
unlawful l r = first_false 1 (conditions l r)

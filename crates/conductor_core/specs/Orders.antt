-- Letters to all slots.
use Rattle.std.specs.Prelude.{ℕ, zero, suc, ◌+◌, nat_lt, Bool, List, [], ◌∷◌, ◌++◌}
use Rattle.chare_base.specs.declared.slots.LineSet.{LineSet}
use Rattle.letter_post.specs.declared.letter.BoxId.TheVariants as boxes
use Rattle.letter_post.specs.declared.letter.Letter.{Letter}
use Rattle.letter_post.specs.declared.letter.Letter.TheVariants as letters
use Rattle.letter_post.specs.declared.letter.Sent.{Sent}
use Rattle.letter_post.specs.declared.stamp.Stamp.{Stamp}
use Rattle.conductor_core.specs.declared.orders.ToAll.{ToAll}
use Rattle.conductor_core.specs.declared.orders.ToAll.TheVariants as all

abbrev pub letter_of : ToAll → Letter
letter_of (all.Restore stamp k live) = letters.Restore stamp k live
letter_of (all.Commit stamp k live) = letters.Commit stamp k live
letter_of (all.Resume stamp) = letters.Resume stamp
letter_of all.Stop = letters.Stop

-- a letter to each of the first n slots of a replica
abbrev pub letters_to : ℕ → Letter → ℕ → List Sent
letters_to replica letter zero = []
letters_to replica letter (suc j) = letters_to replica letter j ++ record { to = boxes.Slot (record { replica = replica; node = j }); letter = letter } ∷ []

-- an order to each slot of each replica, and behind all of these Resume
abbrev pub ordered : ℕ → Letter → Letter → Stamp → Stamp → List Sent
ordered nodes a b first second =
    ((letters_to 0 a nodes ++ letters_to 1 b nodes) ++ letters_to 0 (letters.Resume first) nodes) ++ letters_to 1 (letters.Resume second) nodes

-- all slots go back to the base, where this is the set of live lines
abbrev pub all_back : ℕ → ℕ → ℕ → Stamp → Stamp → List Sent
all_back nodes base live first second = ordered nodes (letters.Restore first base (record { 0 = live })) (letters.Restore second base (record { 0 = live })) first second

-- all slots take their fresh piece as the base
abbrev pub all_taken : ℕ → ℕ → ℕ → Stamp → Stamp → List Sent
all_taken nodes base live first second = ordered nodes (letters.Commit first base (record { 0 = live })) (letters.Commit second base (record { 0 = live })) first second

-- ---- stamps

-- with these lines, in the next epoch
abbrev pub raised : LineSet → Stamp → Stamp
raised lines stamp = record { replica = stamp.replica; epoch = stamp.epoch + 1; lines = lines }

-- with these lines, in the same epoch
abbrev pub relined : LineSet → Stamp → Stamp
relined lines stamp = record { replica = stamp.replica; epoch = stamp.epoch; lines = lines }

-- there is a next epoch
abbrev pub can_rise : Stamp → Bool
can_rise stamp = nat_lt stamp.epoch 4294967295

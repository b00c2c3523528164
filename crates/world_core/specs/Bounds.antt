-- How many turns a schedule has.
use Rattle.std.specs.Prelude.{ℕ, zero, suc, ◌+◌, ◌*◌, ◌^◌, ◌-◌, ◌==◌, min, if◌then◌else◌, List, [], ◌∷◌, length}
use Rattle.chare_base.specs.declared.plan.Entry.{Entry}
use Rattle.chare_base.specs.declared.plan.Plan.{Plan}
use Rattle.chare_base.specs.declared.plan.Reduction.{Reduction}
use Rattle.chare_base.specs.Elements.{elements, parts_at, place_of, steps_of}

-- an array's entries, and its reductions
abbrev pub entries_of : ℕ → List Entry → ℕ
entries_of array [] = 0
entries_of array (entry ∷ more) = (if entry.owner == array then 1 else 0) + entries_of array more

abbrev pub reductions_of : ℕ → List Reduction → ℕ
reductions_of array [] = 0
reductions_of array (x ∷ more) = (if x.owner == array then 1 else 0) + reductions_of array more

-- the parts of an element's first n steps
abbrev pub parts_below : Plan → ℕ → ℕ → ℕ
parts_below p e zero = 0
parts_below p e (suc s) = parts_below p e s + length (parts_at p e s)

-- the parts of an element's steps, and the entries and reductions of its array
unfoldable pub width_of : Plan → ℕ → ℕ
width_of p e = parts_below p e (length (steps_of p e)) + (entries_of (place_of p e).array p.entries + reductions_of (place_of p e).array p.reductions)

-- of the first n elements
abbrev pub width_below : Plan → ℕ → ℕ
width_below p zero = 0
width_below p (suc e) = width_below p e + width_of p e

-- No run of a script of this many fault lines, on this many nodes of each replica, has more events.
unfoldable pub turns_bound : Plan → ℕ → ℕ → ℕ
turns_bound p lines nodes =
    (32 * (lines + 1) * (p.iterations + 130)) * (width_below p (elements p) + (nodes + nodes) * length p.reductions + (nodes + nodes) * (nodes + nodes))

-- at most the greatest number of 64 bits
abbrev pub capped : ℕ → ℕ
capped n = min n (2 ^ 64 - 1)

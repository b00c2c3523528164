-- Written numbers within their ranges. A number's place is that of its first digit.
use Rattle.std.specs.Prelude.{ℕ, not, ◌&&◌, nat_le, List, [], ◌∷◌, Option, Some, None}
use Rattle.job_tree.specs.declared.token.Num.{Num}
use Rattle.job_tree.specs.declared.tree.ArrayDecl.{ArrayDecl}
use Rattle.job_tree.specs.declared.tree.EntryDecl.{EntryDecl}
use Rattle.job_tree.specs.declared.tree.Job.{Job}
use Rattle.job_tree.specs.declared.tree.MemberDecl.{MemberDecl}
use Rattle.job_tree.specs.declared.tree.MemberDecl.TheVariants.{Entry, Reduce}
use Rattle.job_tree.specs.declared.tree.SignedNum.{SignedNum}
use Rattle.job_tree.specs.declared.tree.StateDecl.{StateDecl}
use Rattle.job_rules.specs.declared.fault.CheckFault.TheVariants.{Bound}
use Rattle.job_rules.specs.Faults.{Found, fault_if, first_of, sooner}

abbrev pub outside : ℕ → ℕ → Num → Found
outside low high n = fault_if (not (nat_le low n.value && nat_le n.value high)) (Bound n.at)

-- the same of a number that may be missing
abbrev pub outside_if : ℕ → ℕ → Option Num → Found
outside_if low high (Some n) = outside low high n
outside_if low high None = None

-- a size of an array
abbrev pub size_fault : Option Num → Found
size_fault = outside_if 1 4096

-- how many cells a state has, where it is written
abbrev pub state_bound : StateDecl → Found
state_bound s = outside_if 1 4096 s.cells

-- an offset from -8 to 8
abbrev pub offset_fault : Option SignedNum → Found
offset_fault (Some n) = outside 0 8 n.number
offset_fault None = None

-- at most 8 values, and the coordinates of the offset
abbrev pub entry_bound : EntryDecl → Found
entry_bound e = sooner (sooner (outside_if 1 8 e.values) (offset_fault (Some e.offset.first))) (offset_fault e.offset.second)

abbrev pub member_bound : MemberDecl → Found
member_bound (Entry e) = entry_bound e
member_bound (Reduce r) = None

-- of what was found and the numbers of an array
abbrev pub array_bounds : Found → ArrayDecl → Found
array_bounds found a =
    first_of member_bound (first_of state_bound (sooner (sooner found (size_fault (Some a.sizes.first))) (size_fault a.sizes.second)) a.states) a.members

abbrev pub arrays_bounds : Found → List ArrayDecl → Found
arrays_bounds found [] = found
arrays_bounds found (a ∷ more) = arrays_bounds (array_bounds found a) more

-- of what was found and the written numbers of a job, but for those of its answers
unfoldable pub bounds_found : Job → Found → Found
bounds_found job found = arrays_bounds (sooner found (outside 1 1000000 job.iterations)) job.arrays

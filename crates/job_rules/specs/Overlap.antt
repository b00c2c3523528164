-- The parts of a step run in any order. So no part uses a state that another one writes.
use Rattle.std.specs.Prelude.{Bool, ◌&&◌, ◌==◌, nat_lt, nat_le, List}
use Rattle.std.specs.List.{list_any}
use Rattle.job_rules.specs.declared.fault.CheckFault.TheVariants.{Overlap}
use Rattle.job_rules.specs.declared.notes.StateUse.{StateUse}
use Rattle.job_rules.specs.Faults.{Found, fault_if, first_of}

-- v uses the state of u in an earlier part
abbrev pub used_before : StateUse → StateUse → Bool
used_before u v = v.state == u.state && nat_lt v.part u.part

-- v writes the state of u in an earlier part, or in the same one
abbrev pub written_by : StateUse → StateUse → Bool
written_by u v = v.state == u.state && (v.written && nat_le v.part u.part)

-- A use clashes where an earlier part uses the state and one of the two parts writes it. A part that writes a state uses it:
-- so it clashes where an earlier part uses the state, and an earlier part or this one writes it.
abbrev pub clashes : List StateUse → StateUse → Bool
clashes uses u = list_any (used_before u) uses && list_any (written_by u) uses

abbrev pub use_fault : List StateUse → StateUse → Found
use_fault uses u = fault_if (clashes uses u) (Overlap u.declared u.at)

-- of what was found and the clashes of a step, where these are its uses of states
unfoldable pub overlap_found : List StateUse → Found → Found
overlap_found uses found = first_of (use_fault uses) found uses

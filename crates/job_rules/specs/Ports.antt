-- Each port, an entry or a reduction, is sent to once, at top level, and received from once, in a later step.
use Rattle.std.specs.Prelude.{ℕ, suc, not, ◌||◌, ◌==◌, nat_lt, List, [], ◌∷◌, filter, slice_get, Option, Some, None, is_none}
use Rattle.std.specs.Option.{option_or}
use Rattle.chare_base.specs.Costs.{capped}
use Rattle.job_tree.specs.declared.tree.ArrayDecl.{ArrayDecl}
use Rattle.job_tree.specs.declared.tree.Job.{Job}
use Rattle.job_tree.specs.declared.tree.MemberDecl.{MemberDecl}
use Rattle.job_tree.specs.declared.tree.MemberDecl.TheVariants.{Entry, Reduce}
use Rattle.job_rules.specs.declared.fault.CheckFault.TheVariants.{NotOnce, TooEarly}
use Rattle.job_rules.specs.declared.notes.PortUse.{PortUse}
use Rattle.job_rules.specs.declared.tables.Counts.{Counts}
use Rattle.job_rules.specs.Faults.{Found, fault_if, first_of, sooner}
use Rattle.job_rules.specs.Tables.{counts_after, no_counts}

-- the place of a port's declaration
abbrev pub declared_at : MemberDecl → ℕ
declared_at (Entry e) = e.at
declared_at (Reduce r) = r.at

-- those of a port
abbrev pub uses_of : ℕ → List PortUse → List PortUse
uses_of port uses = filter (λ u. u.port == port) uses

-- ---- what is wrong with the sends and the receipts of one port, which is declared at this place

-- one more than there may be
abbrev pub extra_fault : ℕ → Option PortUse → Found
extra_fault declared (Some u) = Some (NotOnce declared u.at)
extra_fault declared None = None

abbrev pub nested_fault : ℕ → PortUse → Found
nested_fault declared u = fault_if u.nested (NotOnce declared u.at)

-- a second send, one that isn't at top level, a second receipt
abbrev pub too_many : ℕ → List PortUse → List PortUse → Found
too_many declared sends receipts =
    sooner (first_of (nested_fault declared) (extra_fault declared (slice_get sends 1)) sends) (extra_fault declared (slice_get receipts 1))

-- no send or no receipt
abbrev pub too_few : ℕ → Option PortUse → Option PortUse → Found
too_few declared send receipt = fault_if (is_none send || is_none receipt) (NotOnce declared declared)

abbrev pub once_fault : ℕ → List PortUse → List PortUse → Found
once_fault declared sends receipts = option_or (too_many declared sends receipts) (too_few declared (slice_get sends 0) (slice_get receipts 0))

-- a send in a step that isn't before the receiving one
abbrev pub early_fault : ℕ → Option PortUse → Option PortUse → Found
early_fault declared (Some send) (Some receipt) = fault_if (not (nat_lt send.step receipt.step)) (TooEarly declared send.at)
early_fault declared _ _ = None

abbrev pub port_fault : ℕ → List PortUse → List PortUse → Found
port_fault declared sends receipts = sooner (once_fault declared sends receipts) (early_fault declared (slice_get sends 0) (slice_get receipts 0))

-- ---- all ports, of which these are all sends and all receipts

module _ (sent received : List PortUse) where
  -- those of an array, from this number on
  abbrev pub members_found : ℕ → Found → List MemberDecl → Found
  members_found port found [] = found
  members_found port found (m ∷ more) =
      members_found (capped (suc port)) (sooner found (port_fault (declared_at m) (uses_of port sent) (uses_of port received))) more

  -- those of these arrays, behind the counts of what was declared before
  abbrev pub arrays_found : Counts → Found → List ArrayDecl → Found
  arrays_found c found [] = found
  arrays_found c found (a ∷ more) = arrays_found (counts_after c a.members) (members_found c.ports found a.members) more

-- of what was found and what is wrong with the ports of a job, where these are all sends and all receipts
unfoldable pub ports_found : Job → List PortUse → List PortUse → Found → Found
ports_found job sent received found = arrays_found sent received no_counts found job.arrays

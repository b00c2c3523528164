-- Where no declaration breaks a rule.
use Rattle.std.proofs.Common.{◌≡◌, ℕ, suc, Bool, true, false, List, [], ◌∷◌, Option, None, Some, refl, ap, sym, ◌∙◌}
use Rattle.std.specs.Prelude.{◌||◌, is_none}
use Rattle.job_tree.specs.declared.tree.ArrayDecl.{ArrayDecl}
use Rattle.job_tree.specs.declared.tree.Coordinates.{Coordinates}
use Rattle.job_tree.specs.declared.tree.EntryDecl.{EntryDecl}
use Rattle.job_tree.specs.declared.tree.Job.{Job}
use Rattle.job_tree.specs.declared.tree.MemberDecl.{MemberDecl}
use Rattle.job_tree.specs.declared.tree.StateDecl.{StateDecl}
use Rattle.job_rules.specs.declared.fault.CheckFault.TheVariants.{Shape, Unknown}
use Rattle.job_rules.specs.declared.tables.Counts.{Counts}
use Rattle.job_rules.specs.declared.tables.JobNames.{JobNames}
use Rattle.job_rules.specs.Declarations.{array_declared, array_found, arrays_found, declarations_found, dimensions_differ, member_fault, members_found, source_differs, source_fault, state_declared, states_found}
use Rattle.job_rules.specs.Faults.{Found, fault_if, name_fault, nothing, sooner}
use Rattle.job_rules.specs.Tables.{array_number, counts_after, counts_with, no_counts}
use Rattle.job_rules.proofs.Sooner.{sooner_none, unbroken}

module _ (text : List ℕ) (names : JobNames) where
  -- no state from this number on breaks a rule
  abbrev pub StatesKept : ℕ → ℕ → List StateDecl → Type 0
  StatesKept array number [] = Unit {0}
  StatesKept array number (s ∷ more) = (state_declared text names array number s ≡ nothing) × StatesKept array (suc number) more

  states_kept : (array number : ℕ) (found : Found) (states : List StateDecl) → states_found text names array number found states ≡ nothing →
      (found ≡ nothing) × StatesKept array number states
  states_kept array number found [] h = (h, tt)
  states_kept array number found (s ∷ more) h =
      let others = states_kept array (suc number) (sooner found (state_declared text names array number s)) more h in
      let here = sooner_none found (state_declared text names array number s) others.0 in
      (here.0, (here.1, others.1))

  module _ (arrays : List ArrayDecl) where
    -- no member breaks a rule, where these ports were declared before them
    abbrev pub MembersKept : ℕ → Coordinates → Counts → List MemberDecl → Type 0
    MembersKept array sizes counts [] = Unit {0}
    MembersKept array sizes counts (m ∷ more) =
        (member_fault text names arrays array sizes counts.ports m ≡ nothing) × MembersKept array sizes (counts_with counts m) more

    members_kept : (array : ℕ) (sizes : Coordinates) (counts : Counts) (found : Found) (members : List MemberDecl) →
        members_found text names arrays array sizes counts found members ≡ nothing → (found ≡ nothing) × MembersKept array sizes counts members
    members_kept array sizes counts found [] h = (h, tt)
    members_kept array sizes counts found (m ∷ more) h =
        let fault = member_fault text names arrays array sizes counts.ports m in
        let others = members_kept array sizes (counts_with counts m) (sooner found fault) more h in
        let here = sooner_none found fault others.0 in
        (here.0, (here.1, others.1))

    -- neither an array nor what it declares breaks a rule
    abbrev pub ArrayKept : ℕ → Counts → ArrayDecl → Type 0
    ArrayKept number counts a =
        (array_declared text names number a ≡ nothing) × StatesKept number 0 a.states × MembersKept number a.sizes counts a.members

    array_kept : (number : ℕ) (counts : Counts) (found : Found) (a : ArrayDecl) →
        array_found text names arrays number counts found a ≡ nothing → (found ≡ nothing) × ArrayKept number counts a
    array_kept number counts found a h =
        let first = sooner found (array_declared text names number a) in
        let members = members_kept number a.sizes counts (states_found text names number 0 first a.states) a.members h in
        let states = states_kept number 0 first a.states members.0 in
        let here = sooner_none found (array_declared text names number a) states.0 in
        (here.0, (here.1, states.1, members.1))

    -- no array from this number on breaks a rule
    abbrev pub ArraysKept : ℕ → Counts → List ArrayDecl → Type 0
    ArraysKept number counts [] = Unit {0}
    ArraysKept number counts (a ∷ more) = ArrayKept number counts a × ArraysKept (suc number) (counts_after counts a.members) more

    arrays_kept : (number : ℕ) (counts : Counts) (found : Found) (rest : List ArrayDecl) →
        arrays_found text names arrays number counts found rest ≡ nothing → (found ≡ nothing) × ArraysKept number counts rest
    arrays_kept number counts found [] h = (h, tt)
    arrays_kept number counts found (a ∷ more) h =
        let others = arrays_kept (suc number) (counts_after counts a.members) (array_found text names arrays number counts found a) more h in
        let here = array_kept number counts found a others.0 in
        (here.0, (here.1, others.1))

    neither : (a b : Bool) → (a || b) ≡ false → (a ≡ false) × (b ≡ false)
    neither true b h = absurd cc
    neither false b h = (refl, h)

    -- the source of an entry is there, and has its array's shape
    abbrev pub SourceKept : Coordinates → EntryDecl → Type 0
    SourceKept sizes e =
        (n : ℕ) × (array_number text names.arrays e.source ≡ Some n) × (source_differs arrays (Some n) sizes ≡ false)
        × (dimensions_differ e.offset.second sizes.second ≡ false)

    pub source_kept : (sizes : Coordinates) (e : EntryDecl) → source_fault text names arrays sizes e ≡ nothing → SourceKept sizes e
    source_kept sizes e h =
        let source = array_number text names.arrays e.source in
        let differs = source_differs arrays source sizes in
        let other = dimensions_differ e.offset.second sizes.second in
        let missing = fault_if (is_none source) (Unknown e.source.at) in
        let both = sooner_none (sooner (name_fault e.source) missing) (fault_if (differs || other) (Shape e.name.at)) h in
        let there = unbroken (is_none source) (Unknown e.source.at) (sooner_none (name_fault e.source) missing both.0).1 in
        let shape = neither differs other (unbroken (differs || other) (Shape e.name.at) both.1) in
        by source refl there shape.0 shape.1
      where
        by : (o : Option ℕ) → array_number text names.arrays e.source ≡ o → is_none (array_number text names.arrays e.source) ≡ false →
            source_differs arrays (array_number text names.arrays e.source) sizes ≡ false →
            dimensions_differ e.offset.second sizes.second ≡ false → SourceKept sizes e
        by None is there same dims = absurd (let e : true ≡ false = ap is_none (sym is) ∙ there in cc)
        by (Some n) is there same dims = (n, is, ap (λ o. source_differs arrays o sizes) (sym is) ∙ same, dims)

-- where no fault is named, none was found, and no declaration breaks a rule
pub declarations_kept : (text : List ℕ) (names : JobNames) (job : Job) (found : Found) → declarations_found text names job found ≡ nothing →
    (found ≡ nothing) × (name_fault job.name ≡ nothing) × ArraysKept text names job.arrays 0 no_counts job.arrays
unfolding declarations_found
declarations_kept text names job found h =
    let arrays = arrays_kept text names job.arrays 0 no_counts (sooner found (name_fault job.name)) job.arrays h in
    let here = sooner_none found (name_fault job.name) arrays.0 in
    (here.0, here.1, arrays.1)

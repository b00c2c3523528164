-- Names that are declared once.
use Rattle.std.specs.Prelude.{ℕ, ◌==◌, Bool, true, not, ◌&&◌, List, [], ◌∷◌, slice_get}
use Rattle.std.specs.List.{list_any, list_all}
use Rattle.std.specs.Option.{option_map_or}
use Rattle.std.specs.Str.{bytes_eq}
use Rattle.chare_base.specs.declared.plan.Array.{Array}
use Rattle.chare_base.specs.declared.plan.Entry.{Entry}
use Rattle.chare_base.specs.declared.plan.Reduction.{Reduction}
use Rattle.chare_base.specs.declared.plan.State.{State}

-- no item has the name of another
abbrev pub distinct_by : {A : Type 0} → (A → List ℕ) → List A → Bool
distinct_by name [] = true
distinct_by name (x ∷ more) = not (list_any (λ y. bytes_eq (name x) (name y)) more) && distinct_by name more

abbrev pub array_name : Array → List ℕ
array_name a = a.name

abbrev pub state_name : State → List ℕ
state_name s = s.name

-- whether one of these entries is of an array and has this name
abbrev pub entry_named : ℕ → List ℕ → List Entry → Bool
entry_named owner name entries = list_any (λ f. f.owner == owner && bytes_eq name f.name) entries

abbrev pub reduction_named : ℕ → List ℕ → List Reduction → Bool
reduction_named owner name reductions = list_any (λ f. f.owner == owner && bytes_eq name f.name) reductions

-- whether one of an array's states has this name
abbrev pub state_named : List Array → ℕ → List ℕ → Bool
state_named arrays owner name = list_any (λ s. bytes_eq name (state_name s)) (option_map_or (λ a. a.states) (slice_get arrays owner) [])

-- no entry has the name of another of its array
abbrev pub distinct_entries : List Entry → Bool
distinct_entries [] = true
distinct_entries (e ∷ more) = not (entry_named e.owner e.name more) && distinct_entries more

-- no reduction has the name of another of its array
abbrev pub distinct_reductions : List Reduction → Bool
distinct_reductions [] = true
distinct_reductions (r ∷ more) = not (reduction_named r.owner r.name more) && distinct_reductions more

-- nor has one the name of an entry or a state of its array
abbrev pub reduction_is_new : List Array → List Entry → Reduction → Bool
reduction_is_new arrays entries r = not (entry_named r.owner r.name entries) && not (state_named arrays r.owner r.name)

abbrev pub entry_is_new : List Array → Entry → Bool
entry_is_new arrays e = not (state_named arrays e.owner e.name)

unfoldable pub names_hold : List Array → List Entry → List Reduction → Bool
names_hold arrays entries reductions =
    distinct_by array_name arrays && list_all (λ a. distinct_by state_name a.states) arrays
    && distinct_entries entries && list_all (entry_is_new arrays) entries
    && distinct_reductions reductions && list_all (reduction_is_new arrays entries) reductions

-- The verdict on two pieces, record by record.
use Rattle.std.specs.Prelude.{ℕ, zero, suc, ◌+◌, nat_lt, if◌then◌else◌, List, length, take, drop, Option, Some, None}
use Rattle.std.specs.Option.{option_map_or}
use Rattle.std.specs.Str.{bytes_eq}
use Rattle.chare_base.specs.declared.plan.Place.{Place}
use Rattle.chare_base.specs.declared.plan.Plan.{Plan}
use Rattle.chare_base.specs.Elements.{elements}
use Rattle.chare_base.specs.Entries.{first_of, id_of}
use Rattle.pup_state.specs.declared.compare.Verdict.{Verdict}
use Rattle.pup_state.specs.declared.compare.Verdict.TheVariants.{Equal, Differ}
use Rattle.pup_state.specs.Reading.{front_place}
use Rattle.pup_state.specs.Spelling.{size_of}

abbrev pub element_if : ℕ → ℕ → Option ℕ
element_if count e = if nat_lt e count then Some e else None

-- the element whose record begins these bytes, by its array's first element and its index
abbrev pub front_element : Plan → List ℕ → Option ℕ
front_element p bytes =
    option_map_or (λ (place : Place). element_if (elements p) (first_of p.arrays place.array + place.index)) (front_place bytes) None

-- where no element's record begins
abbrev pub rest_verdict : List ℕ → List ℕ → Verdict
rest_verdict a b = if bytes_eq a b then Equal else Differ (id_of 0)

-- where the record of this element begins
abbrev pub verdict_at : Plan → (List ℕ → List ℕ → Verdict) → List ℕ → List ℕ → Option ℕ → Verdict
verdict_at p more a b None = rest_verdict a b
verdict_at p more a b (Some e) =
    if bytes_eq (take (size_of p e) a) (take (size_of p e) b) then more (drop (size_of p e) a) (drop (size_of p e) b) else Differ (id_of e)

-- at most n records
abbrev pub walked : Plan → ℕ → List ℕ → List ℕ → Verdict
walked p zero a b = rest_verdict a b
walked p (suc n) a b = verdict_at p (walked p n) a b (front_element p a)

-- a record has bytes, so there are fewer records than bytes
unfoldable pub verdict_of : Plan → List ℕ → List ℕ → Verdict
verdict_of p a b = walked p (length a) a b

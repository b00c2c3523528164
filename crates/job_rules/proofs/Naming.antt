-- A map's entries as names with meanings.
use Rattle.std.proofs.Common.{◌≡◌, ℕ, Bool, true, false, List, [], ◌∷◌, ◌++◌, Option, None, Some, refl, ap, sym, ◌∙◌}
use Rattle.std.specs.Prelude.{if◌then◌else◌, is_some, is_none}
use Rattle.std.specs.Str.{bytes_eq}
use Rattle.std.specs.Map as map
use Rattle.std.specs.declared.vec.Vec.{Vec}
use Rattle.std.specs.declared.alloc.Global.{Global}
use Rattle.indexmap.specs.IndexMap.{insert_entry}
use Rattle.job_rules.specs.declared.names.Meaning.{Meaning}
use Rattle.job_rules.specs.Names.{Known, declare, known, lookup}

abbrev Entries : Type 0
Entries = List (Vec ℕ Global × Meaning)

-- the entries of the map, with one more
abbrev with_entry : Entries → Vec ℕ Global → Meaning → Entries
with_entry es name m = insert_entry (λ a b. bytes_eq a.items b.items) es name m

-- what the map has at a name
abbrev found_at : List ℕ → Entries → Option Meaning
found_at name es = map.lookup (λ k. bytes_eq name k.items) es

-- a name's meaning is what the map has at it
pub lookup_known : (name : List ℕ) (es : Entries) → lookup (known es) name ≡ found_at name es
unfolding lookup
lookup_known name [] = refl
lookup_known name (e ∷ es) = ap (λ o. if bytes_eq name e.0.items then Some e.1 else o) (lookup_known name es)

not_some : (b : Bool) (x : Meaning) (o : Option Meaning) → (if b then Some x else o) ≡ None → (b ≡ false) × (o ≡ None)
not_some true x o h = absurd (let e : Some x ≡ None = h in cc)
not_some false x o h = (refl, h)

-- a name that the map doesn't have goes last
known_insert : (name : Vec ℕ Global) (m : Meaning) (es : Entries) → found_at name.items es ≡ None →
    known (with_entry es name m) ≡ known es ++ record { name = name.items; meaning = m } ∷ []
known_insert name m [] h = refl
known_insert name m (e ∷ es) h =
    let other = not_some (bytes_eq name.items e.0.items) e.1 (found_at name.items es) h in
    ap (λ b. known (if b then (e.0, m) ∷ es else e ∷ with_entry es name m)) other.0
    ∙ ap (λ ks. record { name = e.0.items; meaning = e.1 } ∷ ks) (known_insert name m es other.1)

none_from : (o : Option Meaning) → is_none o ≡ true → o ≡ None
none_from None h = refl
none_from (Some x) h = absurd cc

-- a name that the map doesn't have is declared by the entry that it gets
pub known_declare : (names : List Known) (bytes : List ℕ) (name : Vec ℕ Global) (m : Meaning) (es new : Entries) → known es ≡ names →
    name.items ≡ bytes → is_none (lookup names bytes) ≡ true → new ≡ with_entry es name m → known new ≡ declare names bytes m
known_declare names bytes name m es new view items fresh inserted =
    let absent : lookup names bytes ≡ None = none_from (lookup names bytes) fresh in
    let at : found_at name.items es ≡ None = sym (lookup_known name.items es) ∙ ap (λ ns. lookup ns name.items) view ∙ ap (λ b. lookup names b) items ∙ absent in
    ap known inserted ∙ known_insert name m es at
    ∙ ap (λ ns. ns ++ record { name = name.items; meaning = m } ∷ []) view
    ∙ ap (λ b. names ++ record { name = b; meaning = m } ∷ []) items
    ∙ sym (ap (λ o. if is_some o then names else names ++ record { name = bytes; meaning = m } ∷ []) absent)

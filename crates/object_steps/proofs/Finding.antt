-- What an element finds at a port: a message that is held, or what an edge gives.
use Rattle.std.proofs.Common.{◌≡◌, ◌∙◌, ℕ, zero, suc, ◌+◌, ◌*◌, ◌<◌, ◌≤◌, Bool, true, false, cond, List, [], ◌∷◌, length, Option, Some, None, ap, arith, refl, subst, sym, ◌⊎◌, inl, inr}
use Rattle.std.specs.Prelude.{IsTrue, is_some, not, slice_get, unwrap_or, ◌==◌, ◌&&◌}
use Rattle.std.specs.List.{list_all}
use Rattle.std.proofs.lemmas.Bool.{and_parts, eq-eqb, eqb-false, eqb-true, leb-true}
use Rattle.std.proofs.lemmas.Option.{none-some, same_Some}
use Rattle.chare_base.specs.declared.message.Need.{Need}
use Rattle.chare_base.specs.declared.message.Need.TheVariants as needs
use Rattle.chare_base.specs.declared.message.Payload.{Payload}
use Rattle.chare_base.specs.declared.message.Port.{Port}
use Rattle.chare_base.specs.declared.message.Port.TheVariants as ports
use Rattle.chare_base.specs.declared.message.Source.{Source}
use Rattle.chare_base.specs.declared.message.Source.TheVariants as sources
use Rattle.chare_base.specs.declared.plan.Entry.{Entry}
use Rattle.chare_base.specs.declared.plan.Plan.{Plan}
use Rattle.chare_base.specs.declared.plan.Reduction.{Reduction}
use Rattle.chare_base.specs.Elements.{place_of}
use Rattle.chare_base.specs.Entries.{entry_of, nothing, source_of}
use Rattle.chare_base.specs.Limits.{entries_of, ports_fit, reductions_of}
use Rattle.chare_base.proofs.Exchanges.{pair}
use Rattle.chare_base.proofs.Facts.{arrays_few, members_held}
use Rattle.chare_eval.specs.Stage.{found, found_at, given}
use Rattle.ref_messages.specs.Queue.{Queue, message}
use Rattle.object_steps.specs.Objects.{arrived_at, edge_at, edge_given, edge_of, held_for, is_surrounded, key_of, read_from, sent_from}
use Rattle.object_steps.proofs.Kept.{there_below}

some_found : (source : Source) (m : Option Payload) → is_some m ≡ true → true ≡ is_some (found source m)
some_found (sources.Element sender) m h = sym h
some_found (sources.Edge payload) m h = refl

pub held : (p : Plan) (e : ℕ) (port : Port) (m : Option Payload) → is_some m ≡ true → true ≡ is_some (found_at p e port m)
held p e (ports.Entry entry) m h = some_found (source_of p entry.0 e) m h
held p e (ports.Total reduction) m h = sym h

none_found : (source : Source) (m : Option Payload) → is_some m ≡ false → is_some (edge_of source) ≡ is_some (found source m)
none_found (sources.Element sender) m h = sym h
none_found (sources.Edge payload) m h = refl

pub at_edge : (p : Plan) (e : ℕ) (port : Port) (m : Option Payload) → is_some m ≡ false → is_some (edge_at p e port) ≡ is_some (found_at p e port m)
at_edge p e (ports.Entry entry) m h = none_found (source_of p entry.0 e) m h
at_edge p e (ports.Total reduction) m h = sym h

-- what a part reads is what it is given
read_found : (source : Source) (m : Option Payload) → read_from (edge_of source) m ≡ unwrap_or (found source m) nothing
read_found (sources.Element sender) m = refl
read_found (sources.Edge payload) m = refl

pub read_given : (p : Plan) (e iteration : ℕ) (mail : Queue) (need : Need) → read_from (edge_given p e need) (held_for need iteration mail) ≡ given need (arrived_at p e iteration mail)
read_given p e iteration mail needs.Nothing = refl
read_given p e iteration mail (needs.Port (ports.Entry entry)) = read_found (source_of p entry.0 e) (message mail (key_of iteration (ports.Entry entry)))
read_given p e iteration mail (needs.Port (ports.Total reduction)) = refl

-- ---- an element to which some element sends at each entry

no_edge : (own : Bool) (edge : Option Payload) → own ≡ true → not (own && is_some edge) ≡ true → edge ≡ None
no_edge true None own h = refl
no_edge true (Some payload) own h = absurd cc
no_edge false edge own h = absurd cc

sent_of : (p : Plan) (e n : ℕ) (entries : List Entry) (i : ℕ) (entry : Entry) → sent_from p e n entries ≡ true → slice_get entries i ≡ Some entry → entry.owner ≡ (place_of p e).array →
    edge_of (source_of p (n + i) e) ≡ None
sent_of p e n [] i entry all is own = absurd (none-some entry is)
sent_of p e n (x ∷ more) zero entry all is own =
    let here : n + 0 ≡ n = omega arith in
    let mine : x.owner ≡ (place_of p e).array = ap (λ (y : Entry). y.owner) (same_Some x entry is) ∙ own in
    ap (λ k. edge_of (source_of p k e)) here
    ∙ no_edge (x.owner == (place_of p e).array) (edge_of (source_of p n e)) (eq-eqb x.owner (place_of p e).array mine) (and_parts _ _ all).0
sent_of p e n (x ∷ more) (suc i) entry all is own =
    let moved : n + suc i ≡ suc n + i = omega arith in
    ap (λ k. edge_of (source_of p k e)) moved ∙ sent_of p e (suc n) more i entry (and_parts _ _ all).1 is own

-- at an entry of its array
pub sent : (p : Plan) (x e : ℕ) (entry : Entry) → entry_of p x ≡ Some entry → is_surrounded p e ≡ true → entry.owner ≡ (place_of p e).array → edge_of (source_of p x e) ≡ None
unfolding is_surrounded
sent p x e entry is all own =
    let from_zero : 0 + x ≡ x = omega arith in
    ap (λ k. edge_of (source_of p k e)) (sym from_zero) ∙ sent_of p e 0 p.entries x entry all is own

-- ---- there are few entries

-- how many of these are of the first n arrays
abbrev owned : ℕ → List Entry → ℕ
owned zero entries = 0
owned (suc n) entries = owned n entries + entries_of n entries

none_less : (n : ℕ) (x : Entry) (more : List Entry) → owned n more ≤ owned n (x ∷ more)
none_less zero x more = omega arith
none_less (suc n) x more = by (x.owner == n) (none_less n x more)
  where
    by : (b : Bool) → owned n more ≤ owned n (x ∷ more) → owned n more + entries_of n more ≤ owned n (x ∷ more) + cond b (suc (entries_of n more)) (entries_of n more)
    by true less = omega (arith, less)
    by false less = omega (arith, less)

one_more : (n : ℕ) (x : Entry) (more : List Entry) → x.owner < n → suc (owned n more) ≤ owned n (x ∷ more)
one_more zero x more h = absurd (omega (arith, h))
one_more (suc n) x more h = by (x.owner == n) refl (one_more n x more)
  where
    by : (b : Bool) → (x.owner == n) ≡ b → (x.owner < n → suc (owned n more) ≤ owned n (x ∷ more)) → suc (owned n more + entries_of n more) ≤ owned n (x ∷ more) + cond b (suc (entries_of n more)) (entries_of n more)
    by true same less = omega (arith, none_less n x more)
    by false other less = omega (arith, less (omega (arith, h, eqb-false x.owner n other)))

all_owned : (n : ℕ) (entries : List Entry) → ((i : ℕ) (x : Entry) → slice_get entries i ≡ Some x → x.owner < n) → length entries ≤ owned n entries
all_owned n [] each = omega arith
all_owned n (x ∷ more) each = omega (arith, one_more n x more (each 0 x refl), all_owned n more (λ i y is. each (suc i) y is))

-- an array has none, or its number of entries is tested
few_of : (all : List Entry) (reductions : List Reduction) (n : ℕ) (entries : List Entry) → IsTrue (list_all (λ x. ports_fit all reductions x.owner) entries) →
    (entries_of n entries ≡ 0) ⊎ (entries_of n all ≤ 16)
few_of all reductions n [] h = inl refl
few_of all reductions n (x ∷ more) h = by (x.owner == n) refl (few_of all reductions n more (and_parts _ _ h).1)
  where
    test : IsTrue (ports_fit all reductions x.owner)
    test = (and_parts _ _ h).0

    by : (b : Bool) → (x.owner == n) ≡ b → (entries_of n more ≡ 0) ⊎ (entries_of n all ≤ 16) → (cond b (suc (entries_of n more)) (entries_of n more) ≡ 0) ⊎ (entries_of n all ≤ 16)
    by true same later =
        let few : entries_of n all + reductions_of n reductions ≤ 16 =
        leb-true (entries_of n all + reductions_of n reductions) 16 (subst (λ k. IsTrue (ports_fit all reductions k)) (eqb-true x.owner n same) test) in
        inr (omega (arith, few))
    by false other later = later

module _ (p : Plan) where
  few_each : (n : ℕ) → entries_of n p.entries ≤ 16
  few_each n = by (few_of p.entries p.reductions n p.entries (and_parts _ _ (and_parts _ _ (members_held p)).0).1)
    where
      by : (entries_of n p.entries ≡ 0) ⊎ (entries_of n p.entries ≤ 16) → entries_of n p.entries ≤ 16
      by (inl none) = omega (arith, none)
      by (inr few) = few

  few_owned : (n : ℕ) → owned n p.entries ≤ 16 * n
  few_owned zero = omega arith
  few_owned (suc n) = omega (arith, few_owned n, few_each n)

  owner_there : (i : ℕ) (x : Entry) → slice_get p.entries i ≡ Some x → x.owner < length p.arrays
  owner_there i x is = let there = (pair p i x is).owner in there_below p.arrays x.owner there.array there.is

  pub entries_few : length p.entries ≤ 128
  entries_few = omega (arith, all_owned (length p.arrays) p.entries owner_there, few_owned (length p.arrays), arrays_few p)

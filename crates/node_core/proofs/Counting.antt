-- A contribution counted by its place in the list.
use Rattle.std.proofs.Common.{◌≡◌, ℕ, zero, suc, ◌+◌, ◌<◌, ℤ, Bool, true, false, cond, List, [], ◌∷◌, ◌++◌, length, refl, ap, sym, ◌∙◌, arith, Option, Some, None}
use Rattle.std.specs.Prelude.{is_some, slice_get, slice_index_or, slice_set, remove}
use Rattle.object_steps.specs.Partial.{whole}
use Rattle.node_core.specs.Gatherings.{Gathering, Tallied, counted, counted_at, gathering_at, given_to, is_of, settled, settled_as, settled_at, settled_by, settled_by_place, settled_in, with_first}

-- a place behind the first
behind : (i rank : ℕ) (value : ℤ) (g : Gathering) (more : List Gathering) → with_first g (settled_in i rank value more) ≡ settled_in (suc i) rank value (g ∷ more)
behind i rank value g more = by (slice_get more i)
  where
    whole_now : (h : Gathering) (o : Option ℤ) → with_first g (settled_at i h more o) ≡ settled_at (suc i) h (g ∷ more) o
    whole_now h None = refl
    whole_now h (Some total) = refl

    by : (o : Option Gathering) → with_first g (settled_by_place i rank value more o) ≡ settled_by_place (suc i) rank value (g ∷ more) o
    by None = refl
    by (Some h) = whole_now (given_to rank value h) (whole (given_to rank value h).gathered)

abbrev record_of : List Gathering → Option ℤ → Tallied
record_of gatherings total = record { gatherings = gatherings; total = total }

-- the first of the list
first_there : (g h : Gathering) (more : List Gathering) (o : Option ℤ) → settled_by o h more ≡ settled_at 0 h (g ∷ more) o
first_there g h more None = refl
first_there g h more (Some total) = refl

-- what is found, the first having number n
abbrev FoundAs : Tallied → Gathering → ℕ → ℤ → ℕ → List Gathering → Option ℕ → Type 0
FoundAs t new rank value n all None = t ≡ settled_in (length all) rank value (all ++ new ∷ [])
FoundAs t new rank value n all (Some m) = (i : ℕ) × (m ≡ n + i) × (t ≡ settled_in i rank value all)

abbrev Found : Gathering → ℕ → ℤ → ℕ → List Gathering → Option ℕ → Type 0
Found new rank value n all o = FoundAs (counted new rank value all) new rank value n all o

found : (new : Gathering) (rank : ℕ) (value : ℤ) (n : ℕ) (all : List Gathering) → Found new rank value n all (gathering_at new.reduction new.iteration n all)
found new rank value n [] = first_there new (given_to rank value new) [] (whole (given_to rank value new).gathered)
found new rank value n (g ∷ more) = by (is_of new.reduction new.iteration g) (found new rank value (suc n) more)
  where
    rest : (o : Option ℕ) → Found new rank value (suc n) more o → (counted_of : Tallied) → counted_of ≡ with_first g (counted new rank value more) →
        FoundAs counted_of new rank value n (g ∷ more) o
    rest None h t is = is ∙ ap (with_first g) h ∙ behind (length more) rank value g (more ++ new ∷ [])
    rest (Some m) h t is = (suc h.0, omega (arith, h.1), is ∙ ap (with_first g) h.2 ∙ behind h.0 rank value g more)

    by : (b : Bool) → Found new rank value (suc n) more (gathering_at new.reduction new.iteration (suc n) more) →
        FoundAs (cond b (settled (given_to rank value g) more) (with_first g (counted new rank value more))) new rank value n (g ∷ more) (cond b (Some n) (gathering_at new.reduction new.iteration (suc n) more))
    by true h = (0, omega arith, first_there g (given_to rank value g) more (whole (given_to rank value g).gathered))
    by false h = rest (gathering_at new.reduction new.iteration (suc n) more) h (with_first g (counted new rank value more)) refl

pub counted_by_place : (new : Gathering) (rank : ℕ) (value : ℤ) (all : List Gathering) → counted new rank value all ≡ counted_at new rank value all (gathering_at new.reduction new.iteration 0 all)
counted_by_place new rank value all = by (gathering_at new.reduction new.iteration 0 all) (found new rank value 0 all)
  where
    by : (o : Option ℕ) → Found new rank value 0 all o → counted new rank value all ≡ counted_at new rank value all o
    by None h = h
    by (Some m) h = h.2 ∙ ap (λ i. settled_in i rank value all) (let e : m ≡ 0 + h.0 = h.1 in omega (arith, e))

-- ---- the code's steps

there : (all : List Gathering) (i : ℕ) (g : Gathering) → i < length all → g ≡ slice_index_or all i g → slice_get all i ≡ Some g
there [] i g h is = absurd (omega (arith, h))
there (x ∷ more) zero g h is = ap Some (sym is)
there (x ∷ more) (suc i) g h is = there more i g (omega (arith, h)) is

-- after a change at a place that place shows it
changed : (all : List Gathering) (i : ℕ) (h y : Gathering) → i < length all → y ≡ slice_index_or (slice_set all i h) i y → y ≡ h
changed [] i h y l is = absurd (omega (arith, l))
changed (x ∷ more) zero h y l is = is
changed (x ∷ more) (suc i) h y l is = changed more i h y (omega (arith, l)) is

pub kept_on : (all : List Gathering) (i rank : ℕ) (value : ℤ) (g h y : Gathering) (total : Option ℤ) → i < length all → g ≡ slice_index_or all i g → h ≡ given_to rank value g → y ≡ slice_index_or (slice_set all i h) i y →
    total ≡ whole y.gathered → is_some total ≡ false → record_of (slice_set all i h) total ≡ settled_in i rank value all
kept_on all i rank value g h y total l got made seen is none =
    by total none (is ∙ ap (λ (q : Gathering). whole q.gathered) (changed all i h y l seen ∙ made))
    ∙ ap (λ o. settled_by_place i rank value all o) (sym (there all i g l got))
  where
    by : (o : Option ℤ) → is_some o ≡ false → o ≡ whole (given_to rank value g).gathered → record_of (slice_set all i h) o ≡ settled_as i all (given_to rank value g)
    by (Some v) n w = absurd (let q : true ≡ false = n in cc)
    by None n w = ap (λ q. record_of (slice_set all i q) None) made ∙ ap (settled_at i (given_to rank value g) all) w

pub taken_out : (all rest : List Gathering) (i rank : ℕ) (value : ℤ) (g h y : Gathering) (total : Option ℤ) → i < length all → g ≡ slice_index_or all i g → h ≡ given_to rank value g → y ≡ slice_index_or (slice_set all i h) i y →
    total ≡ whole y.gathered → is_some total ≡ true → rest ≡ remove (slice_set all i h) i → record_of rest total ≡ settled_in i rank value all
taken_out all rest i rank value g h y total l got made seen is some gone =
    by total some (is ∙ ap (λ (q : Gathering). whole q.gathered) (changed all i h y l seen ∙ made))
    ∙ ap (λ o. settled_by_place i rank value all o) (sym (there all i g l got))
  where
    by : (o : Option ℤ) → is_some o ≡ true → o ≡ whole (given_to rank value g).gathered → record_of rest o ≡ settled_as i all (given_to rank value g)
    by None n w = absurd (let q : false ≡ true = n in cc)
    by (Some v) n w = ap (λ q. record_of q (Some v)) (gone ∙ ap (λ q. remove (slice_set all i q) i) made) ∙ ap (settled_at i (given_to rank value g) all) w

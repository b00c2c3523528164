-- What all nodes' verdicts say.
use Rattle.std.proofs.Common.{◌≡◌, ℕ, zero, suc, ◌<◌, ◌≤◌, ◌⊎◌, Bool, true, false, cond, List, [], ◌∷◌, length, refl, ap, sym, ◌∙◌, arith, inl, inr, Option, Some, None}
use Rattle.std.specs.Prelude.{is_some, nat_lt}
use Rattle.std.specs.List.{list_all}
use Rattle.std.proofs.lemmas.Bool.{ltb-false, ltb-true}
use Rattle.chare_base.specs.declared.plan.ElementId.{ElementId}
use Rattle.pup_state.specs.declared.compare.Verdict.{Verdict}
use Rattle.pup_state.specs.declared.compare.Verdict.TheVariants.{Equal, Differ}
use Rattle.conductor_core.specs.Tells.{verdict_at}
use Rattle.conductor_core.specs.Verdicts.{difference_in, least_difference, least_from, lesser}

-- ---- the lesser of two

lesser_of : (a b : Option ElementId) (e : ElementId) → lesser a b ≡ Some e → (a ≡ Some e) ⊎ (b ≡ Some e)
lesser_of None b e is = inr is
lesser_of (Some x) None e is = inl is
lesser_of (Some x) (Some y) e is = by (nat_lt y.0 x.0) is
  where
    by : (t : Bool) → cond t (Some y) (Some x) ≡ Some e → (Some x ≡ Some e) ⊎ (Some y ≡ Some e)
    by true is = inr is
    by false is = inl is

-- there is a lesser one, at most this
record AtMost (found : Option ElementId) (e : ElementId) : Type 0 where
  pub least : ElementId
  pub is : found ≡ Some least
  pub below : least.0 ≤ e.0

lesser_left : (b : Option ElementId) (e : ElementId) → AtMost (lesser (Some e) b) e
lesser_left None e = record { least = e; is = refl; below = omega arith }
lesser_left (Some y) e = by (nat_lt y.0 e.0) refl
  where
    by : (t : Bool) → nat_lt y.0 e.0 ≡ t → AtMost (cond t (Some y) (Some e)) e
    by true h = record { least = y; is = refl; below = omega (arith, ltb-true y.0 e.0 h) }
    by false h = record { least = e; is = refl; below = omega arith }

lesser_right : (a : Option ElementId) (e : ElementId) → AtMost (lesser a (Some e)) e
lesser_right None e = record { least = e; is = refl; below = omega arith }
lesser_right (Some x) e = by (nat_lt e.0 x.0) refl
  where
    by : (t : Bool) → nat_lt e.0 x.0 ≡ t → AtMost (cond t (Some e) (Some x)) e
    by true h = record { least = e; is = refl; below = omega arith }
    by false h = record { least = x; is = refl; below = omega (arith, ltb-false e.0 x.0 h) }

-- ---- the least of all

-- a node's verdict names an element
pub record NamedBy (verdicts : List (Option Verdict)) (e : ElementId) : Type 0 where
  pub node : ℕ
  pub names : difference_in (verdict_at verdicts node) ≡ Some e

pub record LeastNamed (found : Option ElementId) (verdicts : List (Option Verdict)) (e : ElementId) : Type 0 where
  pub origin : (found ≡ Some e) ⊎ NamedBy verdicts e
  pub first : (other : ElementId) → found ≡ Some other → e.0 ≤ other.0
  pub all : (j : ℕ) (other : ElementId) → difference_in (verdict_at verdicts j) ≡ Some other → e.0 ≤ other.0

least_named : (found : Option ElementId) (verdicts : List (Option Verdict)) (e : ElementId) → least_from found verdicts ≡ Some e → LeastNamed found verdicts e
least_named found [] e is = record {
  origin = inl is;
  first = λ other same. let q : Some other ≡ Some e = sym same ∙ is in let r : other ≡ e = cc in omega (arith, ap (λ (x : ElementId). x.0) r);
  all = λ j other names. absurd (let q : None ≡ Some other = names in cc);
}
least_named found (v ∷ more) e is =
    let rest : LeastNamed (lesser found (difference_in v)) more e = least_named (lesser found (difference_in v)) more e is in
    record {
      origin = elim rest.origin [ inl here ↦ here_or (lesser_of found (difference_in v) e here) | inr named ↦ inr (record { node = suc named.node; names = named.names }) ];
      first = λ other same. below_left other same rest;
      all = λ j other names. below_all j other names rest;
    }
  where
    here_or : (found ≡ Some e) ⊎ (difference_in v ≡ Some e) → (found ≡ Some e) ⊎ NamedBy (v ∷ more) e
    here_or (inl before) = inl before
    here_or (inr named) = inr (record { node = 0; names = named })

    below_left : (other : ElementId) → found ≡ Some other → LeastNamed (lesser found (difference_in v)) more e → e.0 ≤ other.0
    below_left other same rest =
        let m : AtMost (lesser (Some other) (difference_in v)) other = lesser_left (difference_in v) other in
        omega (arith, m.below, rest.first m.least (ap (λ f. lesser f (difference_in v)) same ∙ m.is))

    below_all : (j : ℕ) (other : ElementId) → difference_in (verdict_at (v ∷ more) j) ≡ Some other → LeastNamed (lesser found (difference_in v)) more e → e.0 ≤ other.0
    below_all zero other names rest =
        let m : AtMost (lesser found (Some other)) other = lesser_right found other in
        omega (arith, m.below, rest.first m.least (ap (lesser found) names ∙ m.is))
    below_all (suc j) other names rest = rest.all j other names

pub least_of_all : (verdicts : List (Option Verdict)) (e : ElementId) → least_difference verdicts ≡ Some e → LeastNamed None verdicts e
least_of_all verdicts e is = least_named None verdicts e is

none_lesser : (a b : Option ElementId) → lesser a b ≡ None → (a ≡ None) × (b ≡ None)
none_lesser None b is = (refl, is)
none_lesser (Some x) None is = absurd (let q : Some x ≡ None = is in cc)
none_lesser (Some x) (Some y) is = by (nat_lt y.0 x.0) is
  where
    by : (t : Bool) → cond t (Some y) (Some x) ≡ None → (Some x ≡ None) × (Some y ≡ None)
    by true is = absurd (let q : Some y ≡ None = is in cc)
    by false is = absurd (let q : Some x ≡ None = is in cc)

-- where none is named, no verdict names one
none_named : (found : Option ElementId) (verdicts : List (Option Verdict)) → least_from found verdicts ≡ None → (found ≡ None) × ((j : ℕ) → difference_in (verdict_at verdicts j) ≡ None)
none_named found [] is = (is, λ j. refl)
none_named found (v ∷ more) is =
    let rest = none_named (lesser found (difference_in v)) more is in
    let both = none_lesser found (difference_in v) rest.0 in
    (both.0, λ j. at j both.1 rest.1)
  where
    at : (j : ℕ) → difference_in v ≡ None → ((i : ℕ) → difference_in (verdict_at more i) ≡ None) → difference_in (verdict_at (v ∷ more) j) ≡ None
    at zero here rest = here
    at (suc j) here rest = rest j

pub none_differs : (verdicts : List (Option Verdict)) (j : ℕ) → least_difference verdicts ≡ None → difference_in (verdict_at verdicts j) ≡ None
none_differs verdicts j is = (none_named None verdicts is).1 j

-- ---- all are there

pub record ThereAt (verdicts : List (Option Verdict)) (j : ℕ) : Type 0 where
  pub verdict : Verdict
  pub is : verdict_at verdicts j ≡ Some verdict

pub each_there : (verdicts : List (Option Verdict)) (j : ℕ) → list_all is_some verdicts ≡ true → j < length verdicts → ThereAt verdicts j
each_there [] j all h = absurd (omega (arith, h))
each_there (None ∷ more) j all h = absurd (let q : false ≡ true = all in cc)
each_there (Some v ∷ more) zero all h = record { verdict = v; is = refl }
each_there (Some v ∷ more) (suc j) all h =
    let rest : ThereAt more j = each_there more j all (omega (arith, h)) in
    record { verdict = rest.verdict; is = rest.is }

-- what a verdict names
pub named_differs : (v : Option Verdict) (e : ElementId) → difference_in v ≡ Some e → v ≡ Some (Differ e)
named_differs None e is = absurd (let q : None ≡ Some e = is in cc)
named_differs (Some Equal) e is = absurd (let q : None ≡ Some e = is in cc)
named_differs (Some (Differ f)) e is = let q : Some f ≡ Some e = is in let r : f ≡ e = cc in ap (λ x. Some (Differ x)) r

pub unnamed_equal : (v : Verdict) → difference_in (Some v) ≡ None → v ≡ Equal
unnamed_equal Equal is = refl
unnamed_equal (Differ f) is = absurd (let q : Some f ≡ None = is in cc)

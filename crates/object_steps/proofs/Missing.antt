-- How many contributions are missing, and what those that were made make.
use Rattle.std.proofs.Common.{◌≡◌, ℕ, zero, suc, ◌<◌, ◌≤◌, ℤ, pos, Bool, true, false, List, [], ◌∷◌, length, refl, ap, sym, ◌∙◌, arith, Option, Some, None}
use Rattle.std.specs.Prelude.{is_some, IsSome, ◌↔◌, if◌then◌else◌, slice_index_or, slice_set, replicate}
use Rattle.std.specs.List.{list_all}
use Rattle.chare_base.specs.declared.plan.How.{How}
use Rattle.chare_base.specs.Total.{both, joined, joined_to}
use Rattle.chare_base.proofs.Joined.{both_none}
use Rattle.object_steps.specs.Partial.{Keeps, missing, total_of, values, whole}

pub all_missing : (n : ℕ) → missing (replicate n None) ≡ n
all_missing zero = refl
all_missing (suc n) = ap suc (all_missing n)

pub one_less : (given : List (Option ℤ)) (i : ℕ) (v : ℤ) (d : Option ℤ) → i < length given → slice_index_or given i d ≡ None → missing given ≡ suc (missing (slice_set given i (Some v)))
one_less [] i v d l h = absurd (omega (arith, l))
one_less (None ∷ more) zero v d l h = refl
one_less (Some x ∷ more) zero v d l h = absurd (let e : Some x ≡ None = h in cc)
one_less (None ∷ more) (suc i) v d l h = ap suc (one_less more i v d (omega (arith, l)) h)
one_less (Some x ∷ more) (suc i) v d l h = one_less more i v d (omega (arith, l)) h

pub none_missing : (given : List (Option ℤ)) → missing given ≡ 0 → list_all is_some given ≡ true
none_missing [] h = refl
none_missing (None ∷ more) h = absurd (omega (arith, h))
none_missing (Some v ∷ more) h = none_missing more h

pub some_missing : (given : List (Option ℤ)) (n : ℕ) → missing given ≡ n → (n ≡ 0 → ⊥) → list_all is_some given ≡ false
some_missing [] n h c = absurd (c (sym h))
some_missing (None ∷ more) n h c = refl
some_missing (Some v ∷ more) n h c = some_missing more n h c

pub some_left : (given : List (Option ℤ)) (i left : ℕ) (d : Option ℤ) → i < length given → slice_index_or given i d ≡ None → left ≡ missing given → 1 ≤ left
some_left given i left d l h e = let more : missing given ≡ suc (missing (slice_set given i (Some (pos 0)))) = one_less given i (pos 0) d l h in omega (arith, e, more)

-- one contribution more, if it was made
pub joined_next : (how : How) (total v : Option ℤ) (more : List (Option ℤ)) → joined_to how (both how total v) (values more) ≡ joined_to how total (values (v ∷ more))
joined_next how total None more = ap (λ t. joined_to how t (values more)) (both_none how total)
joined_next how total (Some v) more = refl

-- ---- a total

joined_some : (how : How) (x : ℤ) (vs : List ℤ) → is_some (joined_to how (Some x) vs) ≡ true
joined_some how x [] = refl
joined_some how x (v ∷ vs) = joined_some how (joined how x v) vs

total_some : (how : How) (given : List (Option ℤ)) → 1 ≤ length given → missing given ≡ 0 → is_some (total_of how given) ≡ true
total_some how [] h all = absurd (omega (arith, h))
total_some how (None ∷ more) h all = absurd (omega (arith, all))
total_some how (Some v ∷ more) h all = joined_some how v (values more)

abbrev whole_of : How → List (Option ℤ) → Bool → Option ℤ
whole_of how given all = if all then total_of how given else None

-- the total is there exactly where no contribution is missing
pub whole_some : (how : How) (given : List (Option ℤ)) (left : ℕ) → Keeps left given → IsSome (whole (record { how = how; given = given })) ↔ (missing given ≡ 0)
whole_some how given left keeps = (to (missing given) refl, from)
  where
    to : (n : ℕ) → missing given ≡ n → is_some (whole_of how given (list_all is_some given)) ≡ true → missing given ≡ 0
    to zero m some = m
    to (suc n) m some =
        let none : list_all is_some given ≡ false = some_missing given (suc n) m (λ z. absurd (omega (arith, z))) in
        let e : false ≡ true = sym (ap (λ all. is_some (whole_of how given all)) none) ∙ some in
        absurd cc

    from : missing given ≡ 0 → is_some (whole_of how given (list_all is_some given)) ≡ true
    from m = ap (λ all. is_some (whole_of how given all)) (none_missing given m) ∙ total_some how given keeps.some m

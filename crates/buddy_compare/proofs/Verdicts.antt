-- What the verdicts of one node and of all nodes tell.
use Rattle.std.proofs.Common.{◌≡◌, ◌≢◌, ℕ, zero, suc, ◌+◌, ◌<◌, Bool, true, false, cond, List, [], ◌∷◌, ◌++◌, length, refl, ap, sym, ◌∙◌, arith, subst, Some}
use Rattle.std.specs.Prelude.{◌==◌, slice_get, slice_index_or}
use Rattle.std.specs.List.{AllByRecursion, Contains}
use Rattle.std.specs.Str.{bytes_eq}
use Rattle.std.proofs.lemmas.Bool.{eqb-true}
use Rattle.std.proofs.lemmas.Bool.Decides.{Decides-eqb}
use Rattle.std.proofs.lemmas.Slice.Eq.{bytes_eq-Decides}
use Rattle.chare_base.specs.declared.cells.Cells.{Cells}
use Rattle.chare_base.specs.declared.plan.ElementId.{ElementId}
use Rattle.chare_base.specs.declared.plan.Plan.{Plan}
use Rattle.chare_base.specs.Elements.{elements}
use Rattle.chare_base.specs.Entries.{id_of}
use Rattle.chare_base.specs.Placing.{members, members_from}
use Rattle.chare_base.specs.Shape.{Shaped}
use Rattle.pup_state.specs.declared.compare.Verdict.{Verdict}
use Rattle.pup_state.specs.declared.compare.Verdict.TheVariants.{Equal, Differ}
use Rattle.pup_state.specs.Spelling.{head, pack, record_spelling, records_from}
use Rattle.buddy_compare.specs.Laws.{AllEqual, Ascending, LeastOfAll, LeastOfThese, NamesTheLeast, SameRecord, node_verdict, record_in}
use Rattle.buddy_compare.proofs.Walking.{first_differing, first_of_these}

-- ---- lists

all_to : {P Q : ℕ → Type 0} (xs : List ℕ) → ((i : ℕ) → P i → Q i) → AllByRecursion P xs → AllByRecursion Q xs
all_to [] to h = tt
all_to (x ∷ xs) to h = (to x h.0, all_to xs to h.1)

contained : (P : ℕ → Type 0) (xs : List ℕ) (x : ℕ) → AllByRecursion P xs → Contains xs x → P x
contained P [] x h c = absurd (omega (arith, c.1))
contained P (y ∷ xs) x h c = by c.0 c.1 c.2 (λ d. contained P xs x h.1 d)
  where
    by : (i : ℕ) → i < suc (length xs) → slice_index_or (y ∷ xs) i x ≡ x → (Contains xs x → P x) → P x
    by zero below is rest = subst P is h.0
    by (suc i) below is rest = rest (i, omega (arith, below), is)

-- ---- the elements of a node

-- what holds of each element that lives on a node holds of the node's members, and back
members_have : (P : ℕ → Type 0) (n : ℕ) (place : List ℕ) (j : ℕ) → ((i : ℕ) → i < length place → slice_get place i ≡ Some j → P (n + i)) → AllByRecursion P (members_from n place j)
members_have P n [] j h = tt
members_have P n (node ∷ more) j h =
    by (node == j) refl (members_have P (suc n) more j (λ i below is. subst P (let q : n + suc i ≡ suc n + i = omega arith in q) (h (suc i) (omega (arith, below)) is)))
  where
    by : (b : Bool) → (node == j) ≡ b → AllByRecursion P (members_from (suc n) more j) → AllByRecursion P (cond b (n ∷ members_from (suc n) more j) (members_from (suc n) more j))
    by true t rest = (subst P (let q : n + 0 ≡ n = omega arith in q) (h 0 (omega arith) (ap Some (eqb-true node j t))), rest)
    by false t rest = rest

members_tell : (P : ℕ → Type 0) (n : ℕ) (place : List ℕ) (j : ℕ) → AllByRecursion P (members_from n place j) → (i : ℕ) → slice_get place i ≡ Some j → P (n + i)
members_tell P n [] j h i is = absurd cc
members_tell P n (node ∷ more) j h i is = by (node == j) refl h i is (λ rest. members_tell P (suc n) more j rest)
  where
    later : (i : ℕ) → P (suc n + i) → P (n + suc i)
    later i here = subst P (let q : suc n + i ≡ n + suc i = omega arith in q) here

    by : (b : Bool) → (node == j) ≡ b → AllByRecursion P (cond b (n ∷ members_from (suc n) more j) (members_from (suc n) more j)) → (i : ℕ) → slice_get (node ∷ more) i ≡ Some j →
        (AllByRecursion P (members_from (suc n) more j) → (i : ℕ) → slice_get more i ≡ Some j → P (suc n + i)) → P (n + i)
    by true t all zero at rest = subst P (let q : n ≡ n + 0 = omega arith in q) all.0
    by true t all (suc i) at rest = later i (rest all.1 i at)
    by false t all zero at rest = absurd (let u : node ≡ j = cc in let v : (node == j) ≡ true = (Decides-eqb node j).1 u in let z : true ≡ false = sym v ∙ t in cc)
    by false t all (suc i) at rest = later i (rest all i at)

members_ascend : (n : ℕ) (place : List ℕ) (j : ℕ) → Ascending (members_from n place j)
members_ascend n [] j = tt
members_ascend n (node ∷ more) j = by (node == j) (members_ascend (suc n) more j) (members_have (λ i. n < i) (suc n) more j (λ i below is. omega arith))
  where
    by : (b : Bool) → Ascending (members_from (suc n) more j) → AllByRecursion (λ i. n < i) (members_from (suc n) more j) → Ascending (cond b (n ∷ members_from (suc n) more j) (members_from (suc n) more j))
    by true rest above = (above, rest)
    by false rest above = rest

-- each element lives somewhere
lives : (place : List ℕ) (i : ℕ) → i < length place → (j : ℕ) × (slice_get place i ≡ Some j)
lives [] i h = absurd (omega (arith, h))
lives (node ∷ more) zero h = (node, refl)
lives (node ∷ more) (suc i) h = lives more i (omega (arith, h))

lives_within : (place : List ℕ) (nodes i j : ℕ) → AllByRecursion (λ n. n < nodes) place → slice_get place i ≡ Some j → j < nodes
lives_within [] nodes i j all is = absurd cc
lives_within (node ∷ more) nodes zero j all is = let q : node ≡ j = cc in subst (λ n. n < nodes) q all.0
lives_within (node ∷ more) nodes (suc i) j all is = lives_within more nodes i j all.1 is

-- ---- one node

module _ (p : Plan) (k : ℕ) (x y : List Cells) where
  eq_same : (e : ℕ) → bytes_eq (record_in p k x e) (record_in p k y e) ≡ true → SameRecord p k x y e
  eq_same e h = (bytes_eq-Decides (record_in p k x e) (record_in p k y e)).0 h

  eq_differs : (e : ℕ) → bytes_eq (record_in p k x e) (record_in p k y e) ≡ false → record_in p k x e ≢ record_in p k y e
  eq_differs e h same =
      absurd (let u : bytes_eq (record_in p k x e) (record_in p k y e) ≡ true = (bytes_eq-Decides (record_in p k x e) (record_in p k y e)).1 same in let q : true ≡ false = sym u ∙ h in cc)

  pub equal_says : (es : List ℕ) → first_of_these p k x y es ≡ Equal → AllByRecursion (SameRecord p k x y) es
  equal_says [] h = tt
  equal_says (e ∷ more) h = by (bytes_eq (record_in p k x e) (record_in p k y e)) refl h (λ q. equal_says more q)
    where
      by : (b : Bool) → bytes_eq (record_in p k x e) (record_in p k y e) ≡ b → cond b (first_of_these p k x y more) (Differ (id_of e)) ≡ Equal →
          (first_of_these p k x y more ≡ Equal → AllByRecursion (SameRecord p k x y) more) → SameRecord p k x y e × AllByRecursion (SameRecord p k x y) more
      by true t q rest = (eq_same e t, rest q)
      by false t q rest = absurd cc

  pub differ_says : (es : List ℕ) (e : ElementId) → Ascending es → first_of_these p k x y es ≡ Differ e → LeastOfThese p k x y es e.0
  differ_says [] e up h = absurd cc
  differ_says (d ∷ more) e up h = by (bytes_eq (record_in p k x d) (record_in p k y d)) refl h (λ q. differ_says more e up.1 q)
    where
      by : (b : Bool) → bytes_eq (record_in p k x d) (record_in p k y d) ≡ b → cond b (first_of_these p k x y more) (Differ (id_of d)) ≡ Differ e →
          (first_of_these p k x y more ≡ Differ e → LeastOfThese p k x y more e.0) → LeastOfThese p k x y (d ∷ more) e.0
      by true t q rest =
          let f : LeastOfThese p k x y more e.0 = rest q in
          record { there = (suc f.there.0, omega (arith, f.there.1), f.there.2); differs = f.differs; before = (λ less. eq_same d t, f.before) }
      by false t q rest =
          let id : id_of d ≡ e = cc in
          let is : d ≡ e.0 = ap (λ (z : ElementId). z.0) id in
          record {
            there = (0, omega arith, is);
            differs = subst (λ m. record_in p k x m ≢ record_in p k y m) is (eq_differs d t);
            before = (λ less. absurd (omega (arith, less, is)), all_to more (λ i above less. absurd (omega (arith, above, less, is))) up.0);
          }

pub names_the_least : NamesTheLeast
names_the_least p k x y these e sx sy there up h = differ_says p k x y these e up (sym (first_differing p k x y sx sy these there) ∙ h)

-- ---- all nodes

members_there : (p : Plan) (place : List ℕ) (j : ℕ) → length place ≡ elements p → AllByRecursion (λ e. e < elements p) (members place j)
members_there p place j count = members_have (λ e. e < elements p) 0 place j (λ i below is. omega (arith, below, count))

-- an element before the least that any node names, on whichever node it lives
same_before : (p : Plan) (k : ℕ) (place : List ℕ) (x y : List Cells) (j i : ℕ) (v : Verdict) → Shaped p x → Shaped p y → length place ≡ elements p → slice_get place i ≡ Some j →
    node_verdict p k place x y j ≡ v → ((other : ElementId) → v ≡ Differ other → i < other.0) → SameRecord p k x y i
same_before p k place x y j i Equal sx sy count lives is least =
    let all = equal_says p k x y (members place j) (sym (first_differing p k x y sx sy (members place j) (members_there p place j count)) ∙ is) in
    subst (SameRecord p k x y) (let q : 0 + i ≡ i = omega arith in q) (members_tell (SameRecord p k x y) 0 place j all i lives)
same_before p k place x y j i (Differ other) sx sy count lives is least =
    let f : LeastOfThese p k x y (members place j) other.0 = names_the_least p k x y (members place j) other sx sy (members_there p place j count) (members_ascend 0 place j) is in
    subst (SameRecord p k x y) (let q : 0 + i ≡ i = omega arith in q)
    (members_tell (λ m. m < other.0 → SameRecord p k x y m) 0 place j f.before i lives (omega (arith, least other refl)))

pub least_of_all : LeastOfAll
least_of_all p k place nodes x y j e sx sy count covers is least =
    let there = members_there p place j count in
    let f : LeastOfThese p k x y (members place j) e.0 = names_the_least p k x y (members place j) e sx sy there (members_ascend 0 place j) is in
    let within : e.0 < elements p = contained (λ m. m < elements p) (members place j) e.0 there f.there in
    record { there = within; differs = f.differs; before = λ i less. before i less (omega (arith, less, within)) }
  where
    before : (i : ℕ) → i < e.0 → i < elements p → SameRecord p k x y i
    before i less below =
        let l = lives place i (omega (arith, below, count)) in
        same_before p k place x y l.0 i (node_verdict p k place x y l.0) sx sy count l.1 refl
        (λ other q. omega (arith, less, least l.0 other (lives_within place nodes i l.0 covers.within l.1) q))

records_same : (p : Plan) (k n : ℕ) (x y : List Cells) → length x ≡ length y →
    ((i : ℕ) (none : Cells) → i < length x → record_spelling p (n + i) k (slice_index_or x i none) ≡ record_spelling p (n + i) k (slice_index_or y i none)) → records_from p k n x ≡ records_from p k n y
records_same p k n [] [] l h = refl
records_same p k n [] (d ∷ y) l h = absurd (omega (arith, l))
records_same p k n (c ∷ x) [] l h = absurd (omega (arith, l))
records_same p k n (c ∷ x) (d ∷ y) l h =
    let here : record_spelling p n k c ≡ record_spelling p n k d = subst (λ m. record_spelling p m k c ≡ record_spelling p m k d) (let q : n + 0 ≡ n = omega arith in q) (h 0 c (omega arith)) in
    ap (λ xs. xs ++ records_from p k (suc n) x) here
    ∙ ap (λ xs. record_spelling p n k d ++ xs) (records_same p k (suc n) x y (omega (arith, l))
    (λ i none below. subst (λ m. record_spelling p m k (slice_index_or x i none) ≡ record_spelling p m k (slice_index_or y i none)) (let q : n + suc i ≡ suc n + i = omega arith in q) (h (suc i) none (omega (arith, below)))))

any_default : (all : List Cells) (i : ℕ) (c d : Cells) → i < length all → slice_index_or all i c ≡ slice_index_or all i d
any_default [] i c d h = absurd (omega (arith, h))
any_default (x ∷ all) zero c d h = refl
any_default (x ∷ all) (suc i) c d h = any_default all i c d (omega (arith, h))

pub all_equal : AllEqual
unfolding pack
all_equal p k place nodes x y sx sy count covers equal =
    let l : length x ≡ length y = sx.count ∙ sym sy.count in
    ap (λ n. head n ++ records_from p k 0 x) l ∙ ap (λ xs. head (length y) ++ xs) (records_same p k 0 x y l each)
  where
    each : (i : ℕ) (none : Cells) → i < length x → record_spelling p (0 + i) k (slice_index_or x i none) ≡ record_spelling p (0 + i) k (slice_index_or y i none)
    each i none below =
        let home = lives place i (omega (arith, below, count, sx.count)) in
        let same : SameRecord p k x y i =
        same_before p k place x y home.0 i Equal sx sy count home.1 (equal home.0 (lives_within place nodes i home.0 covers.within home.1)) (λ other q. absurd cc) in
        let at : 0 + i ≡ i = omega arith in
        ap (λ m. record_spelling p m k (slice_index_or x i none)) at
        ∙ ap (record_spelling p i k) (any_default x i none (record { numbers = []; slip = record { kind = 0; step = 0; iteration = 0 } }) below) ∙ same
        ∙ ap (record_spelling p i k) (any_default y i (record { numbers = []; slip = record { kind = 0; step = 0; iteration = 0 } }) none (omega (arith, below, sx.count, sy.count)))
        ∙ ap (λ m. record_spelling p m k (slice_index_or y i none)) (sym at)

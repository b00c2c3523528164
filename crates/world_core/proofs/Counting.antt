-- How many seats are behind, and how many are level: what is kept of these counts, and what they say of a node.
use Rattle.std.proofs.Common.{◌≡◌, ℕ, zero, suc, ◌+◌, ◌≤◌, ◌<◌, Bool, true, false, cond, List, [], ◌∷◌, ◌++◌, length, map, refl, ap, sym, ◌∙◌, arith, Option, Some, None}
use Rattle.std.specs.Prelude.{◌==◌, ◌&&◌, nat_lt, is_none, min, slice_index_or, slice_set}
use Rattle.std.proofs.lemmas.Bool.{eqb-true, ltb-true, ltb-false}
use Rattle.std.proofs.lemmas.Bool.Decides.{nat_tests}
use Rattle.chare_base.specs.declared.plan.Plan.{Plan}
use Rattle.iteration_agree.specs.declared.round.Standing.{Standing}
use Rattle.node_core.specs.Nodes.{Body, NodeState, all_at, all_at_by, all_at_of, lesser, next_begin, next_begin_of, objects_of, rests, rests_by}
use Rattle.node_core.specs.Turns.{begins, can_run, is_at}
use Rattle.object_steps.specs.Objects.{Progress}
use Rattle.world_core.specs.declared.doing.Readiness.{Readiness}
use Rattle.world_core.specs.declared.doing.Readiness.TheVariants.{Behind, Ready, Awaits, Level, Past}
use Rattle.world_core.specs.Moves.{begin_due, begin_if}
use Rattle.world_core.specs.Steps.{count, is_behind, is_level}
use Rattle.world_core.specs.Worlds.{readiness, readiness_in, seats_of}

-- ---- counts of a list

abbrev pub one : (Readiness → Bool) → Readiness → ℕ
one is r = cond (is r) 1 0

pub count_push : (is : Readiness → Bool) (xs : List Readiness) (x : Readiness) → count is (xs ++ x ∷ []) ≡ count is xs + one is x
count_push is [] x = omega arith
count_push is (y ∷ xs) x = omega (arith, count_push is xs x)

one_few : (is : Readiness → Bool) (x : Readiness) → one is x ≤ 1
one_few is x = by (is x)
  where
    by : (b : Bool) → cond b 1 0 ≤ 1
    by true = omega arith
    by false = omega arith

pub count_few : (is : Readiness → Bool) (xs : List Readiness) → count is xs ≤ length xs
count_few is [] = omega arith
count_few is (y ∷ xs) = omega (arith, count_few is xs, one_few is y)

-- one is told again
pub count_set : (is : Readiness → Bool) (xs : List Readiness) (i : ℕ) (x y : Readiness) → i < length xs → count is (slice_set xs i x) + one is (slice_index_or xs i y) ≡ count is xs + one is x
count_set is [] i x y h = absurd (omega (arith, h))
count_set is (z ∷ xs) zero x y h = omega arith
count_set is (z ∷ xs) (suc i) x y h = omega (arith, count_set is xs i x y (omega (arith, h)))

pub count_one : (is : Readiness → Bool) (xs : List Readiness) (i : ℕ) (y : Readiness) → i < length xs → one is (slice_index_or xs i y) ≤ count is xs
count_one is [] i y h = absurd (omega (arith, h))
count_one is (z ∷ xs) zero y h = omega arith
count_one is (z ∷ xs) (suc i) y h = omega (arith, count_one is xs i y (omega (arith, h)))

-- as the code tells one again, which read what was told of it
pub told_less : (is : Readiness → Bool) (xs : List Readiness) (i n : ℕ) (x : Readiness) (b : Bool) → i < length xs → x ≡ slice_index_or xs i x → b ≡ is x → n ≡ count is xs → cond b 1 0 ≤ n
told_less is xs i n x b there read test counted =
    let one_is : cond b 1 0 ≡ one is (slice_index_or xs i x) = ap (λ c. cond c 1 0) test ∙ ap (one is) read in
    omega (arith, one_is, count_one is xs i x there, counted)

pub told_counts : (is : Readiness → Bool) (xs ys : List Readiness) (i n m : ℕ) (x y : Readiness) (b c : Bool) → i < length xs → x ≡ slice_index_or xs i x → b ≡ is x → c ≡ is y → n ≡ count is xs → m + cond b 1 0 ≡ n + cond c 1 0 →
    ys ≡ slice_set xs i y → m ≡ count is ys
told_counts is xs ys i n m x y b c there read before after counted told new =
    let one_was : cond b 1 0 ≡ one is (slice_index_or xs i x) = ap (λ d. cond d 1 0) before ∙ ap (one is) read in
    let one_is : cond c 1 0 ≡ one is y = ap (λ d. cond d 1 0) after in
    let same : count is ys ≡ count is (slice_set xs i y) = ap (count is) new in
    omega (arith, one_was, one_is, same, count_set is xs i y x there, counted, told)

-- ---- how an object stands

-- by cases on whether it is inside an iteration
abbrev pub shape : Plan → ℕ → Progress → Option ℕ → Readiness
shape p top o None = cond (nat_lt o.done p.iterations && nat_lt o.done top) Behind (cond (o.done == top) Level Past)
shape p top o (Some step) = cond (can_run p top o) Ready Awaits

pub shaped : (p : Plan) (top : ℕ) (o : Progress) (s : Option ℕ) → o.step ≡ s → readiness p top o ≡ shape p top o s
shaped p top o s is = ap (readiness_in p top o) is ∙ by s is
  where
    by : (s : Option ℕ) → o.step ≡ s → readiness_in p top o s ≡ shape p top o s
    by None is = ap (λ (t : Option ℕ). cond (is_none t && nat_lt o.done p.iterations && nat_lt o.done top) Behind (cond (o.done == top) Level Past)) is
    by (Some step) is = refl

-- it is level where it has completed the iterations below the top and not begun the top
pub level_is : (p : Plan) (top : ℕ) (o : Progress) → is_level (readiness p top o) ≡ is_at top o
level_is p top o = by o.step refl
  where
    between_two : (a b : Bool) → (b ≡ true → nat_lt o.done top ≡ false) → is_level (cond (a && nat_lt o.done top) Behind (cond b Level Past)) ≡ b
    between_two true true h = ap (λ c. is_level (cond c Behind Level)) (h refl)
    between_two true false h = past (nat_lt o.done top)
      where
        past : (c : Bool) → is_level (cond c Behind Past) ≡ false
        past true = refl
        past false = refl
    between_two false true h = refl
    between_two false false h = refl

    inside : (b : Bool) → is_level (cond b Ready Awaits) ≡ false
    inside true = refl
    inside false = refl

    not_below : (o.done == top) ≡ true → nat_lt o.done top ≡ false
    not_below h = let same : o.done ≡ top = eqb-true o.done top h in grind (arith, nat_tests)

    by : (s : Option ℕ) → o.step ≡ s → is_level (readiness p top o) ≡ is_at top o
    by None is =
        ap is_level (shaped p top o None is) ∙ between_two (nat_lt o.done p.iterations) (o.done == top) not_below
        ∙ sym (ap (λ (t : Option ℕ). is_none t && o.done == top) is)
    by (Some step) is = ap is_level (shaped p top o (Some step) is) ∙ inside (can_run p top o) ∙ sym (ap (λ (t : Option ℕ). is_none t && o.done == top) is)

-- ---- all of them are level

one_more : (c l : ℕ) (b : Bool) → c ≤ l → (cond b 1 0 + c == suc l) ≡ (b && c == l)
one_more c l true h = grind (arith, nat_tests)
one_more c l false h = grind (arith, nat_tests)

all_level_of : (p : Plan) (top : ℕ) (all : List Progress) → (count is_level (map (readiness p top) all) == length (map (readiness p top) all)) ≡ all_at_of top all
all_level_of p top [] = refl
all_level_of p top (o ∷ more) =
    one_more (count is_level (map (readiness p top) more)) (length (map (readiness p top) more)) (is_level (readiness p top o)) (count_few is_level (map (readiness p top) more))
    ∙ ap (λ b. b && count is_level (map (readiness p top) more) == length (map (readiness p top) more)) (level_is p top o)
    ∙ ap (λ b. is_at top o && b) (all_level_of p top more)

pub all_level : (p : Plan) (top : ℕ) (n : NodeState) (seats : List Readiness) → rests n ≡ false → seats ≡ seats_of p top n → (count is_level seats == length seats) ≡ all_at top n
unfolding all_at
all_level p top n seats alive is = ap (λ rs. count is_level rs == length rs) is ∙ by n.body alive
  where
    by : (b : Option Body) → rests_by b ≡ false → (count is_level (map (readiness p top) (objects_of b)) == length (map (readiness p top) (objects_of b))) ≡ all_at_by top b
    by None h = absurd (let q : true ≡ false = h in cc)
    by (Some b) h = all_level_of p top b.objects

-- ---- the next iteration to begin

-- of a number: below the top, the top itself, or above it
abbrev rank_at : ℕ → ℕ → ℕ
rank_at top k = cond (nat_lt k top) 0 (cond (k == top) 1 2)

abbrev rank : ℕ → Option ℕ → ℕ
rank top None = 2
rank top (Some k) = rank_at top k

abbrev standing_rank : ℕ → ℕ → Readiness → ℕ
standing_rank top iterations Behind = 0
standing_rank top iterations Ready = 2
standing_rank top iterations Awaits = 2
standing_rank top iterations Level = cond (nat_lt top iterations) 1 2
standing_rank top iterations Past = 2

-- the least of all
abbrev ranks : ℕ → ℕ → List Readiness → ℕ
ranks top iterations [] = 2
ranks top iterations (r ∷ more) = min (standing_rank top iterations r) (ranks top iterations more)

rank_at_few : (top k : ℕ) → rank_at top k ≤ 2
rank_at_few top k = grind (arith, nat_tests)

rank_few : (top : ℕ) (o : Option ℕ) → rank top o ≤ 2
rank_few top None = omega arith
rank_few top (Some k) = rank_at_few top k

rank_min : (top l k : ℕ) → rank_at top (min l k) ≡ min (rank_at top l) (rank_at top k)
rank_min top l k = grind (arith, nat_tests)

rank_lesser : (top : ℕ) (least : Option ℕ) (k : ℕ) → rank top (lesser least k) ≡ min (rank top least) (rank_at top k)
rank_lesser top None k = omega (arith, rank_at_few top k)
rank_lesser top (Some l) k = rank_min top l k

between_rank : (top its done : ℕ) → cond (nat_lt done its) (rank_at top done) 2 ≡ standing_rank top its (cond (nat_lt done its && nat_lt done top) Behind (cond (done == top) Level Past))
between_rank top its done = by (nat_lt done its) refl (nat_lt done top) refl (done == top) refl
  where
    by : (a : Bool) → nat_lt done its ≡ a → (b : Bool) → nat_lt done top ≡ b → (c : Bool) → (done == top) ≡ c →
        cond a (cond b 0 (cond c 1 2)) 2 ≡ standing_rank top its (cond (a && b) Behind (cond c Level Past))
    by true ia true ib c ic = refl
    by true ia false ib true ic = let less : done < its = ltb-true done its ia in let same : done ≡ top = eqb-true done top ic in grind (arith, nat_tests)
    by true ia false ib false ic = refl
    by false ia b ib true ic = let more : its ≤ done = ltb-false done its ia in let same : done ≡ top = eqb-true done top ic in grind (arith, nat_tests)
    by false ia b ib false ic = refl

abbrev after_one : Plan → ℕ → Option ℕ → Progress → Option ℕ → ℕ
after_one p top least o t = rank top (cond (is_none t && nat_lt o.done p.iterations) (lesser least o.done) least)

abbrev with_rank : Plan → ℕ → Option ℕ → Readiness → ℕ
with_rank p top least r = min (rank top least) (standing_rank top p.iterations r)

-- what one object makes of the least
step_rank : (p : Plan) (top : ℕ) (least : Option ℕ) (o : Progress) → rank top (cond (begins p.iterations o) (lesser least o.done) least) ≡ min (rank top least) (standing_rank top p.iterations (readiness p top o))
step_rank p top least o = by o.step refl
  where
    chosen : (b : Bool) → rank top (cond b (lesser least o.done) least) ≡ min (rank top least) (cond b (rank_at top o.done) 2)
    chosen true = rank_lesser top least o.done
    chosen false = omega (arith, rank_few top least)

    inside : (b : Bool) → rank top least ≡ min (rank top least) (standing_rank top p.iterations (cond b Ready Awaits))
    inside true = omega (arith, rank_few top least)
    inside false = omega (arith, rank_few top least)

    by : (s : Option ℕ) → o.step ≡ s → after_one p top least o o.step ≡ with_rank p top least (readiness p top o)
    by None is =
        ap (after_one p top least o) is ∙ chosen (nat_lt o.done p.iterations) ∙ ap (min (rank top least)) (between_rank top p.iterations o.done) ∙ sym (ap (with_rank p top least) (shaped p top o None is))
    by (Some step) is = ap (after_one p top least o) is ∙ inside (can_run p top o) ∙ sym (ap (with_rank p top least) (shaped p top o (Some step) is))

all_rank : (p : Plan) (top : ℕ) (least : Option ℕ) (all : List Progress) → rank top (next_begin_of p.iterations least all) ≡ min (rank top least) (ranks top p.iterations (map (readiness p top) all))
all_rank p top least [] = omega (arith, rank_few top least)
all_rank p top least (o ∷ more) =
    let rest = all_rank p top (cond (begins p.iterations o) (lesser least o.done) least) more in
    let here = step_rank p top least o in
    omega (arith, rest, here)

-- what the counts say
abbrev pub begins_by : ℕ → ℕ → ℕ → ℕ → Bool
begins_by behind level top iterations = behind == 0 && nat_lt 0 level && nat_lt top iterations

abbrev counted_rank : ℕ → ℕ → ℕ → ℕ → ℕ
counted_rank behind level top iterations = cond (behind == 0) (cond (nat_lt 0 level && nat_lt top iterations) 1 2) 0

next_counted : (top its behind level : ℕ) (r : Readiness) →
    min (standing_rank top its r) (counted_rank behind level top its) ≡ counted_rank (one is_behind r + behind) (one is_level r + level) top its
next_counted top its behind level Behind = grind (arith, nat_tests)
next_counted top its behind level Ready = grind (arith, nat_tests)
next_counted top its behind level Awaits = grind (arith, nat_tests)
next_counted top its behind level Level = grind (arith, nat_tests)
next_counted top its behind level Past = grind (arith, nat_tests)

ranks_counted : (top its : ℕ) (all : List Readiness) → ranks top its all ≡ counted_rank (count is_behind all) (count is_level all) top its
ranks_counted top its [] = refl
ranks_counted top its (r ∷ more) = ap (min (standing_rank top its r)) (ranks_counted top its more) ∙ next_counted top its (count is_behind more) (count is_level more) r

abbrev at_top : ℕ → Option ℕ → Bool
at_top top None = false
at_top top (Some k) = k == top

top_is : (top : ℕ) (o : Option ℕ) → at_top top o ≡ (rank top o == 1)
top_is top None = refl
top_is top (Some k) = grind (arith, nat_tests)

counted_is : (behind level top its : ℕ) → (counted_rank behind level top its == 1) ≡ begins_by behind level top its
counted_is behind level top its = grind (arith, nat_tests)

begin_at : (t : Standing) (o : Option ℕ) → begin_if (at_top t.top o) t ≡ begin_due t o
begin_at t None = refl
begin_at t (Some k) = refl

pub begins_at_top : (p : Plan) (n : NodeState) (t : Standing) (seats : List Readiness) → seats ≡ seats_of p t.top n → n.roster.iterations ≡ p.iterations →
    begin_if (begins_by (count is_behind seats) (count is_level seats) t.top p.iterations) t ≡ begin_due t (next_begin n)
unfolding next_begin
begins_at_top p n t seats is same =
    let objects : List Progress = objects_of n.body in
    ap (λ (rs : List Readiness). begin_if (begins_by (count is_behind rs) (count is_level rs) t.top p.iterations) t) is
    ∙ ap (λ b. begin_if b t) (sym (counted_is (count is_behind (seats_of p t.top n)) (count is_level (seats_of p t.top n)) t.top p.iterations))
    ∙ ap (λ k. begin_if (k == 1) t) (sym (ranks_counted t.top p.iterations (seats_of p t.top n)))
    ∙ ap (λ k. begin_if (k == 1) t) (sym (started objects))
    ∙ ap (λ b. begin_if b t) (sym (top_is t.top (next_begin_of p.iterations None objects)))
    ∙ begin_at t (next_begin_of p.iterations None objects)
    ∙ ap (λ k. begin_due t (next_begin_of k None objects)) (sym same)
  where
    few : (all : List Readiness) → ranks t.top p.iterations all ≤ 2
    few [] = omega arith
    few (r ∷ more) = omega (arith, few more)

    started : (all : List Progress) → rank t.top (next_begin_of p.iterations None all) ≡ ranks t.top p.iterations (map (readiness p t.top) all)
    started all = omega (arith, all_rank p t.top None all, few (map (readiness p t.top) all))

-- Lists, slots by name, caps and sights: what the end of a run asks of them.
use Rattle.std.proofs.Common.{◌≡◌, ℕ, zero, suc, ◌+◌, ◌*◌, ◌<◌, ◌≤◌, inl, inr, Bool, true, false, cond, List, [], ◌∷◌, ◌++◌, length, refl, ap, sym, ◌∙◌, arith, Option, Some, None, IsSome}
use Rattle.std.specs.Prelude.{◌⊎◌, ◌==◌, ◌&&◌, ◌||◌, IfSome, is_none, is_some, min, not, slice_get, slice_index_or, unwrap_or}
use Rattle.std.specs.List.{AllByRecursion, list_all, list_any}
use Rattle.std.proofs.lemmas.Bool.{eq-eqb, eqb-true}
use Rattle.std.proofs.lemmas.Bool.Decides.{nat_tests}
use Rattle.std.proofs.lemmas.Option.{same_Some}
use Rattle.chare_base.specs.declared.plan.Plan.{Plan}
use Rattle.chare_base.specs.Placing.{members, members_from}
use Rattle.iteration_agree.specs.declared.round.Round.{Round}
use Rattle.iteration_agree.specs.declared.round.Sight.{Sight}
use Rattle.iteration_agree.specs.declared.round.Standing.{Standing}
use Rattle.iteration_agree.specs.declared.slot.Cap.{Cap}
use Rattle.iteration_agree.specs.Cuts.{CutState}
use Rattle.iteration_agree.specs.Slots.{cap_in, is_in}
use Rattle.pup_state.specs.declared.compare.Verdict.{Verdict}
use Rattle.letter_post.specs.declared.stamp.Stamp.{Stamp}
use Rattle.letter_post.specs.Stamps.{same_stamp}
use Rattle.node_core.specs.Mail.{In}
use Rattle.node_core.specs.Nodes.{node_at}
use Rattle.node_core.specs.Rosters.{roster_of}
use Rattle.conductor_core.specs.Conductors.{ConductorState}
use Rattle.conductor_core.specs.Conductors.{sight_of as last_sight}
use Rattle.world_core.specs.Moves.{limit_seen}
use Rattle.world_core.specs.Sound.{names, names_to}
use Rattle.world_core.specs.Worlds.{is_news, news_below, same_cap, sight_in}
use Rattle.world_core.proofs.Due.{first}
use Rattle.world_core.proofs.Idling.{holds_at}
use Rattle.world_core.proofs.Lists.{get_left, get_right}
use Rattle.world_core.proofs.Mailing.{names_long}

pub self_equal : (n : ℕ) → (n == n) ≡ true
self_equal n = eq-eqb n n refl

pub both_true : (a b : Bool) → a ≡ true → b ≡ true → (a && b) ≡ true
both_true true b ha hb = hb
both_true false b ha hb = absurd (let q : false ≡ true = ha in cc)

-- ---- lists

-- all of a list, or something else
pub all_or : {A : Type 0} (P : A → Type 0) (Q : Type 0) (xs : List A) → ((i : ℕ) (x : A) → slice_get xs i ≡ Some x → P x ⊎ Q) → AllByRecursion P xs ⊎ Q
all_or P Q [] each = inl tt
all_or P Q (x ∷ xs) each = by (each 0 x refl) (all_or P Q xs (λ i y h. each (suc i) y h))
  where
    by : P x ⊎ Q → AllByRecursion P xs ⊎ Q → AllByRecursion P (x ∷ xs) ⊎ Q
    by (inr q) rest = inr q
    by (inl p) (inr q) = inr q
    by (inl p) (inl all) = inl (p, all)

pub got_in : {A : Type 0} (xs : List A) (i : ℕ) (x : A) → slice_get xs i ≡ Some x → In x xs
got_in [] i x h = absurd (let q : None ≡ Some x = h in cc)
got_in (y ∷ xs) zero x h = inl (sym (same_Some y x h))
got_in (y ∷ xs) (suc i) x h = inr (got_in xs i x h)

pub tests_all : {A : Type 0} (test : A → Bool) (xs : List A) → ((i : ℕ) (x : A) → slice_get xs i ≡ Some x → test x ≡ true) → list_all test xs ≡ true
tests_all test [] each = refl
tests_all test (x ∷ xs) each = both_true (test x) (list_all test xs) (each 0 x refl) (tests_all test xs (λ i y h. each (suc i) y h))

pub some_of : {A : Type 0} (o : Option A) → is_some o ≡ true → (x : A) × (o ≡ Some x)
some_of None h = absurd (let q : false ≡ true = h in cc)
some_of (Some x) h = (x, refl)

-- ---- where elements live

pub place_get : (place : List ℕ) (e : ℕ) → e < length place → slice_get place e ≡ Some (node_at place e)
place_get [] e h = absurd (omega (arith, h))
place_get (x ∷ xs) zero h = refl
place_get (x ∷ xs) (suc e) h = place_get xs e (omega (arith, h))

pub member_from : (n : ℕ) (place : List ℕ) (i j : ℕ) → slice_get place i ≡ Some j → (m : ℕ) × (slice_get (members_from n place j) m ≡ Some (n + i))
member_from n [] i j h = absurd (let q : None ≡ Some j = h in cc)
member_from n (x ∷ xs) zero j h = by (x == j) refl
  where
    by : (b : Bool) → (x == j) ≡ b → (m : ℕ) × (slice_get (cond b (n ∷ members_from (suc n) xs j) (members_from (suc n) xs j)) m ≡ Some (n + 0))
    by true is = (0, ap Some (omega arith))
    by false is = absurd (let q : true ≡ false = sym (eq-eqb x j (same_Some x j h)) ∙ is in cc)
member_from n (x ∷ xs) (suc i) j h = by (x == j) (member_from (suc n) xs i j h)
  where
    next : Some (suc n + i) ≡ Some (n + suc i)
    next = ap Some (omega arith)

    by : (b : Bool) → ((m : ℕ) × (slice_get (members_from (suc n) xs j) m ≡ Some (suc n + i))) → (m : ℕ) × (slice_get (cond b (n ∷ members_from (suc n) xs j) (members_from (suc n) xs j)) m ≡ Some (n + suc i))
    by true r = (suc r.0, r.1 ∙ next)
    by false r = (r.0, r.1 ∙ next)

pub member_there : (place : List ℕ) (e j : ℕ) → slice_get place e ≡ Some j → (m : ℕ) × (slice_get (members place j) m ≡ Some e)
member_there place e j h = let r = member_from 0 place e j h in (r.0, r.1 ∙ ap Some (omega arith))

pub same_stamp_self : (a : Stamp) → same_stamp a a ≡ true
same_stamp_self a =
    both_true (a.replica == a.replica && a.epoch == a.epoch) (a.lines.0 == a.lines.0) (both_true (a.replica == a.replica) (a.epoch == a.epoch) (self_equal a.replica) (self_equal a.epoch)) (self_equal a.lines.0)

-- ---- slots by name

pub names_at : (replica n j : ℕ) → j < n → slice_get (names_to replica n) j ≡ Some (record { replica = replica; node = j })
names_at replica zero j h = absurd (omega (arith, h))
names_at replica (suc n) j h = by (j == n) refl (names_at replica n j)
  where
    by : (b : Bool) → (j == n) ≡ b → (j < n → slice_get (names_to replica n) j ≡ Some (record { replica = replica; node = j })) → slice_get (names_to replica n ++ record { replica = replica; node = n } ∷ []) j ≡ Some (record { replica = replica; node = j })
    by true t rest =
        let same : j ≡ n = eqb-true j n t in
        let count = names_long replica n in
        get_right (names_to replica n) (record { replica = replica; node = n } ∷ []) j 0 (record { replica = replica; node = j }) (omega (arith, same, count)) (ap (λ m. Some (record { replica = replica; node = m })) (sym same))
    by false t rest = get_left (names_to replica n) (record { replica = replica; node = n } ∷ []) j (record { replica = replica; node = j }) (rest (grind (arith, nat_tests, t, h)))

pub name_at : (nodes r j : ℕ) → r < 2 → j < nodes → slice_get (names nodes) (r * nodes + j) ≡ Some (record { replica = r; node = j })
name_at nodes zero j hr hj =
    let at : 0 * nodes + j ≡ j = omega arith in
    ap (slice_get (names nodes)) at ∙ get_left (names_to 0 nodes) (names_to 1 nodes) j (record { replica = 0; node = j }) (names_at 0 nodes j hj)
name_at nodes (suc zero) j hr hj =
    let count = names_long 0 nodes in
    get_right (names_to 0 nodes) (names_to 1 nodes) (1 * nodes + j) j (record { replica = 1; node = j }) (omega (arith, count)) (names_at 1 nodes j hj)
name_at nodes (suc (suc r)) j hr hj = absurd (omega (arith, hr))

pub roster_count : (p : Plan) (place : List ℕ) (j : ℕ) → (roster_of p place j).iterations ≡ p.iterations
unfolding roster_of
roster_count p place j = refl

-- ---- caps

pub no_cap : (cap : Option Cap) (n : ℕ) → IfSome cap (λ (c : Cap). c.round < n) → cap_in n cap ≡ None
no_cap None n h = refl
no_cap (Some c) n h = let other : (c.round == n) ≡ false = grind (arith, nat_tests, h) in ap (λ b. cond b (Some c.cap) None) other

pub not_in : (packed : Option ℕ) (n : ℕ) → IfSome packed (λ r. r < n) → is_in n packed ≡ false
not_in None n h = refl
not_in (Some r) n h = grind (arith, nat_tests, h)

pub not_none : {A : Type 0} (o : Option A) → is_none o ≡ false → is_some o ≡ true
not_none None h = absurd (let q : true ≡ false = h in cc)
not_none (Some x) h = refl

pub and_false : (a : Bool) → (a && false) ≡ false
and_false true = refl
and_false false = refl

-- ---- sights

pub any_at : {A : Type 0} (test : Option A → Bool) (xs : List (Option A)) (i : ℕ) (x : A) → slice_index_or xs i None ≡ Some x → test (Some x) ≡ true → list_any test xs ≡ true
any_at test [] i x h is = absurd (let q : None ≡ Some x = h in cc)
any_at test (y ∷ more) zero x h is = ap (λ b. b || list_any test more) (ap test h ∙ is)
any_at test (y ∷ more) (suc i) x h is = by (test y) (any_at test more i x h is)
  where
    by : (b : Bool) → list_any test more ≡ true → (b || list_any test more) ≡ true
    by true rest = refl
    by false rest = rest

pub or_none : (a b : Bool) → (a || b) ≡ false → (a ≡ false) × (b ≡ false)
or_none true b h = absurd (let q : true ≡ false = h in cc)
or_none false b h = (refl, h)

-- a free slot's limit is that of the round which it saw
pub free_limit : (p : Plan) (t : Standing) (seen : Round) → t.seen ≡ seen → t.free ≡ true → holds_at p t ≡ unwrap_or (limit_seen t seen) p.iterations
free_limit p t seen is free =
    ap (λ f. unwrap_or (cond (not f && is_none t.cap) (Some t.top) (limit_seen t t.seen)) p.iterations) free ∙ ap (λ q. unwrap_or (limit_seen t q) p.iterations) is

pub not_false : (b : Bool) → not b ≡ false → b ≡ true
not_false true h = refl
not_false false h = absurd (let q : true ≡ false = h in cc)

pub sighted : (o : Option Sight) (sight : Sight) → is_news o sight ≡ false → (old : Sight) × (o ≡ Some old) × (old.top ≡ sight.top)
sighted None sight h = absurd (let q : true ≡ false = h in cc)
sighted (Some old) sight h = (old, refl, eqb-true old.top sight.top (first (old.top == sight.top) (same_cap old.cap sight.cap) (not_false (old.top == sight.top && same_cap old.cap sight.cap) h)))

pub news_at : (cut : CutState) (c : ConductorState) (replica n j : ℕ) → news_below cut c replica n ≡ false → j < n → is_news (last_sight (record { replica = replica; node = j }) c) (sight_in cut (record { replica = replica; node = j })) ≡ false
news_at cut c replica zero j h less = absurd (omega (arith, less))
news_at cut c replica (suc n) j h less = by (j == n) refl (or_none (news_below cut c replica n) (is_news (last_sight (record { replica = replica; node = n }) c) (sight_in cut (record { replica = replica; node = n }))) h) (news_at cut c replica n j)
  where
    News : ℕ → Bool
    News m = is_news (last_sight (record { replica = replica; node = m }) c) (sight_in cut (record { replica = replica; node = m }))

    by : (b : Bool) → (j == n) ≡ b → (news_below cut c replica n ≡ false) × (News n ≡ false) → (news_below cut c replica n ≡ false → j < n → News j ≡ false) → News j ≡ false
    by true t parts rest = ap News (eqb-true j n t) ∙ parts.1
    by false t parts rest = rest parts.0 (grind (arith, nat_tests, t, less))

pub min_within : (a b : ℕ) → min a b ≤ b
min_within a b = omega arith

pub all_heard : (xs : List (Option Verdict)) → ((j : ℕ) → j < length xs → IsSome (slice_index_or xs j None)) → list_all is_some xs ≡ true
all_heard [] each = refl
all_heard (x ∷ more) each = both_true (is_some x) (list_all is_some more) (each 0 (omega arith)) (all_heard more (λ j h. each (suc j) (omega (arith, h))))

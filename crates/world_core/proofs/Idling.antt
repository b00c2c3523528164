-- A slot without an event: what it has seen, and that its elements rest at its limit.
use Rattle.std.proofs.Common.{◌≡◌, ℕ, zero, suc, ◌<◌, ◌≤◌, Bool, true, false, cond, List, [], ◌∷◌, refl, ap, sym, ◌∙◌, arith, subst, Option, Some, None}
use Rattle.std.specs.Prelude.{◌==◌, ◌&&◌, IfSome, is_none, min, nat_lt, not, slice_get, unwrap_or}
use Rattle.std.specs.List.{AllByRecursion}
use Rattle.std.proofs.lemmas.Bool.{eq-eqb, eqb-true, ltb-true}
use Rattle.std.proofs.lemmas.Bool.Decides.{nat_tests}
use Rattle.std.proofs.lemmas.Option.{same_Some}
use Rattle.chare_base.specs.declared.plan.ElementId.{ElementId}
use Rattle.chare_base.specs.declared.plan.Plan.{Plan}
use Rattle.chare_base.specs.declared.slots.SlotId.{SlotId}
use Rattle.chare_base.proofs.Facts.{iterations_few}
use Rattle.iteration_agree.specs.declared.round.Round.{Round}
use Rattle.iteration_agree.specs.declared.round.Round.TheVariants.{Quiet, Gather, Agreed}
use Rattle.iteration_agree.specs.declared.round.Standing.{Standing}
use Rattle.object_steps.specs.Objects.{Progress, ready}
use Rattle.node_core.specs.Nodes.{Body, NodeState, awake, first_running, first_running_of, lesser, next_begin, next_begin_of, objects_of, rests_by}
use Rattle.node_core.specs.Turns.{begins, can_run, is_step}
use Rattle.world_core.specs.declared.doing.Doing.{Doing}
use Rattle.world_core.specs.declared.doing.Doing.TheVariants as doings
use Rattle.world_core.specs.declared.doing.SlotMove.{SlotMove}
use Rattle.world_core.specs.declared.doing.SlotMove.TheVariants as slot_moves
use Rattle.world_core.specs.declared.doing.Since.{Since}
use Rattle.world_core.specs.declared.event.Event.TheVariants as events
use Rattle.world_core.specs.Moves.{begin_due, is_below, limit_of, move_of, move_on, pack_due, pack_or_begin, release_due, report_due, same_round}
use Rattle.world_core.specs.Sound.{begun_of}
use Rattle.world_core.specs.Worlds.{doing_of, event_of, move_or_run, run_due, run_of}
use Rattle.world_core.proofs.Due.{first, second}

-- ---- a slot that does nothing

pub record Idles (p : Plan) (round : Round) (t : Standing) (n : NodeState) (since : Since) (b : Body) : Type 0 where
  pub seen : t.seen ≡ round
  pub release : release_due t since ≡ false
  pub report : report_due t t.seen ≡ false
  pub pack : pack_due p n t t.seen ≡ None
  pub begin : begin_due t (next_begin n) ≡ None
  pub run : first_running_of p t.top b.objects ≡ None

pub no_doing : (slot : SlotId) (d : Option Doing) → event_of slot d ≡ None → d ≡ None
no_doing slot None h = refl
no_doing slot (Some doings.Hear) h = absurd (let q : Some (events.Hear slot) ≡ None = h in cc)
no_doing slot (Some doings.Move) h = absurd (let q : Some (events.Move slot) ≡ None = h in cc)
no_doing slot (Some (doings.Run e)) h = absurd (let q : Some (events.Run slot e) ≡ None = h in cc)

neither : (m : Option SlotMove) (r : Option Doing) → move_or_run m r ≡ None → (m ≡ None) × (r ≡ None)
neither None r h = (refl, h)
neither (Some m) r h = absurd (let q : Some doings.Move ≡ None = h in cc)

no_run : (e : Option ElementId) → run_of e ≡ None → e ≡ None
no_run None h = refl
no_run (Some e) h = absurd (let q : Some (doings.Run e) ≡ None = h in cc)

pub same_round_is : (a b : Round) → same_round a b ≡ true → a ≡ b
same_round_is (Quiet a) (Quiet b) h = ap Quiet (eqb-true a b h)
same_round_is (Gather a f) (Gather b g) h = ap (λ r. Gather r f) (eqb-true a b (first (a == b) (f == g) h)) ∙ ap (Gather b) (eqb-true f g (second (a == b) (f == g) h))
same_round_is (Agreed a j) (Agreed b k) h = ap (λ r. Agreed r j) (eqb-true a b (first (a == b) (j == k) h)) ∙ ap (Agreed b) (eqb-true j k (second (a == b) (j == k) h))
same_round_is (Quiet a) (Gather b g) h = absurd (let q : false ≡ true = h in cc)
same_round_is (Quiet a) (Agreed b k) h = absurd (let q : false ≡ true = h in cc)
same_round_is (Gather a f) (Quiet b) h = absurd (let q : false ≡ true = h in cc)
same_round_is (Gather a f) (Agreed b k) h = absurd (let q : false ≡ true = h in cc)
same_round_is (Agreed a j) (Quiet b) h = absurd (let q : false ≡ true = h in cc)
same_round_is (Agreed a j) (Gather b g) h = absurd (let q : false ≡ true = h in cc)

module _ (p : Plan) (round : Round) (t : Standing) (n : NodeState) (since : Since) (b : Body) (alive : n.body ≡ Some b) (goes : b.waits ≡ false) where
  pub idles : doing_of p round t n [] None since ≡ None → Idles p round t n since b
  unfolding first_running
  idles h = by (same_round t.seen round) (release_due t since) (report_due t t.seen) (pack_due p n t t.seen) refl refl refl refl moves
    where
      both : (move_of p round n t None since ≡ None) × (run_due p n t None ≡ None)
      both = neither (move_of p round n t None since) (run_due p n t None) h

      moves : cond (not (same_round t.seen round)) (Some slot_moves.See) (move_on p n t since) ≡ None
      moves =
          ap (λ w. cond (not (same_round t.seen round)) (Some slot_moves.See) (cond w None (move_on p n t since))) (sym goes)
          ∙ ap (λ o. cond (is_none o) None (cond (not (same_round t.seen round)) (Some slot_moves.See) (cond (rests_by o) None (move_on p n t since)))) (sym alive)
          ∙ both.0

      runs : first_running_of p t.top b.objects ≡ None
      runs =
          ap (λ w. first_running_of p t.top (cond w [] b.objects)) (sym goes) ∙ ap (λ o. first_running_of p t.top (awake o)) (sym alive) ∙ no_run (first_running p t.top n) both.1

      by : (s r q : Bool) (k : Option ℕ) → same_round t.seen round ≡ s → release_due t since ≡ r → report_due t t.seen ≡ q → pack_due p n t t.seen ≡ k →
          cond (not s) (Some slot_moves.See) (cond r (Some slot_moves.Release) (cond q (Some slot_moves.Report) (pack_or_begin n t k))) ≡ None → Idles p round t n since b
      by false r q k hs hr hq hk m = absurd (let z : Some slot_moves.See ≡ None = m in cc)
      by true true q k hs hr hq hk m = absurd (let z : Some slot_moves.Release ≡ None = m in cc)
      by true false true k hs hr hq hk m = absurd (let z : Some slot_moves.Report ≡ None = m in cc)
      by true false false (Some k) hs hr hq hk m = absurd (let z : Some (slot_moves.Pack k) ≡ None = m in cc)
      by true false false None hs hr hq hk m = record { seen = same_round_is t.seen round hs; release = hr; report = hq; pack = hk; begin = m; run = runs }

-- ---- who can run

pub none_runs : (p : Plan) (limit : ℕ) (all : List Progress) (i : ℕ) (o : Progress) → first_running_of p limit all ≡ None → slice_get all i ≡ Some o → can_run p limit o ≡ false
none_runs p limit [] i o h there = absurd (let q : None ≡ Some o = there in cc)
none_runs p limit (x ∷ more) i o h there = by (can_run p limit x) refl h i there (λ j g at. none_runs p limit more j o g at)
  where
    by : (b : Bool) → can_run p limit x ≡ b → cond b (Some x.element) (first_running_of p limit more) ≡ None → (i : ℕ) → slice_get (x ∷ more) i ≡ Some o →
        ((j : ℕ) → first_running_of p limit more ≡ None → slice_get more j ≡ Some o → can_run p limit o ≡ false) → can_run p limit o ≡ false
    by true is g j at rest = absurd (let q : Some x.element ≡ None = g in cc)
    by false is g zero at rest = ap (can_run p limit) (sym (same_Some x o at)) ∙ is
    by false is g (suc j) at rest = rest j g at

-- ---- the least iteration that would be begun

min_left : (a b : ℕ) → a ≤ b → min a b ≡ a
min_left a b h = omega (arith, h)

min_right : (a b : ℕ) → b ≤ a → min a b ≡ b
min_right a b h = omega (arith, h)

min_least : (top a b : ℕ) → top ≤ a → top ≤ b → top ≤ min a b
min_least top a b ha hb = omega (arith, ha, hb)

module _ (count top : ℕ) where
  abbrev NotBelow : Progress → Type 0
  NotBelow o = begins count o ≡ true → top ≤ o.done

  abbrev At : Option ℕ → Type 0
  At least = IfSome least (λ m. top ≤ m)

  least_at : (least : Option ℕ) (o : Progress) → top ≤ o.done → At least → At (lesser least o.done)
  least_at None o low h = low
  least_at (Some l) o low h = min_least top l o.done h low

  least_stays : (all : List Progress) → AllByRecursion NotBelow all → next_begin_of count (Some top) all ≡ Some top
  least_stays [] each = refl
  least_stays (o ∷ more) each = by (begins count o) refl (least_stays more each.1)
    where
      by : (b : Bool) → begins count o ≡ b → next_begin_of count (Some top) more ≡ Some top → next_begin_of count (cond b (lesser (Some top) o.done) (Some top)) more ≡ Some top
      by true is rest = ap (λ m. next_begin_of count (Some m) more) (min_left top o.done (each.0 is)) ∙ rest
      by false is rest = rest

  least_is : (least : Option ℕ) (all : List Progress) (i : ℕ) (o : Progress) → AllByRecursion NotBelow all → At least → slice_get all i ≡ Some o → begins count o ≡ true → o.done ≡ top → next_begin_of count least all ≡ Some top
  least_is least [] i o each h there begins_it at = absurd (let q : None ≡ Some o = there in cc)
  least_is least (x ∷ more) zero o each h there begins_it at =
      let same : x ≡ o = same_Some x o there in
      let its : begins count x ≡ true = ap (begins count) same ∙ begins_it in
      let done : x.done ≡ top = ap (λ (y : Progress). y.done) same ∙ at in
      ap (λ b. next_begin_of count (cond b (lesser least x.done) least) more) its ∙ ap (λ l. next_begin_of count l more) (own least h done) ∙ least_stays more each.1
    where
      own : (least : Option ℕ) → At least → x.done ≡ top → lesser least x.done ≡ Some top
      own None h done = ap Some done
      own (Some l) h done = ap Some (min_right l x.done (omega (arith, h, done)) ∙ done)
  least_is least (x ∷ more) (suc i) o each h there begins_it at =
      by (begins count x) refl (λ l low. least_is l more i o each.1 low there begins_it at)
    where
      by : (b : Bool) → begins count x ≡ b → ((l : Option ℕ) → At l → next_begin_of count l more ≡ Some top) → next_begin_of count (cond b (lesser least x.done) least) more ≡ Some top
      by true is rest = rest (lesser least x.done) (least_at least x (each.0 is) h)
      by false is rest = rest least h

-- ---- an idle slot's elements rest at its limit

all_at_each : {A : Type 0} (P : A → Type 0) (xs : List A) → ((i : ℕ) (x : A) → slice_get xs i ≡ Some x → P x) → AllByRecursion P xs
all_at_each P [] each = tt
all_at_each P (x ∷ xs) each = (each 0 x refl, all_at_each P xs (λ i y h. each (suc i) y h))

abbrev pub holds_at : Plan → Standing → ℕ
holds_at p t = unwrap_or (limit_of t) p.iterations

module _ (p : Plan) (round : Round) (t : Standing) (n : NodeState) (since : Since) (b : Body) (alive : n.body ≡ Some b) (count : n.roster.iterations ≡ p.iterations) (idle : Idles p round t n since b) where
  abbrev Can : Progress → Option ℕ → ℕ → Bool
  Can o step limit = cond (is_none step) (nat_lt o.done limit && nat_lt o.done p.iterations) (is_step (ready p o))

  -- none that would begin an iteration would begin one below the top
  not_below : (o : Progress) → can_run p t.top o ≡ false → o.step ≡ None → o.done < p.iterations → t.top ≤ o.done
  not_below o stays none less = by (nat_lt o.done t.top) refl
    where
      no : (nat_lt o.done t.top && nat_lt o.done p.iterations) ≡ false
      no = ap (λ s. Can o s t.top) (sym none) ∙ stays

      few : nat_lt o.done p.iterations ≡ true
      few = grind (arith, nat_tests, less)

      by : (c : Bool) → nat_lt o.done t.top ≡ c → t.top ≤ o.done
      by true h = absurd (let q : true ≡ false = sym few ∙ ap (λ c. c && nat_lt o.done p.iterations) (sym h) ∙ no in cc)
      by false h = grind (arith, nat_tests, h)

  none_of : (step : Option ℕ) → is_none step ≡ true → step ≡ None
  none_of None h = refl
  none_of (Some s) h = absurd (let q : false ≡ true = h in cc)

  each_not_below : AllByRecursion (NotBelow p.iterations t.top) b.objects
  each_not_below =
      all_at_each (NotBelow p.iterations t.top) b.objects
      (λ i o there its.
      not_below o (none_runs p t.top b.objects i o idle.run there) (none_of o.step (first (is_none o.step) (nat_lt o.done p.iterations) its)) (ltb-true o.done p.iterations (second (is_none o.step) (nat_lt o.done p.iterations) its)))

  -- what would begin the top is held at the slot's limit
  held : nat_lt t.top 1000000 ≡ true → is_below t.top (limit_of t) ≡ true → next_begin n ≡ Some t.top → ⊥
  held few below next =
      let own : (t.top == t.top) ≡ true = eq-eqb t.top t.top refl in
      let all : (t.top == t.top && nat_lt t.top 1000000 && is_below t.top (limit_of t)) ≡ true =
      ap (λ c. c && nat_lt t.top 1000000 && is_below t.top (limit_of t)) own ∙ ap (λ c. true && c && is_below t.top (limit_of t)) few ∙ below in
      let some : Some (slot_moves.Begin t.top) ≡ None = ap (λ c. cond c (Some (slot_moves.Begin t.top)) None) (sym all) ∙ ap (begin_due t) (sym next) ∙ idle.begin in
      cc

  pub rests_at : (i : ℕ) (o : Progress) → slice_get b.objects i ≡ Some o → begun_of o ≤ t.top → can_run p (holds_at p t) o ≡ false
  unfolding next_begin
  rests_at i o there low = by o.step refl
    where
      stays : can_run p t.top o ≡ false
      stays = none_runs p t.top b.objects i o idle.run there

      below : o.step ≡ None → o.done < holds_at p t → o.done < p.iterations → ⊥
      below none less few = held (let m = iterations_few p in grind (arith, nat_tests, same, few, m)) (bounded (limit_of t) refl) next
        where
          high : t.top ≤ o.done
          high = not_below o stays none few

          same : o.done ≡ t.top
          same = let l : o.done ≤ t.top = subst (λ s. cond (is_none s) o.done (suc o.done) ≤ t.top) none low in omega (arith, l, high)

          bounded : (l : Option ℕ) → limit_of t ≡ l → is_below t.top l ≡ true
          bounded None is = refl
          bounded (Some l) is = let h : o.done < l = subst (λ q. o.done < unwrap_or q p.iterations) is less in grind (arith, nat_tests, h, same)

          its : begins p.iterations o ≡ true
          its = ap (λ s. is_none s && nat_lt o.done p.iterations) none ∙ (let q : nat_lt o.done p.iterations ≡ true = grind (arith, nat_tests, few) in q)

          next : next_begin n ≡ Some t.top
          next =
              ap (λ c. next_begin_of c None (objects_of n.body)) count ∙ ap (λ q. next_begin_of p.iterations None (objects_of q)) alive
              ∙ least_is p.iterations t.top None b.objects i o each_not_below tt there its same

      by : (step : Option ℕ) → o.step ≡ step → can_run p (holds_at p t) o ≡ false
      by (Some s) is = ap (λ q. Can o q (holds_at p t)) is ∙ ap (λ q. Can o q t.top) (sym is) ∙ stays
      by None is = ap (λ q. Can o q (holds_at p t)) is ∙ two (nat_lt o.done (holds_at p t)) (nat_lt o.done p.iterations) refl refl
        where
          two : (c d : Bool) → nat_lt o.done (holds_at p t) ≡ c → nat_lt o.done p.iterations ≡ d → (c && d) ≡ false
          two true true hc hd = absurd (below is (ltb-true o.done (holds_at p t) hc) (ltb-true o.done p.iterations hd))
          two true false hc hd = refl
          two false d hc hd = refl

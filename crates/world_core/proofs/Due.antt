-- What is known where a move of a slot is due.
use Rattle.std.proofs.Common.{◌≡◌, ℕ, ◌≤◌, ◌<◌, Bool, true, false, cond, refl, ap, sym, ◌∙◌, subst, Option, Some, None}
use Rattle.std.specs.Prelude.{◌==◌, ◌&&◌, ◌||◌, not, is_none, nat_le, nat_lt}
use Rattle.std.proofs.lemmas.Bool.{eqb-true, leb-true, ltb-true}
use Rattle.std.proofs.lemmas.Option.{same_Some}
use Rattle.chare_base.specs.declared.plan.Plan.{Plan}
use Rattle.iteration_agree.specs.declared.round.Round.{Round}
use Rattle.iteration_agree.specs.declared.round.Round.TheVariants.{Quiet, Gather, Agreed}
use Rattle.iteration_agree.specs.declared.round.Standing.{Standing}
use Rattle.iteration_agree.specs.declared.slot.Slot.{Slot}
use Rattle.iteration_agree.specs.Rounds.{IsGather}
use Rattle.iteration_agree.specs.Slots.{reported, standing_of}
use Rattle.iteration_agree.specs.Under.{BackTo, MayPack, MayRelease, MayReport, MayRewind, SawAgreed}
use Rattle.node_core.specs.Nodes.{NodeState, all_at, next_begin, rests}
use Rattle.world_core.specs.declared.doing.SlotMove.{SlotMove}
use Rattle.world_core.specs.declared.doing.SlotMove.TheVariants.{See, Rewind, Release, Report, Pack, Begin}
use Rattle.world_core.specs.declared.doing.Since.{Since}
use Rattle.world_core.specs.declared.doing.Since.TheVariants.{Nothing, Ordered, Resumed}
use Rattle.world_core.specs.Moves.{begin_due, goes_to, is_below, is_resumed, limit_of, may_go_back, move_by, move_of, move_on, pack_due, pack_or_begin, release_due, report_due, same_round}

pub first : (a b : Bool) → (a && b) ≡ true → a ≡ true
first true b h = refl
first false b h = absurd (let e : false ≡ true = h in cc)

pub second : (a b : Bool) → (a && b) ≡ true → b ≡ true
second true b h = h
second false b h = absurd (let e : false ≡ true = h in cc)

pub none_is : (o : Option ℕ) → is_none o ≡ true → o ≡ None
none_is None h = refl
none_is (Some n) h = absurd (let e : false ≡ true = h in cc)

-- ---- each move's tests

pub record PackDue (p : Plan) (n : NodeState) (t : Standing) (k : ℕ) : Type 0 where
  pub seen : SawAgreed k t.seen
  pub top : t.top ≡ k
  pub within : k ≤ p.iterations
  pub all : all_at k n ≡ true

abbrev pub IsDue : Plan → NodeState → Standing → Option ℕ → Since → SlotMove → Type 0
IsDue p n t back since See = Unit {0}
IsDue p n t back since (Rewind base) = (back ≡ Some base) × (may_go_back base t ≡ true)
IsDue p n t back since Release = (back ≡ None) × (release_due t since ≡ true)
IsDue p n t back since Report = (back ≡ None) × (report_due t t.seen ≡ true)
IsDue p n t back since (Pack k) = (back ≡ None) × PackDue p n t k
IsDue p n t back since (Begin k) = (back ≡ None) × (k ≡ t.top) × (k < 1000000)

module _ (p : Plan) (n : NodeState) (t : Standing) (back : Option ℕ) (since : Since) where
  abbrev Due : SlotMove → Type 0
  Due m = IsDue p n t back since m

  pack_is : (k : ℕ) → pack_due p n t t.seen ≡ Some k → PackDue p n t k
  pack_is k h = by t.seen refl h
    where
      by : (seen : Round) → t.seen ≡ seen → pack_due p n t seen ≡ Some k → PackDue p n t k
      by (Quiet r) is h = absurd (let e : None ≡ Some k = h in cc)
      by (Gather r f) is h = absurd (let e : None ≡ Some k = h in cc)
      by (Agreed r j) is h = test (t.top == j && nat_le j p.iterations && not t.packed && all_at j n) refl h
        where
          test : (b : Bool) → (t.top == j && nat_le j p.iterations && not t.packed && all_at j n) ≡ b → cond b (Some j) None ≡ Some k → PackDue p n t k
          test false tests h = absurd (let e : None ≡ Some k = h in cc)
          test true tests h =
              let same : j ≡ k = same_Some j k h in
              let three = first (t.top == j && nat_le j p.iterations && not t.packed) (all_at j n) tests in
              let two = first (t.top == j && nat_le j p.iterations) (not t.packed) three in
              let top : t.top ≡ j = eqb-true t.top j (first (t.top == j) (nat_le j p.iterations) two) in
              let within : j ≤ p.iterations = leb-true j p.iterations (second (t.top == j) (nat_le j p.iterations) two) in
              let all : all_at j n ≡ true = second (t.top == j && nat_le j p.iterations && not t.packed) (all_at j n) tests in
              record {
                seen = subst (λ seen. SawAgreed k seen) (sym is) (sym same);
                top = top ∙ same;
                within = subst (λ m. m ≤ p.iterations) same within;
                all = subst (λ m. all_at m n ≡ true) same all;
              }

  begin_is : (m : SlotMove) → back ≡ None → (o : Option ℕ) → begin_due t o ≡ Some m → Due m
  begin_is m none None h = absurd (let e : None ≡ Some m = h in cc)
  begin_is m none (Some j) h = test (j == t.top && nat_lt t.top 1000000 && is_below t.top (limit_of t)) refl h
    where
      test : (b : Bool) → (j == t.top && nat_lt t.top 1000000 && is_below t.top (limit_of t)) ≡ b → cond b (Some (Begin t.top)) None ≡ Some m → Due m
      test false tests h = absurd (let e : None ≡ Some m = h in cc)
      test true tests h =
          let two = first (j == t.top && nat_lt t.top 1000000) (is_below t.top (limit_of t)) tests in
          let few : t.top < 1000000 = ltb-true t.top 1000000 (second (j == t.top) (nat_lt t.top 1000000) two) in
          subst (λ m. Due m) (same_Some (Begin t.top) m h) (none, refl, few)

  pack_or_begin_is : (m : SlotMove) → back ≡ None → (o : Option ℕ) → pack_due p n t t.seen ≡ o → pack_or_begin n t o ≡ Some m → Due m
  pack_or_begin_is m none None is h = begin_is m none (next_begin n) h
  pack_or_begin_is m none (Some k) is h = subst (λ m. Due m) (same_Some (Pack k) m h) (none, pack_is k is)

  on_is : (m : SlotMove) → back ≡ None → move_on p n t since ≡ Some m → Due m
  on_is m none h = by (release_due t since) (report_due t t.seen) refl refl h
    where
      by : (a b : Bool) → release_due t since ≡ a → report_due t t.seen ≡ b → cond a (Some Release) (cond b (Some Report) (pack_or_begin n t (pack_due p n t t.seen))) ≡ Some m → Due m
      by true b release report h = subst (λ m. Due m) (same_Some Release m h) (none, release)
      by false true release report h = subst (λ m. Due m) (same_Some Report m h) (none, report)
      by false false release report h = pack_or_begin_is m none (pack_due p n t t.seen) refl h

  by_is : (m : SlotMove) (o : Option ℕ) → back ≡ o → move_by p n t o since ≡ Some m → Due m
  by_is m None is h = test (rests n) h
    where
      test : (b : Bool) → cond b None (move_on p n t since) ≡ Some m → Due m
      test true h = absurd (let e : None ≡ Some m = h in cc)
      test false h = on_is m is h
  by_is m (Some base) is h = test (may_go_back base t) refl h
    where
      test : (b : Bool) → may_go_back base t ≡ b → cond b (Some (Rewind base)) None ≡ Some m → Due m
      test false may h = absurd (let e : None ≡ Some m = h in cc)
      test true may h = subst (λ m. Due m) (same_Some (Rewind base) m h) (is, may)

  -- a move that is due is one of these
  pub due_is : (round : Round) (m : SlotMove) → move_of p round n t back since ≡ Some m → Due m
  due_is round m h = by (is_none n.body) (not (same_round t.seen round)) h
    where
      by : (a b : Bool) → cond a None (cond b (Some See) (move_by p n t back since)) ≡ Some m → Due m
      by true b h = absurd (let e : None ≡ Some m = h in cc)
      by false true h = subst (λ m. Due m) (same_Some See m h) tt
      by false false h = by_is m back refl h

-- ---- so the agreement takes it

goes_back : (base : ℕ) (seen : Round) → goes_to base seen ≡ true → BackTo base seen
goes_back base (Quiet r) h = tt
goes_back base (Gather r f) h = leb-true base f h
goes_back base (Agreed r k) h = leb-true base k h

or_right : (a b : Bool) → (a || b) ≡ true → a ≡ false → b ≡ true
or_right true b h none = absurd (let e : true ≡ false = none in cc)
or_right false b h none = h

pub may_rewind : (base : ℕ) (slot : Slot) → may_go_back base (standing_of slot) ≡ true → MayRewind base slot
may_rewind base slot h = record {
  few = leb-true base 1000000 (first (nat_le base 1000000) (is_none (reported slot) || goes_to base slot.seen) h);
  back = λ c is. goes_back base slot.seen (or_right (is_none (reported slot)) (goes_to base slot.seen) (second (nat_le base 1000000) (is_none (reported slot) || goes_to base slot.seen) h) (ap (λ (o : Option ℕ). is_none o) is));
}

pub may_release : (slot : Slot) (since : Since) → release_due (standing_of slot) since ≡ true → MayRelease slot
may_release slot since h = none_is (reported slot) (second (is_resumed since && not slot.free) (is_none (reported slot)) h)

-- it was resumed
pub resumed_is : (t : Standing) (since : Since) → release_due t since ≡ true → since ≡ Resumed
resumed_is t Resumed h = refl
resumed_is t Nothing h = absurd (let e : false ≡ true = h in cc)
resumed_is t Ordered h = absurd (let e : false ≡ true = h in cc)

report_gather : (t : Standing) (seen : Round) → report_due t seen ≡ true → IsGather seen × (t.free ≡ true) × (t.cap ≡ None)
report_gather t (Quiet r) h = absurd (let e : false ≡ true = h in cc)
report_gather t (Gather r f) h = (tt, first t.free (is_none t.cap) h, none_is t.cap (second t.free (is_none t.cap) h))
report_gather t (Agreed r k) h = absurd (let e : false ≡ true = h in cc)

pub may_report : (slot : Slot) → report_due (standing_of slot) slot.seen ≡ true → MayReport slot
may_report slot h = let all = report_gather (standing_of slot) slot.seen h in record { gather = all.0; free = all.1; once = all.2 }

pub may_pack : (p : Plan) (n : NodeState) (slot : Slot) (k : ℕ) → PackDue p n (standing_of slot) k → MayPack slot
may_pack p n slot k due = subst (λ top. SawAgreed top slot.seen) (sym due.top) due.seen

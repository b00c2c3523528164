-- An iteration that a slot begins loses nothing.
use Rattle.std.proofs.Common.{◌≡◌, ℕ, ◌<◌, ◌≤◌, Bool, true, false, cond, List, [], ◌∷◌, refl, ap, sym, ◌∙◌, arith, subst, Option, Some, None}
use Rattle.std.specs.Prelude.{◌==◌, ◌&&◌, IfSome, is_none, nat_lt, not}
use Rattle.std.proofs.lemmas.Bool.{eqb-true, ltb-true}
use Rattle.std.proofs.lemmas.Option.{same_Some}
use Rattle.chare_base.specs.declared.options.Options.{Options}
use Rattle.chare_base.specs.declared.plan.Plan.{Plan}
use Rattle.chare_base.specs.declared.slots.SlotId.{SlotId}
use Rattle.iteration_agree.specs.declared.round.Leave.{Leave}
use Rattle.iteration_agree.specs.declared.round.Leave.TheVariants as leaves
use Rattle.iteration_agree.specs.declared.round.Round.{Round}
use Rattle.iteration_agree.specs.declared.round.Standing.{Standing}
use Rattle.iteration_agree.specs.declared.slot.Cap.{Cap}
use Rattle.iteration_agree.specs.declared.slot.Slot.{Slot}
use Rattle.iteration_agree.specs.Cuts.{begun_by, slot_of}
use Rattle.iteration_agree.specs.Slots.{leave, slot_begun, went}
use Rattle.object_steps.specs.Objects.{Progress}
use Rattle.node_core.specs.Nodes.{NodeState, lesser, next_begin, next_begin_of, objects_of, rests}
use Rattle.node_core.specs.Rosters.{Roster}
use Rattle.node_core.specs.Turns.{begins}
use Rattle.world_core.specs.declared.doing.Since.{Since}
use Rattle.world_core.specs.declared.doing.SlotMove.{SlotMove}
use Rattle.world_core.specs.declared.doing.SlotMove.TheVariants as slot_moves
use Rattle.world_core.specs.Moves.{begin_due, is_below, limit_of, move_of, pack_due, pack_or_begin, release_due, report_due, same_round}
use Rattle.world_core.specs.Sound.{SlotSound, Sound}
use Rattle.world_core.specs.Still.{Afloat, SlotAfloat}
use Rattle.world_core.specs.Worlds.{Setting, SlotState, WorldState, moved_in, number_of, slot_at, slot_move, stand}
use Rattle.world_core.proofs.Due.{first, second}
use Rattle.world_core.proofs.Floating.{PlainStep}
use Rattle.world_core.proofs.Lists.{all_got}
use Rattle.world_core.proofs.Mailing.{slot_is}
use Rattle.world_core.proofs.Placing.{old, placed_step, stage_stays}
use Rattle.world_core.proofs.Seen.{roster_count}

-- ---- the least iteration that would be begun is one of the job

least_within : (count : ℕ) (least : Option ℕ) (all : List Progress) (m : ℕ) → IfSome least (λ q. q < count) → next_begin_of count least all ≡ Some m → m < count
least_within count least [] m h is = subst (λ o. IfSome o (λ q. q < count)) is h
least_within count least (o ∷ more) m h is = by (begins count o) refl is (λ l low g. least_within count l more m low g)
  where
    less : (least : Option ℕ) → IfSome least (λ q. q < count) → o.done < count → IfSome (lesser least o.done) (λ q. q < count)
    less None h few = few
    less (Some l) h few = omega (arith, h, few)

    by : (b : Bool) → begins count o ≡ b → next_begin_of count (cond b (lesser least o.done) least) more ≡ Some m → ((l : Option ℕ) → IfSome l (λ q. q < count) → next_begin_of count l more ≡ Some m → m < count) → m < count
    by true t g rest = rest (lesser least o.done) (less least h (ltb-true o.done count (second (is_none o.step) (nat_lt o.done count) t))) g
    by false t g rest = rest least h g

-- ---- a begin that is due is of such an iteration

module _ (p : Plan) (round : Round) (n : NodeState) (t : Standing) (since : Since) (k : ℕ) where
  begun_next : (o : Option ℕ) → begin_due t o ≡ Some (slot_moves.Begin k) → o ≡ Some k
  begun_next None h = absurd (let q : None ≡ Some (slot_moves.Begin k) = h in cc)
  begun_next (Some j) h = test (j == t.top && nat_lt t.top 1000000 && is_below t.top (limit_of t)) refl h
    where
      begun_of : SlotMove → ℕ
      begun_of slot_moves.See = 0
      begun_of (slot_moves.Rewind base) = 0
      begun_of slot_moves.Release = 0
      begun_of slot_moves.Report = 0
      begun_of (slot_moves.Pack j) = 0
      begun_of (slot_moves.Begin j) = j

      test : (b : Bool) → (j == t.top && nat_lt t.top 1000000 && is_below t.top (limit_of t)) ≡ b → cond b (Some (slot_moves.Begin t.top)) None ≡ Some (slot_moves.Begin k) → Some j ≡ Some k
      test false tests g = absurd (let q : None ≡ Some (slot_moves.Begin k) = g in cc)
      test true tests g =
          let top : t.top ≡ k = ap begun_of (same_Some (slot_moves.Begin t.top) (slot_moves.Begin k) g) in
          let same : j ≡ t.top = eqb-true j t.top (first (j == t.top) (nat_lt t.top 1000000) (first (j == t.top && nat_lt t.top 1000000) (is_below t.top (limit_of t)) tests)) in
          ap Some (same ∙ top)

  next_of : (back : Option ℕ) → back ≡ None → move_of p round n t back since ≡ Some (slot_moves.Begin k) → next_begin n ≡ Some k
  next_of back none h = by (is_none n.body) (not (same_round t.seen round)) (rests n) (release_due t since) (report_due t t.seen) (pack_due p n t t.seen)
      (subst (λ q. move_of p round n t q since ≡ Some (slot_moves.Begin k)) none h)
    where
      by : (a b c d e : Bool) (q : Option ℕ) →
          cond a None (cond b (Some slot_moves.See) (cond c None (cond d (Some slot_moves.Release) (cond e (Some slot_moves.Report) (pack_or_begin n t q))))) ≡ Some (slot_moves.Begin k) → next_begin n ≡ Some k
      by true b c d e q g = absurd (let z : None ≡ Some (slot_moves.Begin k) = g in cc)
      by false true c d e q g = absurd (let z : Some slot_moves.See ≡ Some (slot_moves.Begin k) = g in cc)
      by false false true d e q g = absurd (let z : None ≡ Some (slot_moves.Begin k) = g in cc)
      by false false false true e q g = absurd (let z : Some slot_moves.Release ≡ Some (slot_moves.Begin k) = g in cc)
      by false false false false true q g = absurd (let z : Some slot_moves.Report ≡ Some (slot_moves.Begin k) = g in cc)
      by false false false false false (Some j) g = absurd (let z : Some (slot_moves.Pack j) ≡ Some (slot_moves.Begin k) = g in cc)
      by false false false false false None g = begun_next (next_begin n) g

module _ (s : Setting) (o : Options) (w : WorldState) (slot : SlotId) (x : SlotState) (is : slot_at s.nodes w.posts.slots slot ≡ Some x) (sound : Sound s o w) (afloat : Afloat s w) where
  its : SlotSound s w.cut w.conductor x
  its = all_got (SlotSound s w.cut w.conductor) w.posts.slots (number_of s.nodes slot) x sound.slots (slot_is s.nodes w.posts.slots slot x is).there

  mine : SlotAfloat s w.cut w.conductor afloat.log x
  mine = old s o w slot x is sound afloat

  abbrev t : Slot
  t = slot_of w.cut x.node.slot

  -- ---- it begins an iteration

  pub begun_few : (k : ℕ) → slot_move s.plan w.cut x ≡ Some (slot_moves.Begin k) → k < s.plan.iterations
  unfolding next_begin
  begun_few k due =
      let next : next_begin_of x.node.roster.iterations None (objects_of x.node.body) ≡ Some k = next_of s.plan w.cut.round x.node (stand w.cut x.node.slot) x.since k x.back mine.back due in
      let count : x.node.roster.iterations ≡ s.plan.iterations = ap (λ (q : Roster). q.iterations) its.keeps.roster.is ∙ roster_count s.plan s.place x.node.slot.node in
      subst (λ m. k < m) count (least_within x.node.roster.iterations None (objects_of x.node.body) k tt next)

  record Went (q : Slot) : Type 0 where
    free : q.free ≡ t.free
    packed : q.packed ≡ t.packed
    cap : q.cap ≡ t.cap
    top : q.top ≤ s.plan.iterations

  pub begin_step : (k : ℕ) → slot_move s.plan w.cut x ≡ Some (slot_moves.Begin k) → PlainStep s w afloat.log slot x (moved_in s.plan x (slot_moves.Begin k) w.cut)
  unfolding begun_by
  begin_step k due =
      placed_step s o w slot x is sound afloat (slot_begun k) noted went_on.top few
      (stage_stays s o w slot x is sound afloat (slot_begun k) noted went_on.top few went_on.free went_on.packed went_on.cap)
    where
      noted : (q : Slot) → (slot_begun k q).noted ≡ q.noted
      noted q = by (leave q k)
        where
          by : (l : Leave) → (went q k l).noted ≡ q.noted
          by leaves.Go = refl
          by (leaves.Hold limit) = refl

      went_on : Went (slot_begun k t)
      went_on = by (leave t k)
        where
          by : (l : Leave) → Went (went t k l)
          by (leaves.Hold limit) = record { free = refl; packed = refl; cap = refl; top = mine.top }
          by leaves.Go = record { free = refl; packed = refl; cap = refl; top = let low = mine.top in let less = begun_few k due in omega (arith, low, less) }

      few : IfSome (slot_begun k t).cap (λ (q : Cap). q.cap ≤ s.plan.iterations)
      few = subst (λ c. IfSome c (λ (q : Cap). q.cap ≤ s.plan.iterations)) (sym went_on.cap) mine.cap

-- A slot's moves on the agreement that leave its node lose nothing.
use Rattle.std.proofs.Common.{◌≡◌, ℕ, zero, suc, ◌<◌, ◌≤◌, inl, inr, true, false, List, [], ◌∷◌, ◌++◌, refl, ap, sym, ◌∙◌, arith, subst, Some, IsSome}
use Rattle.std.specs.Prelude.{◌⊎◌, ◌&&◌, IfSome, is_none, not, slice_index_or, slice_set}
use Rattle.chare_base.specs.declared.options.Options.{Options}
use Rattle.chare_base.specs.declared.slots.SlotId.{SlotId}
use Rattle.iteration_agree.specs.declared.slot.Cap.{Cap}
use Rattle.iteration_agree.specs.declared.slot.Slot.{Slot}
use Rattle.iteration_agree.specs.Cuts.{CutState, HasSlot, at_place, reported_by, released_by, seen_by, slot_of, slot_place}
use Rattle.iteration_agree.specs.Rounds.{number}
use Rattle.iteration_agree.specs.Slots.{opening_slot, slot_released, slot_reported, slot_saw}
use Rattle.iteration_agree.proofs.Changing.{at_or_away, moved_here}
use Rattle.letter_post.specs.declared.letter.Letter.{Letter}
use Rattle.letter_post.specs.declared.letter.Sent.{Sent}
use Rattle.node_core.specs.Mail.{Did, In}
use Rattle.node_core.proofs.Logs.{did_more, owes_more}
use Rattle.world_core.specs.declared.doing.Since.TheVariants.{Nothing, Ordered, Resumed}
use Rattle.world_core.specs.declared.doing.SlotMove.TheVariants as slot_moves
use Rattle.world_core.specs.Moves.{release_due, report_due}
use Rattle.world_core.specs.Sound.{Sound}
use Rattle.world_core.specs.Still.{Accepted, Afloat, Beside, Committed, Earlier, Free, Freed, Packed, SlotAfloat, Stage, present}
use Rattle.world_core.specs.Worlds.{Setting, SlotState, WorldState, again, moved_in, number_of, stand, with_back}
use Rattle.world_core.specs.Worlds as worlds
use Rattle.world_core.proofs.Due.{may_report, resumed_is, second, first}
use Rattle.world_core.proofs.Carrying.{SamePlace}
use Rattle.world_core.proofs.Floating.{PlainStep}
use Rattle.world_core.proofs.Lists.{all_got}
use Rattle.world_core.proofs.Mailing.{IsNamed, place_is, slot_is}

-- what a move at a place keeps it keeps at each
pub kept_at : {B : Type 0} (f : Slot → B) (move : Slot → Slot) (d : Slot) → ((t : Slot) → f (move t) ≡ f t) → (xs : List Slot) (i k : ℕ) → f (slice_index_or (slice_set xs i (move (slice_index_or xs i d))) k d) ≡ f (slice_index_or xs k d)
kept_at f move d keeps [] i k = refl
kept_at f move d keeps (x ∷ xs) zero zero = keeps x
kept_at f move d keeps (x ∷ xs) zero (suc k) = refl
kept_at f move d keeps (x ∷ xs) (suc i) zero = refl
kept_at f move d keeps (x ∷ xs) (suc i) (suc k) = kept_at f move d keeps xs i k

module _ (s : Setting) (o : Options) (w : WorldState) (slot : SlotId) (x : SlotState) (is : worlds.slot_at s.nodes w.posts.slots slot ≡ Some x) (sound : Sound s o w) (afloat : Afloat s w) where
  abbrev log : List Sent
  log = afloat.log

  abbrev name : SlotId
  name = x.node.slot

  abbrev t : Slot
  t = slot_of w.cut name

  pub old : SlotAfloat s w.cut w.conductor log x
  old = all_got (SlotAfloat s w.cut w.conductor log) w.posts.slots (number_of s.nodes slot) x afloat.slots (slot_is s.nodes w.posts.slots slot x is).there

  named : IsNamed s.nodes (number_of s.nodes slot) name
  named = place_is s.nodes w.posts.slots sound.names (number_of s.nodes slot) x (slot_is s.nodes w.posts.slots slot x is).there

  has : HasSlot w.cut name
  has = (named.replica, let n = named.node in let m = sound.nodes in omega (arith, n, m))

  -- a move at the slot's place, which leaves what is noted
  module _ (f : Slot → Slot) (leaves_noted : (q : Slot) → (f q).noted ≡ q.noted) (low : (f t).top ≤ s.plan.iterations) (few : IfSome (f t).cap (λ (q : Cap). q.cap ≤ s.plan.iterations)) where
    abbrev cut : CutState
    cut = at_place f (slot_place w.cut.nodes name) w.cut

    pub here : slot_of cut name ≡ f t
    here = moved_here w.cut name sound.agreement has f

    pub away : (other : SlotId) → (other ≡ slot → ⊥) → (other.replica ≤ 1) × (other.node < s.nodes) → SamePlace s w.conductor w.cut cut other
    away other apart there = record {
      round = refl;
      slot = at_or_away (λ q. q ≡ slot_of w.cut other) w.cut name other f sound.agreement has (there.0, let n = there.1 in let m = sound.nodes in omega (arith, n, m))
          (λ same. absurd (apart (sym same ∙ (slot_is s.nodes w.posts.slots slot x is).name))) refl;
    }

    pub beside : Beside s cut w.conductor
    beside = record {
      phase = afloat.beside.phase;
      both = afloat.beside.both;
      counted = afloat.beside.counted;
      going = afloat.beside.going;
      every = afloat.beside.every;
      unended = afloat.beside.unended;
      up = afloat.beside.up;
      first = afloat.beside.first;
      second = afloat.beside.second;
      noted = λ at other q. subst IsSome (sym (kept_at (λ (y : Slot). y.noted) f (opening_slot 0) leaves_noted w.cut.slots (slot_place w.cut.nodes name) (slot_place w.cut.nodes other))) (afloat.beside.noted at other q);
    }

    abbrev after : SlotState
    after = again s.plan cut (with_back x.back x)

    -- the move, where it leaves the slot at a stage
    pub placed_step : Stage cut w.conductor (f t) after old.body → PlainStep s w log slot x (record { slot = after; cut = cut; out = [] })
    placed_step stage = record {
      name = (slot_is s.nodes w.posts.slots slot x is).name;
      body = old.body;
      alive = old.alive;
      after = old.body;
      lives = old.alive;
      other = refl;
      fresh = inl refl;
      pieces = refl;
      sends = tt;
      afloat = record {
        body = old.body;
        alive = old.alive;
        stamp = old.stamp;
        owes = owes_more s.plan s.place (present w.conductor) log [] x.node old.owes;
        back = old.back;
        stage = subst (λ q. Stage cut w.conductor q after old.body) (sym here) stage;
        top = subst (λ (q : Slot). q.top ≤ s.plan.iterations) (sym here) low;
        cap = subst (λ (q : Slot). IfSome q.cap (λ (c : Cap). c.cap ≤ s.plan.iterations)) (sym here) few;
        others = old.others;
        buddy = old.buddy;
      };
      kept = kept;
      others = away;
      beside = beside;
    }
      where
        kept : (letter : Letter) → In letter x.box ⊎ Did s.plan log letter x.node → In letter x.box ⊎ Did s.plan (log ++ []) letter x.node
        kept letter (inl h) = inl h
        kept letter (inr h) = inr (did_more s.plan log [] x.node letter h)

    -- a move that leaves whether it is free, and where it packed and reported, leaves the stage
    pub stage_stays : (f t).free ≡ t.free → (f t).packed ≡ t.packed → (f t).cap ≡ t.cap → Stage cut w.conductor (f t) after old.body
    stage_stays free packed cap_same = by old.stage
      where
        earlier : Earlier w.cut.round t → Earlier cut.round (f t)
        earlier h = record { packed = subst (λ q. IfSome q (λ r. r < number w.cut.round)) (sym packed) h.packed; cap = subst (λ q. IfSome q (λ (c : Cap). c.round < number w.cut.round)) (sym cap_same) h.cap }

        by : Stage w.cut w.conductor t x old.body → Stage cut w.conductor (f t) after old.body
        by (Free h) = Free (record { free = free ∙ h.free; fresh = h.fresh; goes = h.goes; orders = h.orders; base = h.base; packed = subst (λ q. IfSome q (λ r. r < number w.cut.round)) (sym packed) h.packed })
        by (Packed h) = Packed (record { held = free ∙ h.held; piece = h.piece; fresh = h.fresh; agreed = h.agreed; goes = h.goes; since = h.since; orders = h.orders; base = h.base; packed = packed ∙ h.packed })
        by (Accepted h) = Accepted (record { held = free ∙ h.held; piece = h.piece; fresh = h.fresh; at = h.at; goes = h.goes; since = h.since; live = h.live; orders = h.orders; earlier = earlier h.earlier })
        by (Committed h) = Committed (record { held = free ∙ h.held; fresh = h.fresh; waits = h.waits; since = h.since; orders = h.orders; base = h.base; earlier = earlier h.earlier })
        by (Freed h) = Freed (record { held = free ∙ h.held; fresh = h.fresh; goes = h.goes; since = h.since; orders = h.orders; base = h.base; earlier = earlier h.earlier })

  -- ---- it sees the round

  pub see_step : PlainStep s w log slot x (moved_in s.plan x slot_moves.See w.cut)
  unfolding seen_by
  see_step = placed_step (slot_saw w.cut.round) (λ q. refl) old.top old.cap (stage_stays (slot_saw w.cut.round) (λ q. refl) old.top old.cap refl refl refl)

  -- ---- it reports

  pub report_step : report_due (stand w.cut name) (stand w.cut name).seen ≡ true → PlainStep s w log slot x (moved_in s.plan x slot_moves.Report w.cut)
  unfolding reported_by
  report_step due_now = placed_step slot_reported (λ q. refl) old.top old.top (by old.stage)
    where
      free : t.free ≡ true
      free = (may_report t due_now).free

      not_held : t.free ≡ false → ⊥
      not_held h = let q : true ≡ false = sym free ∙ h in cc

      by : Stage w.cut w.conductor t x old.body → Stage (at_place slot_reported (slot_place w.cut.nodes name) w.cut) w.conductor (slot_reported t) (again s.plan (at_place slot_reported (slot_place w.cut.nodes name) w.cut) (with_back x.back x)) old.body
      by (Free h) = Free (record { free = h.free; fresh = h.fresh; goes = h.goes; orders = h.orders; base = h.base; packed = h.packed })
      by (Packed h) = absurd (not_held h.held)
      by (Accepted h) = absurd (not_held h.held)
      by (Committed h) = absurd (not_held h.held)
      by (Freed h) = absurd (not_held h.held)

  -- ---- it is free again

  pub release_step : release_due (stand w.cut name) x.since ≡ true → PlainStep s w log slot x (moved_in s.plan x slot_moves.Release w.cut)
  unfolding released_by
  release_step due_now = placed_step slot_released (λ q. refl) old.top old.cap (by old.stage)
    where
      resumed : x.since ≡ Resumed
      resumed = resumed_is (stand w.cut name) x.since due_now

      not_free : t.free ≡ true → ⊥
      not_free h =
          let q : true ≡ false = sym (second true (not t.free) (ap (λ b. b) (first (true && not t.free) (is_none (stand w.cut name).cap) (ap (λ q. release_due (stand w.cut name) q) (sym resumed) ∙ due_now)))) ∙ ap not h in
          cc

      by : Stage w.cut w.conductor t x old.body → Stage (at_place slot_released (slot_place w.cut.nodes name) w.cut) w.conductor (slot_released t) (again s.plan (at_place slot_released (slot_place w.cut.nodes name) w.cut) (with_back x.back x)) old.body
      by (Free h) = absurd (not_free h.free)
      by (Packed h) = absurd (let q : Nothing ≡ Resumed = sym h.since ∙ resumed in cc)
      by (Accepted h) = absurd (let q : Nothing ≡ Resumed = sym h.since ∙ resumed in cc)
      by (Committed h) = absurd (let q : Ordered ≡ Resumed = sym h.since ∙ resumed in cc)
      by (Freed h) = Free (record { free = refl; fresh = h.fresh; goes = h.goes; orders = h.orders; base = h.base; packed = h.earlier.packed })

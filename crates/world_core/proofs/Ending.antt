-- A world in which nothing is lost stands still only at its end.
use Rattle.std.proofs.Common.{◌≡◌, ℕ, suc, ◌+◌, ◌*◌, ◌<◌, ◌≤◌, inl, inr, Bool, true, false, cond, List, [], ◌∷◌, length, refl, ap, sym, ◌∙◌, arith, subst, Option, Some, None, IsSome}
use Rattle.std.specs.Prelude.{◌⊎◌, ◌==◌, ◌&&◌, IfSome, is_none, is_some, nat_le, nat_lt, not, slice_get, unwrap_or}
use Rattle.std.specs.List.{AllByRecursion, list_all, list_any}
use Rattle.std.proofs.lemmas.Bool.{eq-eqb, eqb-true, leb-true}
use Rattle.std.proofs.lemmas.Bool.Decides.{nat_tests}
use Rattle.chare_base.specs.declared.message.EntryId.{EntryId}
use Rattle.chare_base.specs.declared.message.Port.TheVariants as ports
use Rattle.chare_base.specs.declared.message.ReductionId.{ReductionId}
use Rattle.chare_base.specs.declared.options.Options.{Options}
use Rattle.chare_base.specs.declared.plan.Plan.{Plan}
use Rattle.chare_base.specs.declared.plan.Reduction.{Reduction}
use Rattle.chare_base.specs.declared.slots.SlotId.{SlotId}
use Rattle.chare_base.specs.Elements.{elements, place_of}
use Rattle.chare_base.specs.Entries.{id_of, reduction_of}
use Rattle.chare_base.specs.Laws as laws
use Rattle.chare_base.specs.Placing.{Inhabitant, members}
use Rattle.chare_base.proofs.Facts.{iterations_few, place_in_range}
use Rattle.iteration_agree.specs.declared.round.Round.{Round}
use Rattle.iteration_agree.specs.declared.round.Round.TheVariants as rounds
use Rattle.iteration_agree.specs.declared.round.Sight.{Sight}
use Rattle.iteration_agree.specs.declared.round.Standing.{Standing}
use Rattle.iteration_agree.specs.declared.round.Taking.TheVariants as takings
use Rattle.iteration_agree.specs.declared.slot.Slot.{Slot}
use Rattle.iteration_agree.specs.Cuts.{HasSlot, slot_of, slot_place}
use Rattle.iteration_agree.specs.Rounds.{number, takes_part}
use Rattle.iteration_agree.specs.Slots.{cap_in, is_in}
use Rattle.iteration_agree.specs.Under.{InRound, UnderSlot}
use Rattle.iteration_agree.proofs.Holding.{has_place}
use Rattle.iteration_agree.proofs.Keeping.{one}
use Rattle.iteration_agree.proofs.OneSlot.{cap_here}
use Rattle.pup_state.specs.declared.piece.Piece.{Piece}
use Rattle.letter_post.specs.declared.letter.BoxId.TheVariants as boxes
use Rattle.letter_post.specs.declared.letter.Letter.{Letter}
use Rattle.letter_post.specs.declared.letter.Letter.TheVariants as letters
use Rattle.letter_post.specs.declared.letter.Sent.{Sent}
use Rattle.letter_post.specs.declared.stamp.Stamp.{Stamp}
use Rattle.letter_post.specs.Stamps.{lines_of, same_stamp}
use Rattle.object_steps.specs.Laws.{Follows}
use Rattle.object_steps.specs.Objects.{Fits, Progress, Underway}
use Rattle.object_steps.specs.Turns.{ReadyTells}
use Rattle.run_ledger.specs.Conditions.{due, is_next}
use Rattle.node_core.specs.declared.piece.Held.{Held}
use Rattle.node_core.specs.Keeps.{Alive, IsPieceOf, Keeps, element_of}
use Rattle.node_core.specs.Mail.{BodyDid, BodyOwes, Did, Got, HasContributed, In, Owes, Paid, ParcelWasSent, PartialWasSent, Past, Sends, ShareCame, SharesAreSent, TotalWasSent, TotalsAreSent, TotalsWereSent, reduction_id}
use Rattle.node_core.specs.Nodes.{Body, NodeState, all_at, all_at_by, node_at, objects_of, to_slot, verdict_sent}
use Rattle.node_core.specs.Rosters.{Roster, node_count, nodes_with, number_in, roster_of, sharers_of}
use Rattle.node_core.specs.Turns.{can_run, is_at}
use Rattle.node_core.proofs.Lists.{got_at, all_to}
use Rattle.node_core.proofs.Lowering.{member_lives}
use Rattle.node_core.proofs.Seats.{count_covered}
use Rattle.node_core.proofs.Sharers.{OfArray, has_sharer, in_number, sharer_has, sharers_known}
use Rattle.conductor_core.specs.declared.ending.Outcome.{Outcome}
use Rattle.conductor_core.specs.declared.wants.CutMove.{CutMove}
use Rattle.conductor_core.specs.declared.wants.CutMove.TheVariants as wants
use Rattle.conductor_core.specs.declared.wants.Phase.{Phase}
use Rattle.conductor_core.specs.declared.wants.Phase.TheVariants as phases
use Rattle.conductor_core.specs.Conductors.{move_in, nodes_of, wanted}
use Rattle.conductor_core.specs.Conductors.{sight_of as last_sight}
use Rattle.conductor_core.specs.Conductors as conductors
use Rattle.conductor_core.specs.Moves.{first_unnoted, gather_move, reaches}
use Rattle.conductor_core.specs.Tells.{IsSlot, MoveFits, MovesFit, verdict_at}
use Rattle.world_core.specs.declared.doing.Doing.TheVariants as doings
use Rattle.world_core.specs.declared.event.Actor.TheVariants as actors
use Rattle.world_core.specs.declared.event.Event.{Event}
use Rattle.world_core.specs.declared.event.Event.TheVariants as events
use Rattle.world_core.specs.Moves.{limit_seen, pack_due, release_due, report_due}
use Rattle.world_core.specs.Sound.{IsBounded, IsPlaced, SlotSound, Sound, begun_of, slot_name}
use Rattle.world_core.specs.Still.{Afloat, Arrived, Arrives, IsFree, IsHeld, IsPacked, IsPhase, IsPlain, IsStill, NoStandstill, PairIn, Passes, SlotAfloat, Stage, orders_in, pieces_in, plain_stamp, present, present_in, Free, Packed, Accepted, Committed, Freed, Unsent, OnItsWay, IsThere}
use Rattle.world_core.specs.Worlds.{Setting, SlotState, WorldState, any_news, conductor_due, desk_event, doing_of, enabled, has_cap, has_slot, is_gather, is_quiet, move_due, news_below, sight_in, slot_at, slot_doing, slot_event, stand, takes_move}
use Rattle.world_core.proofs.Due.{second}
use Rattle.world_core.proofs.Idling.{Idles, holds_at, idles, no_doing, rests_at}
use Rattle.world_core.proofs.Lists.{all_got, get_mapped, get_unmapped, in_all}
use Rattle.world_core.proofs.Mailing.{found}
use Rattle.world_core.proofs.Seen.{all_heard, all_or, and_false, any_at, both_true, free_limit, got_in, member_there, min_within, name_at, news_at, no_cap, not_in, not_none, or_none, place_get, roster_count, same_stamp_self, sighted, some_of, tests_all}
use Rattle.world_core.proofs.Standing.{all_done}

-- ---- a slot without an event

-- a world that stands still, whose run goes on
module _ (waits : laws.Waits) (tells : ReadyTells) (shares : SharesAreSent) (totals : TotalsAreSent) (fits : MovesFit)
    (s : Setting) (options : Options) (w : WorldState) (plain : IsPlain s options) (sound : Sound s options w) (afloat : Afloat s w) (still : IsStill s w) (going : w.conductor.outcome ≡ None) where
  abbrev p : Plan
  p = s.plan

  abbrev place : List ℕ
  place = s.place

  abbrev K : ℕ
  K = present w.conductor

  abbrev log : List Sent
  log = afloat.log

  abbrev stamp_at : ℕ → Stamp
  stamp_at r = plain_stamp r

  abbrev slot_in : SlotState → Slot
  slot_in x = slot_of w.cut x.node.slot

  abbrev standing : SlotState → Standing
  standing x = stand w.cut x.node.slot

  placed : IsPlaced s
  placed = plain.placed

  slot_still : (slot : SlotId) (x : SlotState) → slot_at s.nodes w.posts.slots slot ≡ Some x → slot_doing p w.cut x ≡ None
  unfolding enabled
  slot_still slot x is =
      no_doing slot (slot_doing p w.cut x)
      (ap (slot_event p w.cut slot) (sym is) ∙ ap (λ o. cond {A = Option Event} (is_some o) None (slot_event p w.cut slot (slot_at s.nodes w.posts.slots slot))) (sym going) ∙ still (actors.Slot slot))

  desk_still : (w.posts.desk ≡ []) × (conductor_due w ≡ false)
  unfolding enabled
  desk_still = by w.posts.desk (conductor_due w) refl refl (ap (λ o. cond {A = Option Event} (is_some o) None (desk_event w w.posts.desk)) (sym going) ∙ still actors.Conductor)
    where
      by : (desk : List Letter) (b : Bool) → w.posts.desk ≡ desk → conductor_due w ≡ b → desk_event w desk ≡ None → (w.posts.desk ≡ []) × (conductor_due w ≡ false)
      by [] false is at h = (is, at)
      by [] true is at h = absurd (let q : Some events.ConductorMove ≡ None = ap (λ (c : Bool). cond c (Some events.ConductorMove) None) (sym at) ∙ h in cc)
      by (letter ∷ more) b is at h = absurd (let z : Some events.ConductorHear ≡ None = h in cc)

  -- ---- the slot of a name

  record AtSlot (r j : ℕ) : Type 0 where
    x : SlotState
    there : slot_at s.nodes w.posts.slots (record { replica = r; node = j }) ≡ Some x
    name : x.node.slot ≡ record { replica = r; node = j }
    stamp : x.node.last.stamp ≡ stamp_at r
    empty : x.box ≡ []
    keeps : Keeps p s.script place x.node
    owes : Owes p place K log x.node
    b : Body
    alive : x.node.body ≡ Some b
    live : Alive p s.script place x.node b
    pays : BodyOwes p place K log x.node b
    buddy : IfSome b.other (λ (held : Held). held.stamp ≡ plain_stamp 1)
    bounded : AllByRecursion (λ (y : Progress). begun_of y ≤ (standing x).top) b.objects
    within : (standing x).top ≤ p.iterations
    under : UnderSlot w.cut.round w.cut.floor w.cut.taking (slot_in x)
    idle : Idles p w.cut.round (standing x) x.node x.since b
    -- it goes on, or has packed
    settled : IsFree w.cut w.conductor (slot_in x) x b ⊎ IsPacked w.cut w.conductor (slot_in x) x b

  no_orders : (letter : Letter) (more : List Letter) → orders_in [] ≡ letter ∷ more → ⊥
  no_orders letter more h = let q : [] ≡ letter ∷ more = h in cc

  -- a slot with an empty box doesn't wait
  goes_on : (x : SlotState) (b : Body) → x.box ≡ [] → Stage w.cut w.conductor (slot_in x) x b → b.waits ≡ false
  goes_on x b empty (Free is) = is.goes
  goes_on x b empty (Packed is) = is.goes
  goes_on x b empty (Accepted is) = is.goes
  goes_on x b empty (Committed is) = absurd (no_orders (letters.Resume (plain_stamp x.node.slot.replica)) [] (ap orders_in (sym empty) ∙ is.orders))
  goes_on x b empty (Freed is) = is.goes

  settles : (x : SlotState) (b : Body) → x.box ≡ [] → Idles p w.cut.round (standing x) x.node x.since b → Stage w.cut w.conductor (slot_in x) x b →
      IsFree w.cut w.conductor (slot_in x) x b ⊎ IsPacked w.cut w.conductor (slot_in x) x b
  settles x b empty idle (Free is) = inl is
  settles x b empty idle (Packed is) = inr is
  settles x b empty idle (Accepted is) =
      absurd (no_orders (letters.Commit (plain_stamp x.node.slot.replica) w.conductor.ledger.base is.live) (letters.Resume (plain_stamp x.node.slot.replica) ∷ []) (ap orders_in (sym empty) ∙ is.orders))
  settles x b empty idle (Committed is) = absurd (no_orders (letters.Resume (plain_stamp x.node.slot.replica)) [] (ap orders_in (sym empty) ∙ is.orders))
  settles x b empty idle (Freed is) = absurd (let q : true ≡ false = sym due_now ∙ idle.release in cc)
    where
      seen : (slot_in x).seen ≡ w.cut.round
      seen = idle.seen

      none : cap_in (number (slot_in x).seen) (slot_in x).cap ≡ None
      none = ap (λ r. cap_in (number r) (slot_in x).cap) seen ∙ no_cap (slot_in x).cap (number w.cut.round) is.earlier.cap

      due_now : release_due (standing x) x.since ≡ true
      due_now = ap (release_due (standing x)) is.since ∙ ap (λ f. not f && is_none (cap_in (number (slot_in x).seen) (slot_in x).cap)) is.held ∙ ap is_none none

  at_slot : (r j : ℕ) → r < 2 → j < s.nodes → AtSlot r j
  at_slot r j hr hj = record {
    x = u.0;
    there = is;
    name = u.2;
    stamp = old.stamp ∙ ap (λ (n : SlotId). plain_stamp n.replica) u.2;
    empty = empty;
    keeps = its.keeps;
    owes = old.owes;
    b = old.body;
    alive = old.alive;
    live = subst (λ o. IfSome o (Alive p s.script place u.0.node)) old.alive its.keeps.body;
    pays = subst (λ o. IfSome o (BodyOwes p place K log u.0.node)) old.alive old.owes;
    buddy = old.buddy;
    bounded = subst (λ q. AllByRecursion (λ (y : Progress). begun_of y ≤ (standing u.0).top) (objects_of q)) old.alive (subst (λ q. IsBounded (standing u.0).top q (objects_of u.0.node.body)) old.back its.bounded);
    within = old.top;
    under = one w.cut (slot_place w.cut.nodes u.0.node.slot) (has_place w.cut u.0.node.slot sound.agreement has) sound.agreement.under;
    idle = idle;
    settled = settles u.0 old.body empty idle old.stage;
  }
    where
      u : (x : SlotState) × (slice_get w.posts.slots (r * s.nodes + j) ≡ Some x) × (x.node.slot ≡ record { replica = r; node = j })
      u = get_unmapped slot_name w.posts.slots (r * s.nodes + j) (record { replica = r; node = j }) (ap (λ l. slice_get l (r * s.nodes + j)) sound.names ∙ name_at s.nodes r j hr hj)

      is : slot_at s.nodes w.posts.slots (record { replica = r; node = j }) ≡ Some u.0
      is = found s.nodes w.posts.slots (record { replica = r; node = j }) u.0 u.1 u.2

      old : SlotAfloat s w.cut w.conductor log u.0
      old = all_got (SlotAfloat s w.cut w.conductor log) w.posts.slots (r * s.nodes + j) u.0 afloat.slots u.1

      its : SlotSound s w.cut w.conductor u.0
      its = all_got (SlotSound s w.cut w.conductor) w.posts.slots (r * s.nodes + j) u.0 sound.slots u.1

      has : HasSlot w.cut u.0.node.slot
      has = (let q = ap (λ (n : SlotId). n.replica) u.2 in omega (arith, q, hr), let q = ap (λ (n : SlotId). n.node) u.2 in let m = sound.nodes in omega (arith, q, hj, m))

      empty : u.0.box ≡ []
      empty = by u.0.box refl (slot_still (record { replica = r; node = j }) u.0 is)
        where
          by : (box : List Letter) → u.0.box ≡ box → doing_of p w.cut.round (standing u.0) u.0.node box u.0.back u.0.since ≡ None → u.0.box ≡ []
          by [] at h = at
          by (letter ∷ more) at h = absurd (let q : Some doings.Hear ≡ None = h in cc)

      idle : Idles p w.cut.round (standing u.0) u.0.node u.0.since old.body
      idle =
          idles p w.cut.round (standing u.0) u.0.node u.0.since old.body old.alive (goes_on u.0 old.body empty old.stage)
          (ap (λ q. doing_of p w.cut.round (standing u.0) u.0.node [] q u.0.since) (sym old.back) ∙ ap (λ l. doing_of p w.cut.round (standing u.0) u.0.node l u.0.back u.0.since) (sym empty)
          ∙ slot_still (record { replica = r; node = j }) u.0 is)

  node_is : (r j : ℕ) (a : AtSlot r j) → a.x.node.slot.node ≡ j
  node_is r j a = ap (λ (n : SlotId). n.node) a.name

  replica_is : (r j : ℕ) (a : AtSlot r j) → a.x.node.slot.replica ≡ r
  replica_is r j a = ap (λ (n : SlotId). n.replica) a.name

  -- what was sent to a slot is done
  done_at : (r j : ℕ) (a : AtSlot r j) (letter : Letter) → In (to_slot r j letter) log → Did p log letter a.x.node
  done_at r j a letter sent = by (in_all (Arrived s log w) log (to_slot r j letter) afloat.arrived sent a.x a.there)
    where
      by : In letter a.x.box ⊎ Did p log letter a.x.node → Did p log letter a.x.node
      by (inl lies) = absurd (subst (In letter) a.empty lies)
      by (inr did) = did

  did_at : (r j : ℕ) (a : AtSlot r j) (letter : Letter) → In (to_slot r j letter) log → BodyDid p log a.x.node a.b letter
  did_at r j a letter sent = subst (λ o. IfSome o (λ (c : Body). BodyDid p log a.x.node c letter)) a.alive (done_at r j a letter sent)

  own_stamp : (r j : ℕ) (a : AtSlot r j) → same_stamp (stamp_at r) a.x.node.last.stamp ≡ true
  own_stamp r j a = ap (same_stamp (stamp_at r)) a.stamp ∙ same_stamp_self (stamp_at r)

  count_is : node_count place ≡ s.nodes
  count_is = count_covered place s.nodes placed.covers

  bounded_at : (r j : ℕ) (a : AtSlot r j) (m : ℕ) (y : Progress) → slice_get a.b.objects m ≡ Some y → begun_of y ≤ (standing a.x).top
  bounded_at r j a m y there = all_got (λ (z : Progress). begun_of z ≤ (standing a.x).top) a.b.objects m y a.bounded there

  can_not : (r j : ℕ) (a : AtSlot r j) (m : ℕ) (y : Progress) → slice_get a.b.objects m ≡ Some y → can_run p (holds_at p (standing a.x)) y ≡ false
  can_not r j a m y there =
      rests_at p w.cut.round (standing a.x) a.x.node a.x.since a.b a.alive (ap (λ (q : Roster). q.iterations) a.keeps.roster.is ∙ roster_count p place a.x.node.slot.node) a.idle m y there (bounded_at r j a m y there)

  -- ---- where all slots have one limit, all elements have come to it

  module _ (limit : ℕ) (in_job : limit ≤ p.iterations) (limit_is : (r j : ℕ) (a : AtSlot r j) → r < 2 → j < s.nodes → holds_at p (standing a.x) ≡ limit)
      (inside : (r j : ℕ) (a : AtSlot r j) → r < 2 → j < s.nodes → (m : ℕ) (y : Progress) (t : ℕ) → slice_get a.b.objects m ≡ Some y → y.step ≡ Some t → y.done < limit) where
    module _ (r : ℕ) (hr : r < 2) where
      -- an element's object
      record There (e : ℕ) (o : Progress) : Type 0 where
        node : ℕ
        lives : node_at place e ≡ node
        within : node < s.nodes
        at : AtSlot r node
        i : ℕ
        there : slice_get at.b.objects i ≡ Some o
        is : o.element.0 ≡ e

      lives_at : (e : ℕ) → e < elements p → slice_get place e ≡ Some (node_at place e)
      lives_at e h = let count = placed.count in place_get place e (omega (arith, h, count))

      each : (e : ℕ) → e < elements p → (o : Progress) × There e o
      each e h =
          let is = lives_at e h in
          let few : node_at place e < s.nodes = got_at (λ j. j < s.nodes) place e (node_at place e) placed.covers.within is in
          let a : AtSlot r (node_at place e) = at_slot r (node_at place e) hr few in
          let m = member_there place e (node_at place e) is in
          let u = get_unmapped element_of a.b.objects m.0 e (ap (λ l. slice_get l m.0) a.live.members ∙ ap (λ j. slice_get (members place j) m.0) (node_is r (node_at place e) a) ∙ m.1) in
          (u.0, record { node = node_at place e; lives = refl; within = few; at = a; i = m.0; there = u.1; is = u.2 })

      follows : (e : ℕ) (o : Progress) (t : There e o) → Follows p (lines_of s.script t.at.x.node.last.stamp) o
      follows e o t = got_at (Follows p (lines_of s.script t.at.x.node.last.stamp)) t.at.b.objects t.i o t.at.live.objects t.there

      fit : (e : ℕ) (o : Progress) → There e o → Fits p o
      fit e o t = (follows e o t).fits

      underway : (e : ℕ) (o : Progress) (t : ℕ) → There e o → o.step ≡ Some t → o.done < limit
      underway e o t there is = inside r there.node there.at hr there.within there.i o t there.there is

      rests_in : (e : ℕ) (o : Progress) → There e o → can_run p limit o ≡ false
      rests_in e o t = subst (λ l. can_run p l o ≡ false) (limit_is r t.node t.at hr t.within) (can_not r t.node t.at t.i o t.there)

      -- a slot's object is its element's
      object_at : (j : ℕ) (a : AtSlot r j) → j < s.nodes → (m : ℕ) (o : Progress) → slice_get a.b.objects m ≡ Some o → There o.element.0 o
      object_at j a hj m o there =
          let member : slice_get (members place j) m ≡ Some o.element.0 =
          ap (λ k. slice_get (members place k) m) (sym (node_is r j a)) ∙ ap (λ l. slice_get l m) (sym a.live.members) ∙ get_mapped element_of a.b.objects m o there in
          record { node = j; lives = member_lives place j m o.element.0 member; within = hj; at = a; i = m; there = there; is = refl }

      -- ---- a message that was sent is held or was taken

      got_parcel : (x : EntryId) (f t q e k : ℕ) (sender o : Progress) → Sends p x.0 f t q e → There f sender → There e o → Past k t q sender → Got p k (ports.Entry x) o
      got_parcel x f t q e k sender o sends ft et past =
          let n : NodeState = ft.at.x.node in
          let paid : Paid p place n.last.stamp log sender = got_at (Paid p place n.last.stamp log) ft.at.b.objects ft.i sender ft.at.pays.objects ft.there in
          let was : ParcelWasSent place n.last.stamp x.0 k e log = paid x.0 t q e k (subst (λ m. Sends p x.0 m t q e) (sym ft.is) sends) past in
          let own : ParcelWasSent place (stamp_at r) x.0 k e log = subst (λ st. ParcelWasSent place st x.0 k e log) ft.at.stamp was in
          let letter : Letter = letters.Parcel (stamp_at r) (record { 0 = x.0 }) k (id_of e) own.payload in
          let there : In (to_slot r et.node letter) log = subst (λ m. In (to_slot r m letter) log) et.lives own.there in
          let all = did_at r et.node et.at letter there (own_stamp r et.node et.at) in
          got_at (λ (y : Progress). y.element.0 ≡ e → Got p k (ports.Entry x) y) et.at.b.objects et.i o all et.there et.is

      -- ---- and so is a total to which all contributed

      module _ (Q : Type 0) (rd : ReductionId) (x : Reduction) (k : ℕ) (is : reduction_of p rd.0 ≡ Some x)
          (given : (f : ℕ) (other : Progress) → There f other → (place_of p f).array ≡ x.owner → HasContributed p rd.0 k other ⊎ Q) where
        abbrev L : List ℕ
        L = nodes_with p place x.owner (node_count place)

        -- a sharer has sent its share
        sent_share : (j : ℕ) → In j L → PartialWasSent (stamp_at r) rd.0 k j log ⊎ Q
        sent_share j there = by (all_or (λ (other : Progress). (place_of p other.element.0).array ≡ x.owner → HasContributed p rd.0 k other) Q a.b.objects one)
          where
            has : (j < node_count place) × OfArray p (members place j) x.owner
            has = sharer_has p place x.owner (node_count place) j there

            hj : j < s.nodes
            hj = let less = has.0 in omega (arith, less, count_is)

            a : AtSlot r j
            a = at_slot r j hr hj

            own : (o : Progress) × (slice_get a.b.objects has.1.at ≡ Some o) × (o.element.0 ≡ has.1.element)
            own =
                get_unmapped element_of a.b.objects has.1.at has.1.element
                (ap (λ l. slice_get l has.1.at) a.live.members ∙ ap (λ m. slice_get (members place m) has.1.at) (node_is r j a) ∙ has.1.there)

            one : (m : ℕ) (other : Progress) → slice_get a.b.objects m ≡ Some other → ((place_of p other.element.0).array ≡ x.owner → HasContributed p rd.0 k other) ⊎ Q
            one m other at = which ((place_of p other.element.0).array == x.owner) refl
              where
                which : (c : Bool) → ((place_of p other.element.0).array == x.owner) ≡ c → ((place_of p other.element.0).array ≡ x.owner → HasContributed p rd.0 k other) ⊎ Q
                which false h = inl (λ same. absurd (let q : true ≡ false = sym (eq-eqb (place_of p other.element.0).array x.owner same) ∙ h in cc))
                which true h = told (given other.element.0 other (object_at j a hj m other at) (eqb-true (place_of p other.element.0).array x.owner h))
                  where
                    told : HasContributed p rd.0 k other ⊎ Q → ((place_of p other.element.0).array ≡ x.owner → HasContributed p rd.0 k other) ⊎ Q
                    told (inl c) = inl (λ same. c)
                    told (inr q) = inr q

            by : AllByRecursion (λ (other : Progress). (place_of p other.element.0).array ≡ x.owner → HasContributed p rd.0 k other) a.b.objects ⊎ Q → PartialWasSent (stamp_at r) rd.0 k j log ⊎ Q
            by (inr q) = inr q
            by (inl all) =
                let sent : PartialWasSent a.x.node.last.stamp rd.0 k a.x.node.slot.node log =
                shares p s.script place K rd.0 k has.1.at log a.x.node a.b x own.0 a.keeps a.owes a.alive is own.1 (ap (λ m. (place_of p m).array) own.2 ∙ has.1.own) all in
                inl (subst (λ m. PartialWasSent (stamp_at r) rd.0 k m log) (node_is r j a) (subst (λ st. PartialWasSent st rd.0 k a.x.node.slot.node log) a.stamp sent))

        got_total : (e : ℕ) (o : Progress) → There e o → (place_of p e).array ≡ x.owner → Got p k (ports.Total rd) o ⊎ Q
        got_total e o t own = by (all_or (λ j. PartialWasSent (stamp_at r) rd.0 k j log) Q L (λ i j h. sent_share j (got_in L i j h)))
          where
            some : 0 < s.nodes
            some = let h = t.within in omega (arith, h)

            a : AtSlot r 0
            a = at_slot r 0 hr some

            there_e : e < elements p
            there_e = subst (λ m. m < elements p) t.is (fit e o t).there

            member : (m : ℕ) × (slice_get (members place t.node) m ≡ Some e)
            member = member_there place e t.node (lives_at e there_e ∙ ap Some t.lives)

            is_sharer : In t.node L
            is_sharer = has_sharer p place x.owner (node_count place) t.node member.0 e (let h = t.within in omega (arith, h, count_is)) member.1 own

            known : sharers_of a.x.node.roster x.owner ≡ L
            known =
                ap (λ q. sharers_of q x.owner) a.keeps.roster.is ∙ ap (λ m. sharers_of (roster_of p place m) x.owner) (node_is r 0 a)
                ∙ sharers_known p place x.owner (subst (λ m. m < length p.arrays) own (place_in_range p e there_e))

            number : (m : ℕ) × (number_in 0 L t.node ≡ Some m)
            number = in_number 0 L t.node is_sharer

            came : (j : ℕ) → PartialWasSent (stamp_at r) rd.0 k j log → ShareCame p rd.0 k log a.x.node j
            came j sent = record {
              value = sent.value;
              did = subst (λ st. Did p log (letters.Partial st (reduction_id rd.0) k j sent.value) a.x.node) (sym a.stamp) (done_at r 0 a (letters.Partial (stamp_at r) (reduction_id rd.0) k j sent.value) sent.there);
            }

            by : AllByRecursion (λ j. PartialWasSent (stamp_at r) rd.0 k j log) L ⊎ Q → Got p k (ports.Total rd) o ⊎ Q
            by (inr q) = inr q
            by (inl all) =
                let each_came : AllByRecursion (ShareCame p rd.0 k log a.x.node) L = all_to (λ j. PartialWasSent (stamp_at r) rd.0 k j log) (ShareCame p rd.0 k log a.x.node) L came all in
                let were : TotalsWereSent a.x.node.last.stamp rd.0 k (sharers_of a.x.node.roster x.owner) log =
                totals p s.script place rd.0 k number.0 t.node log a.x.node a.b x a.keeps a.alive is (ap (λ l. number_in 0 l t.node) known ∙ number.1)
                (subst (AllByRecursion (ShareCame p rd.0 k log a.x.node)) (sym known) each_came) in
                let ours : TotalsWereSent (stamp_at r) rd.0 k L log = subst (λ l. TotalsWereSent (stamp_at r) rd.0 k l log) known (subst (λ st. TotalsWereSent st rd.0 k (sharers_of a.x.node.roster x.owner) log) a.stamp were) in
                let was : TotalWasSent (stamp_at r) rd.0 k log t.node = in_all (TotalWasSent (stamp_at r) rd.0 k log) L t.node ours is_sharer in
                let every = did_at r t.node t.at (letters.Total (stamp_at r) (reduction_id rd.0) k was.value) was.there (own_stamp r t.node t.at) x is in
                inl (got_at (λ (y : Progress). (place_of p y.element.0).array ≡ x.owner → Got p k (ports.Total rd) y) t.at.b.objects t.i o every t.there (ap (λ m. (place_of p m).array) t.is ∙ own))

      finished : (e : ℕ) (o : Progress) → There e o → (o.step ≡ None) × (limit ≤ o.done)
      finished e o there = all_done waits tells p limit in_job There each (λ e o t. t.is) fit underway rests_in got_parcel (λ Q rd x k e o is t own given. got_total Q rd x k is given e o t own) e o there

    -- each slot has an element, so its top is the limit or more
    top_reaches : (r j : ℕ) (a : AtSlot r j) → r < 2 → j < s.nodes → limit ≤ (standing a.x).top
    top_reaches r j a hr hj =
        let low : limit ≤ u.1.done = end.1 in
        let high : u.1.done ≤ (standing a.x).top = subst (λ st. cond (is_none st) u.1.done (suc u.1.done) ≤ (standing a.x).top) end.0 (bounded_at r j a u.0 u.1 u.2) in
        omega (arith, low, high)
      where
        lives : Inhabitant place j
        lives = placed.covers.inhabited j hj

        u : (m : ℕ) × (y : Progress) × (slice_get a.b.objects m ≡ Some y)
        u =
            let m = member_there place lives.element j lives.lives in
            let v = get_unmapped element_of a.b.objects m.0 lives.element (ap (λ l. slice_get l m.0) a.live.members ∙ ap (λ k. slice_get (members place k) m.0) (node_is r j a) ∙ m.1) in (m.0, v.0, v.1)

        end : (u.1.step ≡ None) × (limit ≤ u.1.done)
        end = finished r hr u.1.element.0 u.1 (object_at r hr j a hj u.0 u.1 u.2)

    -- and they have completed as many iterations as the top, where that is the limit
    all_there : (r j : ℕ) (a : AtSlot r j) → r < 2 → j < s.nodes → (standing a.x).top ≤ limit → all_at limit a.x.node ≡ true
    unfolding all_at
    all_there r j a hr hj low = ap (λ q. all_at_by limit q) a.alive ∙ tests_all (is_at limit) a.b.objects at_end
      where
        at_end : (m : ℕ) (y : Progress) → slice_get a.b.objects m ≡ Some y → is_at limit y ≡ true
        at_end m y there =
            let end = finished r hr y.element.0 y (object_at r hr j a hj m y there) in
            let least : limit ≤ y.done = end.1 in
            let most : y.done ≤ (standing a.x).top = subst (λ st. cond (is_none st) y.done (suc y.done) ≤ (standing a.x).top) end.0 (bounded_at r j a m y there) in
            ap (λ st. is_none st && y.done == limit) end.0 ∙ eq-eqb y.done limit (omega (arith, least, most, low))

  -- ---- the conductor has no move

  wanted_is : wanted w.conductor ≡ move_in w.conductor w.conductor.phase
  unfolding wanted
  wanted_is = ap (λ q. cond (is_some q) wants.None (move_in w.conductor w.conductor.phase)) going

  not_due : (m : CutMove) → wanted w.conductor ≡ m → takes_move w.cut m ≡ true → move_due w.cut w.conductor m ≡ true → ⊥
  not_due m is takes due_now =
      let all : (takes_move w.cut m && move_due w.cut w.conductor m) ≡ true = both_true (takes_move w.cut m) (move_due w.cut w.conductor m) takes due_now in
      let q : true ≡ false = sym all ∙ ap (λ x. takes_move w.cut x && move_due w.cut w.conductor x) (sym is) ∙ desk_still.1 in
      cc

  few_nodes : options.nodes ≡ s.nodes
  few_nodes = plain.options.nodes

  fits_so : (m : CutMove) → wanted w.conductor ≡ m → MoveFits p options.nodes w.conductor m
  fits_so m is = subst (MoveFits p options.nodes w.conductor) is (fits p s.script options place w.conductor (let some = plain.some in let n = few_nodes in omega (arith, some, n)) sound.conductor)

  has_is : (slot : SlotId) → IsSlot options.nodes slot → has_slot w.cut slot ≡ true
  has_is slot h =
      let replica : slot.replica ≤ 1 = h.0 in
      let node : slot.node < options.nodes = h.1 in
      let n = few_nodes in
      let m = sound.nodes in
      both_true (nat_le slot.replica 1) (nat_lt slot.node w.cut.nodes) (grind (arith, nat_tests, replica)) (grind (arith, nat_tests, node, n, m))

  job_is : w.conductor.ledger.iterations ≡ p.iterations
  job_is = sound.conductor.recorded.job

  free_in : (r j : ℕ) (a : AtSlot r j) → ((k : ℕ) → w.conductor.phase ≡ phases.Agreed k → ⊥) → IsFree w.cut w.conductor (slot_in a.x) a.x a.b
  free_in r j a never = by a.settled
    where
      by : IsFree w.cut w.conductor (slot_in a.x) a.x a.b ⊎ IsPacked w.cut w.conductor (slot_in a.x) a.x a.b → IsFree w.cut w.conductor (slot_in a.x) a.x a.b
      by (inl is) = is
      by (inr is) = absurd (never is.piece.iteration is.agreed)

  -- ---- a quiet round

  module _ (number_is : ℕ) (round_is : w.cut.round ≡ rounds.Quiet number_is) (phase_is : w.conductor.phase ≡ phases.Quiet) where
    quiet_limit : (r j : ℕ) (a : AtSlot r j) → r < 2 → j < s.nodes → holds_at p (standing a.x) ≡ p.iterations
    quiet_limit r j a hr hj =
        free_limit p (standing a.x) (rounds.Quiet number_is) (a.idle.seen ∙ round_is) (free_in r j a (λ k h. let q : phases.Quiet ≡ phases.Agreed k = sym phase_is ∙ h in cc)).free

    quiet_inside : (r j : ℕ) (a : AtSlot r j) → r < 2 → j < s.nodes → (m : ℕ) (y : Progress) (t : ℕ) → slice_get a.b.objects m ≡ Some y → y.step ≡ Some t → y.done < p.iterations
    quiet_inside r j a hr hj m y t there is =
        let follows : Follows p (lines_of s.script a.x.node.last.stamp) y = all_got (Follows p (lines_of s.script a.x.node.last.stamp)) a.b.objects m y a.live.objects there in
        (subst (λ q. IfSome q (Underway p y)) is follows.fits.underway).iteration

    abbrev floor : ℕ
    floor = due w.conductor.ledger

    abbrev first_slot : SlotId
    first_slot = record { replica = 0; node = 0 }

    -- replica 0's first slot is at the last iteration, and was seen there
    seen_at_last : any_news w.cut w.conductor ≡ false → list_any (reaches floor) w.conductor.sights ≡ true
    seen_at_last h = any_at (reaches floor) w.conductor.sights (slot_place (nodes_of w.conductor) first_slot) old.0 old.1 enough
      where
        some : 0 < s.nodes
        some = let n = plain.some in omega (arith, n)

        a : AtSlot 0 0
        a = at_slot 0 0 (omega arith) some

        top : p.iterations ≤ (slot_of w.cut first_slot).top
        top = subst (λ (n : SlotId). p.iterations ≤ (slot_of w.cut n).top) a.name (top_reaches p.iterations (omega arith) quiet_limit quiet_inside 0 0 a (omega arith) some)

        old : (sight : Sight) × (last_sight first_slot w.conductor ≡ Some sight) × (sight.top ≡ (sight_in w.cut first_slot).top)
        old =
            sighted (last_sight first_slot w.conductor) (sight_in w.cut first_slot)
            (news_at w.cut w.conductor 0 w.cut.nodes 0 (or_none (news_below w.cut w.conductor 0 w.cut.nodes) (news_below w.cut w.conductor 1 w.cut.nodes) h).0 (let n = sound.nodes in omega (arith, some, n)))

        enough : nat_le floor old.0.top ≡ true
        enough =
            let last : floor ≤ w.conductor.ledger.iterations = min_within (w.conductor.ledger.base + w.conductor.ledger.options.every) w.conductor.ledger.iterations in
            let same : old.0.top ≡ (slot_of w.cut first_slot).top = old.2 in
            let job = job_is in
            grind (arith, nat_tests, last, same, job, top)

    quiet_never : ⊥
    quiet_never = by (list_any (reaches floor) w.conductor.sights) (any_news w.cut w.conductor) refl refl
      where
        moves : (b : Bool) → list_any (reaches floor) w.conductor.sights ≡ b → wanted w.conductor ≡ cond b (wants.OpenRound floor) (wants.Look w.conductor.next_look)
        moves b h = wanted_is ∙ ap (move_in w.conductor) phase_is ∙ ap (λ c. cond c (wants.OpenRound floor) (wants.Look w.conductor.next_look)) h

        by : (b c : Bool) → list_any (reaches floor) w.conductor.sights ≡ b → any_news w.cut w.conductor ≡ c → ⊥
        by true c h g =
            let low : floor ≤ p.iterations = (fits_so (wants.OpenRound floor) (moves true h)).2 in
            let few = iterations_few p in
            not_due (wants.OpenRound floor) (moves true h) (both_true (is_quiet w.cut.round) (nat_le floor 1000000) (ap is_quiet round_is) (grind (arith, nat_tests, low, few))) refl
        by false true h g = not_due (wants.Look w.conductor.next_look) (moves false h) (has_is w.conductor.next_look (fits_so (wants.Look w.conductor.next_look) (moves false h)).1) g
        by false false h g = let q : true ≡ false = sym (seen_at_last g) ∙ h in cc

  -- ---- a round that gathers

  module _ (number_is low : ℕ) (round_is : w.cut.round ≡ rounds.Gather number_is low) (phase_is : w.conductor.phase ≡ phases.Gather) where
    has_reported : (slot : SlotId) → IsSlot options.nodes slot → has_cap (sight_in w.cut slot) ≡ true
    has_reported slot h = subst (λ (n : SlotId). is_some (cap_in (number w.cut.round) (slot_of w.cut n).cap) ≡ true) a.name here
      where
        a : AtSlot slot.replica slot.node
        a = at_slot slot.replica slot.node (let q = h.0 in omega (arith, q)) (let q = h.1 in let n = few_nodes in omega (arith, q, n))

        free : (slot_in a.x).free ≡ true
        free = (free_in slot.replica slot.node a (λ k g. let q : phases.Gather ≡ phases.Agreed k = sym phase_is ∙ g in cc)).free

        seen : (standing a.x).seen ≡ rounds.Gather number_is low
        seen = a.idle.seen ∙ round_is

        report : ((standing a.x).free && is_none (standing a.x).cap) ≡ false
        report = ap (report_due (standing a.x)) (sym seen) ∙ a.idle.report

        none : is_none (standing a.x).cap ≡ false
        none = ap (λ b. b && is_none (standing a.x).cap) (sym free) ∙ report

        here : is_some (cap_in (number w.cut.round) (slot_in a.x).cap) ≡ true
        here = ap (λ q. is_some (cap_in (number q) (slot_in a.x).cap)) (sym a.idle.seen) ∙ not_none (standing a.x).cap none

    gather_never : ⊥
    gather_never = by (first_unnoted w.conductor.noted (nodes_of w.conductor)) refl
      where
        moves : (q : Option SlotId) → first_unnoted w.conductor.noted (nodes_of w.conductor) ≡ q → wanted w.conductor ≡ gather_move q
        moves q h = wanted_is ∙ ap (move_in w.conductor) phase_is ∙ ap gather_move h

        by : (q : Option SlotId) → first_unnoted w.conductor.noted (nodes_of w.conductor) ≡ q → ⊥
        by None h = not_due (wants.Agree takings.Both) (moves None h) (both_true (is_gather w.cut.round) true (ap is_gather round_is) refl) refl
        by (Some slot) h =
            let its : IsSlot options.nodes slot = (fits_so (wants.Note slot) (moves (Some slot) h)).1 in
            not_due (wants.Note slot) (moves (Some slot) h) (has_is slot its) (has_reported slot its)

  -- ---- an agreed round

  module _ (number_is k : ℕ) (round_is : w.cut.round ≡ rounds.Agreed number_is k) (phase_is : w.conductor.phase ≡ phases.Agreed k) (next : is_next w.conductor.ledger k ≡ true) where
    agreed_within : k ≤ p.iterations
    agreed_within =
        let last : k ≤ w.conductor.ledger.iterations =
        leb-true k w.conductor.ledger.iterations (second (nat_le (due w.conductor.ledger) k && nat_lt w.conductor.ledger.base k) (nat_le k w.conductor.ledger.iterations) next) in
        let job = job_is in
        omega (arith, last, job)

    -- each slot is noted, and its top is at most the agreed iteration
    record Noted (x : SlotState) : Type 0 where
      top : (standing x).top ≤ k
      n : ℕ
      cap : (slot_in x).cap ≡ Some (record { cap = n; round = number w.cut.round })

    noted_at : (r j : ℕ) (a : AtSlot r j) → Noted a.x
    noted_at r j a = record {
      top = here.1;
      n = n.0;
      cap = subst (λ q. IfSome q (λ n. (slot_in a.x).cap ≡ Some (record { cap = n; round = number w.cut.round }))) n.1 a.under.noted;
    }
      where
        here : IsSome (slot_in a.x).noted × ((slot_in a.x).top ≤ k)
        here = subst (λ q. InRound q w.cut.floor w.cut.taking (slot_in a.x)) round_is a.under.here (ap (λ q. takes_part q (slot_in a.x).replica) afloat.beside.both)

        n : (n : ℕ) × ((slot_in a.x).noted ≡ Some n)
        n = some_of (slot_in a.x).noted here.0

    cap_is : (r j : ℕ) (a : AtSlot r j) → (standing a.x).cap ≡ Some (noted_at r j a).n
    cap_is r j a =
        ap (cap_in (number (slot_in a.x).seen)) (noted_at r j a).cap ∙ cap_here (record { cap = (noted_at r j a).n; round = number w.cut.round }) (number (slot_in a.x).seen) (ap number (sym a.idle.seen))

    agreed_limit : (r j : ℕ) (a : AtSlot r j) → r < 2 → j < s.nodes → holds_at p (standing a.x) ≡ k
    agreed_limit r j a hr hj =
        ap (λ q. unwrap_or (cond (not t.free && is_none q) (Some t.top) (limit_seen t t.seen)) p.iterations) (cap_is r j a)
        ∙ ap (λ b. unwrap_or (cond b (Some t.top) (limit_seen t t.seen)) p.iterations) (and_false (not t.free))
        ∙ ap (λ q. unwrap_or (limit_seen t q) p.iterations) (a.idle.seen ∙ round_is)
      where
        t : Standing
        t = standing a.x

    agreed_inside : (r j : ℕ) (a : AtSlot r j) → r < 2 → j < s.nodes → (m : ℕ) (y : Progress) (t : ℕ) → slice_get a.b.objects m ≡ Some y → y.step ≡ Some t → y.done < k
    agreed_inside r j a hr hj m y t there is =
        let low : suc y.done ≤ (standing a.x).top = subst (λ q. cond (is_none q) y.done (suc y.done) ≤ (standing a.x).top) is (bounded_at r j a m y there) in
        let high = (noted_at r j a).top in
        omega (arith, low, high)

    -- so each slot has packed there
    packed_at : (r j : ℕ) (a : AtSlot r j) → r < 2 → j < s.nodes → IsPacked w.cut w.conductor (slot_in a.x) a.x a.b
    packed_at r j a hr hj = by a.settled
      where
        t : Standing
        t = standing a.x

        top : t.top ≡ k
        top = let low : k ≤ t.top = top_reaches k agreed_within agreed_limit agreed_inside r j a hr hj in let high : t.top ≤ k = (noted_at r j a).top in omega (arith, low, high)

        pack : pack_due p a.x.node t (rounds.Agreed number_is k) ≡ None
        pack = ap (pack_due p a.x.node t) (sym (a.idle.seen ∙ round_is)) ∙ a.idle.pack

        by : IsFree w.cut w.conductor (slot_in a.x) a.x a.b ⊎ IsPacked w.cut w.conductor (slot_in a.x) a.x a.b → IsPacked w.cut w.conductor (slot_in a.x) a.x a.b
        by (inr is) = is
        by (inl is) = absurd (let q : Some k ≡ None = ap (λ b. cond b (Some k) None) (sym all) ∙ pack in cc)
          where
            not_yet : t.packed ≡ false
            not_yet = ap (λ q. is_in (number q) (slot_in a.x).packed) a.idle.seen ∙ not_in (slot_in a.x).packed (number w.cut.round) is.packed

            few : nat_le k p.iterations ≡ true
            few = let h = agreed_within in grind (arith, nat_tests, h)

            at_end : all_at k a.x.node ≡ true
            at_end = all_there k agreed_within agreed_limit agreed_inside r j a hr hj (noted_at r j a).top

            all : (t.top == k && nat_le k p.iterations && not t.packed && all_at k a.x.node) ≡ true
            all =
                both_true (t.top == k && nat_le k p.iterations && not t.packed) (all_at k a.x.node)
                (both_true (t.top == k && nat_le k p.iterations) (not t.packed) (both_true (t.top == k) (nat_le k p.iterations) (eq-eqb t.top k top) few) (ap not not_yet)) at_end

    packed_k : (r j : ℕ) (a : AtSlot r j) (is : IsPacked w.cut w.conductor (slot_in a.x) a.x a.b) → is.piece.iteration ≡ k
    packed_k r j a is = ap (present_in 0) (sym is.agreed ∙ phase_is)

    -- and the conductor has heard the verdict of each node
    heard_at : (j : ℕ) → j < s.nodes → IsSome (verdict_at w.conductor.verdicts j)
    heard_at j hj = told (in_all (Arrived s log w) log (verdict_sent p a.x.node.last.stamp is.piece held.held) afloat.arrived sent)
      where
        a : AtSlot 0 j
        a = at_slot 0 j (omega arith) hj

        other : AtSlot 1 j
        other = at_slot 1 j (omega arith) hj

        is : IsPacked w.cut w.conductor (slot_in a.x) a.x a.b
        is = packed_at 0 j a (omega arith) hj

        its : IsPacked w.cut w.conductor (slot_in other.x) other.x other.b
        its = packed_at 1 j other (omega arith) hj

        passes : Passes k other.x a.x a.b other.b
        passes = subst (λ q. PairIn q other.x a.x a.b other.b) phase_is (afloat.pairs j hj a.x other.x a.b other.b a.there other.there a.alive other.alive)

        held : IsHeld k other.x a.x a.b other.b
        held = by passes
          where
            by : Passes k other.x a.x a.b other.b → IsHeld k other.x a.x a.b other.b
            by (Unsent h) = absurd (let q : None ≡ Some its.piece = sym h.unpacked ∙ its.fresh in cc)
            by (OnItsWay h) = absurd (let q : [] ≡ record { stamp = plain_stamp 1; piece = h.piece } ∷ [] = ap pieces_in (sym a.empty) ∙ h.one in cc)
            by (IsThere h) = h

        own : IsPieceOf p place (lines_of s.script a.x.node.last.stamp) a.x.node.slot.node is.piece
        own = subst (λ q. IfSome q (IsPieceOf p place (lines_of s.script a.x.node.last.stamp) a.x.node.slot.node)) is.fresh a.live.fresh

        mine_node : is.piece.node ≡ j
        mine_node = own.node ∙ node_is 0 j a

        not_one : a.x.node.slot.replica ≡ 1 → ⊥
        not_one h = let q = replica_is 0 j a in omega (arith, h, q)

        sent : In (verdict_sent p a.x.node.last.stamp is.piece held.held) log
        sent =
            subst (λ q. IfSome q (λ (h : Held). is.piece.iteration ≡ h.piece.iteration → In (verdict_sent p a.x.node.last.stamp is.piece h) log)) held.there
            (subst (λ q. IfSome q (λ (m : Piece). IfSome a.b.other (λ (h : Held). m.iteration ≡ h.piece.iteration → In (verdict_sent p a.x.node.last.stamp m h) log))) is.fresh (a.pays.verdict not_one))
            (packed_k 0 j a is ∙ sym held.at)

        at_present : conductors.is_at is.piece.iteration w.conductor.phase ≡ true
        at_present = ap (conductors.is_at is.piece.iteration) phase_is ∙ eq-eqb is.piece.iteration k (packed_k 0 j a is)

        first_same : same_stamp a.x.node.last.stamp w.conductor.first ≡ true
        first_same = ap (λ st. same_stamp st w.conductor.first) a.stamp ∙ ap (same_stamp (stamp_at 0)) afloat.beside.first

        second_same : same_stamp held.held.stamp w.conductor.second ≡ true
        second_same =
            let st : held.held.stamp ≡ plain_stamp 1 = subst (λ q. IfSome q (λ (h : Held). h.stamp ≡ plain_stamp 1)) held.there a.buddy in
            ap (λ q. same_stamp q w.conductor.second) st ∙ ap (same_stamp (plain_stamp 1)) afloat.beside.second

        told : Arrives s log w boxes.Conductor (verdict_sent p a.x.node.last.stamp is.piece held.held).letter → IsSome (verdict_at w.conductor.verdicts j)
        told (inl lies) = absurd (subst (In (verdict_sent p a.x.node.last.stamp is.piece held.held).letter) desk_still.0 lies)
        told (inr done) =
            let within : is.piece.node < length w.conductor.verdicts = let count = sound.conductor.sized.verdicts in let n = few_nodes in omega (arith, mine_node, hj, count, n) in
            subst (λ m. IsSome (verdict_at w.conductor.verdicts m)) mine_node (done at_present within first_same second_same)

    agreed_never : ⊥
    agreed_never = not_due wants.Quiet moves (both_true (not (is_quiet w.cut.round)) (nat_lt (number w.cut.round) 1000129) (ap (λ q. not (is_quiet q)) round_is) few) refl
      where
        all : list_all is_some w.conductor.verdicts ≡ true
        all = all_heard w.conductor.verdicts (λ j h. heard_at j (let count = sound.conductor.sized.verdicts in let n = few_nodes in omega (arith, h, count, n)))

        moves : wanted w.conductor ≡ wants.Quiet
        moves = wanted_is ∙ ap (move_in w.conductor) phase_is ∙ ap (λ b. cond b wants.Quiet wants.None) all

        few : nat_lt (number w.cut.round) 1000129 ≡ true
        few =
            let n = afloat.beside.counted in
            let base = afloat.beside.going in
            let m = iterations_few p in
            grind (arith, nat_tests, n, base, m)

  -- ---- the end

  pub never : ⊥
  never = by w.conductor.phase w.cut.round refl refl afloat.beside.phase
    where
      by : (phase : Phase) (round : Round) → w.conductor.phase ≡ phase → w.cut.round ≡ round → IsPhase w.conductor w.cut.floor phase round → ⊥
      by phases.Quiet (rounds.Quiet r) phase_is round_is h = quiet_never r round_is phase_is
      by phases.Quiet (rounds.Gather r f) phase_is round_is h = h
      by phases.Quiet (rounds.Agreed r k) phase_is round_is h = h
      by phases.Gather (rounds.Quiet r) phase_is round_is h = h
      by phases.Gather (rounds.Gather r f) phase_is round_is h = gather_never r f round_is phase_is
      by phases.Gather (rounds.Agreed r k) phase_is round_is h = h
      by (phases.Agreed j) (rounds.Quiet r) phase_is round_is h = h
      by (phases.Agreed j) (rounds.Gather r f) phase_is round_is h = h
      by (phases.Agreed j) (rounds.Agreed r k) phase_is round_is h = agreed_never r k round_is (phase_is ∙ ap phases.Agreed h.0) h.1

pub no_standstill : laws.Waits → ReadyTells → SharesAreSent → TotalsAreSent → MovesFit → NoStandstill
no_standstill waits tells shares totals fits s options w plain sound afloat still = by w.conductor.outcome refl
  where
    by : (q : Option Outcome) → w.conductor.outcome ≡ q → IsSome w.conductor.outcome
    by (Some x) is = ap is_some is
    by None is = absurd (never waits tells shares totals fits s options w plain sound afloat still is)

-- Runs, mail that is no piece, and the orders of an accepted checkpoint lose nothing.
use Rattle.std.proofs.Common.{◌≡◌, ℕ, ◌≤◌, inl, inr, true, List, [], ◌∷◌, ◌++◌, refl, ap, sym, ◌∙◌, subst, Some, None}
use Rattle.std.specs.Prelude.{◌⊎◌, IfSome}
use Rattle.std.specs.List.{AllByRecursion}
use Rattle.chare_base.specs.declared.options.Options.{Options}
use Rattle.chare_base.specs.declared.plan.ElementId.{ElementId}
use Rattle.chare_base.specs.declared.slots.SlotId.{SlotId}
use Rattle.iteration_agree.specs.declared.slot.Cap.{Cap}
use Rattle.iteration_agree.specs.declared.slot.Slot.{Slot}
use Rattle.iteration_agree.specs.Cuts.{CutState, slot_of}
use Rattle.letter_post.specs.declared.letter.BoxId.TheVariants as boxes
use Rattle.letter_post.specs.declared.letter.Letter.{Letter}
use Rattle.letter_post.specs.declared.letter.Letter.TheVariants as letters
use Rattle.letter_post.specs.declared.letter.Sent.{Sent}
use Rattle.letter_post.specs.Orders.{is_mail}
use Rattle.letter_post.specs.Truth.{Holds}
use Rattle.node_core.specs.declared.piece.Held.{Held}
use Rattle.node_core.specs.Mail.{Did, HearsMove, HearsMoveOn, In, IsAt, Moves, Owes, RunsMove}
use Rattle.node_core.specs.Nodes.{Body, NodeState, Outcome, node_heard, node_ran, outcome_of}
use Rattle.conductor_core.specs.Conductors.{ConductorState}
use Rattle.world_core.specs.Sound.{SlotSound, Sound}
use Rattle.world_core.specs.Still.{Accepted, Afloat, Committed, Free, Freed, Packed, SlotAfloat, Stage, orders_in, pieces_in, plain_stamp, present}
use Rattle.world_core.specs.Worlds.{Setting, SlotState, WorldState, acted, after_slot, number_of, renewed, slot_at, slot_ran, slot_ran_by, stand}
use Rattle.world_core.proofs.Floating.{PlainStep, plain_afloat}
use Rattle.world_core.proofs.Lists.{all_got}
use Rattle.world_core.proofs.Mailing.{slot_is}
use Rattle.world_core.proofs.Waking.{IsNoPiece, Leaves, heard_leaves, ran_leaves}

-- a stage asks of a body its fresh piece, and whether it waits
pub stage_on : (cut : CutState) (c : ConductorState) (t : Slot) (x y : SlotState) (b after : Body) → after.fresh ≡ b.fresh → after.waits ≡ b.waits → y.node.slot ≡ x.node.slot → y.node.last ≡ x.node.last → y.since ≡ x.since → orders_in y.box ≡ orders_in x.box →
    Stage cut c t x b → Stage cut c t y after
stage_on cut c t x y b after fresh waits name last since orders (Free is) =
    Free (record { free = is.free; fresh = fresh ∙ is.fresh; goes = waits ∙ is.goes; orders = orders ∙ is.orders; base = ap (λ l. l.base) last ∙ is.base; packed = is.packed })
stage_on cut c t x y b after fresh waits name last since orders (Packed is) =
    Packed (record { held = is.held; piece = is.piece; fresh = fresh ∙ is.fresh; agreed = is.agreed; goes = waits ∙ is.goes; since = since ∙ is.since; orders = orders ∙ is.orders; base = ap (λ l. l.base) last ∙ is.base; packed = is.packed })
stage_on cut c t x y b after fresh waits name last since orders (Accepted is) =
    Accepted
    (record {
      held = is.held;
      piece = is.piece;
      fresh = fresh ∙ is.fresh;
      at = is.at;
      goes = waits ∙ is.goes;
      since = since ∙ is.since;
      live = is.live;
      orders = subst (λ (n : SlotId). orders_in y.box ≡ letters.Commit (plain_stamp n.replica) c.ledger.base is.live ∷ letters.Resume (plain_stamp n.replica) ∷ []) (sym name) (orders ∙ is.orders);
      earlier = is.earlier;
    })
stage_on cut c t x y b after fresh waits name last since orders (Committed is) =
    Committed
    (record {
      held = is.held;
      fresh = fresh ∙ is.fresh;
      waits = waits ∙ is.waits;
      since = since ∙ is.since;
      orders = subst (λ (n : SlotId). orders_in y.box ≡ letters.Resume (plain_stamp n.replica) ∷ []) (sym name) (orders ∙ is.orders);
      base = ap (λ l. l.base) last ∙ is.base;
      earlier = is.earlier;
    })
stage_on cut c t x y b after fresh waits name last since orders (Freed is) =
    Freed (record { held = is.held; fresh = fresh ∙ is.fresh; goes = waits ∙ is.goes; since = since ∙ is.since; orders = orders ∙ is.orders; base = ap (λ l. l.base) last ∙ is.base; earlier = is.earlier })

-- what was done at a node stays done, and what lay in its inbox lies there
stays_kept : (s : Setting) (K : ℕ) (log : List Sent) (n : NodeState) (box : List Letter) (o : Outcome) → Moves s.plan s.place K n o → Owes s.plan s.place K log n → (letter : Letter) →
    In letter box ⊎ Did s.plan log letter n → In letter box ⊎ Did s.plan (log ++ o.out) letter o.node
stays_kept s K log n box o moves owes letter (inl h) = inl h
stays_kept s K log n box o moves owes letter (inr h) = inr (moves.did log letter owes h)

pub heard_kept : (s : Setting) (K : ℕ) (log : List Sent) (n : NodeState) (first : Letter) (more : List Letter) (o : Outcome) → Moves s.plan s.place K n o → Owes s.plan s.place K log n → Did s.plan (log ++ o.out) first o.node → (letter : Letter) →
    In letter (first ∷ more) ⊎ Did s.plan log letter n → In letter more ⊎ Did s.plan (log ++ o.out) letter o.node
heard_kept s K log n first more o moves owes did letter (inr h) = inr (moves.did log letter owes h)
heard_kept s K log n first more o moves owes did letter (inl (inl q)) = inr (subst (λ l. Did s.plan (log ++ o.out) l o.node) (sym q) did)
heard_kept s K log n first more o moves owes did letter (inl (inr q)) = inl q

module _ (s : Setting) (o : Options) (w : WorldState) (slot : SlotId) (x : SlotState) (is : slot_at s.nodes w.posts.slots slot ≡ Some x) (sound : Sound s o w) (afloat : Afloat s w) where
  abbrev log : List Sent
  log = afloat.log

  abbrev pub old : SlotAfloat s w.cut w.conductor log x
  old = all_got (SlotAfloat s w.cut w.conductor log) w.posts.slots (number_of s.nodes slot) x afloat.slots (slot_is s.nodes w.posts.slots slot x is).there

  its : SlotSound s w.cut w.conductor x
  its = all_got (SlotSound s w.cut w.conductor) w.posts.slots (number_of s.nodes slot) x sound.slots (slot_is s.nodes w.posts.slots slot x is).there

  -- an event of the node alone, which leaves its pieces
  pub acted_step : (out : Outcome) (box : List Letter) → Moves s.plan s.place (present w.conductor) x.node out → Leaves old.body out → pieces_in box ≡ pieces_in x.box → orders_in box ≡ orders_in x.box →
      ((letter : Letter) → In letter x.box ⊎ Did s.plan log letter x.node → In letter box ⊎ Did s.plan (log ++ out.out) letter out.node) → PlainStep s w log slot x (acted s.plan w.cut out box x.back x.since)
  acted_step out box moves leaves pieces orders kept = record {
    name = moves.slot ∙ (slot_is s.nodes w.posts.slots slot x is).name;
    body = old.body;
    alive = old.alive;
    after = leaves.body;
    lives = leaves.alive;
    other = leaves.other;
    fresh = inl leaves.fresh;
    pieces = pieces;
    sends = leaves.sends;
    afloat = record {
      body = leaves.body;
      alive = leaves.alive;
      stamp = ap (λ l. l.stamp) moves.last ∙ old.stamp ∙ ap (λ (n : SlotId). plain_stamp n.replica) (sym moves.slot);
      owes = moves.owes log old.owes;
      back = old.back;
      stage = stage_on w.cut w.conductor (slot_of w.cut out.node.slot) x (renewed s.plan w.cut out.node box x.back x.since) old.body leaves.body leaves.fresh leaves.waits moves.slot moves.last refl orders
          (subst (λ (n : SlotId). Stage w.cut w.conductor (slot_of w.cut n) x old.body) (sym moves.slot) old.stage);
      top = subst (λ (n : SlotId). (slot_of w.cut n).top ≤ s.plan.iterations) (sym moves.slot) old.top;
      cap = subst (λ (n : SlotId). IfSome (slot_of w.cut n).cap (λ (q : Cap). q.cap ≤ s.plan.iterations)) (sym moves.slot) old.cap;
      others = λ one. pieces ∙ old.others (ap (λ (n : SlotId). n.replica) (sym moves.slot) ∙ one);
      buddy = subst (λ q. IfSome q (λ (held : Held). held.stamp ≡ plain_stamp 1)) (sym leaves.other) old.buddy;
    };
    kept = kept;
    others = λ name apart there. record { round = refl; slot = refl };
    beside = afloat.beside;
  }

  -- ---- a run

  pub ran_afloat : RunsMove → (e : ElementId) → Sound s o (after_slot s slot (slot_ran s w.cut e x) w) → Afloat s (after_slot s slot (slot_ran s w.cut e x) w)
  ran_afloat runs e next =
      subst (λ q. Afloat s (after_slot s slot (slot_ran_by s w.cut e x q) w)) (sym old.back)
      (plain_afloat s o w slot x (slot_ran_by s w.cut e x None) is sound afloat step (subst (λ q. Sound s o (after_slot s slot (slot_ran_by s w.cut e x q) w)) old.back next))
    where
      out : Outcome
      out = outcome_of (node_ran s.plan s.script s.place (stand w.cut x.node.slot).top e.0 x.node)

      moves : Moves s.plan s.place (present w.conductor) x.node out
      moves = runs s.plan s.script s.place (stand w.cut x.node.slot).top e.0 (present w.conductor) x.node its.keeps

      step : PlainStep s w log slot x (acted s.plan w.cut out x.box x.back x.since)
      step =
          acted_step out x.box moves (ran_leaves s.plan s.script s.place (stand w.cut x.node.slot).top e.0 x.node old.body old.alive) refl refl
          (λ letter h. stays_kept s (present w.conductor) log x.node x.box out moves old.owes letter h)

  -- ---- mail that is no piece

  module _ (letter : Letter) (more : List Letter) (front : x.box ≡ letter ∷ more) where
    abbrev heard : Outcome
    heard = node_heard s.plan s.script s.place letter x.node

    -- hearing it leaves the orders and pieces of the inbox
    pub mail_step : HearsMove → is_mail letter ≡ true → IsNoPiece letter → IsAt (present w.conductor) letter → pieces_in more ≡ pieces_in x.box → orders_in more ≡ orders_in x.box →
        PlainStep s w log slot x (acted s.plan w.cut heard more x.back x.since)
    mail_step hears mail none at pieces orders =
        acted_step heard more h.moves (heard_leaves s.plan s.script s.place letter x.node old.body old.alive mail none) pieces orders
        (λ l q. heard_kept s (present w.conductor) log x.node letter more heard h.moves old.owes (h.done log) l (subst (λ box. In l box ⊎ Did s.plan log l x.node) front q))
      where
        true_one : Holds s.plan s.script s.place (boxes.Slot x.node.slot) letter
        true_one = (subst (AllByRecursion (Holds s.plan s.script s.place (boxes.Slot x.node.slot))) front its.letters).0

        h : HearsMoveOn s.plan s.script s.place letter (present w.conductor) x.node
        h = hears s.plan s.script s.place letter (present w.conductor) x.node its.keeps true_one at mail

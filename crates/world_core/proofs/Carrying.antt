-- An event of a slot that keeps what is packed loses nothing that was sent.
use Rattle.std.proofs.Common.{◌≡◌, ℕ, ◌+◌, ◌*◌, ◌<◌, ◌≤◌, inl, inr, Bool, true, false, cond, List, [], ◌∷◌, ◌++◌, refl, ap, sym, ◌∙◌, arith, subst, Option, Some, None, IsSome}
use Rattle.std.specs.Prelude.{◌⊎◌, ◌==◌, ◌&&◌, IfSome, nat_le, nat_lt, slice_get}
use Rattle.std.specs.List.{AllByRecursion}
use Rattle.std.proofs.lemmas.Bool.{ltb-true}
use Rattle.std.proofs.lemmas.Option.{same_Some}
use Rattle.chare_base.specs.declared.options.Options.{Options}
use Rattle.chare_base.specs.declared.slots.SlotId.{SlotId}
use Rattle.iteration_agree.specs.declared.round.Round.{Round}
use Rattle.iteration_agree.specs.declared.round.Round.TheVariants as rounds
use Rattle.iteration_agree.specs.declared.slot.Cap.{Cap}
use Rattle.iteration_agree.specs.declared.slot.Slot.{Slot}
use Rattle.iteration_agree.specs.Cuts.{CutState, slot_of}
use Rattle.iteration_agree.specs.Rounds.{number}
use Rattle.letter_post.specs.declared.letter.BoxId.{BoxId}
use Rattle.letter_post.specs.declared.letter.BoxId.TheVariants as boxes
use Rattle.letter_post.specs.declared.letter.Letter.{Letter}
use Rattle.letter_post.specs.declared.letter.Letter.TheVariants as letters
use Rattle.letter_post.specs.declared.letter.Sent.{Sent}
use Rattle.letter_post.specs.Orders.{is_mail}
use Rattle.pup_state.specs.declared.compare.Verdict.{Verdict}
use Rattle.pup_state.specs.declared.piece.Piece.{Piece}
use Rattle.run_ledger.specs.Conditions.{due}
use Rattle.node_core.specs.declared.piece.Held.{Held}
use Rattle.node_core.specs.Mail.{Did, In, Owes}
use Rattle.node_core.specs.Nodes.{Body}
use Rattle.node_core.proofs.Lists.{all_by}
use Rattle.node_core.proofs.Logs.{did_more, owes_more}
use Rattle.node_core.proofs.Within.{in_left, in_right}
use Rattle.conductor_core.specs.declared.wants.Phase.{Phase}
use Rattle.conductor_core.specs.declared.wants.Phase.TheVariants as phases
use Rattle.conductor_core.specs.Conductors.{ConductorState}
use Rattle.conductor_core.specs.Moves.{slot_named}
use Rattle.conductor_core.specs.Tells.{IsKept, is_to, mail_to, verdict_at}
use Rattle.world_core.specs.Sound.{Sound, slot_name}
use Rattle.world_core.specs.Still.{Afloat, Accepted, Arrived, Arrives, Backed, Beside, Committed, Compared, Earlier, Free, Freed, HasPacked, IsOver, IsPhase, IsThere, OnItsWay, Packed, Pair, Passes, SlotAfloat, Stage, Unsent, orders_in, pieces_in, plain_stamp, present, present_in}
use Rattle.world_core.specs.Worlds.{Acted, Posts, Setting, SlotState, WorldState, after_slot, number_of, slot_at, with_slot}
use Rattle.world_core.proofs.Due.{first, second}
use Rattle.world_core.proofs.Lists.{all_got, all_joined, all_to, append_nil, get_unmapped}
use Rattle.world_core.proofs.Mailing.{IsNamed, found, own_name, place_is, same_slot, slot_is}
use Rattle.world_core.proofs.Posting.{From, Put, desk_of, to_desk, posted_at, posted_desk, slot_after, slot_changed}
use Rattle.world_core.proofs.Seen.{name_at, some_of}

-- ---- letters at the back of an inbox

pub orders_both : (xs ys : List Letter) → orders_in (xs ++ ys) ≡ orders_in xs ++ orders_in ys
orders_both [] ys = refl
orders_both (x ∷ xs) ys = by (is_mail x) (orders_both xs ys)
  where
    by : (b : Bool) → orders_in (xs ++ ys) ≡ orders_in xs ++ orders_in ys → cond b (orders_in (xs ++ ys)) (x ∷ orders_in (xs ++ ys)) ≡ cond b (orders_in xs) (x ∷ orders_in xs) ++ orders_in ys
    by true h = h
    by false h = ap (λ l. x ∷ l) h

pub pieces_both : (xs ys : List Letter) → pieces_in (xs ++ ys) ≡ pieces_in xs ++ pieces_in ys
pieces_both [] ys = refl
pieces_both (letters.Parcel stamp entry k to payload ∷ xs) ys = pieces_both xs ys
pieces_both (letters.Partial stamp r k node value ∷ xs) ys = pieces_both xs ys
pieces_both (letters.Total stamp r k value ∷ xs) ys = pieces_both xs ys
pieces_both (letters.Piece stamp piece ∷ xs) ys = ap (λ l. record { stamp = stamp; piece = piece } ∷ l) (pieces_both xs ys)
pieces_both (letters.VerdictOf first second node k verdict piece ∷ xs) ys = pieces_both xs ys
pieces_both (letters.Lend k fresh ∷ xs) ys = pieces_both xs ys
pieces_both (letters.Take stamp k live piece ∷ xs) ys = pieces_both xs ys
pieces_both (letters.Restore stamp k live ∷ xs) ys = pieces_both xs ys
pieces_both (letters.Commit stamp k live ∷ xs) ys = pieces_both xs ys
pieces_both (letters.Resume stamp ∷ xs) ys = pieces_both xs ys
pieces_both (letters.Died stamp slot line ∷ xs) ys = pieces_both xs ys
pieces_both (letters.Stop ∷ xs) ys = pieces_both xs ys

pub put_pieces : (x y : SlotState) (more : List Letter) → Put x more y → pieces_in more ≡ [] → pieces_in y.box ≡ pieces_in x.box
put_pieces x y more put none = ap pieces_in put.box ∙ pieces_both x.box more ∙ ap (λ l. pieces_in x.box ++ l) none ∙ append_nil (pieces_in x.box)

put_orders : (x y : SlotState) (more : List Letter) → Put x more y → orders_in more ≡ [] → orders_in y.box ≡ orders_in x.box
put_orders x y more put none = ap orders_in put.box ∙ orders_both x.box more ∙ ap (λ l. orders_in x.box ++ l) none ∙ append_nil (orders_in x.box)

-- ---- a slot in another agreement of the same round, with more letters

module _ (s : Setting) (c : ConductorState) where
  -- its place is the same
  pub record SamePlace (cut new : CutState) (name : SlotId) : Type 0 where
    pub round : new.round ≡ cut.round
    pub slot : slot_of new name ≡ slot_of cut name

  pub stage_same : (cut new : CutState) (name : SlotId) (x y : SlotState) (b : Body) → SamePlace cut new name → y.node ≡ x.node → y.since ≡ x.since → orders_in y.box ≡ orders_in x.box →
      Stage cut c (slot_of cut name) x b → Stage new c (slot_of new name) y b
  stage_same cut new name x y b same node since orders stage = subst (λ t. Stage new c t y b) (sym same.slot) (by stage)
    where
      t : Slot
      t = slot_of cut name

      earlier : Earlier cut.round t → Earlier new.round t
      earlier = subst (λ r. Earlier r t) (sym same.round)

      by : Stage cut c t x b → Stage new c t y b
      by (Free is) = Free (record { free = is.free; fresh = is.fresh; goes = is.goes; orders = orders ∙ is.orders; base = ap (λ n. n.last.base) node ∙ is.base; packed = subst (λ (r : Round). IfSome t.packed (λ n. n < number r)) (sym same.round) is.packed })
      by (Packed is) = Packed
          (record {
            held = is.held;
            piece = is.piece;
            fresh = is.fresh;
            agreed = is.agreed;
            goes = is.goes;
            since = since ∙ is.since;
            orders = orders ∙ is.orders;
            base = ap (λ n. n.last.base) node ∙ is.base;
            packed = is.packed ∙ ap (λ (r : Round). Some (number r)) (sym same.round);
          })
      by (Accepted is) = Accepted
          (record {
            held = is.held;
            piece = is.piece;
            fresh = is.fresh;
            at = is.at;
            goes = is.goes;
            since = since ∙ is.since;
            live = is.live;
            orders = subst (λ n. orders_in y.box ≡ letters.Commit (plain_stamp n.slot.replica) c.ledger.base is.live ∷ letters.Resume (plain_stamp n.slot.replica) ∷ []) (sym node) (orders ∙ is.orders);
            earlier = earlier is.earlier;
          })
      by (Committed is) = Committed
          (record {
            held = is.held;
            fresh = is.fresh;
            waits = is.waits;
            since = since ∙ is.since;
            orders = subst (λ n. orders_in y.box ≡ letters.Resume (plain_stamp n.slot.replica) ∷ []) (sym node) (orders ∙ is.orders);
            base = ap (λ n. n.last.base) node ∙ is.base;
            earlier = earlier is.earlier;
          })
      by (Freed is) = Freed
          (record { held = is.held; fresh = is.fresh; goes = is.goes; since = since ∙ is.since; orders = orders ∙ is.orders; base = ap (λ n. n.last.base) node ∙ is.base; earlier = earlier is.earlier })

  pub put_afloat : (cut new : CutState) (log out : List Sent) (more : List Letter) (x y : SlotState) → SamePlace cut new x.node.slot → Put x more y → orders_in more ≡ [] → (x.node.slot.replica ≡ 1 → pieces_in more ≡ []) → SlotAfloat s cut c log x → SlotAfloat s new c (log ++ out) y
  put_afloat cut new log out more x y same put none no_piece old = record {
    body = old.body;
    alive = ap (λ n. n.body) put.node ∙ old.alive;
    stamp = subst (λ n. n.last.stamp ≡ plain_stamp n.slot.replica) (sym put.node) old.stamp;
    owes = owes_more s.plan s.place (present c) log out y.node (subst (Owes s.plan s.place (present c) log) (sym put.node) old.owes);
    back = put.back ∙ old.back;
    stage = subst (λ n. Stage new c (slot_of new n.slot) y old.body) (sym put.node) (stage_same cut new x.node.slot x y old.body same put.node put.since (put_orders x y more put none) old.stage);
    top = subst (λ n. (slot_of new n.slot).top ≤ s.plan.iterations) (sym put.node) (subst (λ (t : Slot). t.top ≤ s.plan.iterations) (sym same.slot) old.top);
    cap = subst (λ n. IfSome (slot_of new n.slot).cap (λ (q : Cap). q.cap ≤ s.plan.iterations)) (sym put.node) (subst (λ (t : Slot). IfSome t.cap (λ (q : Cap). q.cap ≤ s.plan.iterations)) (sym same.slot) old.cap);
    others = λ one. let its : x.node.slot.replica ≡ 1 = subst (λ n. n.slot.replica ≡ 1) put.node one in put_pieces x y more put (no_piece its) ∙ old.others its;
    buddy = old.buddy;
  }

-- ---- what arrived stays so

kept_put : (s : Setting) (log : List Sent) (x y : SlotState) (more : List Letter) (letter : Letter) → Put x more y → In letter x.box ⊎ Did s.plan log letter x.node → In letter y.box ⊎ Did s.plan log letter y.node
kept_put s log x y more letter put (inl h) = inl (subst (In letter) (sym put.box) (in_left letter x.box more h))
kept_put s log x y more letter put (inr h) = inr (subst (Did s.plan log letter) (sym put.node) h)

kept_more : (s : Setting) (log out : List Sent) (x : SlotState) (letter : Letter) → In letter x.box ⊎ Did s.plan log letter x.node → In letter x.box ⊎ Did s.plan (log ++ out) letter x.node
kept_more s log out x letter (inl h) = inl h
kept_more s log out x letter (inr h) = inr (did_more s.plan log out x.node letter h)

pub desk_backed : (s : Setting) (w : WorldState) (out : List Sent) → AllByRecursion (λ (sent : Sent). Backed s w sent.letter) out → AllByRecursion (Backed s w) (desk_of out)
desk_backed s w [] h = tt
desk_backed s w (sent ∷ more) h = by sent.to (desk_backed s w more h.1)
  where
    by : (to : BoxId) → AllByRecursion (Backed s w) (desk_of more) → AllByRecursion (Backed s w) (to_desk to sent.letter (desk_of more))
    by (boxes.Slot slot) rest = rest
    by boxes.Conductor rest = (h.0, rest)

backed_to : (s : Setting) (w next : WorldState) → ((j k : ℕ) → w.conductor.ledger.base < k → Compared s w j k → Compared s next j k) → next.conductor ≡ w.conductor → (letter : Letter) → Backed s w letter → Backed s next letter
backed_to s w next to same (letters.Parcel stamp entry k e payload) h = tt
backed_to s w next to same (letters.Partial stamp r k node value) h = tt
backed_to s w next to same (letters.Total stamp r k value) h = tt
backed_to s w next to same (letters.Piece stamp piece) h = tt
backed_to s w next to same (letters.VerdictOf first second node k verdict piece) h = λ late. let old : w.conductor.ledger.base < k = subst (λ (c : ConductorState). c.ledger.base < k) same late in to node k old (h old)
backed_to s w next to same (letters.Lend k fresh) h = tt
backed_to s w next to same (letters.Take stamp k live piece) h = tt
backed_to s w next to same (letters.Restore stamp k live) h = tt
backed_to s w next to same (letters.Commit stamp k live) h = tt
backed_to s w next to same (letters.Resume stamp) h = tt
backed_to s w next to same (letters.Died stamp slot line) h = tt
backed_to s w next to same letters.Stop h = tt

-- ---- the slots after an event of one

module _ (s : Setting) (w : WorldState) (slot : SlotId) (a : Acted) (name_is : a.slot.node.slot ≡ slot) where
  abbrev next : WorldState
  next = after_slot s slot a w

  abbrev changed : Posts
  changed = record { slots = with_slot s.nodes w.posts.slots slot a.slot; desk = w.posts.desk }

  -- a slot after the event: the one that made it, or another that was there
  abbrev pub After : SlotId → SlotState → Type 0
  After name y = ((name ≡ slot) × Put a.slot (mail_to name a.out) y) ⊎ ((name ≡ slot → ⊥) × From s.nodes w.posts.slots name (mail_to name a.out) y)

  pub slot_next : (name : SlotId) (y : SlotState) → slot_at s.nodes next.posts.slots name ≡ Some y → After name y
  slot_next name y h = by (is_to name (boxes.Slot slot)) refl
    where
      f : From s.nodes changed.slots name (mail_to name a.out) y
      f = posted_at s.nodes name a.out changed y h

      self : slot ≡ name → is_to name (boxes.Slot slot) ≡ true
      self q = ap (λ (n : SlotId). n.replica == name.replica && n.node == name.node) q ∙ own_name name

      by : (b : Bool) → is_to name (boxes.Slot slot) ≡ b → After name y
      by true t =
          let q : slot ≡ name = same_slot slot name t in
          let mine : f.x ≡ a.slot = slot_changed s.nodes w.posts.slots slot a.slot f.x (ap (slot_at s.nodes changed.slots) q ∙ f.there) in
          inl (sym q, subst (λ z. Put z (mail_to name a.out) y) mine f.put)
      by false t = which (slot_after s.nodes w.posts.slots slot name a.slot f.x name_is f.there)
        where
          apart : name ≡ slot → ⊥
          apart q = let z : true ≡ false = sym (self (sym q)) ∙ t in cc

          which : ((name ≡ slot) × (f.x ≡ a.slot)) ⊎ (slot_at s.nodes w.posts.slots name ≡ Some f.x) → After name y
          which (inl q) = absurd (apart q.0)
          which (inr q) = inr (apart, record { x = f.x; there = q; put = f.put })

-- a slot stands at each name
pub stands_there : (s : Setting) (o : Options) (w : WorldState) → Sound s o w → (r j : ℕ) → r ≤ 1 → j < s.nodes → (y : SlotState) × (slot_at s.nodes w.posts.slots (slot_named r j) ≡ Some y)
stands_there s o w sound r j replica node =
    let u = get_unmapped slot_name w.posts.slots (r * s.nodes + j) (slot_named r j) (ap (λ l. slice_get l (r * s.nodes + j)) sound.names ∙ name_at s.nodes r j (omega (arith, replica)) node) in
    (u.0, found s.nodes w.posts.slots (slot_named r j) u.0 u.1 u.2)

-- what is known of a buddy's piece asks of the slots their bodies' pieces, and the pieces of an inbox
pub passes_same : (k : ℕ) (x y other same : SlotState) (b after own kept : Body) → kept.fresh ≡ own.fresh → after.other ≡ b.other → pieces_in y.box ≡ pieces_in x.box → Passes k other x b own → Passes k same y after kept
passes_same k x y other same b after own kept fresh held pieces (Unsent h) =
    Unsent (record { unpacked = fresh ∙ h.unpacked; none = pieces ∙ h.none; older = subst (λ q. IfSome q (λ (held : Held). held.piece.iteration < k)) (sym held) h.older })
passes_same k x y other same b after own kept fresh held pieces (OnItsWay h) =
    OnItsWay (record { piece = h.piece; packed = fresh ∙ h.packed; at = h.at; one = pieces ∙ h.one; older = subst (λ q. IfSome q (λ (held : Held). held.piece.iteration < k)) (sym held) h.older })
passes_same k x y other same b after own kept fresh held pieces (IsThere h) =
    IsThere (record { piece = h.piece; packed = fresh ∙ h.packed; none = pieces ∙ h.none; held = h.held; there = held ∙ h.there; at = h.at })

-- what the event makes of the slot, beside the conductor
pub record Step (s : Setting) (w : WorldState) (log : List Sent) (slot : SlotId) (x : SlotState) (a : Acted) : Type 0 where
  pub name : a.slot.node.slot ≡ slot
  pub body : Body
  pub alive : x.node.body ≡ Some body
  pub after : Body
  pub lives : a.slot.node.body ≡ Some after
  -- a fresh piece behind the base stays, and beside it its buddy's
  pub fresh : IfSome body.fresh (λ (piece : Piece). w.conductor.ledger.base < piece.iteration → after.fresh ≡ Some piece)
  pub other : IfSome body.fresh (λ (piece : Piece). w.conductor.ledger.base < piece.iteration → IfSome body.other (λ (held : Held). held.piece.iteration ≡ piece.iteration → after.other ≡ Some held))
  pub afloat : SlotAfloat s a.cut w.conductor (log ++ a.out) a.slot
  pub kept : (letter : Letter) → In letter x.box ⊎ Did s.plan log letter x.node → In letter a.slot.box ⊎ Did s.plan (log ++ a.out) letter a.slot.node
  pub others : (name : SlotId) → (name ≡ slot → ⊥) → (name.replica ≤ 1) × (name.node < s.nodes) → SamePlace s w.conductor w.cut a.cut name
  pub beside : Beside s a.cut w.conductor
  -- it sends no order, and no piece to itself or to replica 1
  pub orders : (name : SlotId) → orders_in (mail_to name a.out) ≡ []
  pub pieces : (name : SlotId) → (name ≡ slot) ⊎ (name.replica ≡ 1) → pieces_in (mail_to name a.out) ≡ []
  -- its verdict is of pieces that are there
  pub backs : AllByRecursion (λ (sent : Sent). Backed s (after_slot s slot a w) sent.letter) a.out
  pub pairs : (j : ℕ) → j < s.nodes → Pair s (after_slot s slot a w) j

module _ (s : Setting) (o : Options) (w : WorldState) (slot : SlotId) (x : SlotState) (a : Acted) (is : slot_at s.nodes w.posts.slots slot ≡ Some x) (sound : Sound s o w) (afloat : Afloat s w)
    (step : Step s w afloat.log slot x a) (sound_next : Sound s o (after_slot s slot a w)) where
  abbrev log : List Sent
  log = afloat.log

  abbrev now : List Sent
  now = afloat.log ++ a.out

  abbrev after : WorldState
  after = after_slot s slot a w

  abbrev put : Posts
  put = record { slots = with_slot s.nodes w.posts.slots slot a.slot; desk = w.posts.desk }

  comes : (name : SlotId) (y : SlotState) → slot_at s.nodes after.posts.slots name ≡ Some y → After s w slot a step.name name y
  comes = slot_next s w slot a step.name

  here_next : (name : SlotId) → name ≡ slot → slot_at s.nodes w.posts.slots name ≡ Some x
  here_next name q = ap (slot_at s.nodes w.posts.slots) q ∙ is

  -- ---- slots

  old_at : (name : SlotId) (z : SlotState) → slot_at s.nodes w.posts.slots name ≡ Some z → SlotAfloat s w.cut w.conductor log z
  old_at name z there = all_got (SlotAfloat s w.cut w.conductor log) w.posts.slots (number_of s.nodes name) z afloat.slots (slot_is s.nodes w.posts.slots name z there).there

  slots_next : AllByRecursion (SlotAfloat s a.cut w.conductor now) after.posts.slots
  slots_next = all_by (SlotAfloat s a.cut w.conductor now) after.posts.slots each
    where
      each : (m : ℕ) (y : SlotState) → slice_get after.posts.slots m ≡ Some y → SlotAfloat s a.cut w.conductor now y
      each m y there = by (comes y.node.slot y (found s.nodes after.posts.slots y.node.slot y (ap (slice_get after.posts.slots) named.number ∙ there) refl))
        where
          named : IsNamed s.nodes m y.node.slot
          named = place_is s.nodes after.posts.slots sound_next.names m y there

          by : After s w slot a step.name y.node.slot y → SlotAfloat s a.cut w.conductor now y
          by (inl q) =
              subst (λ l. SlotAfloat s a.cut w.conductor l y) (append_nil now)
              (put_afloat s w.conductor a.cut a.cut now [] (mail_to y.node.slot a.out) a.slot y (record { round = refl; slot = refl }) q.1 (step.orders y.node.slot) (λ one. step.pieces y.node.slot (inl q.0)) step.afloat)
          by (inr q) =
              put_afloat s w.conductor w.cut a.cut log a.out (mail_to y.node.slot a.out) q.1.x y
              (subst (λ n. SamePlace s w.conductor w.cut a.cut n.slot) q.1.put.node (step.others y.node.slot q.0 (named.replica, named.node))) q.1.put (step.orders y.node.slot) (λ one. step.pieces y.node.slot (inr (ap (λ n. n.slot.replica) q.1.put.node ∙ one))) (old_at y.node.slot q.1.x q.1.there)

  -- ---- letters

  desk_is : after.posts.desk ≡ w.posts.desk ++ desk_of a.out
  desk_is = posted_desk s.nodes a.out put

  old_arrives : (sent : Sent) → Arrived s log w sent → Arrived s now after sent
  old_arrives sent h = by sent.to h
    where
      by : (to : BoxId) → Arrives s log w to sent.letter → Arrives s now after to sent.letter
      by boxes.Conductor (inl lies) = inl (subst (In sent.letter) (sym desk_is) (in_left sent.letter w.posts.desk (desk_of a.out) lies))
      by boxes.Conductor (inr told) = inr told
      by (boxes.Slot name) old = λ y there. which y (comes name y there)
        where
          which : (y : SlotState) → After s w slot a step.name name y → In sent.letter y.box ⊎ Did s.plan now sent.letter y.node
          which y (inl q) = kept_put s now a.slot y (mail_to name a.out) sent.letter q.1 (step.kept sent.letter (old x (here_next name q.0)))
          which y (inr q) = kept_put s now q.1.x y (mail_to name a.out) sent.letter q.1.put (kept_more s log a.out q.1.x sent.letter (old q.1.x q.1.there))

  -- what was sent lies at the back of its inbox
  lies_next : (name : SlotId) (letter : Letter) → In letter (mail_to name a.out) → Arrives s now after (boxes.Slot name) letter
  lies_next name letter h = λ y there. by y (comes name y there)
    where
      by : (y : SlotState) → After s w slot a step.name name y → In letter y.box ⊎ Did s.plan now letter y.node
      by y (inl q) = inl (subst (In letter) (sym q.1.box) (in_right letter a.slot.box (mail_to name a.out) h))
      by y (inr q) = inl (subst (In letter) (sym q.1.put.box) (in_right letter q.1.x.box (mail_to name a.out) h))

  new_arrive : (rest : List Sent) → ((name : SlotId) (letter : Letter) → In letter (mail_to name rest) → In letter (mail_to name a.out)) → ((letter : Letter) → In letter (desk_of rest) → In letter (desk_of a.out)) →
      AllByRecursion (Arrived s now after) rest
  new_arrive [] mail desk = tt
  new_arrive (sent ∷ more) mail desk = (first sent.to refl, new_arrive more (λ name letter h. mail name letter (behind name letter (is_to name sent.to) h)) (λ letter h. desk letter (behind_desk letter sent.to h)))
    where
      behind : (name : SlotId) (letter : Letter) (b : Bool) → In letter (mail_to name more) → In letter (cond b (sent.letter ∷ mail_to name more) (mail_to name more))
      behind name letter true h = inr h
      behind name letter false h = h

      behind_desk : (letter : Letter) (to : BoxId) → In letter (desk_of more) → In letter (to_desk to sent.letter (desk_of more))
      behind_desk letter (boxes.Slot name) h = h
      behind_desk letter boxes.Conductor h = inr h

      first : (to : BoxId) → sent.to ≡ to → Arrives s now after to sent.letter
      first (boxes.Slot name) at =
          lies_next name sent.letter
          (mail name sent.letter
          (subst (λ to. In sent.letter (cond (is_to name to) (sent.letter ∷ mail_to name more) (mail_to name more))) (sym at)
          (subst (λ b. In sent.letter (cond b (sent.letter ∷ mail_to name more) (mail_to name more))) (sym (own_name name)) (inl refl))))
      first boxes.Conductor at =
          inl
          (subst (In sent.letter) (sym desk_is)
          (in_right sent.letter w.posts.desk (desk_of a.out) (desk sent.letter (subst (λ to. In sent.letter (to_desk to sent.letter (desk_of more))) (sym at) (inl refl)))))

  -- ---- packed slots

  record Next (r j k : ℕ) (had : HasPacked s w r j k) : Type 0 where
    packed : HasPacked s after r j k
    other : IfSome had.body.other (λ (held : Held). held.piece.iteration ≡ k → packed.body.other ≡ Some held)

  packed_next : (r j k : ℕ) → w.conductor.ledger.base < k → (had : HasPacked s w r j k) → Next r j k had
  packed_next r j k late had = by (comes (slot_named r j) u.0 there)
    where
      at : IsNamed s.nodes (number_of s.nodes (slot_named r j)) had.slot.node.slot
      at = place_is s.nodes w.posts.slots sound.names (number_of s.nodes (slot_named r j)) had.slot (slot_is s.nodes w.posts.slots (slot_named r j) had.slot had.there).there

      name : had.slot.node.slot ≡ slot_named r j
      name = (slot_is s.nodes w.posts.slots (slot_named r j) had.slot had.there).name

      u : (y : SlotState) × (slice_get after.posts.slots (r * s.nodes + j) ≡ Some y) × (y.node.slot ≡ slot_named r j)
      u =
          let replica : r ≤ 1 = subst (λ (n : SlotId). n.replica ≤ 1) name at.replica in
          let node : j < s.nodes = subst (λ (n : SlotId). n.node < s.nodes) name at.node in
          get_unmapped slot_name after.posts.slots (r * s.nodes + j) (slot_named r j) (ap (λ l. slice_get l (r * s.nodes + j)) sound_next.names ∙ name_at s.nodes r j (omega (arith, replica)) node)

      there : slot_at s.nodes after.posts.slots (slot_named r j) ≡ Some u.0
      there = found s.nodes after.posts.slots (slot_named r j) u.0 u.1 u.2

      itself : (o : Option Held) → IfSome o (λ (held : Held). held.piece.iteration ≡ k → o ≡ Some held)
      itself None = tt
      itself (Some held) = λ same. refl

      by : After s w slot a step.name (slot_named r j) u.0 → Next r j k had
      by (inr q) =
          let same : q.1.x ≡ had.slot = same_Some q.1.x had.slot (sym q.1.there ∙ had.there) in
          record {
            packed = record { slot = u.0; there = there; body = had.body; alive = ap (λ n. n.body) q.1.put.node ∙ ap (λ (z : SlotState). z.node.body) same ∙ had.alive; piece = had.piece; fresh = had.fresh; at = had.at };
            other = itself had.body.other;
          }
      by (inl q) = record {
        packed = record { slot = u.0; there = there; body = step.after; alive = ap (λ n. n.body) q.1.node ∙ step.lives; piece = had.piece; fresh = its; at = had.at };
        other = held had.body.other refl;
      }
        where
          same : x ≡ had.slot
          same = same_Some x had.slot (sym (here_next (slot_named r j) q.0) ∙ had.there)

          body : step.body ≡ had.body
          body = same_Some step.body had.body (sym step.alive ∙ ap (λ (z : SlotState). z.node.body) same ∙ had.alive)

          fresh : step.body.fresh ≡ Some had.piece
          fresh = ap (λ (b : Body). b.fresh) body ∙ had.fresh

          behind : w.conductor.ledger.base < had.piece.iteration
          behind = let at = had.at in omega (arith, at, late)

          its : step.after.fresh ≡ Some had.piece
          its = subst (λ f. IfSome f (λ (piece : Piece). w.conductor.ledger.base < piece.iteration → step.after.fresh ≡ Some piece)) fresh step.fresh behind

          others : IfSome step.body.other (λ (held : Held). held.piece.iteration ≡ had.piece.iteration → step.after.other ≡ Some held)
          others = subst (λ f. IfSome f (λ (piece : Piece). w.conductor.ledger.base < piece.iteration → IfSome step.body.other (λ (held : Held). held.piece.iteration ≡ piece.iteration → step.after.other ≡ Some held))) fresh step.other behind

          held : (q : Option Held) → had.body.other ≡ q → IfSome q (λ (held : Held). held.piece.iteration ≡ k → step.after.other ≡ Some held)
          held None there = tt
          held (Some h) there = λ at. subst (λ q. IfSome q (λ (held : Held). held.piece.iteration ≡ had.piece.iteration → step.after.other ≡ Some held)) (ap (λ (b : Body). b.other) body ∙ there) others (at ∙ sym had.at)

  compared_next : (j k : ℕ) → w.conductor.ledger.base < k → Compared s w j k → Compared s after j k
  compared_next j k late c =
      let one : Next 0 j k c.first = packed_next 0 j k late c.first in
      let two : Next 1 j k c.second = packed_next 1 j k late c.second in
      record {
        first = one.packed;
        second = two.packed;
        held = c.held;
        other = subst (λ q. IfSome q (λ (held : Held). held.piece.iteration ≡ k → one.packed.body.other ≡ Some held)) c.other one.other c.at;
        at = c.at;
      }

  -- ---- all of it

  over_next : (r q k j : ℕ) → IsOver r q k j log → IsOver r q k j now
  over_next r q k j h = record {
    share = record { value = h.share.value; there = in_left _ log a.out h.share.there };
    total = record { value = h.total.value; there = in_left _ log a.out h.total.there };
  }

  -- verdicts are kept in an agreed round alone, which is behind the base
  late_verdict : (j : ℕ) → IsSome (verdict_at w.conductor.verdicts j) → w.conductor.ledger.base < present w.conductor
  late_verdict j some = by w.conductor.phase w.cut.round refl afloat.beside.phase (sound.conductor.kept j v.0 v.1)
    where
      v : (v : Verdict) × (verdict_at w.conductor.verdicts j ≡ Some v)
      v = some_of (verdict_at w.conductor.verdicts j) some

      by : (phase : Phase) (round : Round) → w.conductor.phase ≡ phase → IsPhase w.conductor w.cut.floor phase round → IsKept s.plan s.script s.place w.conductor.first w.conductor.second phase w.conductor.pieces j v.0 →
          w.conductor.ledger.base < present_in w.conductor.ledger.base phase
      by phases.Quiet round at h kept = absurd kept
      by phases.Gather round at h kept = absurd kept
      by (phases.Agreed k) (rounds.Quiet r) at h kept = absurd h
      by (phases.Agreed k) (rounds.Gather r f) at h kept = absurd h
      by (phases.Agreed k) (rounds.Agreed r q) at h kept =
          let same : k ≡ q = h.0 in
          let less : w.conductor.ledger.base < q =
          ltb-true w.conductor.ledger.base q (second (nat_le (due w.conductor.ledger) q) (nat_lt w.conductor.ledger.base q) (first (nat_le (due w.conductor.ledger) q && nat_lt w.conductor.ledger.base q) (nat_le q w.conductor.ledger.iterations) h.1)) in
          omega (arith, same, less)

  pub step_afloat : Afloat s after
  step_afloat = record {
    log = now;
    arrived = all_joined (Arrived s now after) log a.out (all_to (Arrived s log w) (Arrived s now after) log old_arrives afloat.arrived) (new_arrive a.out (λ name letter h. h) (λ letter h. h));
    backed =
        all_joined (λ (sent : Sent). Backed s after sent.letter) log a.out
        (all_to (λ (sent : Sent). Backed s w sent.letter) (λ (sent : Sent). Backed s after sent.letter) log (λ sent h. backed_to s w after compared_next refl sent.letter h) afloat.backed)
        step.backs;
    over = λ r q k j hr hq early hj. over_next r q k j (afloat.over r q k j hr hq early hj);
    slots = slots_next;
    pairs = step.pairs;
    desk =
        subst (AllByRecursion (Backed s after)) (sym desk_is)
        (all_joined (Backed s after) w.posts.desk (desk_of a.out) (all_to (Backed s w) (Backed s after) w.posts.desk (λ letter h. backed_to s w after compared_next refl letter h) afloat.desk) (desk_backed s after a.out step.backs));
    heard = λ j some. compared_next j (present w.conductor) (late_verdict j some) (afloat.heard j some);
    beside = step.beside;
  }

-- A move of the conductor that leaves the nodes loses nothing, where the slots, the pairs and the verdicts fit it.
use Rattle.std.proofs.Common.{◌≡◌, ℕ, ◌<◌, ◌≤◌, inl, inr, List, [], ◌∷◌, refl, ap, sym, ◌∙◌, subst, Some, IsSome}
use Rattle.std.specs.Prelude.{◌⊎◌, IfSome, map, slice_get}
use Rattle.std.specs.List.{AllByRecursion}
use Rattle.chare_base.specs.declared.slots.SlotId.{SlotId}
use Rattle.iteration_agree.specs.declared.slot.Cap.{Cap}
use Rattle.iteration_agree.specs.declared.slot.Slot.{Slot}
use Rattle.iteration_agree.specs.Cuts.{CutState, slot_of}
use Rattle.iteration_agree.specs.Rounds.{number}
use Rattle.letter_post.specs.declared.letter.BoxId.{BoxId}
use Rattle.letter_post.specs.declared.letter.BoxId.TheVariants as boxes
use Rattle.letter_post.specs.declared.letter.Letter.{Letter}
use Rattle.letter_post.specs.declared.letter.Letter.TheVariants as letters
use Rattle.letter_post.specs.declared.letter.Sent.{Sent}
use Rattle.run_ledger.specs.Ledgers.{LedgerState}
use Rattle.node_core.specs.Mail.{Did, In, Owes}
use Rattle.node_core.specs.Nodes.{Body}
use Rattle.node_core.proofs.Lists.{all_by}
use Rattle.conductor_core.specs.declared.wants.Phase.{Phase}
use Rattle.conductor_core.specs.declared.wants.Phase.TheVariants as phases
use Rattle.conductor_core.specs.Conductors.{ConductorState}
use Rattle.conductor_core.specs.Moves.{slot_named}
use Rattle.conductor_core.specs.Tells.{verdict_at}
use Rattle.world_core.specs.Still.{Accepted, Afloat, Arrived, Arrives, Backed, Beside, Committed, Compared, Earlier, Free, Freed, HasPacked, Packed, Pair, PairIn, SlotAfloat, Stage, Told, orders_in, pieces_in, plain_stamp, present}
use Rattle.world_core.specs.Worlds.{Setting, SlotState, WorldState, number_of, slot_at}
use Rattle.world_core.proofs.Carrying.{passes_same}
use Rattle.world_core.proofs.Lists.{all_got, all_pairs, all_to, get_mapped, get_unmapped}
use Rattle.world_core.proofs.Mailing.{Is, found, slot_is}

-- a slot of which only what is kept of it changed
pub record Alike (x y : SlotState) : Type 0 where
  pub node : y.node ≡ x.node
  pub box : y.box ≡ x.box
  pub back : y.back ≡ x.back
  pub since : y.since ≡ x.since

-- ---- one slot

-- a slot's place stands as it did, in a round of the same number
pub record SameStand (cut new : CutState) (c now : ConductorState) (t q : Slot) : Type 0 where
  pub round : number new.round ≡ number cut.round
  pub free : q.free ≡ t.free
  pub packed : q.packed ≡ t.packed
  pub cap : q.cap ≡ t.cap
  pub top : q.top ≡ t.top
  pub ledger : now.ledger ≡ c.ledger
  pub agreed : (k : ℕ) → c.phase ≡ phases.Agreed k → now.phase ≡ phases.Agreed k

module _ (cut new : CutState) (c now : ConductorState) (t q : Slot) (x y : SlotState) (b : Body) (same : SameStand cut new c now t q) (alike : Alike x y) where
  base_is : c.ledger.base ≡ now.ledger.base
  base_is = ap (λ (l : LedgerState). l.base) (sym same.ledger)

  orders_are : orders_in y.box ≡ orders_in x.box
  orders_are = ap orders_in alike.box

  earlier_now : Earlier cut.round t → Earlier new.round q
  earlier_now h = record {
    packed = subst (λ n. IfSome q.packed (λ r. r < n)) (sym same.round) (subst (λ p. IfSome p (λ r. r < number cut.round)) (sym same.packed) h.packed);
    cap = subst (λ n. IfSome q.cap (λ (d : Cap). d.round < n)) (sym same.round) (subst (λ p. IfSome p (λ (d : Cap). d.round < number cut.round)) (sym same.cap) h.cap);
  }

  last_is : x.node.last.base ≡ c.ledger.base → y.node.last.base ≡ now.ledger.base
  last_is h = ap (λ n. n.last.base) alike.node ∙ h ∙ base_is

  pub stage_turned : Stage cut c t x b → Stage new now q y b
  stage_turned (Free h) = Free
      (record {
        free = same.free ∙ h.free;
        fresh = h.fresh;
        goes = h.goes;
        orders = orders_are ∙ h.orders;
        base = last_is h.base;
        packed = subst (λ n. IfSome q.packed (λ r. r < n)) (sym same.round) (subst (λ p. IfSome p (λ r. r < number cut.round)) (sym same.packed) h.packed);
      })
  stage_turned (Packed h) = Packed
      (record {
        held = same.free ∙ h.held;
        piece = h.piece;
        fresh = h.fresh;
        agreed = same.agreed h.piece.iteration h.agreed;
        goes = h.goes;
        since = alike.since ∙ h.since;
        orders = orders_are ∙ h.orders;
        base = last_is h.base;
        packed = same.packed ∙ h.packed ∙ ap Some (sym same.round);
      })
  stage_turned (Accepted h) = Accepted
      (record {
        held = same.free ∙ h.held;
        piece = h.piece;
        fresh = h.fresh;
        at = h.at ∙ base_is;
        goes = h.goes;
        since = alike.since ∙ h.since;
        live = h.live;
        orders = subst (λ m. orders_in y.box ≡ letters.Commit (plain_stamp y.node.slot.replica) m h.live ∷ letters.Resume (plain_stamp y.node.slot.replica) ∷ []) base_is
            (subst (λ n. orders_in y.box ≡ letters.Commit (plain_stamp n.slot.replica) c.ledger.base h.live ∷ letters.Resume (plain_stamp n.slot.replica) ∷ []) (sym alike.node) (orders_are ∙ h.orders));
        earlier = earlier_now h.earlier;
      })
  stage_turned (Committed h) = Committed
      (record {
        held = same.free ∙ h.held;
        fresh = h.fresh;
        waits = h.waits;
        since = alike.since ∙ h.since;
        orders = subst (λ n. orders_in y.box ≡ letters.Resume (plain_stamp n.slot.replica) ∷ []) (sym alike.node) (orders_are ∙ h.orders);
        base = last_is h.base;
        earlier = earlier_now h.earlier;
      })
  stage_turned (Freed h) = Freed
      (record { held = same.free ∙ h.held; fresh = h.fresh; goes = h.goes; since = alike.since ∙ h.since; orders = orders_are ∙ h.orders; base = last_is h.base; earlier = earlier_now h.earlier })

-- a slot stays afloat, where what it owes at the present iteration is still that
pub slot_turned : (s : Setting) (cut new : CutState) (c now : ConductorState) (log : List Sent) (x y : SlotState) → SameStand cut new c now (slot_of cut x.node.slot) (slot_of new x.node.slot) → Alike x y →
    (Owes s.plan s.place (present c) log x.node → Owes s.plan s.place (present now) log x.node) → SlotAfloat s cut c log x → SlotAfloat s new now log y
slot_turned s cut new c now log x y same alike owes h = record {
  body = h.body;
  alive = ap (λ n. n.body) alike.node ∙ h.alive;
  stamp = subst (λ n. n.last.stamp ≡ plain_stamp n.slot.replica) (sym alike.node) h.stamp;
  owes = subst (Owes s.plan s.place (present now) log) (sym alike.node) (owes h.owes);
  back = alike.back ∙ h.back;
  stage = subst (λ n. Stage new now (slot_of new n.slot) y h.body) (sym alike.node) (stage_turned cut new c now (slot_of cut x.node.slot) (slot_of new x.node.slot) x y h.body same alike h.stage);
  top = subst (λ n. (slot_of new n.slot).top ≤ s.plan.iterations) (sym alike.node) (subst (λ m. m ≤ s.plan.iterations) (sym same.top) h.top);
  cap = subst (λ n. IfSome (slot_of new n.slot).cap (λ (q : Cap). q.cap ≤ s.plan.iterations)) (sym alike.node) (subst (λ p. IfSome p (λ (q : Cap). q.cap ≤ s.plan.iterations)) (sym same.cap) h.cap);
  others = λ one. ap pieces_in alike.box ∙ h.others (subst (λ n. n.slot.replica ≡ 1) alike.node one);
  buddy = h.buddy;
}

-- ---- all of it

module _ (s : Setting) (w : WorldState) (afloat : Afloat s w) (new : CutState) (now : ConductorState) (f : SlotState → SlotState) (alike : (x : SlotState) → Alike x (f x)) where
  abbrev pub turned_to : WorldState
  turned_to = record { posts = record { slots = map f w.posts.slots; desk = w.posts.desk }; cut = new; conductor = now; over = w.over }

  -- what the move asks
  pub record Turned : Type 0 where
    pub ledger : now.ledger ≡ w.conductor.ledger
    pub told : (letter : Letter) → Backed s w letter → Told letter w.conductor → Told letter now
    pub slots : (m : ℕ) (x : SlotState) → slice_get w.posts.slots m ≡ Some x → SlotAfloat s w.cut w.conductor afloat.log x → SlotAfloat s new now afloat.log (f x)
    pub pairs : (j : ℕ) → j < s.nodes → (x other : SlotState) (b own : Body) → slot_at s.nodes w.posts.slots (slot_named 0 j) ≡ Some x → slot_at s.nodes w.posts.slots (slot_named 1 j) ≡ Some other → SlotAfloat s w.cut w.conductor afloat.log x → SlotAfloat s w.cut w.conductor afloat.log other → x.node.body ≡ Some b → other.node.body ≡ Some own →
        PairIn w.conductor.phase other x b own → PairIn now.phase other x b own
    pub heard : (j : ℕ) → IsSome (verdict_at now.verdicts j) → Compared s w j (present now)
    pub beside : Beside s new now

  record Before (name : SlotId) (y : SlotState) : Type 0 where
    x : SlotState
    there : slot_at s.nodes w.posts.slots name ≡ Some x
    kin : Alike x y

  before : (name : SlotId) (y : SlotState) → slot_at s.nodes (map f w.posts.slots) name ≡ Some y → Before name y
  before name y h =
      let i : Is s.nodes (map f w.posts.slots) name y = slot_is s.nodes (map f w.posts.slots) name y h in
      let u : (x : SlotState) × (slice_get w.posts.slots (number_of s.nodes name) ≡ Some x) × (f x ≡ y) = get_unmapped f w.posts.slots (number_of s.nodes name) y i.there in
      let its : Alike u.0 y = subst (Alike u.0) u.2 (alike u.0) in
      record { x = u.0; there = found s.nodes w.posts.slots name u.0 u.1 (ap (λ n. n.slot) (sym its.node) ∙ i.name); kin = its }

  after_it : (name : SlotId) (x : SlotState) → slot_at s.nodes w.posts.slots name ≡ Some x → slot_at s.nodes (map f w.posts.slots) name ≡ Some (f x)
  after_it name x h =
      let i : Is s.nodes w.posts.slots name x = slot_is s.nodes w.posts.slots name x h in
      found s.nodes (map f w.posts.slots) name (f x) (get_mapped f w.posts.slots (number_of s.nodes name) x i.there) (ap (λ n. n.slot) (alike x).node ∙ i.name)

  abbrev packed_turned : (r j k : ℕ) → HasPacked s w r j k → HasPacked s turned_to r j k
  packed_turned r j k h = record { slot = f h.slot; there = after_it (slot_named r j) h.slot h.there; body = h.body; alive = ap (λ n. n.body) (alike h.slot).node ∙ h.alive; piece = h.piece; fresh = h.fresh; at = h.at }

  compared_turned : (j k : ℕ) → Compared s w j k → Compared s turned_to j k
  compared_turned j k h = record { first = packed_turned 0 j k h.first; second = packed_turned 1 j k h.second; held = h.held; other = h.other; at = h.at }

  backed_turned : now.ledger ≡ w.conductor.ledger → (letter : Letter) → Backed s w letter → Backed s turned_to letter
  backed_turned same (letters.Parcel stamp entry k to payload) h = tt
  backed_turned same (letters.Partial stamp r k node value) h = tt
  backed_turned same (letters.Total stamp r k value) h = tt
  backed_turned same (letters.Piece stamp piece) h = tt
  backed_turned same (letters.VerdictOf one other node k verdict piece) h = λ late. compared_turned node k (h (subst (λ (l : LedgerState). l.base < k) same late))
  backed_turned same (letters.Lend k fresh) h = tt
  backed_turned same (letters.Take stamp k live piece) h = tt
  backed_turned same (letters.Restore stamp k live) h = tt
  backed_turned same (letters.Commit stamp k live) h = tt
  backed_turned same (letters.Resume stamp) h = tt
  backed_turned same (letters.Died stamp slot line) h = tt
  backed_turned same letters.Stop h = tt

  passes_turned : (phase : Phase) (x y other two : SlotState) (b own : Body) → pieces_in y.box ≡ pieces_in x.box → PairIn phase other x b own → PairIn phase two y b own
  passes_turned phases.Quiet x y other two b own same h = same ∙ h
  passes_turned phases.Gather x y other two b own same h = same ∙ h
  passes_turned (phases.Agreed k) x y other two b own same h = passes_same k x y other two b b own own refl refl same h

  old_at : (name : SlotId) (z : SlotState) → slot_at s.nodes w.posts.slots name ≡ Some z → SlotAfloat s w.cut w.conductor afloat.log z
  old_at name z there = all_got (SlotAfloat s w.cut w.conductor afloat.log) w.posts.slots (number_of s.nodes name) z afloat.slots (slot_is s.nodes w.posts.slots name z there).there

  module _ (turned : Turned) where
    pair_turned : (j : ℕ) → j < s.nodes → Pair s turned_to j
    pair_turned j hj y other b own there_y there_other alive_y alive_other =
        let one : Before (slot_named 0 j) y = before (slot_named 0 j) y there_y in
        let two : Before (slot_named 1 j) other = before (slot_named 1 j) other there_other in
        let mine : one.x.node.body ≡ Some b = ap (λ n. n.body) (sym one.kin.node) ∙ alive_y in
        let theirs : two.x.node.body ≡ Some own = ap (λ n. n.body) (sym two.kin.node) ∙ alive_other in
        passes_turned now.phase one.x y two.x other b own (ap pieces_in one.kin.box)
        (turned.pairs j hj one.x two.x b own one.there two.there (old_at (slot_named 0 j) one.x one.there) (old_at (slot_named 1 j) two.x two.there) mine theirs (afloat.pairs j hj one.x two.x b own one.there two.there mine theirs))

    arrives_turned : (sent : Sent) → Backed s w sent.letter → Arrived s afloat.log w sent → Arrived s afloat.log turned_to sent
    arrives_turned sent backed h = by sent.to h
      where
        by : (to : BoxId) → Arrives s afloat.log w to sent.letter → Arrives s afloat.log turned_to to sent.letter
        by boxes.Conductor (inl lies) = inl lies
        by boxes.Conductor (inr told) = inr (turned.told sent.letter backed told)
        by (boxes.Slot name) old = λ y there. which y (before name y there)
          where
            which : (y : SlotState) → Before name y → In sent.letter y.box ⊎ Did s.plan afloat.log sent.letter y.node
            which y z = subst (λ box. In sent.letter box ⊎ Did s.plan afloat.log sent.letter y.node) (sym z.kin.box)
                (subst (λ n. In sent.letter z.x.box ⊎ Did s.plan afloat.log sent.letter n) (sym z.kin.node) (old z.x z.there))

    slots_turned : AllByRecursion (SlotAfloat s new now afloat.log) (map f w.posts.slots)
    slots_turned = all_by (SlotAfloat s new now afloat.log) (map f w.posts.slots) each
      where
        each : (m : ℕ) (y : SlotState) → slice_get (map f w.posts.slots) m ≡ Some y → SlotAfloat s new now afloat.log y
        each m y there =
            let u : (x : SlotState) × (slice_get w.posts.slots m ≡ Some x) × (f x ≡ y) = get_unmapped f w.posts.slots m y there in
            subst (SlotAfloat s new now afloat.log) u.2 (turned.slots m u.0 u.1 (all_got (SlotAfloat s w.cut w.conductor afloat.log) w.posts.slots m u.0 afloat.slots u.1))

    pub turned_afloat : Afloat s turned_to
    turned_afloat = record {
      log = afloat.log;
      arrived = all_pairs (λ (sent : Sent). Backed s w sent.letter) (Arrived s afloat.log w) (Arrived s afloat.log turned_to) afloat.log arrives_turned afloat.backed afloat.arrived;
      backed = all_to (λ (sent : Sent). Backed s w sent.letter) (λ (sent : Sent). Backed s turned_to sent.letter) afloat.log (λ sent h. backed_turned turned.ledger sent.letter h) afloat.backed;
      over = λ r q k j hr hq early hj. afloat.over r q k j hr hq (subst (λ (l : LedgerState). k < l.base) turned.ledger early) hj;
      slots = slots_turned;
      pairs = pair_turned;
      desk = all_to (Backed s w) (Backed s turned_to) w.posts.desk (λ letter h. backed_turned turned.ledger letter h) afloat.desk;
      heard = λ j some. compared_turned j (present now) (turned.heard j some);
      beside = turned.beside;
    }

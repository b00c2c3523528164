-- A round that the conductor makes quiet loses nothing: it accepts the checkpoint, and orders all slots to go on from there.
use Rattle.std.proofs.Common.{◌≡◌, ℕ, zero, suc, ◌+◌, ◌<◌, ◌≤◌, inl, inr, true, false, List, [], ◌∷◌, ◌++◌, length, map, refl, ap, sym, ◌∙◌, arith, subst, Option, Some, None, IsSome}
use Rattle.std.specs.Prelude.{◌⊎◌, ◌==◌, IfSome, is_none, replicate, slice_get, slice_index_or}
use Rattle.std.specs.List.{AllByRecursion}
use Rattle.std.proofs.lemmas.Bool.{eqb-true}
use Rattle.chare_base.specs.declared.options.Options.{Options}
use Rattle.chare_base.specs.declared.plan.Reduction.{Reduction}
use Rattle.chare_base.specs.declared.slots.LineSet.{LineSet}
use Rattle.chare_base.specs.declared.slots.SlotId.{SlotId}
use Rattle.chare_base.specs.Elements.{place_of}
use Rattle.chare_base.specs.declared.message.Port.TheVariants as ports
use Rattle.buddy_compare.specs.Laws.{EqualExactly}
use Rattle.iteration_agree.specs.declared.slot.Cap.{Cap}
use Rattle.iteration_agree.specs.declared.slot.Slot.{Slot}
use Rattle.iteration_agree.specs.Cuts.{CutState, HasSlot, slot_of, slot_place}
use Rattle.iteration_agree.specs.Cuts.{quieted as cut_quieted}
use Rattle.iteration_agree.specs.Rounds.{number}
use Rattle.iteration_agree.specs.Slots.{opening_slot, slot_unnoted}
use Rattle.iteration_agree.specs.Under.{UnderSlot}
use Rattle.iteration_agree.proofs.Holding.{has_place}
use Rattle.iteration_agree.proofs.Keeping.{one}
use Rattle.letter_post.specs.declared.letter.BoxId.{BoxId}
use Rattle.letter_post.specs.declared.letter.BoxId.TheVariants as boxes
use Rattle.letter_post.specs.declared.letter.Letter.{Letter}
use Rattle.letter_post.specs.declared.letter.Letter.TheVariants as letters
use Rattle.letter_post.specs.declared.letter.Sent.{Sent}
use Rattle.letter_post.specs.declared.stamp.Stamp.{Stamp}
use Rattle.object_steps.specs.Objects.{Progress}
use Rattle.pup_state.specs.declared.piece.Piece.{Piece}
use Rattle.run_ledger.specs.Ledgers.{live_set}
use Rattle.node_core.specs.Keeps.{Alive, AllAt}
use Rattle.node_core.specs.Mail.{BodyDid, Did, Got, In, Owes, TotalsWereSent, reduction_id}
use Rattle.node_core.specs.Nodes.{Body}
use Rattle.node_core.specs.Rosters.{node_count, sharers_of}
use Rattle.node_core.specs.Turns.{is_at}
use Rattle.node_core.proofs.Lists.{all_by}
use Rattle.node_core.proofs.Logs.{did_more, owes_more}
use Rattle.node_core.proofs.Seats.{count_covered}
use Rattle.node_core.proofs.Within.{in_left}
use Rattle.conductor_core.specs.declared.wants.CutAnswer.TheVariants as answers
use Rattle.conductor_core.specs.declared.wants.CutMove.TheVariants as moves
use Rattle.conductor_core.specs.declared.wants.Phase.{Phase}
use Rattle.conductor_core.specs.declared.wants.Phase.TheVariants as phases
use Rattle.conductor_core.specs.Conductors.{ConductorState, Heard, conductor_did, nodes_of, wanted}
use Rattle.conductor_core.specs.Conductors.{is_at as is_on}
use Rattle.conductor_core.specs.Moves.{slot_named}
use Rattle.conductor_core.specs.Orders.{letters_to}
use Rattle.conductor_core.specs.Tells.{mail_to, verdict_at}
use Rattle.conductor_core.proofs.Sending.{ordered_first, ordered_second}
use Rattle.world_core.specs.Sound.{SlotSound, Sound}
use Rattle.world_core.specs.Still.{Accepted, Afloat, Arrived, Arrives, Backed, Earlier, IsPacked, IsPlain, Pair, SlotAfloat, Stage, Told, orders_in, pieces_in, plain_stamp, present, present_in}
use Rattle.world_core.specs.Worlds.{Setting, SlotState, WorldState, again, did_in, in_cut, number_of, slot_at}
use Rattle.world_core.proofs.Accepting.{sharers_within}
use Rattle.world_core.proofs.Carrying.{desk_backed, orders_both, put_pieces}
use Rattle.world_core.proofs.Completing.{all_packed, none_behind, none_left}
use Rattle.world_core.proofs.Due.{second}
use Rattle.world_core.proofs.Lists.{all_got, all_joined, all_to, get_unmapped}
use Rattle.world_core.proofs.Mailing.{Is, IsNamed, found, place_is, slot_is}
use Rattle.world_core.proofs.EarlierSent.{over_all, over_has, over_sent, share_sent, total_sent}
use Rattle.world_core.proofs.Posting.{From, Put, desk_of, posted_at, posted_desk}
use Rattle.world_core.proofs.Settling.{behind, beside_next, first_is, goes_on, second_is}

-- ---- slots without what was noted

unnoted_at : (xs : List Slot) (i : ℕ) → slice_index_or (map slot_unnoted xs) i (opening_slot 0) ≡ slot_unnoted (slice_index_or xs i (opening_slot 0))
unnoted_at [] i = refl
unnoted_at (x ∷ xs) zero = refl
unnoted_at (x ∷ xs) (suc i) = unnoted_at xs i

pub unnoted_of : (cut : CutState) (slot : SlotId) → slot_of (cut_quieted cut) slot ≡ slot_unnoted (slot_of cut slot)
unfolding cut_quieted
unnoted_of cut slot = unnoted_at cut.slots (slot_place cut.nodes slot)

unheard : (n j : ℕ) → IsSome (verdict_at (replicate n None) j) → ⊥
unheard zero j h = let q : false ≡ true = h in cc
unheard (suc n) zero h = let q : false ≡ true = h in cc
unheard (suc n) (suc j) h = unheard n j h

-- while the conductor is quiet no letter asks anything of it
told_quiet : (c : ConductorState) → c.phase ≡ phases.Quiet → (letter : Letter) → Told letter c
told_quiet c quiet (letters.Parcel stamp entry k to payload) = tt
told_quiet c quiet (letters.Partial stamp r k node value) = tt
told_quiet c quiet (letters.Total stamp r k value) = tt
told_quiet c quiet (letters.Piece stamp piece) = tt
told_quiet c quiet (letters.VerdictOf one two node k verdict piece) = λ at within hx hy. absurd (no_phase at)
  where
    no_phase : is_on k c.phase ≡ true → ⊥
    no_phase at = let q : false ≡ true = ap (is_on k) (sym quiet) ∙ at in cc
told_quiet c quiet (letters.Lend k fresh) = tt
told_quiet c quiet (letters.Take stamp k live piece) = tt
told_quiet c quiet (letters.Restore stamp k live) = tt
told_quiet c quiet (letters.Commit stamp k live) = tt
told_quiet c quiet (letters.Resume stamp) = tt
told_quiet c quiet (letters.Died stamp slot line) = tt
told_quiet c quiet letters.Stop = tt

-- a letter to all slots of a replica
letters_all : (P : Letter → Type 0) (r n : ℕ) (letter : Letter) → P letter → AllByRecursion (λ (sent : Sent). P sent.letter) (letters_to r letter n)
letters_all P r zero letter h = tt
letters_all P r (suc j) letter h = all_joined (λ (sent : Sent). P sent.letter) (letters_to r letter j) (record { to = boxes.Slot (record { replica = r; node = j }); letter = letter } ∷ []) (letters_all P r j letter h) (h, tt)

module _ (s : Setting) (o : Options) (plain : IsPlain s o) (w : WorldState) (sound : Sound s o w) (afloat : Afloat s w) (equal : EqualExactly) (k : ℕ) (agreed : w.conductor.phase ≡ phases.Agreed k) (wants : wanted w.conductor ≡ moves.Quiet)
    (going : (conductor_did s.plan s.place answers.Nothing w.conductor).conductor.outcome ≡ None) where
  abbrev c : ConductorState
  c = w.conductor

  abbrev h : Heard
  h = goes_on s o plain w sound afloat equal k agreed wants

  abbrev now : ConductorState
  now = h.conductor

  abbrev cut : CutState
  cut = cut_quieted w.cut

  abbrev turned : WorldState
  turned = in_cut s.plan cut w

  abbrev next : WorldState
  next = did_in s h turned

  -- what is over counts as sent from now on
  abbrev extra : List Sent
  extra = over_sent s.nodes (length s.plan.reductions) k

  abbrev log : List Sent
  log = afloat.log ++ extra

  base_late : c.ledger.base < k
  base_late = behind s o plain w sound afloat equal k agreed wants going

  present_k : present c ≡ k
  present_k = ap (λ (p : Phase). present_in c.ledger.base p) agreed

  -- ---- the orders that come to a slot

  abbrev live : LineSet
  live = record { 0 = live_set now.ledger }

  abbrev orders : ℕ → List Letter
  orders r = letters.Commit (plain_stamp r) k live ∷ letters.Resume (plain_stamp r) ∷ []

  abbrev order_of : Stamp → Letter
  order_of stamp = letters.Commit stamp k live

  few_nodes : (j : ℕ) → j < s.nodes → j < nodes_of c
  few_nodes j less = let a = sound.conductor.sized.options in let b = plain.options.nodes in omega (arith, less, a, b)

  mail_of : (r j : ℕ) → r ≤ 1 → j < s.nodes → mail_to (slot_named r j) h.out ≡ orders r
  mail_of zero j few less =
      ordered_first j (nodes_of c) (order_of now.first) (order_of now.second) now.first now.second (few_nodes j less)
      ∙ ap (λ st. order_of st ∷ letters.Resume st ∷ []) (first_is s o plain w sound afloat equal k agreed wants going)
  mail_of (suc zero) j few less =
      ordered_second j (nodes_of c) (order_of now.first) (order_of now.second) now.first now.second (few_nodes j less)
      ∙ ap (λ st. order_of st ∷ letters.Resume st ∷ []) (second_is s o plain w sound afloat equal k agreed wants going)
  mail_of (suc (suc r)) j few less = absurd (omega (arith, few))

  no_pieces : (r j : ℕ) → r ≤ 1 → j < s.nodes → pieces_in (mail_to (slot_named r j) h.out) ≡ []
  no_pieces r j few less = ap pieces_in (mail_of r j few less)

  -- ---- a slot before them

  record Before (name : SlotId) (y : SlotState) : Type 0 where
    x : SlotState
    there : slot_at s.nodes w.posts.slots name ≡ Some x
    put : Put x (mail_to name h.out) y

  before : (name : SlotId) (y : SlotState) → slot_at s.nodes next.posts.slots name ≡ Some y → Before name y
  before name y is =
      let f : From s.nodes turned.posts.slots name (mail_to name h.out) y = posted_at s.nodes name h.out turned.posts y is in
      let i : Is s.nodes turned.posts.slots name f.x = slot_is s.nodes turned.posts.slots name f.x f.there in
      let u : (x : SlotState) × (slice_get w.posts.slots (number_of s.nodes name) ≡ Some x) × (again s.plan cut x ≡ f.x) = get_unmapped (again s.plan cut) w.posts.slots (number_of s.nodes name) f.x i.there in
      let p : Put (again s.plan cut u.0) (mail_to name h.out) y = subst (λ z. Put z (mail_to name h.out) y) (sym u.2) f.put in
      record {
        x = u.0;
        there = found s.nodes w.posts.slots name u.0 u.1 (ap (λ (z : SlotState). z.node.slot) u.2 ∙ i.name);
        put = record { node = p.node; box = p.box; back = p.back; since = p.since };
      }

  -- ---- a slot behind them

  module _ (y : SlotState) (is : slot_at s.nodes next.posts.slots y.node.slot ≡ Some y) (few : y.node.slot.replica ≤ 1) (less : y.node.slot.node < s.nodes) where
    b : Before y.node.slot y
    b = before y.node.slot y is

    abbrev x : SlotState
    x = b.x

    abbrev t : Slot
    t = slot_of w.cut x.node.slot

    there : slice_get w.posts.slots (number_of s.nodes y.node.slot) ≡ Some x
    there = (slot_is s.nodes w.posts.slots y.node.slot x b.there).there

    old : SlotAfloat s w.cut c afloat.log x
    old = all_got (SlotAfloat s w.cut c afloat.log) w.posts.slots (number_of s.nodes y.node.slot) x afloat.slots there

    its : SlotSound s w.cut c x
    its = all_got (SlotSound s w.cut c) w.posts.slots (number_of s.nodes y.node.slot) x sound.slots there

    packed : IsPacked w.cut c t x old.body
    packed = all_packed s o plain w sound afloat k agreed wants (number_of s.nodes y.node.slot) x there old

    piece_at : packed.piece.iteration ≡ k
    piece_at = let q : phases.Agreed packed.piece.iteration ≡ phases.Agreed k = sym packed.agreed ∙ agreed in cc

    same_name : x.node.slot ≡ y.node.slot
    same_name = ap (λ n. n.slot) (sym b.put.node)

    mail : mail_to y.node.slot h.out ≡ orders y.node.slot.replica
    mail = mail_of y.node.slot.replica y.node.slot.node few less

    ordered : orders_in y.box ≡ orders y.node.slot.replica
    ordered =
        ap orders_in (b.put.box ∙ ap (λ l. x.box ++ l) mail)
        ∙ orders_both x.box (orders y.node.slot.replica)
        ∙ ap (λ l. l ++ orders y.node.slot.replica) packed.orders

    under : UnderSlot w.cut.round w.cut.floor w.cut.taking t
    under = one w.cut (slot_place w.cut.nodes x.node.slot) (has_place w.cut x.node.slot sound.agreement has) sound.agreement.under
      where
        has : HasSlot w.cut x.node.slot
        has = subst (HasSlot w.cut) (sym same_name) (few, let m = sound.nodes in omega (arith, less, m))

    cap_early : (q : Option Cap) → IfSome q (λ (cap : Cap). cap.round ≤ number t.seen) → IfSome q (λ (cap : Cap). cap.round < number w.cut.round + 1)
    cap_early None h = tt
    cap_early (Some cap) h = let seen = under.seen in omega (arith, h, seen)

    earlier : Earlier cut.round (slot_unnoted t)
    unfolding cut_quieted
    earlier = record {
      packed = subst (λ q. IfSome q (λ r. r < number w.cut.round + 1)) (sym packed.packed) (omega arith);
      cap = cap_early t.cap under.reported;
    }

    stage : Stage cut now (slot_unnoted t) y old.body
    stage = Accepted
        (record {
          held = packed.held;
          piece = packed.piece;
          fresh = packed.fresh;
          at = piece_at;
          goes = packed.goes;
          since = b.put.since ∙ packed.since;
          live = live;
          orders = ordered;
          earlier = earlier;
        })

    place_is_t : slot_unnoted t ≡ slot_of cut y.node.slot
    place_is_t = sym (unnoted_of w.cut x.node.slot) ∙ ap (slot_of cut) same_name

    slot_next : SlotAfloat s cut now log y
    slot_next = record {
      body = old.body;
      alive = ap (λ n. n.body) b.put.node ∙ old.alive;
      stamp = subst (λ n. n.last.stamp ≡ plain_stamp n.slot.replica) (sym b.put.node) old.stamp;
      owes = owes_more s.plan s.place k afloat.log extra y.node (subst (Owes s.plan s.place k afloat.log) (sym b.put.node) (subst (λ m. Owes s.plan s.place m afloat.log x.node) present_k old.owes));
      back = b.put.back ∙ old.back;
      stage = subst (λ q. Stage cut now q y old.body) place_is_t stage;
      top = subst (λ (q : Slot). q.top ≤ s.plan.iterations) place_is_t old.top;
      cap = subst (λ (q : Slot). IfSome q.cap (λ (cap : Cap). cap.cap ≤ s.plan.iterations)) place_is_t old.cap;
      others = λ is_one. put_pieces x y (mail_to y.node.slot h.out) b.put (no_pieces y.node.slot.replica y.node.slot.node few less) ∙ old.others (subst (λ n. n.slot.replica ≡ 1) b.put.node is_one);
      buddy = old.buddy;
    }

    -- ---- what is over is done

    at_end : AllAt k old.body.objects
    at_end =
        let live_x : Alive s.plan s.script s.place x.node old.body = subst (λ q. IfSome q (Alive s.plan s.script s.place x.node)) old.alive its.keeps.body in
        subst (λ m. AllAt m old.body.objects) piece_at (subst (λ q. IfSome q (λ (piece : Piece). AllAt piece.iteration old.body.objects)) packed.fresh live_x.packed)

    did_by : (letter : Letter) → BodyDid s.plan log y.node old.body letter → Did s.plan log letter y.node
    did_by letter did = subst (λ q. IfSome q (λ (m : Body). BodyDid s.plan log y.node m letter)) (sym (ap (λ n. n.body) b.put.node ∙ old.alive)) did

    done_late : (o : Progress) → is_at k o ≡ true → o.done ≡ k
    done_late o h = eqb-true o.done k (second (is_none o.step) (o.done == k) h)

    total_did : (r q j : ℕ) → j < k → Did s.plan log (total_sent r q j y.node.slot.node).letter y.node
    total_did r q j early = did_by (total_sent r q j y.node.slot.node).letter
        (λ same red there_red. all_to (λ o. is_at k o ≡ true) (λ (o : Progress). (place_of s.plan o.element.0).array ≡ red.owner → Got s.plan j (ports.Total (reduction_id q)) o) old.body.objects (λ o at mine. inr (inl (let d = done_late o at in omega (arith, d, early)))) at_end)

    share_did : (q j m : ℕ) → q < length s.plan.reductions → j < k → Did s.plan log (share_sent y.node.slot.replica q j m).letter y.node
    share_did q j m few_q early = did_by (share_sent y.node.slot.replica q j m).letter (λ same red rank there_red number_is. inr (totals red))
      where
        each : (all : List ℕ) → AllByRecursion (λ n. n < node_count s.place) all → TotalsWereSent (plain_stamp y.node.slot.replica) q j all log
        each [] h = tt
        each (n ∷ more) h =
            let below : n < s.nodes = let a = h.0 in let count = count_covered s.place s.nodes plain.placed.covers in omega (arith, a, count) in
            ((over_has s.nodes (length s.plan.reductions) k afloat.log y.node.slot.replica q j n few few_q early below).total, each more h.1)

        within : (red : Reduction) → AllByRecursion (λ n. n < node_count s.place) (sharers_of y.node.roster red.owner)
        within red = subst (λ n. AllByRecursion (λ m. m < node_count s.place) (sharers_of n.roster red.owner)) (sym b.put.node)
            (subst (λ r. AllByRecursion (λ m. m < node_count s.place) (sharers_of r red.owner)) (sym its.keeps.roster.is) (sharers_within s.plan s.place x.node.slot.node red.owner))

        totals : (red : Reduction) → TotalsWereSent y.node.last.stamp q j (sharers_of y.node.roster red.owner) log
        totals red = subst (λ st. TotalsWereSent st q j (sharers_of y.node.roster red.owner) log) (sym slot_next.stamp) (each (sharers_of y.node.roster red.owner) (within red))

  -- ---- what arrived, and what counts as sent

  desk_next : next.posts.desk ≡ w.posts.desk ++ desk_of h.out
  desk_next = posted_desk s.nodes h.out turned.posts

  kept_next : (name : SlotId) (y : SlotState) (letter : Letter) (b : Before name y) → In letter b.x.box ⊎ Did s.plan afloat.log letter b.x.node → In letter y.box ⊎ Did s.plan log letter y.node
  kept_next name y letter b (inl lies) = inl (subst (In letter) (sym b.put.box) (in_left letter b.x.box (mail_to name h.out) lies))
  kept_next name y letter b (inr did) = inr (did_more s.plan afloat.log extra y.node letter (subst (Did s.plan afloat.log letter) (sym b.put.node) did))

  arrives_next : (letter : Letter) (to : BoxId) → Arrives s afloat.log w to letter → Arrives s log next to letter
  arrives_next letter (boxes.Slot name) had = λ y there. let b : Before name y = before name y there in kept_next name y letter b (had b.x b.there)
  arrives_next letter boxes.Conductor had = inr (told_quiet now refl letter)

  over_arrives : (r q j m : ℕ) → r ≤ 1 → q < length s.plan.reductions → j < k → m < s.nodes → Arrived s log next (share_sent r q j m) × Arrived s log next (total_sent r q j m)
  over_arrives r q j m hr hq hj hm = (share, total)
    where
      named : (name : SlotId) (y : SlotState) → slot_at s.nodes next.posts.slots name ≡ Some y → y.node.slot ≡ name
      named name y there = (slot_is s.nodes next.posts.slots name y there).name

      share : Arrived s log next (share_sent r q j m)
      share y there = inr (by (named (slot_named r 0) y there))
        where
          by : y.node.slot ≡ slot_named r 0 → Did s.plan log (share_sent r q j m).letter y.node
          by is = subst (λ i. Did s.plan log (share_sent i q j m).letter y.node) (ap (λ (n : SlotId). n.replica) is)
              (share_did y (subst (λ n. slot_at s.nodes next.posts.slots n ≡ Some y) (sym is) there) (subst (λ (n : SlotId). n.replica ≤ 1) (sym is) hr) (subst (λ (n : SlotId). n.node < s.nodes) (sym is) (omega (arith, hm))) q j m hq hj)

      total : Arrived s log next (total_sent r q j m)
      total y there = inr (by (named (slot_named r m) y there))
        where
          by : y.node.slot ≡ slot_named r m → Did s.plan log (total_sent r q j m).letter y.node
          by is = total_did y (subst (λ n. slot_at s.nodes next.posts.slots n ≡ Some y) (sym is) there) (subst (λ (n : SlotId). n.replica ≤ 1) (sym is) hr) (subst (λ (n : SlotId). n.node < s.nodes) (sym is) hm) r q j hj

  -- ---- verdicts

  backed_next : (letter : Letter) → Backed s w letter → Backed s next letter
  backed_next (letters.Parcel stamp entry j to payload) h = tt
  backed_next (letters.Partial stamp r j node value) h = tt
  backed_next (letters.Total stamp r j value) h = tt
  backed_next (letters.Piece stamp piece) h = tt
  backed_next (letters.VerdictOf one two node j verdict piece) h = λ late. absurd (none_behind s o plain w sound afloat k agreed wants node j late (h (let a = base_late in omega (arith, late, a))))
  backed_next (letters.Lend j fresh) h = tt
  backed_next (letters.Take stamp j live piece) h = tt
  backed_next (letters.Restore stamp j live) h = tt
  backed_next (letters.Commit stamp j live) h = tt
  backed_next (letters.Resume stamp) h = tt
  backed_next (letters.Died stamp slot line) h = tt
  backed_next letters.Stop h = tt

  abbrev P : Sent → Type 0
  P sent = Backed s next sent.letter

  abbrev n : ℕ
  n = nodes_of c

  out_backed : AllByRecursion P h.out
  out_backed =
      all_joined P ((letters_to 0 (order_of now.first) n ++ letters_to 1 (order_of now.second) n) ++ letters_to 0 (letters.Resume now.first) n) (letters_to 1 (letters.Resume now.second) n)
      (all_joined P (letters_to 0 (order_of now.first) n ++ letters_to 1 (order_of now.second) n) (letters_to 0 (letters.Resume now.first) n)
      (all_joined P (letters_to 0 (order_of now.first) n) (letters_to 1 (order_of now.second) n) (letters_all (Backed s next) 0 n (order_of now.first) tt) (letters_all (Backed s next) 1 n (order_of now.second) tt))
      (letters_all (Backed s next) 0 n (letters.Resume now.first) tt))
      (letters_all (Backed s next) 1 n (letters.Resume now.second) tt)

  -- ---- all of it

  module _ (sound_next : Sound s o next) where
    slots_next : AllByRecursion (SlotAfloat s cut now log) next.posts.slots
    slots_next = all_by (SlotAfloat s cut now log) next.posts.slots each
      where
        each : (m : ℕ) (y : SlotState) → slice_get next.posts.slots m ≡ Some y → SlotAfloat s cut now log y
        each m y there =
            let named : IsNamed s.nodes m y.node.slot = place_is s.nodes next.posts.slots sound_next.names m y there in
            slot_next y (found s.nodes next.posts.slots y.node.slot y (ap (slice_get next.posts.slots) named.number ∙ there) refl) named.replica named.node

    pair_next : (j : ℕ) → j < s.nodes → Pair s next j
    pair_next j less y other b own there_y there_other alive_y alive_other =
        let u : Before (slot_named 0 j) y = before (slot_named 0 j) y there_y in
        let v : Before (slot_named 1 j) other = before (slot_named 1 j) other there_other in
        put_pieces u.x y (mail_to (slot_named 0 j) h.out) u.put (no_pieces 0 j (omega arith) less)
        ∙ none_left s o plain w sound afloat k agreed wants j less u.x v.x b own u.there v.there (ap (λ n. n.body) (sym u.put.node) ∙ alive_y) (ap (λ n. n.body) (sym v.put.node) ∙ alive_other)

    pub quiet_afloat : Afloat s next
    quiet_afloat = record {
      log = log;
      arrived = all_joined (Arrived s log next) afloat.log extra (all_to (Arrived s afloat.log w) (Arrived s log next) afloat.log (λ sent h. arrives_next sent.letter sent.to h) afloat.arrived) (over_all s.nodes (length s.plan.reductions) k (Arrived s log next) over_arrives);
      backed = all_joined (λ (sent : Sent). Backed s next sent.letter) afloat.log extra (all_to (λ (sent : Sent). Backed s w sent.letter) (λ (sent : Sent). Backed s next sent.letter) afloat.log (λ sent h. backed_next sent.letter h) afloat.backed)
          (over_all s.nodes (length s.plan.reductions) k (λ (sent : Sent). Backed s next sent.letter) (λ r q j m hr hq hj hm. (tt, tt)));
      over = λ r q j m hr hq hj hm. over_has s.nodes (length s.plan.reductions) k afloat.log r q j m hr hq hj hm;
      slots = slots_next;
      pairs = pair_next;
      desk = subst (AllByRecursion (Backed s next)) (sym desk_next) (all_joined (Backed s next) w.posts.desk (desk_of h.out) (all_to (Backed s w) (Backed s next) w.posts.desk backed_next afloat.desk) (desk_backed s next h.out out_backed));
      heard = λ j some. absurd (unheard (length c.verdicts) j some);
      beside = beside_next s o plain w sound afloat equal k agreed wants going;
    }

-- A slot that packs loses nothing.
use Rattle.std.proofs.Common.{◌≡◌, ℕ, ◌<◌, ◌≤◌, inl, inr, Bool, true, false, cond, List, [], ◌∷◌, ◌++◌, refl, ap, sym, ◌∙◌, arith, subst, Option, Some, None}
use Rattle.std.specs.Prelude.{◌⊎◌, ◌==◌, ◌&&◌, IfSome, is_none, nat_le, nat_lt, not}
use Rattle.std.specs.List.{AllByRecursion}
use Rattle.std.proofs.lemmas.Bool.{eq-eqb, eqb-true}
use Rattle.std.proofs.lemmas.Bool.Decides.{nat_tests}
use Rattle.std.proofs.lemmas.Option.{same_Some}
use Rattle.chare_base.specs.declared.options.Options.{Options}
use Rattle.chare_base.specs.declared.plan.Plan.{Plan}
use Rattle.chare_base.specs.declared.slots.SlotId.{SlotId}
use Rattle.iteration_agree.specs.declared.round.Round.{Round}
use Rattle.iteration_agree.specs.declared.round.Round.TheVariants as rounds
use Rattle.iteration_agree.specs.declared.round.Standing.{Standing}
use Rattle.iteration_agree.specs.declared.slot.Cap.{Cap}
use Rattle.iteration_agree.specs.declared.slot.Slot.{Slot}
use Rattle.iteration_agree.specs.Cuts.{CutState, packed_by, slot_of}
use Rattle.iteration_agree.specs.Rounds.{number}
use Rattle.iteration_agree.specs.Slots.{is_in, slot_packed}
use Rattle.iteration_agree.specs.Under.{SawAgreed}
use Rattle.letter_post.specs.declared.letter.Letter.{Letter}
use Rattle.letter_post.specs.declared.letter.Letter.TheVariants as letters
use Rattle.letter_post.specs.declared.letter.Sent.{Sent}
use Rattle.letter_post.specs.declared.stamp.Stamp.{Stamp}
use Rattle.pup_state.specs.declared.piece.Piece.{Piece}
use Rattle.node_core.specs.declared.piece.Held.{Held}
use Rattle.node_core.specs.Mail.{BodyOwes, Did, In, Moves, PacksMove}
use Rattle.node_core.specs.Nodes.{Body, NodeState, Outcome, all_at, compared, next_begin, node_packed, pack_sends, piece_of, rests, to_slot, verdict_sent}
use Rattle.conductor_core.specs.declared.wants.Phase.{Phase}
use Rattle.conductor_core.specs.declared.wants.Phase.TheVariants as phases
use Rattle.conductor_core.specs.Conductors.{ConductorState}
use Rattle.conductor_core.specs.Moves.{slot_named}
use Rattle.conductor_core.specs.Tells.{mail_to}
use Rattle.world_core.specs.declared.doing.Since.{Since}
use Rattle.world_core.specs.declared.doing.Since.TheVariants.{Nothing}
use Rattle.world_core.specs.declared.doing.SlotMove.TheVariants as slot_moves
use Rattle.world_core.specs.Moves.{begin_due, is_below, limit_of, move_of, pack_due, pack_or_begin, release_due, report_due, same_round}
use Rattle.world_core.specs.Sound.{SlotSound, Sound}
use Rattle.world_core.specs.Still.{Accepted, Afloat, Backed, Beside, Committed, Compared, Free, Freed, HasPacked, IsFree, IsPhase, IsPlain, IsThere, OnItsWay, Packed, Pair, PairIn, Passes, SlotAfloat, Stage, Unsent, orders_in, pieces_in, plain_stamp, present, present_in}
use Rattle.world_core.specs.Worlds.{Acted, Setting, SlotState, WorldState, acted, after_slot, number_of, slot_at, slot_move, stand}
use Rattle.world_core.proofs.Accepting.{not_earlier}
use Rattle.world_core.proofs.Carrying.{After, SamePlace, passes_same, pieces_both, put_pieces, slot_next, stands_there, step_afloat}
use Rattle.world_core.proofs.Due.{PackDue, due_is, first, second}
use Rattle.world_core.proofs.Lists.{all_got}
use Rattle.world_core.proofs.Mailing.{IsNamed, place_is, same_slot, slot_is}
use Rattle.world_core.proofs.Posting.{Put}
use Rattle.world_core.proofs.Placing.{away, beside, here, old}
use Rattle.world_core.proofs.Seen.{both_true, self_equal}
use Rattle.world_core.proofs.Waking.{PacksOn, packs_on}

-- ---- a pack that is due is of the round as it stands

module _ (p : Plan) (round : Round) (n : NodeState) (t : Standing) (since : Since) (k : ℕ) where
  no_begin : (o : Option ℕ) → begin_due t o ≡ Some (slot_moves.Pack k) → ⊥
  no_begin None h = let q : None ≡ Some (slot_moves.Pack k) = h in cc
  no_begin (Some j) h = by (j == t.top && nat_lt t.top 1000000 && is_below t.top (limit_of t)) h
    where
      by : (b : Bool) → cond b (Some (slot_moves.Begin t.top)) None ≡ Some (slot_moves.Pack k) → ⊥
      by false g = let q : None ≡ Some (slot_moves.Pack k) = g in cc
      by true g = let q : Some (slot_moves.Begin t.top) ≡ Some (slot_moves.Pack k) = g in cc

  record PacksNow : Type 0 where
    same : same_round t.seen round ≡ true
    once : t.packed ≡ false

  once_of : (o : Option ℕ) → pack_due p n t t.seen ≡ o → (j : ℕ) → o ≡ Some j → t.packed ≡ false
  once_of o is j some = by t.seen (is ∙ some)
    where
      by : (seen : Round) → pack_due p n t seen ≡ Some j → t.packed ≡ false
      by (rounds.Quiet r) h = absurd (let q : None ≡ Some j = h in cc)
      by (rounds.Gather r f) h = absurd (let q : None ≡ Some j = h in cc)
      by (rounds.Agreed r i) h = test (t.top == i && nat_le i p.iterations && not t.packed && all_at i n) refl h
        where
          unpacked : (b : Bool) → not b ≡ true → b ≡ false
          unpacked false g = refl
          unpacked true g = absurd (let q : false ≡ true = g in cc)

          test : (b : Bool) → (t.top == i && nat_le i p.iterations && not t.packed && all_at i n) ≡ b → cond b (Some i) None ≡ Some j → t.packed ≡ false
          test false tests g = absurd (let q : None ≡ Some j = g in cc)
          test true tests g = unpacked t.packed (second (t.top == i && nat_le i p.iterations) (not t.packed) (first (t.top == i && nat_le i p.iterations && not t.packed) (all_at i n) tests))

  packs_now : (back : Option ℕ) → back ≡ None → move_of p round n t back since ≡ Some (slot_moves.Pack k) → PacksNow
  packs_now back none h = by (is_none n.body) (same_round t.seen round) (rests n) (release_due t since) (report_due t t.seen) (pack_due p n t t.seen) refl refl
      (subst (λ q. move_of p round n t q since ≡ Some (slot_moves.Pack k)) none h)
    where
      by : (a b c d e : Bool) (q : Option ℕ) → same_round t.seen round ≡ b → pack_due p n t t.seen ≡ q →
          cond a None (cond (not b) (Some slot_moves.See) (cond c None (cond d (Some slot_moves.Release) (cond e (Some slot_moves.Report) (pack_or_begin n t q))))) ≡ Some (slot_moves.Pack k) → PacksNow
      by true b c d e q s l g = absurd (let z : None ≡ Some (slot_moves.Pack k) = g in cc)
      by false false c d e q s l g = absurd (let z : Some slot_moves.See ≡ Some (slot_moves.Pack k) = g in cc)
      by false true true d e q s l g = absurd (let z : None ≡ Some (slot_moves.Pack k) = g in cc)
      by false true false true e q s l g = absurd (let z : Some slot_moves.Release ≡ Some (slot_moves.Pack k) = g in cc)
      by false true false false true q s l g = absurd (let z : Some slot_moves.Report ≡ Some (slot_moves.Pack k) = g in cc)
      by false true false false false None s l g = absurd (no_begin (next_begin n) g)
      by false true false false false (Some j) s l g = record { same = s; once = once_of (Some j) l j refl }

-- a slot that saw the round as it stands, agreed at k
record Agrees (k : ℕ) (seen round : Round) : Type 0 where
  r : ℕ
  is : round ≡ rounds.Agreed r k
  number : number seen ≡ number round

agrees : (k : ℕ) (seen round : Round) → same_round seen round ≡ true → SawAgreed k seen → Agrees k seen round
agrees k (rounds.Quiet a) round same saw = absurd saw
agrees k (rounds.Gather a f) round same saw = absurd saw
agrees k (rounds.Agreed a j) (rounds.Quiet b) same saw = absurd (let q : false ≡ true = same in cc)
agrees k (rounds.Agreed a j) (rounds.Gather b g) same saw = absurd (let q : false ≡ true = same in cc)
agrees k (rounds.Agreed a j) (rounds.Agreed b i) same saw =
    let it : j ≡ i = eqb-true j i (second (a == b) (j == i) same) in
    record { r = b; is = ap (λ m. rounds.Agreed b m) (sym (saw ∙ it)); number = eqb-true a b (first (a == b) (j == i) same) }

phase_agrees : (k r floor : ℕ) (c : ConductorState) (phase : Phase) (round : Round) → round ≡ rounds.Agreed r k → IsPhase c floor phase round → phase ≡ phases.Agreed k
phase_agrees k r floor c phase round is h = by phase (subst (IsPhase c floor phase) is h)
  where
    by : (phase : Phase) → IsPhase c floor phase (rounds.Agreed r k) → phase ≡ phases.Agreed k
    by phases.Quiet g = absurd g
    by phases.Gather g = absurd g
    by (phases.Agreed j) g = ap phases.Agreed g.0

-- ---- what a pack sends

module _ (p : Plan) (slot : SlotId) (own : Stamp) (mine : Piece) where
  compared_to : (name : SlotId) (o : Option Held) → mail_to name (compared p own (Some mine) o) ≡ []
  compared_to name None = refl
  compared_to name (Some held) = by (mine.iteration == held.piece.iteration)
    where
      by : (b : Bool) → mail_to name (cond b (verdict_sent p own mine held ∷ []) []) ≡ []
      by true = refl
      by false = refl

  abbrev piece_out : List Sent
  piece_out = to_slot 0 slot.node (letters.Piece own mine) ∷ []

  pack_orders : (name : SlotId) (o : Option Held) → orders_in (mail_to name (pack_sends p slot own mine o)) ≡ []
  pack_orders name o = by (slot.replica == 1)
    where
      one : (b : Bool) → orders_in (cond b (letters.Piece own mine ∷ []) []) ≡ []
      one true = refl
      one false = refl

      by : (b : Bool) → orders_in (mail_to name (cond b piece_out (compared p own (Some mine) o))) ≡ []
      by true = one (0 == name.replica && slot.node == name.node)
      by false = ap orders_in (compared_to name o)

  -- where no piece goes to that name
  pack_pieces : (name : SlotId) (o : Option Held) → (slot.replica ≡ 1 → (0 == name.replica && slot.node == name.node) ≡ false) → pieces_in (mail_to name (pack_sends p slot own mine o)) ≡ []
  pack_pieces name o away = by (slot.replica == 1) refl
    where
      one : (b : Bool) → b ≡ false → pieces_in (cond b (letters.Piece own mine ∷ []) []) ≡ []
      one true h = absurd (let q : true ≡ false = h in cc)
      one false h = refl

      by : (b : Bool) → (slot.replica == 1) ≡ b → pieces_in (mail_to name (cond b piece_out (compared p own (Some mine) o))) ≡ []
      by true h = one (0 == name.replica && slot.node == name.node) (away (eqb-true slot.replica 1 h))
      by false h = ap pieces_in (compared_to name o)

  -- where it goes to that name
  pack_one : (name : SlotId) (o : Option Held) → slot.replica ≡ 1 → (0 == name.replica && slot.node == name.node) ≡ true → pieces_in (mail_to name (pack_sends p slot own mine o)) ≡ record { stamp = own; piece = mine } ∷ []
  pack_one name o one there = by (slot.replica == 1) (eq-eqb slot.replica 1 one)
    where
      at : (b : Bool) → b ≡ true → pieces_in (cond b (letters.Piece own mine ∷ []) []) ≡ record { stamp = own; piece = mine } ∷ []
      at false h = absurd (let q : false ≡ true = h in cc)
      at true h = refl

      by : (b : Bool) → b ≡ true → pieces_in (mail_to name (cond b piece_out (compared p own (Some mine) o))) ≡ record { stamp = own; piece = mine } ∷ []
      by false h = absurd (let q : false ≡ true = h in cc)
      by true h = at (0 == name.replica && slot.node == name.node) there

  -- a verdict is of a buddy's piece that is held
  pack_backed : (P : Letter → Type 0) (o : Option Held) → P (letters.Piece own mine) → ((held : Held) → o ≡ Some held → mine.iteration ≡ held.piece.iteration → (slot.replica == 1) ≡ false → P (verdict_sent p own mine held).letter) →
      AllByRecursion (λ (sent : Sent). P sent.letter) (pack_sends p slot own mine o)
  pack_backed P o its verdict = by (slot.replica == 1) refl
    where
      on : (o : Option Held) → ((held : Held) → o ≡ Some held → mine.iteration ≡ held.piece.iteration → P (verdict_sent p own mine held).letter) → AllByRecursion (λ (sent : Sent). P sent.letter) (compared p own (Some mine) o)
      on None h = tt
      on (Some held) h = test (mine.iteration == held.piece.iteration) refl
        where
          test : (b : Bool) → (mine.iteration == held.piece.iteration) ≡ b → AllByRecursion (λ (sent : Sent). P sent.letter) (cond b (verdict_sent p own mine held ∷ []) [])
          test false t = tt
          test true t = (h held refl (eqb-true mine.iteration held.piece.iteration t), tt)

      by : (b : Bool) → (slot.replica == 1) ≡ b → AllByRecursion (λ (sent : Sent). P sent.letter) (cond b piece_out (compared p own (Some mine) o))
      by true t = (its, tt)
      by false t = on o (λ held there at. verdict held there at t)

-- ---- it packs

not_zero : (name : SlotId) (j : ℕ) → name.replica ≡ 1 → (0 == name.replica && j == name.node) ≡ false
not_zero name j one = ap (λ r. 0 == r && j == name.node) one

module _ (s : Setting) (o : Options) (plain : IsPlain s o) (w : WorldState) (slot : SlotId) (x : SlotState) (is : slot_at s.nodes w.posts.slots slot ≡ Some x) (sound : Sound s o w) (afloat : Afloat s w) (packs : PacksMove) (k : ℕ)
    (due_now : slot_move s.plan w.cut x ≡ Some (slot_moves.Pack k)) where
  abbrev log : List Sent
  log = afloat.log

  abbrev name : SlotId
  name = x.node.slot

  abbrev t : Slot
  t = slot_of w.cut name

  abbrev mine : SlotAfloat s w.cut w.conductor log x
  mine = old s o w slot x is sound afloat

  its : SlotSound s w.cut w.conductor x
  its = all_got (SlotSound s w.cut w.conductor) w.posts.slots (number_of s.nodes slot) x sound.slots (slot_is s.nodes w.posts.slots slot x is).there

  named : IsNamed s.nodes (number_of s.nodes slot) name
  named = place_is s.nodes w.posts.slots sound.names (number_of s.nodes slot) x (slot_is s.nodes w.posts.slots slot x is).there

  called : name ≡ slot
  called = (slot_is s.nodes w.posts.slots slot x is).name

  due : PackDue s.plan x.node (stand w.cut name) k
  due = (due_is s.plan x.node (stand w.cut name) x.back x.since w.cut.round (slot_moves.Pack k) due_now).1

  now_due : PacksNow s.plan w.cut.round x.node (stand w.cut name) x.since k
  now_due = packs_now s.plan w.cut.round x.node (stand w.cut name) x.since k x.back mine.back due_now

  round : Agrees k t.seen w.cut.round
  round = agrees k t.seen w.cut.round now_due.same due.seen

  agreed : w.conductor.phase ≡ phases.Agreed k
  agreed = phase_agrees k round.r w.cut.floor w.conductor w.conductor.phase w.cut.round round.is afloat.beside.phase

  at_k : present w.conductor ≡ k
  at_k = ap (λ (p : Phase). present_in w.conductor.ledger.base p) agreed

  -- it is between two checkpoints
  pub free : IsFree w.cut w.conductor t x mine.body
  free = by mine.stage
    where
      by : Stage w.cut w.conductor t x mine.body → IsFree w.cut w.conductor t x mine.body
      by (Free h) = h
      by (Packed h) = absurd (let q : true ≡ false = sym (ap (λ p. is_in (number t.seen) p) h.packed ∙ ap (λ n. n == number t.seen) (sym round.number) ∙ self_equal (number t.seen)) ∙ now_due.once in cc)
      by (Accepted h) = absurd (not_earlier s o plain w slot x is sound afloat h.earlier k agreed)
      by (Committed h) = absurd (not_earlier s o plain w slot x is sound afloat h.earlier k agreed)
      by (Freed h) = absurd (not_earlier s o plain w slot x is sound afloat h.earlier k agreed)

  abbrev out : Outcome
  out = node_packed s.plan s.script k x.node

  on : PacksOn s.plan k x.node mine.body out
  on = packs_on s.plan s.script k x.node mine.body mine.alive

  moves : Moves s.plan s.place (present w.conductor) x.node out
  moves = subst (λ m. Moves s.plan s.place m x.node out) (sym at_k) (packs s.plan s.script s.place k x.node its.keeps)

  abbrev piece : Piece
  piece = piece_of s.plan k x.node.slot.node mine.body.objects

  abbrev cut : CutState
  cut = packed_by name w.cut

  abbrev acts : Acted
  acts = acted s.plan cut out x.box x.back Nothing

  has_called : acts.slot.node.slot ≡ slot
  has_called = moves.slot ∙ called

  here_packed : slot_of cut name ≡ slot_packed t
  unfolding packed_by
  here_packed = here s o w slot x is sound afloat slot_packed (λ q. refl) mine.top mine.cap

  away_packed : (other : SlotId) → (other ≡ slot → ⊥) → (other.replica ≤ 1) × (other.node < s.nodes) → SamePlace s w.conductor w.cut cut other
  unfolding packed_by
  away_packed = away s o w slot x is sound afloat slot_packed (λ q. refl) mine.top mine.cap

  beside_packed : Beside s cut w.conductor
  unfolding packed_by
  beside_packed = beside s o w slot x is sound afloat slot_packed (λ q. refl) mine.top mine.cap

  same_round_packed : cut.round ≡ w.cut.round
  unfolding packed_by
  same_round_packed = refl

  stage_packed : Stage cut w.conductor (slot_packed t) acts.slot on.body
  stage_packed = Packed
      (record {
        held = refl;
        piece = piece;
        fresh = on.fresh;
        agreed = agreed;
        goes = on.waits ∙ free.goes;
        since = refl;
        orders = free.orders;
        base = ap (λ l. l.base) moves.last ∙ free.base;
        packed = ap Some (round.number ∙ ap number (sym same_round_packed));
      })

  packed_afloat : SlotAfloat s cut w.conductor (log ++ out.out) acts.slot
  packed_afloat = record {
    body = on.body;
    alive = on.alive;
    stamp = ap (λ l. l.stamp) moves.last ∙ mine.stamp ∙ ap (λ (n : SlotId). plain_stamp n.replica) (sym moves.slot);
    owes = moves.owes log mine.owes;
    back = mine.back;
    stage = subst (λ (n : SlotId). Stage cut w.conductor (slot_of cut n) acts.slot on.body) (sym moves.slot) (subst (λ q. Stage cut w.conductor q acts.slot on.body) (sym here_packed) stage_packed);
    top = subst (λ (n : SlotId). (slot_of cut n).top ≤ s.plan.iterations) (sym moves.slot) (subst (λ (q : Slot). q.top ≤ s.plan.iterations) (sym here_packed) mine.top);
    cap = subst (λ (n : SlotId). IfSome (slot_of cut n).cap (λ (q : Cap). q.cap ≤ s.plan.iterations)) (sym moves.slot)
        (subst (λ (q : Slot). IfSome q.cap (λ (c : Cap). c.cap ≤ s.plan.iterations)) (sym here_packed) mine.cap);
    others = λ one. mine.others (ap (λ (n : SlotId). n.replica) (sym moves.slot) ∙ one);
    buddy = subst (λ q. IfSome q (λ (held : Held). held.stamp ≡ plain_stamp 1)) (sym on.other) mine.buddy;
  }

  kept : (letter : Letter) → In letter x.box ⊎ Did s.plan log letter x.node → In letter x.box ⊎ Did s.plan (log ++ out.out) letter out.node
  kept letter (inl h) = inl h
  kept letter (inr h) = inr (moves.did log letter mine.owes h)

  orders : (to : SlotId) → orders_in (mail_to to out.out) ≡ []
  orders to = ap (λ l. orders_in (mail_to to l)) on.out ∙ pack_orders s.plan name x.node.last.stamp piece to mine.body.other

  no_pieces : (to : SlotId) → (name.replica ≡ 1 → (0 == to.replica && name.node == to.node) ≡ false) → pieces_in (mail_to to out.out) ≡ []
  no_pieces to h = ap (λ l. pieces_in (mail_to to l)) on.out ∙ pack_pieces s.plan name x.node.last.stamp piece to mine.body.other h

  pieces : (to : SlotId) → (to ≡ slot) ⊎ (to.replica ≡ 1) → pieces_in (mail_to to out.out) ≡ []
  pieces to (inl q) = no_pieces to (λ one. not_zero to name.node (ap (λ (n : SlotId). n.replica) (q ∙ sym called) ∙ one))
  pieces to (inr q) = no_pieces to (λ one. not_zero to name.node q)

  -- ---- a node's two slots

  abbrev next : WorldState
  next = after_slot s slot acts w

  comes : (to : SlotId) (y : SlotState) → slot_at s.nodes next.posts.slots to ≡ Some y → After s w slot acts has_called to y
  comes = slot_next s w slot acts has_called

  own_body : (y : SlotState) (b : Body) (more : List Letter) → Put acts.slot more y → y.node.body ≡ Some b → b ≡ on.body
  own_body y b more put alive = same_Some b on.body (sym alive ∙ ap (λ n. n.body) put.node ∙ on.alive)

  here_old : (to : SlotId) → to ≡ slot → slot_at s.nodes w.posts.slots to ≡ Some x
  here_old to q = ap (slot_at s.nodes w.posts.slots) q ∙ is

  old_pair : (j : ℕ) → j < s.nodes → (z two : SlotState) (c d : Body) → slot_at s.nodes w.posts.slots (slot_named 0 j) ≡ Some z → slot_at s.nodes w.posts.slots (slot_named 1 j) ≡ Some two → z.node.body ≡ Some c → two.node.body ≡ Some d →
      Passes k two z c d
  old_pair j hj z two c d hz htwo hc hd = subst (λ p. PairIn p two z c d) agreed (afloat.pairs j hj z two c d hz htwo hc hd)

  pair_packed : (j : ℕ) → j < s.nodes → Pair s next j
  pair_packed j hj y other b own there_y there_other alive_y alive_other = subst (λ p. PairIn p other y b own) (sym agreed) (by (comes (slot_named 0 j) y there_y) (comes (slot_named 1 j) other there_other))
    where
      by : After s w slot acts has_called (slot_named 0 j) y → After s w slot acts has_called (slot_named 1 j) other → Passes k other y b own
      by (inl p) (inl q) = absurd (let r : 0 ≡ 1 = ap (λ (n : SlotId). n.replica) (p.0 ∙ sym q.0) in cc)
      by (inl p) (inr q) =
          let same : b ≡ on.body = own_body y b (mail_to (slot_named 0 j) out.out) p.1 alive_y in
          passes_same k x y q.1.x other mine.body b own own refl (ap (λ (c : Body). c.other) same ∙ on.other)
          (put_pieces acts.slot y (mail_to (slot_named 0 j) out.out) p.1 (pieces (slot_named 0 j) (inl p.0)))
          (old_pair j hj x q.1.x mine.body own (here_old (slot_named 0 j) p.0) q.1.there mine.alive (ap (λ n. n.body) (sym q.1.put.node) ∙ alive_other))
      by (inr p) (inl q) = which (old_pair j hj p.1.x x b mine.body p.1.there (here_old (slot_named 1 j) q.0) (ap (λ n. n.body) (sym p.1.put.node) ∙ alive_y) mine.alive)
        where
          its_name : name ≡ slot_named 1 j
          its_name = called ∙ sym q.0

          one : name.replica ≡ 1
          one = ap (λ (n : SlotId). n.replica) its_name

          same : own ≡ on.body
          same = own_body other own (mail_to (slot_named 1 j) out.out) q.1 alive_other

          sent : pieces_in (mail_to (slot_named 0 j) out.out) ≡ record { stamp = plain_stamp 1; piece = piece } ∷ []
          sent =
              ap (λ l. pieces_in (mail_to (slot_named 0 j) l)) on.out ∙
              pack_one s.plan name x.node.last.stamp piece (slot_named 0 j) mine.body.other one (eq-eqb name.node j (ap (λ (n : SlotId). n.node) its_name)) ∙
              ap (λ (st : Stamp). record { stamp = st; piece = piece } ∷ []) (mine.stamp ∙ ap plain_stamp one)

          which : Passes k x p.1.x b mine.body → Passes k other y b own
          which (OnItsWay h) = absurd (let q : None ≡ Some h.piece = sym free.fresh ∙ h.packed in cc)
          which (IsThere h) = absurd (let q : None ≡ Some h.piece = sym free.fresh ∙ h.packed in cc)
          which (Unsent h) = OnItsWay
              (record {
                piece = piece;
                packed = ap (λ (c : Body). c.fresh) same ∙ on.fresh;
                at = refl;
                one = ap pieces_in p.1.put.box ∙ pieces_both p.1.x.box (mail_to (slot_named 0 j) out.out) ∙ ap (λ l. l ++ pieces_in (mail_to (slot_named 0 j) out.out)) h.none ∙ sent;
                older = h.older;
              })
      by (inr p) (inr q) =
          passes_same k p.1.x y q.1.x other b b own own refl refl (put_pieces p.1.x y (mail_to (slot_named 0 j) out.out) p.1.put (no_pieces (slot_named 0 j) elsewhere))
          (old_pair j hj p.1.x q.1.x b own p.1.there q.1.there (ap (λ n. n.body) (sym p.1.put.node) ∙ alive_y) (ap (λ n. n.body) (sym q.1.put.node) ∙ alive_other))
        where
          elsewhere : name.replica ≡ 1 → (0 == 0 && name.node == j) ≡ false
          elsewhere one = test (name.node == j) refl
            where
              test : (b : Bool) → (name.node == j) ≡ b → b ≡ false
              test false t = refl
              test true t = absurd (q.0 (sym (same_slot name (slot_named 1 j) (both_true (name.replica == 1) (name.node == j) (eq-eqb name.replica 1 one) t)) ∙ called))

  -- ---- its verdict

  module _ (sound_next : Sound s o next) where
    record IsFirst : Type 0 where
      it : HasPacked s next 0 name.node k
      other : it.body.other ≡ mine.body.other

    zero_named : (name.replica == 1) ≡ false → name ≡ slot_named 0 name.node
    zero_named not_one =
        let few = named.replica in
        let none : name.replica ≡ 0 = grind (arith, nat_tests, few, not_one) in
        ap (λ r. record { replica = r; node = name.node }) none

    first_packed : (name.replica == 1) ≡ false → IsFirst
    first_packed not_one = by (comes (slot_named 0 name.node) u.0 u.1)
      where
        u : (y : SlotState) × (slot_at s.nodes next.posts.slots (slot_named 0 name.node) ≡ Some y)
        u = stands_there s o next sound_next 0 name.node (omega arith) named.node

        by : After s w slot acts has_called (slot_named 0 name.node) u.0 → IsFirst
        by (inl p) = record { it = record { slot = u.0; there = u.1; body = on.body; alive = ap (λ n. n.body) p.1.node ∙ on.alive; piece = piece; fresh = on.fresh; at = refl }; other = on.other }
        by (inr p) = absurd (p.0 (sym (zero_named not_one) ∙ called))

    second_packed : (name.replica == 1) ≡ false → (held : Held) → mine.body.other ≡ Some held → k ≡ held.piece.iteration → HasPacked s next 1 name.node k
    second_packed not_one held there at = by (comes (slot_named 1 name.node) u.0 u.1)
      where
        u : (y : SlotState) × (slot_at s.nodes next.posts.slots (slot_named 1 name.node) ≡ Some y)
        u = stands_there s o next sound_next 1 name.node (omega arith) named.node

        by : After s w slot acts has_called (slot_named 1 name.node) u.0 → HasPacked s next 1 name.node k
        by (inl p) = absurd (let r : 1 ≡ 0 = ap (λ (n : SlotId). n.replica) (p.0 ∙ sym called ∙ zero_named not_one) in cc)
        by (inr p) = which (old_pair name.node named.node x p.1.x mine.body theirs.body (here_old (slot_named 0 name.node) (sym (zero_named not_one) ∙ called)) p.1.there mine.alive theirs.alive)
          where
            theirs : SlotAfloat s w.cut w.conductor log p.1.x
            theirs = all_got (SlotAfloat s w.cut w.conductor log) w.posts.slots (number_of s.nodes (slot_named 1 name.node)) p.1.x afloat.slots (slot_is s.nodes w.posts.slots (slot_named 1 name.node) p.1.x p.1.there).there

            pays : BodyOwes s.plan s.place (present w.conductor) log p.1.x.node theirs.body
            pays = subst (λ q. IfSome q (BodyOwes s.plan s.place (present w.conductor) log p.1.x.node)) theirs.alive theirs.owes

            never : IfSome mine.body.other (λ (held : Held). held.piece.iteration < k) → ⊥
            never older = let less : held.piece.iteration < k = subst (λ q. IfSome q (λ (held : Held). held.piece.iteration < k)) there older in omega (arith, less, at)

            which : Passes k p.1.x x mine.body theirs.body → HasPacked s next 1 name.node k
            which (Unsent h) = absurd (never h.older)
            which (OnItsWay h) = absurd (never h.older)
            which (IsThere h) = record { slot = u.0; there = u.1; body = theirs.body; alive = ap (λ n. n.body) p.1.put.node ∙ theirs.alive; piece = h.piece; fresh = h.packed; at = subst (λ f. IfSome f (λ (piece : Piece). piece.iteration ≡ present w.conductor)) h.packed pays.fresh ∙ at_k }

    verdict_backed : (held : Held) → mine.body.other ≡ Some held → k ≡ held.piece.iteration → (name.replica == 1) ≡ false → Compared s next name.node k
    verdict_backed held there at not_one =
        let one : IsFirst = first_packed not_one in
        record { first = one.it; second = second_packed not_one held there at; held = held; other = one.other ∙ there; at = sym at }

    backs : AllByRecursion (λ (sent : Sent). Backed s next sent.letter) out.out
    backs = subst (AllByRecursion (λ (sent : Sent). Backed s next sent.letter)) (sym on.out)
        (pack_backed s.plan name x.node.last.stamp piece (Backed s next) mine.body.other tt (λ held there at not_one. λ late. verdict_backed held there at not_one))

    pub pack_afloat : Afloat s next
    pack_afloat = step_afloat s o w slot x acts is sound afloat
        (record {
          name = has_called;
          body = mine.body;
          alive = mine.alive;
          after = on.body;
          lives = on.alive;
          fresh = subst (λ f. IfSome f (λ (piece : Piece). w.conductor.ledger.base < piece.iteration → on.body.fresh ≡ Some piece)) (sym free.fresh) tt;
          other = subst (λ f. IfSome f (λ (piece : Piece). w.conductor.ledger.base < piece.iteration → IfSome mine.body.other (λ (held : Held). held.piece.iteration ≡ piece.iteration → on.body.other ≡ Some held))) (sym free.fresh) tt;
          afloat = packed_afloat;
          kept = kept;
          others = away_packed;
          beside = beside_packed;
          orders = orders;
          pieces = pieces;
          backs = backs;
          pairs = pair_packed;
        })
        sound_next

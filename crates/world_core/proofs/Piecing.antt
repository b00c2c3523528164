-- A slot that hears its buddy's piece loses nothing.
use Rattle.std.proofs.Common.{◌≡◌, ℕ, zero, suc, ◌<◌, ◌≤◌, inl, inr, Bool, true, false, cond, List, [], ◌∷◌, ◌++◌, refl, ap, sym, ◌∙◌, arith, subst, Option, Some, None}
use Rattle.std.specs.Prelude.{◌⊎◌, ◌==◌, ◌||◌, IfSome, nat_lt, not}
use Rattle.std.specs.List.{AllByRecursion}
use Rattle.std.proofs.lemmas.Bool.{eqb-true}
use Rattle.std.proofs.lemmas.Option.{same_Some}
use Rattle.chare_base.specs.declared.options.Options.{Options}
use Rattle.chare_base.specs.declared.plan.Plan.{Plan}
use Rattle.chare_base.specs.declared.slots.SlotId.{SlotId}
use Rattle.iteration_agree.specs.declared.slot.Cap.{Cap}
use Rattle.iteration_agree.specs.Cuts.{slot_of}
use Rattle.letter_post.specs.declared.letter.BoxId.TheVariants as boxes
use Rattle.letter_post.specs.declared.letter.Letter.{Letter}
use Rattle.letter_post.specs.declared.letter.Letter.TheVariants as letters
use Rattle.letter_post.specs.declared.letter.Sent.{Sent}
use Rattle.letter_post.specs.declared.stamp.Stamp.{Stamp}
use Rattle.letter_post.specs.Stamps.{lines_of}
use Rattle.letter_post.specs.Truth.{Holds}
use Rattle.pup_state.specs.declared.piece.Piece.{Piece}
use Rattle.node_core.specs.declared.piece.Held.{Held}
use Rattle.node_core.specs.Keeps.{Alive, IsPieceOf}
use Rattle.node_core.specs.Mail.{BodyOwes, Did, HearsMove, HearsMoveOn, In, Moves}
use Rattle.node_core.specs.Nodes.{Body, Outcome, compared, is_new, node_heard, verdict_sent}
use Rattle.conductor_core.specs.declared.wants.Phase.{Phase}
use Rattle.conductor_core.specs.declared.wants.Phase.TheVariants as phases
use Rattle.conductor_core.specs.Moves.{slot_named}
use Rattle.conductor_core.specs.Tells.{mail_to}
use Rattle.world_core.specs.Sound.{SlotSound, Sound}
use Rattle.world_core.specs.Still.{Afloat, Backed, Compared, HasPacked, IsThere, OnItsWay, Pair, PairIn, Passes, SlotAfloat, Stage, Unsent, orders_in, pieces_in, plain_stamp, present, present_in}
use Rattle.world_core.specs.Worlds.{Acted, Setting, SlotState, WorldState, after_slot, number_of, slot_at, slot_heard}
use Rattle.world_core.proofs.Carrying.{After, passes_same, put_pieces, slot_next, stands_there, step_afloat}
use Rattle.world_core.proofs.Lists.{all_got}
use Rattle.world_core.proofs.Mailing.{IsNamed, place_is, slot_is}
use Rattle.world_core.proofs.Running.{heard_kept, old, stage_on}
use Rattle.world_core.proofs.Waking.{KeepsPiece, piece_kept_on}

-- ---- a piece of a later iteration is new

new_is : (stamp : Stamp) (piece : Piece) (k : ℕ) (o : Option Held) → IfSome o (λ (held : Held). held.piece.iteration < k) → piece.iteration ≡ k → is_new stamp piece o ≡ true
new_is stamp piece k None older at = refl
new_is stamp piece k (Some held) older at = by (nat_lt held.stamp.epoch stamp.epoch) (held.piece.iteration == piece.iteration) refl
  where
    by : (a b : Bool) → (held.piece.iteration == piece.iteration) ≡ b → (a || not b) ≡ true
    by true b h = refl
    by false false h = refl
    by false true h = absurd (let same : held.piece.iteration ≡ piece.iteration = eqb-true held.piece.iteration piece.iteration h in omega (arith, same, at, older))

-- ---- the verdict goes to the conductor

module _ (p : Plan) (own : Stamp) where
  compared_none : (name : SlotId) (mine : Option Piece) (held : Held) → mail_to name (compared p own mine (Some held)) ≡ []
  compared_none name None held = refl
  compared_none name (Some m) held = by (m.iteration == held.piece.iteration)
    where
      by : (b : Bool) → mail_to name (cond b (verdict_sent p own m held ∷ []) []) ≡ []
      by true = refl
      by false = refl

  compared_backed : (P : Letter → Type 0) (mine : Option Piece) (held : Held) → ((m : Piece) → mine ≡ Some m → P (verdict_sent p own m held).letter) → AllByRecursion (λ (sent : Sent). P sent.letter) (compared p own mine (Some held))
  compared_backed P None held h = tt
  compared_backed P (Some m) held h = by (m.iteration == held.piece.iteration)
    where
      by : (b : Bool) → AllByRecursion (λ (sent : Sent). P sent.letter) (cond b (verdict_sent p own m held ∷ []) [])
      by true = (h m refl, tt)
      by false = tt

abbrev first_or : Held → List Held → Held
first_or d [] = d
first_or d (x ∷ xs) = x

abbrev rest_of : List Held → List Held
rest_of [] = []
rest_of (x ∷ xs) = xs

module _ (s : Setting) (o : Options) (w : WorldState) (slot : SlotId) (x : SlotState) (is : slot_at s.nodes w.posts.slots slot ≡ Some x) (sound : Sound s o w) (afloat : Afloat s w) (hears : HearsMove) (stamp : Stamp) (piece : Piece)
    (more : List Letter) (front : x.box ≡ letters.Piece stamp piece ∷ more) where
  abbrev log : List Sent
  log = afloat.log

  abbrev name : SlotId
  name = x.node.slot

  abbrev mine : SlotAfloat s w.cut w.conductor log x
  mine = old s o w slot x is sound afloat

  its : SlotSound s w.cut w.conductor x
  its = all_got (SlotSound s w.cut w.conductor) w.posts.slots (number_of s.nodes slot) x sound.slots (slot_is s.nodes w.posts.slots slot x is).there

  named : IsNamed s.nodes (number_of s.nodes slot) name
  named = place_is s.nodes w.posts.slots sound.names (number_of s.nodes slot) x (slot_is s.nodes w.posts.slots slot x is).there

  called : name ≡ slot
  called = (slot_is s.nodes w.posts.slots slot x is).name

  pays : BodyOwes s.plan s.place (present w.conductor) log x.node mine.body
  pays = subst (λ q. IfSome q (BodyOwes s.plan s.place (present w.conductor) log x.node)) mine.alive mine.owes

  live : Alive s.plan s.script s.place x.node mine.body
  live = subst (λ q. IfSome q (Alive s.plan s.script s.place x.node)) mine.alive its.keeps.body

  abbrev held : Held
  held = record { stamp = stamp; piece = piece }

  in_front : pieces_in x.box ≡ held ∷ pieces_in more
  in_front = ap pieces_in front

  some_there : pieces_in x.box ≡ [] → ⊥
  some_there none = let q : held ∷ pieces_in more ≡ [] = sym in_front ∙ none in cc

  not_one : name.replica ≡ 1 → ⊥
  not_one one = some_there (mine.others one)

  first_replica : name.replica ≡ 0
  first_replica = by name.replica refl
    where
      by : (r : ℕ) → name.replica ≡ r → r ≡ 0
      by zero h = refl
      by (suc zero) h = absurd (not_one h)
      by (suc (suc r)) h = absurd (let few = named.replica in omega (arith, few, h))

  zero_named : name ≡ slot_named 0 name.node
  zero_named = ap (λ r. record { replica = r; node = name.node }) first_replica

  here_old : (to : SlotId) → to ≡ slot → slot_at s.nodes w.posts.slots to ≡ Some x
  here_old to q = ap (slot_at s.nodes w.posts.slots) q ∙ is

  -- it was on its way from the buddy, which has packed
  record Comes (theirs : Body) : Type 0 where
    k : ℕ
    agreed : w.conductor.phase ≡ phases.Agreed k
    packed : theirs.fresh ≡ Some piece
    at : piece.iteration ≡ k
    sent_as : stamp ≡ plain_stamp 1
    none : pieces_in more ≡ []
    older : IfSome mine.body.other (λ (held : Held). held.piece.iteration < k)

  piece_comes : (j : ℕ) → j < s.nodes → slot_named 0 j ≡ slot → (two : SlotState) (d : Body) → slot_at s.nodes w.posts.slots (slot_named 1 j) ≡ Some two → two.node.body ≡ Some d → Comes d
  piece_comes j hj q two d htwo hd = by w.conductor.phase refl (afloat.pairs j hj x two mine.body d (here_old (slot_named 0 j) q) htwo mine.alive hd)
    where
      by : (phase : Phase) → w.conductor.phase ≡ phase → PairIn phase two x mine.body d → Comes d
      by phases.Quiet here h = absurd (some_there h)
      by phases.Gather here h = absurd (some_there h)
      by (phases.Agreed k) here h = which h
        where
          which : Passes k two x mine.body d → Comes d
          which (Unsent h) = absurd (some_there h.none)
          which (IsThere h) = absurd (some_there h.none)
          which (OnItsWay h) =
              let both : held ∷ pieces_in more ≡ record { stamp = plain_stamp 1; piece = h.piece } ∷ [] = sym in_front ∙ h.one in
              let one : held ≡ record { stamp = plain_stamp 1; piece = h.piece } = ap (first_or held) both in
              let same : piece ≡ h.piece = ap (λ (q : Held). q.piece) one in
              record {
                k = k;
                agreed = here;
                packed = h.packed ∙ ap Some (sym same);
                at = ap (λ (q : Piece). q.iteration) same ∙ h.at;
                sent_as = ap (λ (q : Held). q.stamp) one;
                none = ap rest_of both;
                older = h.older;
              }

  two : (y : SlotState) × (slot_at s.nodes w.posts.slots (slot_named 1 name.node) ≡ Some y)
  two = stands_there s o w sound 1 name.node (omega arith) named.node

  theirs : SlotAfloat s w.cut w.conductor log two.0
  theirs = all_got (SlotAfloat s w.cut w.conductor log) w.posts.slots (number_of s.nodes (slot_named 1 name.node)) two.0 afloat.slots (slot_is s.nodes w.posts.slots (slot_named 1 name.node) two.0 two.1).there

  comes : Comes theirs.body
  comes = piece_comes name.node named.node (sym zero_named ∙ called) two.0 theirs.body two.1 theirs.alive

  at_k : present w.conductor ≡ comes.k
  at_k = ap (λ (p : Phase). present_in w.conductor.ledger.base p) comes.agreed

  -- ---- it keeps the piece

  abbrev heard : Outcome
  heard = node_heard s.plan s.script s.place (letters.Piece stamp piece) x.node

  true_one : Holds s.plan s.script s.place (boxes.Slot name) (letters.Piece stamp piece)
  true_one = (subst (AllByRecursion (Holds s.plan s.script s.place (boxes.Slot name))) front its.letters).0

  on : KeepsPiece s.plan s.script s.place x.node mine.body stamp piece heard
  on = piece_kept_on s.plan s.script s.place x.node mine.body stamp piece mine.alive true_one.1 (new_is stamp piece comes.k mine.body.other comes.older comes.at)

  h : HearsMoveOn s.plan s.script s.place (letters.Piece stamp piece) (present w.conductor) x.node
  h = hears s.plan s.script s.place (letters.Piece stamp piece) (present w.conductor) x.node its.keeps true_one (comes.at ∙ sym at_k) refl

  moves : Moves s.plan s.place (present w.conductor) x.node heard
  moves = h.moves

  abbrev acts : Acted
  acts = slot_heard s w.cut x (letters.Piece stamp piece ∷ more)

  has_called : acts.slot.node.slot ≡ slot
  has_called = moves.slot ∙ called

  kept_afloat : SlotAfloat s w.cut w.conductor (log ++ heard.out) acts.slot
  kept_afloat = record {
    body = on.body;
    alive = on.alive;
    stamp = ap (λ l. l.stamp) moves.last ∙ mine.stamp ∙ ap (λ (n : SlotId). plain_stamp n.replica) (sym moves.slot);
    owes = moves.owes log mine.owes;
    back = mine.back;
    stage = stage_on w.cut w.conductor (slot_of w.cut heard.node.slot) x acts.slot mine.body on.body on.fresh on.waits moves.slot moves.last refl (sym (ap orders_in front))
        (subst (λ (n : SlotId). Stage w.cut w.conductor (slot_of w.cut n) x mine.body) (sym moves.slot) mine.stage);
    top = subst (λ (n : SlotId). (slot_of w.cut n).top ≤ s.plan.iterations) (sym moves.slot) mine.top;
    cap = subst (λ (n : SlotId). IfSome (slot_of w.cut n).cap (λ (q : Cap). q.cap ≤ s.plan.iterations)) (sym moves.slot) mine.cap;
    others = λ one. absurd (not_one (ap (λ (n : SlotId). n.replica) (sym moves.slot) ∙ one));
    buddy = subst (λ q. IfSome q (λ (held : Held). held.stamp ≡ plain_stamp 1)) (sym on.other) comes.sent_as;
  }

  kept : (letter : Letter) → In letter x.box ⊎ Did s.plan log letter x.node → In letter more ⊎ Did s.plan (log ++ heard.out) letter heard.node
  kept l q = heard_kept s (present w.conductor) log x.node (letters.Piece stamp piece) more heard moves mine.owes (h.done log) l (subst (λ box. In l box ⊎ Did s.plan log l x.node) front q)

  none_to : (to : SlotId) → mail_to to heard.out ≡ []
  none_to to = ap (mail_to to) on.out ∙ compared_none s.plan x.node.last.stamp to mine.body.fresh held

  -- ---- a node's two slots

  abbrev next : WorldState
  next = after_slot s slot acts w

  reached : (to : SlotId) (y : SlotState) → slot_at s.nodes next.posts.slots to ≡ Some y → After s w slot acts has_called to y
  reached = slot_next s w slot acts has_called

  pair_heard : (j : ℕ) → j < s.nodes → Pair s next j
  pair_heard j hj y other b own there_y there_other alive_y alive_other =
      subst (λ p. PairIn p other y b own) (sym comes.agreed) (by (reached (slot_named 0 j) y there_y) (reached (slot_named 1 j) other there_other))
    where
      by : After s w slot acts has_called (slot_named 0 j) y → After s w slot acts has_called (slot_named 1 j) other → Passes comes.k other y b own
      by p (inl q) = absurd (not_one (ap (λ (n : SlotId). n.replica) (called ∙ sym q.0)))
      by (inl p) (inr q) =
          let c : Comes own = piece_comes j hj p.0 q.1.x own q.1.there (ap (λ n. n.body) (sym q.1.put.node) ∙ alive_other) in
          let same : b ≡ on.body = same_Some b on.body (sym alive_y ∙ ap (λ n. n.body) p.1.node ∙ on.alive) in
          IsThere (record {
            piece = piece;
            packed = c.packed;
            none = put_pieces acts.slot y (mail_to (slot_named 0 j) heard.out) p.1 (ap pieces_in (none_to (slot_named 0 j))) ∙ c.none;
            held = held;
            there = ap (λ (c : Body). c.other) same ∙ on.other;
            at = comes.at;
          })
      by (inr p) (inr q) =
          passes_same comes.k p.1.x y q.1.x other b b own own refl refl (put_pieces p.1.x y (mail_to (slot_named 0 j) heard.out) p.1.put (ap pieces_in (none_to (slot_named 0 j))))
          (subst (λ f. PairIn f q.1.x p.1.x b own) comes.agreed
          (afloat.pairs j hj p.1.x q.1.x b own p.1.there q.1.there (ap (λ n. n.body) (sym p.1.put.node) ∙ alive_y) (ap (λ n. n.body) (sym q.1.put.node) ∙ alive_other)))

  -- ---- its verdict

  fresh_stays : IfSome mine.body.fresh (λ (piece : Piece). w.conductor.ledger.base < piece.iteration → on.body.fresh ≡ Some piece)
  fresh_stays = by mine.body.fresh refl
    where
      by : (f : Option Piece) → mine.body.fresh ≡ f → IfSome f (λ (piece : Piece). w.conductor.ledger.base < piece.iteration → on.body.fresh ≡ Some piece)
      by None there = tt
      by (Some m) there = λ late. on.fresh ∙ there

  -- what it held is of an earlier iteration
  other_stays : IfSome mine.body.fresh (λ (piece : Piece). w.conductor.ledger.base < piece.iteration → IfSome mine.body.other (λ (held : Held). held.piece.iteration ≡ piece.iteration → on.body.other ≡ Some held))
  other_stays = by mine.body.fresh pays.fresh
    where
      on_held : (m : Piece) → m.iteration ≡ present w.conductor → (q : Option Held) → IfSome q (λ (held : Held). held.piece.iteration < comes.k) → IfSome q (λ (held : Held). held.piece.iteration ≡ m.iteration → on.body.other ≡ Some held)
      on_held m at None older = tt
      on_held m at (Some held) older = λ same. absurd (let k = at_k in omega (arith, same, at, k, older))

      by : (f : Option Piece) → IfSome f (λ (piece : Piece). piece.iteration ≡ present w.conductor) →
          IfSome f (λ (piece : Piece). w.conductor.ledger.base < piece.iteration → IfSome mine.body.other (λ (held : Held). held.piece.iteration ≡ piece.iteration → on.body.other ≡ Some held))
      by None at = tt
      by (Some m) at = λ late. on_held m at mine.body.other comes.older

  module _ (sound_next : Sound s o next) where
    record IsFirst (m : Piece) : Type 0 where
      it : HasPacked s next 0 m.node m.iteration
      other : it.body.other ≡ Some held

    module _ (m : Piece) (fresh : mine.body.fresh ≡ Some m) where
      m_node : m.node ≡ name.node
      m_node = (subst (λ f. IfSome f (IsPieceOf s.plan s.place (lines_of s.script x.node.last.stamp) name.node)) fresh live.fresh).node

      m_at : m.iteration ≡ comes.k
      m_at = subst (λ f. IfSome f (λ (piece : Piece). piece.iteration ≡ present w.conductor)) fresh pays.fresh ∙ at_k

      first_packed : IsFirst m
      first_packed = by (reached (slot_named 0 m.node) u.0 u.1)
        where
          u : (y : SlotState) × (slot_at s.nodes next.posts.slots (slot_named 0 m.node) ≡ Some y)
          u = stands_there s o next sound_next 0 m.node (omega arith) (subst (λ j. j < s.nodes) (sym m_node) named.node)

          by : After s w slot acts has_called (slot_named 0 m.node) u.0 → IsFirst m
          by (inl p) = record { it = record { slot = u.0; there = u.1; body = on.body; alive = ap (λ n. n.body) p.1.node ∙ on.alive; piece = m; fresh = on.fresh ∙ fresh; at = refl }; other = on.other }
          by (inr p) = absurd (p.0 (ap (slot_named 0) m_node ∙ sym zero_named ∙ called))

      second_packed : HasPacked s next 1 m.node m.iteration
      second_packed = by (reached (slot_named 1 m.node) u.0 u.1)
        where
          u : (y : SlotState) × (slot_at s.nodes next.posts.slots (slot_named 1 m.node) ≡ Some y)
          u = stands_there s o next sound_next 1 m.node (omega arith) (subst (λ j. j < s.nodes) (sym m_node) named.node)

          by : After s w slot acts has_called (slot_named 1 m.node) u.0 → HasPacked s next 1 m.node m.iteration
          by (inl q) = absurd (not_one (ap (λ (n : SlotId). n.replica) (called ∙ sym q.0)))
          by (inr q) =
              let same : q.1.x ≡ two.0 = same_Some q.1.x two.0 (sym q.1.there ∙ ap (λ j. slot_at s.nodes w.posts.slots (slot_named 1 j)) m_node ∙ two.1) in
              record {
                slot = u.0;
                there = u.1;
                body = theirs.body;
                alive = ap (λ n. n.body) q.1.put.node ∙ ap (λ (z : SlotState). z.node.body) same ∙ theirs.alive;
                piece = piece;
                fresh = comes.packed;
                at = comes.at ∙ sym m_at;
              }

      verdict_backed : Compared s next m.node m.iteration
      verdict_backed =
          let one : IsFirst m = first_packed in
          record { first = one.it; second = second_packed; held = held; other = one.other; at = comes.at ∙ sym m_at }

    pub piece_afloat : Afloat s next
    piece_afloat = step_afloat s o w slot x acts is sound afloat
        (record {
          name = has_called;
          body = mine.body;
          alive = mine.alive;
          after = on.body;
          lives = on.alive;
          fresh = fresh_stays;
          other = other_stays;
          afloat = kept_afloat;
          kept = kept;
          others = λ to apart there. record { round = refl; slot = refl };
          beside = afloat.beside;
          orders = λ to. ap orders_in (none_to to);
          pieces = λ to q. ap pieces_in (none_to to);
          backs = subst (AllByRecursion (λ (sent : Sent). Backed s next sent.letter)) (sym on.out)
              (compared_backed s.plan x.node.last.stamp (Backed s next) mine.body.fresh held (λ m fresh. λ late. verdict_backed m fresh));
          pairs = pair_heard;
        })
        sound_next

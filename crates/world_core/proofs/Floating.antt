-- An event of a slot that leaves its pieces, or spends one that is the base, loses nothing that was sent.
use Rattle.std.proofs.Common.{◌≡◌, ℕ, ◌<◌, ◌≤◌, inl, inr, Bool, true, false, cond, List, [], ◌∷◌, ◌++◌, refl, ap, sym, ◌∙◌, arith, subst, Option, Some, None}
use Rattle.std.specs.Prelude.{◌⊎◌, IfSome}
use Rattle.std.specs.List.{AllByRecursion}
use Rattle.std.proofs.lemmas.Option.{same_Some}
use Rattle.chare_base.specs.declared.options.Options.{Options}
use Rattle.chare_base.specs.declared.slots.SlotId.{SlotId}
use Rattle.letter_post.specs.declared.letter.Letter.{Letter}
use Rattle.letter_post.specs.declared.letter.Letter.TheVariants as letters
use Rattle.letter_post.specs.declared.letter.Sent.{Sent}
use Rattle.pup_state.specs.declared.piece.Piece.{Piece}
use Rattle.node_core.specs.declared.piece.Held.{Held}
use Rattle.node_core.specs.Mail.{Did, In}
use Rattle.node_core.specs.Nodes.{Body}
use Rattle.conductor_core.specs.declared.wants.Phase.{Phase}
use Rattle.conductor_core.specs.declared.wants.Phase.TheVariants as phases
use Rattle.conductor_core.specs.Moves.{slot_named}
use Rattle.conductor_core.specs.Tells.{is_to, mail_to}
use Rattle.world_core.specs.Sound.{Sound}
use Rattle.world_core.specs.Still.{Afloat, Backed, Beside, IsThere, OnItsWay, Pair, PairIn, Passes, SlotAfloat, Unsent, orders_in, pieces_in}
use Rattle.world_core.specs.Worlds.{Acted, Setting, SlotState, WorldState, after_slot, slot_at}
use Rattle.world_core.proofs.Due.{first, second}
use Rattle.world_core.proofs.Lists.{all_to}
use Rattle.world_core.proofs.Waking.{IsPlainMail, SentPlain}
use Rattle.world_core.proofs.Carrying.{After, SamePlace, put_pieces, slot_next as next_slot, step_afloat}

-- ---- plain letters

-- no order and no piece is among plain letters
pub record NoneIn (all : List Letter) : Type 0 where
  pub orders : orders_in all ≡ []
  pub pieces : pieces_in all ≡ []

one_more : (letter : Letter) (more : List Letter) → IsPlainMail letter → NoneIn more → NoneIn (letter ∷ more)
one_more (letters.Parcel stamp entry k to payload) more plain h = record { orders = h.orders; pieces = h.pieces }
one_more (letters.Partial stamp r k node value) more plain h = record { orders = h.orders; pieces = h.pieces }
one_more (letters.Total stamp r k value) more plain h = record { orders = h.orders; pieces = h.pieces }
one_more (letters.Piece stamp piece) more plain h = absurd plain
one_more (letters.VerdictOf first second node k verdict piece) more plain h = absurd plain
one_more (letters.Lend k fresh) more plain h = absurd plain
one_more (letters.Take stamp k live piece) more plain h = absurd plain
one_more (letters.Restore stamp k live) more plain h = absurd plain
one_more (letters.Commit stamp k live) more plain h = absurd plain
one_more (letters.Resume stamp) more plain h = absurd plain
one_more (letters.Died stamp slot line) more plain h = absurd plain
one_more letters.Stop more plain h = absurd plain

pub plain_none : (slot : SlotId) (out : List Sent) → AllByRecursion SentPlain out → NoneIn (mail_to slot out)
plain_none slot [] h = record { orders = refl; pieces = refl }
plain_none slot (sent ∷ more) h = by (is_to slot sent.to) (plain_none slot more h.1)
  where
    by : (b : Bool) → NoneIn (mail_to slot more) → NoneIn (cond b (sent.letter ∷ mail_to slot more) (mail_to slot more))
    by true rest = one_more sent.letter (mail_to slot more) h.0 rest
    by false rest = rest

-- ---- an event that leaves the pieces

-- what the event makes of the slot, beside the conductor
pub record PlainStep (s : Setting) (w : WorldState) (log : List Sent) (slot : SlotId) (x : SlotState) (a : Acted) : Type 0 where
  pub name : a.slot.node.slot ≡ slot
  pub body : Body
  pub alive : x.node.body ≡ Some body
  pub after : Body
  pub lives : a.slot.node.body ≡ Some after
  pub other : after.other ≡ body.other
  -- the fresh piece stays, or was the base's, while no iteration is agreed
  pub fresh : (after.fresh ≡ body.fresh) ⊎ (((k : ℕ) → w.conductor.phase ≡ phases.Agreed k → ⊥) × IfSome body.fresh (λ (piece : Piece). piece.iteration ≤ w.conductor.ledger.base))
  pub pieces : pieces_in a.slot.box ≡ pieces_in x.box
  pub sends : AllByRecursion SentPlain a.out
  pub afloat : SlotAfloat s a.cut w.conductor (log ++ a.out) a.slot
  pub kept : (letter : Letter) → In letter x.box ⊎ Did s.plan log letter x.node → In letter a.slot.box ⊎ Did s.plan (log ++ a.out) letter a.slot.node
  pub others : (name : SlotId) → (name ≡ slot → ⊥) → (name.replica ≤ 1) × (name.node < s.nodes) → SamePlace s w.conductor w.cut a.cut name
  pub beside : Beside s a.cut w.conductor

plain_backed : (s : Setting) (w : WorldState) (letter : Letter) → IsPlainMail letter → Backed s w letter
plain_backed s w (letters.Parcel stamp entry k to payload) plain = tt
plain_backed s w (letters.Partial stamp r k node value) plain = tt
plain_backed s w (letters.Total stamp r k value) plain = tt
plain_backed s w (letters.Piece stamp piece) plain = absurd plain
plain_backed s w (letters.VerdictOf first second node k verdict piece) plain = absurd plain
plain_backed s w (letters.Lend k fresh) plain = absurd plain
plain_backed s w (letters.Take stamp k live piece) plain = absurd plain
plain_backed s w (letters.Restore stamp k live) plain = absurd plain
plain_backed s w (letters.Commit stamp k live) plain = absurd plain
plain_backed s w (letters.Resume stamp) plain = absurd plain
plain_backed s w (letters.Died stamp slot line) plain = absurd plain
plain_backed s w letters.Stop plain = absurd plain

module _ (s : Setting) (o : Options) (w : WorldState) (slot : SlotId) (x : SlotState) (a : Acted) (is : slot_at s.nodes w.posts.slots slot ≡ Some x) (sound : Sound s o w) (afloat : Afloat s w)
    (step : PlainStep s w afloat.log slot x a) (sound_next : Sound s o (after_slot s slot a w)) where
  abbrev next : WorldState
  next = after_slot s slot a w

  none_to : (name : SlotId) → NoneIn (mail_to name a.out)
  none_to name = plain_none name a.out step.sends

  comes : (name : SlotId) (y : SlotState) → slot_at s.nodes next.posts.slots name ≡ Some y → After s w slot a step.name name y
  comes = next_slot s w slot a step.name

  here_next : (name : SlotId) → name ≡ slot → slot_at s.nodes w.posts.slots name ≡ Some x
  here_next name q = ap (slot_at s.nodes w.posts.slots) q ∙ is

  -- ---- pairs

  record Prior (name : SlotId) (y : SlotState) (b : Body) : Type 0 where
    z : SlotState
    there : slot_at s.nodes w.posts.slots name ≡ Some z
    old : Body
    alive : z.node.body ≡ Some old
    other : b.other ≡ old.other
    pieces : pieces_in y.box ≡ pieces_in z.box
    fresh : (b.fresh ≡ old.fresh) ⊎ ((k : ℕ) → w.conductor.phase ≡ phases.Agreed k → ⊥)

  prior : (name : SlotId) (y : SlotState) (b : Body) → slot_at s.nodes next.posts.slots name ≡ Some y → y.node.body ≡ Some b → Prior name y b
  prior name y b there alive = by (comes name y there)
    where
      by : After s w slot a step.name name y → Prior name y b
      by (inr q) = record {
        z = q.1.x;
        there = q.1.there;
        old = b;
        alive = ap (λ n. n.body) (sym q.1.put.node) ∙ alive;
        other = refl;
        pieces = put_pieces q.1.x y (mail_to name a.out) q.1.put (none_to name).pieces;
        fresh = inl refl;
      }
      by (inl q) =
          let same : b ≡ step.after = same_Some b step.after (sym alive ∙ ap (λ n. n.body) q.1.node ∙ step.lives) in
          record {
            z = x;
            there = here_next name q.0;
            old = step.body;
            alive = step.alive;
            other = ap (λ (c : Body). c.other) same ∙ step.other;
            pieces = put_pieces a.slot y (mail_to name a.out) q.1 (none_to name).pieces ∙ step.pieces;
            fresh = which same step.fresh;
          }
        where
          which : b ≡ step.after → (step.after.fresh ≡ step.body.fresh) ⊎ (((k : ℕ) → w.conductor.phase ≡ phases.Agreed k → ⊥) × IfSome step.body.fresh (λ (piece : Piece). piece.iteration ≤ w.conductor.ledger.base)) →
              (b.fresh ≡ step.body.fresh) ⊎ ((k : ℕ) → w.conductor.phase ≡ phases.Agreed k → ⊥)
          which same (inl e) = inl (ap (λ (c : Body). c.fresh) same ∙ e)
          which same (inr e) = inr e.0

  pair_next : (j : ℕ) → j < s.nodes → Pair s next j
  pair_next j hj y other b own there_y there_other alive_y alive_other = by w.conductor.phase refl (afloat.pairs j hj one.z two.z one.old two.old one.there two.there one.alive two.alive)
    where
      one : Prior (slot_named 0 j) y b
      one = prior (slot_named 0 j) y b there_y alive_y

      two : Prior (slot_named 1 j) other own
      two = prior (slot_named 1 j) other own there_other alive_other

      passes : (k : ℕ) → own.fresh ≡ two.old.fresh → Passes k two.z one.z one.old two.old → Passes k other y b own
      passes k same (Unsent h) = Unsent (record { unpacked = same ∙ h.unpacked; none = one.pieces ∙ h.none; older = subst (λ q. IfSome q (λ (held : Held). held.piece.iteration < k)) (sym one.other) h.older })
      passes k same (OnItsWay h) = OnItsWay
          (record { piece = h.piece; packed = same ∙ h.packed; at = h.at; one = one.pieces ∙ h.one; older = subst (λ q. IfSome q (λ (held : Held). held.piece.iteration < k)) (sym one.other) h.older })
      passes k same (IsThere h) = IsThere (record { piece = h.piece; packed = same ∙ h.packed; none = one.pieces ∙ h.none; held = h.held; there = one.other ∙ h.there; at = h.at })

      by : (phase : Phase) → w.conductor.phase ≡ phase → PairIn phase two.z one.z one.old two.old → PairIn phase other y b own
      by phases.Quiet at h = one.pieces ∙ h
      by phases.Gather at h = one.pieces ∙ h
      by (phases.Agreed k) at h = which two.fresh
        where
          which : (own.fresh ≡ two.old.fresh) ⊎ ((k : ℕ) → w.conductor.phase ≡ phases.Agreed k → ⊥) → Passes k other y b own
          which (inl e) = passes k e h
          which (inr never) = absurd (never k at)

  -- ---- all of it

  fresh_stays : IfSome step.body.fresh (λ (piece : Piece). w.conductor.ledger.base < piece.iteration → step.after.fresh ≡ Some piece)
  fresh_stays = by step.body.fresh refl
    where
      by : (f : Option Piece) → step.body.fresh ≡ f → IfSome f (λ (piece : Piece). w.conductor.ledger.base < piece.iteration → step.after.fresh ≡ Some piece)
      by None there = tt
      by (Some piece) there = λ late. which late step.fresh
        where
          which : w.conductor.ledger.base < piece.iteration → (step.after.fresh ≡ step.body.fresh) ⊎ (((k : ℕ) → w.conductor.phase ≡ phases.Agreed k → ⊥) × IfSome step.body.fresh (λ (piece : Piece). piece.iteration ≤ w.conductor.ledger.base)) →
              step.after.fresh ≡ Some piece
          which late (inl e) = e ∙ there
          which late (inr e) = absurd (let low : piece.iteration ≤ w.conductor.ledger.base = subst (λ f. IfSome f (λ (piece : Piece). piece.iteration ≤ w.conductor.ledger.base)) there e.1 in omega (arith, low, late))

  other_stays : IfSome step.body.fresh (λ (piece : Piece). w.conductor.ledger.base < piece.iteration → IfSome step.body.other (λ (held : Held). held.piece.iteration ≡ piece.iteration → step.after.other ≡ Some held))
  other_stays = by step.body.fresh
    where
      its : (piece : Piece) (q : Option Held) → step.body.other ≡ q → IfSome q (λ (held : Held). held.piece.iteration ≡ piece.iteration → step.after.other ≡ Some held)
      its piece None there = tt
      its piece (Some held) there = λ at. step.other ∙ there

      by : (f : Option Piece) → IfSome f (λ (piece : Piece). w.conductor.ledger.base < piece.iteration → IfSome step.body.other (λ (held : Held). held.piece.iteration ≡ piece.iteration → step.after.other ≡ Some held))
      by None = tt
      by (Some piece) = λ late. its piece step.body.other refl

  pub plain_afloat : Afloat s next
  plain_afloat = step_afloat s o w slot x a is sound afloat
      (record {
        name = step.name;
        body = step.body;
        alive = step.alive;
        after = step.after;
        lives = step.lives;
        fresh = fresh_stays;
        other = other_stays;
        afloat = step.afloat;
        kept = step.kept;
        others = step.others;
        beside = step.beside;
        orders = λ name. (none_to name).orders;
        pieces = λ name h. (none_to name).pieces;
        backs = all_to SentPlain (λ (sent : Sent). Backed s next sent.letter) a.out (λ sent h. plain_backed s next sent.letter h) step.sends;
        pairs = pair_next;
      })
      sound_next

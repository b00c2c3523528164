-- Once the conductor makes a round quiet every slot has packed in it.
use Rattle.std.proofs.Common.{◌≡◌, ℕ, zero, suc, ◌<◌, ◌≤◌, Bool, true, false, cond, List, [], ◌∷◌, length, refl, ap, sym, ◌∙◌, arith, subst, Option, Some, None, IsSome}
use Rattle.std.specs.Prelude.{IfSome, is_some, slice_get, slice_index_or}
use Rattle.std.specs.List.{list_all}
use Rattle.std.proofs.lemmas.Option.{same_Some}
use Rattle.chare_base.specs.declared.options.Options.{Options}
use Rattle.iteration_agree.specs.Cuts.{slot_of}
use Rattle.pup_state.specs.declared.piece.Piece.{Piece}
use Rattle.node_core.specs.declared.piece.Held.{Held}
use Rattle.node_core.specs.Mail.{BodyOwes}
use Rattle.node_core.specs.Nodes.{Body}
use Rattle.conductor_core.specs.declared.wants.CutMove.TheVariants as moves
use Rattle.conductor_core.specs.declared.wants.Phase.{Phase}
use Rattle.conductor_core.specs.declared.wants.Phase.TheVariants as phases
use Rattle.conductor_core.specs.Conductors.{ConductorState, move_in, wanted}
use Rattle.conductor_core.specs.Moves.{slot_named}
use Rattle.world_core.specs.Sound.{Sound}
use Rattle.world_core.specs.Still.{Accepted, Afloat, Committed, Compared, Free, Freed, HasPacked, IsPacked, IsPlain, IsThere, OnItsWay, Packed, PairIn, Passes, SlotAfloat, Stage, Unsent, pieces_in, present, present_in}
use Rattle.world_core.specs.Worlds.{Setting, SlotState, WorldState, number_of, slot_at}
use Rattle.world_core.proofs.Accepting.{not_earlier}
use Rattle.world_core.proofs.Due.{first, second}
use Rattle.world_core.proofs.Lists.{all_got}
use Rattle.world_core.proofs.Mailing.{IsNamed, found, place_is, slot_is}

all_there : {A : Type 0} (xs : List (Option A)) (i : ℕ) → list_all is_some xs ≡ true → i < length xs → IsSome (slice_index_or xs i None)
all_there [] i h less = absurd (omega (arith, less))
all_there (x ∷ more) zero h less = first (is_some x) (list_all is_some more) h
all_there (x ∷ more) (suc i) h less = all_there more i (second (is_some x) (list_all is_some more) h) (omega (arith, less))

module _ (s : Setting) (o : Options) (plain : IsPlain s o) (w : WorldState) (sound : Sound s o w) (afloat : Afloat s w) (k : ℕ) (agreed : w.conductor.phase ≡ phases.Agreed k) (wants : wanted w.conductor ≡ moves.Quiet) where
  abbrev c : ConductorState
  c = w.conductor

  all_verdicts : list_all is_some c.verdicts ≡ true
  unfolding wanted
  all_verdicts = by (is_some c.outcome) (list_all is_some c.verdicts) (subst (λ p. cond (is_some c.outcome) moves.None (move_in c p) ≡ moves.Quiet) agreed wants)
    where
      by : (a b : Bool) → cond a moves.None (cond b moves.Quiet moves.None) ≡ moves.Quiet → b ≡ true
      by true b h = absurd (let q : moves.None ≡ moves.Quiet = h in cc)
      by false false h = absurd (let q : moves.None ≡ moves.Quiet = h in cc)
      by false true h = refl

  all_compared : (j : ℕ) → j < s.nodes → Compared s w j (present c)
  all_compared j less = afloat.heard j (all_there c.verdicts j all_verdicts (let a = sound.conductor.sized.verdicts in let b = plain.options.nodes in omega (arith, less, a, b)))

  packed_of : (r j : ℕ) → r ≤ 1 → j < s.nodes → HasPacked s w r j (present c)
  packed_of zero j few less = (all_compared j less).first
  packed_of (suc zero) j few less = (all_compared j less).second
  packed_of (suc (suc r)) j few less = absurd (omega (arith, few))

  pub all_packed : (m : ℕ) (x : SlotState) → slice_get w.posts.slots m ≡ Some x → (h : SlotAfloat s w.cut c afloat.log x) → IsPacked w.cut c (slot_of w.cut x.node.slot) x h.body
  all_packed m x there h = by h.stage
    where
      named : IsNamed s.nodes m x.node.slot
      named = place_is s.nodes w.posts.slots sound.names m x there

      had : HasPacked s w x.node.slot.replica x.node.slot.node (present c)
      had = packed_of x.node.slot.replica x.node.slot.node named.replica named.node

      here : slot_at s.nodes w.posts.slots x.node.slot ≡ Some x
      here = found s.nodes w.posts.slots x.node.slot x (ap (slice_get w.posts.slots) named.number ∙ there) refl

      body : h.body ≡ had.body
      body = same_Some h.body had.body (sym h.alive ∙ ap (λ (z : SlotState). z.node.body) (same_Some x had.slot (sym here ∙ had.there)) ∙ had.alive)

      never : h.body.fresh ≡ None → ⊥
      never none = let q : None ≡ Some had.piece = sym none ∙ ap (λ (b : Body). b.fresh) body ∙ had.fresh in cc

      by : Stage w.cut c (slot_of w.cut x.node.slot) x h.body → IsPacked w.cut c (slot_of w.cut x.node.slot) x h.body
      by (Packed is) = is
      by (Free is) = absurd (never is.fresh)
      by (Committed is) = absurd (never is.fresh)
      by (Freed is) = absurd (never is.fresh)
      by (Accepted is) = absurd (not_earlier s o plain w x.node.slot x here sound afloat is.earlier k agreed)

  at_k : present c ≡ k
  at_k = ap (λ (p : Phase). present_in c.ledger.base p) agreed

  -- no piece is on its way any more
  pub none_left : (j : ℕ) → j < s.nodes → (x other : SlotState) (b own : Body) → slot_at s.nodes w.posts.slots (slot_named 0 j) ≡ Some x → slot_at s.nodes w.posts.slots (slot_named 1 j) ≡ Some other → x.node.body ≡ Some b →
      other.node.body ≡ Some own → pieces_in x.box ≡ []
  none_left j less x other b own there_x there_other alive_x alive_other = by (subst (λ p. PairIn p other x b own) agreed (afloat.pairs j less x other b own there_x there_other alive_x alive_other))
    where
      both : Compared s w j (present c)
      both = all_compared j less

      held : b.other ≡ Some both.held
      held = ap (λ (q : Body). q.other) (same_Some b both.first.body (sym alive_x ∙ ap (λ (z : SlotState). z.node.body) (same_Some x both.first.slot (sym there_x ∙ both.first.there)) ∙ both.first.alive)) ∙ both.other

      never : IfSome b.other (λ (held : Held). held.piece.iteration < k) → ⊥
      never older = let less : both.held.piece.iteration < k = subst (λ q. IfSome q (λ (held : Held). held.piece.iteration < k)) held older in let at = both.at in let q = at_k in omega (arith, less, at, q)

      by : Passes k other x b own → pieces_in x.box ≡ []
      by (Unsent h) = h.none
      by (OnItsWay h) = absurd (never h.older)
      by (IsThere h) = h.none

  -- and no verdict behind the new base
  pub none_behind : (j i : ℕ) → k < i → Compared s w j i → ⊥
  none_behind j i less both = by fresh_at
    where
      had : HasPacked s w 0 j i
      had = both.first

      its : SlotAfloat s w.cut c afloat.log had.slot
      its = all_got (SlotAfloat s w.cut c afloat.log) w.posts.slots (number_of s.nodes (slot_named 0 j)) had.slot afloat.slots (slot_is s.nodes w.posts.slots (slot_named 0 j) had.slot had.there).there

      pays : BodyOwes s.plan s.place (present c) afloat.log had.slot.node had.body
      pays = subst (λ q. IfSome q (BodyOwes s.plan s.place (present c) afloat.log had.slot.node)) had.alive its.owes

      fresh_at : had.piece.iteration ≡ present c
      fresh_at = subst (λ f. IfSome f (λ (piece : Piece). piece.iteration ≡ present c)) had.fresh pays.fresh

      by : had.piece.iteration ≡ present c → ⊥
      by h = let at = had.at in let q = at_k in omega (arith, h, at, q, less)

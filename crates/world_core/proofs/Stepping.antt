-- Every event of a slot loses nothing, nor does what the conductor hears.
use Rattle.std.proofs.Common.{◌≡◌, ℕ, zero, suc, List, [], ◌∷◌, refl, ap, sym, ◌∙◌, subst, Option, Some, None}
use Rattle.std.specs.Prelude.{slice_get, slice_set}
use Rattle.std.proofs.lemmas.Option.{same_Some}
use Rattle.chare_base.specs.declared.options.Options.{Options}
use Rattle.chare_base.specs.declared.slots.SlotId.{SlotId}
use Rattle.letter_post.specs.declared.letter.Letter.{Letter}
use Rattle.letter_post.specs.declared.letter.Letter.TheVariants as letters
use Rattle.node_core.specs.Mail.{HearsMove, PacksMove, RunsMove}
use Rattle.world_core.specs.declared.doing.Doing.{Doing}
use Rattle.world_core.specs.declared.doing.Doing.TheVariants as doings
use Rattle.world_core.specs.declared.doing.SlotMove.{SlotMove}
use Rattle.world_core.specs.declared.doing.SlotMove.TheVariants as slot_moves
use Rattle.world_core.specs.Sound.{Sound}
use Rattle.world_core.specs.Still.{Afloat, IsPlain}
use Rattle.world_core.specs.Worlds.{Acted, Setting, SlotState, WorldState, after_slot, by_slot, does, number_of, slot_at, slot_heard, slot_move, slot_moved_by, stand}
use Rattle.world_core.proofs.Due.{IsDue, due_is}
use Rattle.world_core.proofs.Entering.{begin_step}
use Rattle.world_core.proofs.Floating.{PlainStep, plain_afloat}
use Rattle.world_core.proofs.Hearing.{heard_step}
use Rattle.world_core.proofs.Mailing.{slot_is}
use Rattle.world_core.proofs.Packing.{pack_afloat}
use Rattle.world_core.proofs.Piecing.{piece_afloat}
use Rattle.world_core.proofs.Placing.{old, release_step, report_step, see_step}
use Rattle.world_core.proofs.Running.{ran_afloat}
use Rattle.world_core.proofs.Waking.{IsNoPiece}

set_there : {A : Type 0} (xs : List A) (i : ℕ) (x : A) → slice_get xs i ≡ Some x → slice_set xs i x ≡ xs
set_there [] i x h = refl
set_there (y ∷ more) zero x h = ap (λ z. z ∷ more) (sym (same_Some y x h))
set_there (y ∷ more) (suc i) x h = ap (λ l. y ∷ l) (set_there more i x h)

module _ (s : Setting) (o : Options) (plain : IsPlain s o) (w : WorldState) (slot : SlotId) (x : SlotState) (is : slot_at s.nodes w.posts.slots slot ≡ Some x) (sound : Sound s o w) (afloat : Afloat s w) (runs : RunsMove) (packs : PacksMove)
    (hears : HearsMove) where
  -- a slot that does nothing leaves the world
  still : Afloat s (after_slot s slot (record { slot = x; cut = w.cut; out = [] }) w)
  still = subst (λ l. Afloat s (record w { posts = record { slots = l; desk = w.posts.desk } })) (sym (set_there w.posts.slots (number_of s.nodes slot) x (slot_is s.nodes w.posts.slots slot x is).there)) afloat

  stepped : (a : Acted) → PlainStep s w afloat.log slot x a → Sound s o (after_slot s slot a w) → Afloat s (after_slot s slot a w)
  stepped a step next = plain_afloat s o w slot x a is sound afloat step next

  other : (letter : Letter) (more : List Letter) → x.box ≡ letter ∷ more → IsNoPiece letter → Sound s o (after_slot s slot (slot_heard s w.cut x (letter ∷ more)) w) → Afloat s (after_slot s slot (slot_heard s w.cut x (letter ∷ more)) w)
  other letter more front none next = stepped (slot_heard s w.cut x (letter ∷ more)) (heard_step s o plain w slot x is sound afloat hears letter more front none) next

  heard : (box : List Letter) → x.box ≡ box → Sound s o (after_slot s slot (slot_heard s w.cut x box) w) → Afloat s (after_slot s slot (slot_heard s w.cut x box) w)
  heard [] front next = still
  heard (letters.Parcel stamp entry k to payload ∷ more) front next = other (letters.Parcel stamp entry k to payload) more front tt next
  heard (letters.Partial stamp r k node value ∷ more) front next = other (letters.Partial stamp r k node value) more front tt next
  heard (letters.Total stamp r k value ∷ more) front next = other (letters.Total stamp r k value) more front tt next
  heard (letters.Piece stamp piece ∷ more) front next = piece_afloat s o w slot x is sound afloat hears stamp piece more front next
  heard (letters.VerdictOf first second node k verdict piece ∷ more) front next = other (letters.VerdictOf first second node k verdict piece) more front tt next
  heard (letters.Lend k fresh ∷ more) front next = other (letters.Lend k fresh) more front tt next
  heard (letters.Take stamp k live piece ∷ more) front next = other (letters.Take stamp k live piece) more front tt next
  heard (letters.Restore stamp k live ∷ more) front next = other (letters.Restore stamp k live) more front tt next
  heard (letters.Commit stamp k live ∷ more) front next = other (letters.Commit stamp k live) more front tt next
  heard (letters.Resume stamp ∷ more) front next = other (letters.Resume stamp) more front tt next
  heard (letters.Died stamp dead line ∷ more) front next = other (letters.Died stamp dead line) more front tt next
  heard (letters.Stop ∷ more) front next = other letters.Stop more front tt next

  moved : (m : Option SlotMove) → slot_move s.plan w.cut x ≡ m → Sound s o (after_slot s slot (slot_moved_by s w.cut x m) w) → Afloat s (after_slot s slot (slot_moved_by s w.cut x m) w)
  moved None is_due next = still
  moved (Some slot_moves.See) is_due next = stepped (slot_moved_by s w.cut x (Some slot_moves.See)) (see_step s o w slot x is sound afloat) next
  moved (Some (slot_moves.Rewind base)) is_due next =
      let due : IsDue s.plan x.node (stand w.cut x.node.slot) x.back x.since (slot_moves.Rewind base) = due_is s.plan x.node (stand w.cut x.node.slot) x.back x.since w.cut.round (slot_moves.Rewind base) is_due in
      absurd (let q : None ≡ Some base = sym (old s o w slot x is sound afloat).back ∙ due.0 in cc)
  moved (Some slot_moves.Release) is_due next =
      let due : IsDue s.plan x.node (stand w.cut x.node.slot) x.back x.since slot_moves.Release = due_is s.plan x.node (stand w.cut x.node.slot) x.back x.since w.cut.round slot_moves.Release is_due in
      stepped (slot_moved_by s w.cut x (Some slot_moves.Release)) (release_step s o w slot x is sound afloat due.1) next
  moved (Some slot_moves.Report) is_due next =
      let due : IsDue s.plan x.node (stand w.cut x.node.slot) x.back x.since slot_moves.Report = due_is s.plan x.node (stand w.cut x.node.slot) x.back x.since w.cut.round slot_moves.Report is_due in
      stepped (slot_moved_by s w.cut x (Some slot_moves.Report)) (report_step s o w slot x is sound afloat due.1) next
  moved (Some (slot_moves.Pack k)) is_due next = pack_afloat s o plain w slot x is sound afloat packs k is_due next
  moved (Some (slot_moves.Begin k)) is_due next = stepped (slot_moved_by s w.cut x (Some (slot_moves.Begin k))) (begin_step s o w slot x is sound afloat k is_due) next

  did : (d : Doing) → Sound s o (after_slot s slot (does s w.cut d x) w) → Afloat s (after_slot s slot (does s w.cut d x) w)
  did doings.Hear next = heard x.box refl next
  did doings.Move next = moved (slot_move s.plan w.cut x) refl next
  did (doings.Run e) next = ran_afloat s o w slot x is sound afloat runs e next

-- whatever a slot does, if there is one
pub slot_afloat : (s : Setting) (o : Options) → IsPlain s o → RunsMove → PacksMove → HearsMove → (w : WorldState) → Sound s o w → Afloat s w → (slot : SlotId) (d : Doing) → Sound s o (by_slot s slot w (does s w.cut d) (slot_at s.nodes w.posts.slots slot)) →
    Afloat s (by_slot s slot w (does s w.cut d) (slot_at s.nodes w.posts.slots slot))
slot_afloat s o plain runs packs hears w sound afloat slot d next = by (slot_at s.nodes w.posts.slots slot) refl next
  where
    by : (q : Option SlotState) → slot_at s.nodes w.posts.slots slot ≡ q → Sound s o (by_slot s slot w (does s w.cut d) q) → Afloat s (by_slot s slot w (does s w.cut d) q)
    by None is next = afloat
    by (Some x) is next = did s o plain w slot x is sound afloat runs packs hears d next

-- What a slot hears, but a piece, loses nothing.
use Rattle.std.proofs.Common.{◌≡◌, ℕ, List, [], ◌∷◌, ◌++◌, refl, ap, sym, ◌∙◌, subst, Some}
use Rattle.std.specs.Prelude.{◌⊎◌}
use Rattle.chare_base.specs.declared.options.Options.{Options}
use Rattle.chare_base.specs.declared.slots.LineSet.{LineSet}
use Rattle.chare_base.specs.declared.slots.SlotId.{SlotId}
use Rattle.iteration_agree.specs.Cuts.{slot_of}
use Rattle.letter_post.specs.declared.letter.Letter.{Letter}
use Rattle.letter_post.specs.declared.letter.Letter.TheVariants as letters
use Rattle.letter_post.specs.declared.letter.Sent.{Sent}
use Rattle.letter_post.specs.declared.stamp.Stamp.{Stamp}
use Rattle.pup_state.specs.declared.compare.Verdict.{Verdict}
use Rattle.pup_state.specs.declared.piece.Piece.{Piece}
use Rattle.node_core.specs.Mail.{Did, HearsMove, In, Moves}
use Rattle.node_core.specs.Nodes.{node_heard, node_heard_by}
use Rattle.node_core.proofs.Moving.{node_moves, still_moves}
use Rattle.world_core.specs.Sound.{Sound}
use Rattle.world_core.specs.Still.{Accepted, Afloat, Committed, Free, Freed, IsAccepted, IsCommitted, IsPlain, Packed, SlotAfloat, Stage, orders_in, pieces_in, present}
use Rattle.world_core.specs.Worlds.{Setting, SlotState, WorldState, slot_at, slot_heard}
use Rattle.world_core.proofs.Accepting.{commit_step, resume_step}
use Rattle.world_core.proofs.Floating.{PlainStep}
use Rattle.world_core.proofs.Running.{acted_step, heard_kept, mail_step, old}
use Rattle.world_core.proofs.Waking.{IsNoPiece, heard_leaves}

abbrev tail_of : List Letter → List Letter
tail_of [] = []
tail_of (x ∷ xs) = xs

abbrev head_or : Letter → List Letter → Letter
head_or d [] = d
head_or d (x ∷ xs) = x

-- which order a letter is
abbrev kind_of : Letter → ℕ
kind_of (letters.Parcel stamp entry k to payload) = 0
kind_of (letters.Partial stamp r k node value) = 0
kind_of (letters.Total stamp r k value) = 0
kind_of (letters.Piece stamp piece) = 0
kind_of (letters.VerdictOf first second node k verdict piece) = 0
kind_of (letters.Lend k fresh) = 0
kind_of (letters.Take stamp k live piece) = 1
kind_of (letters.Restore stamp k live) = 2
kind_of (letters.Commit stamp k live) = 3
kind_of (letters.Resume stamp) = 4
kind_of (letters.Died stamp slot line) = 0
kind_of letters.Stop = 0

module _ (s : Setting) (o : Options) (plain : IsPlain s o) (w : WorldState) (slot : SlotId) (x : SlotState) (is : slot_at s.nodes w.posts.slots slot ≡ Some x) (sound : Sound s o w) (afloat : Afloat s w) (hears : HearsMove) where
  abbrev mine : SlotAfloat s w.cut w.conductor afloat.log x
  mine = old s o w slot x is sound afloat

  -- the first order of the inbox, which is Commit, or Resume
  pub data FirstOrder (letter : Letter) : Type 0 where
    Commits : (taken : IsAccepted w.cut w.conductor (slot_of w.cut x.node.slot) x mine.body) → letter ≡ letters.Commit x.node.last.stamp w.conductor.ledger.base taken.live → FirstOrder letter
    Resumes : (taken : IsCommitted w.cut w.conductor (slot_of w.cut x.node.slot) x mine.body) → letter ≡ letters.Resume x.node.last.stamp → FirstOrder letter

  pub order_is : (letter : Letter) (more : List Letter) → orders_in x.box ≡ letter ∷ more → FirstOrder letter
  order_is letter more front = by mine.stage
    where
      none : orders_in x.box ≡ [] → ⊥
      none h = let q : letter ∷ more ≡ [] = sym front ∙ h in cc

      by : Stage w.cut w.conductor (slot_of w.cut x.node.slot) x mine.body → FirstOrder letter
      by (Free h) = absurd (none h.orders)
      by (Packed h) = absurd (none h.orders)
      by (Accepted h) = Commits h (ap (head_or letter) (sym front ∙ h.orders) ∙ ap (λ (st : Stamp). letters.Commit st w.conductor.ledger.base h.live) (sym mine.stamp))
      by (Committed h) = Resumes h (ap (head_or letter) (sym front ∙ h.orders) ∙ ap (λ (st : Stamp). letters.Resume st) (sym mine.stamp))
      by (Freed h) = absurd (none h.orders)

  abbrev Step : List Letter → Type 0
  Step box = PlainStep s w afloat.log slot x (slot_heard s w.cut x box)

  -- a letter that asks nothing
  module _ (first second : Stamp) (node k : ℕ) (verdict : Verdict) (piece : Piece) (more : List Letter) (front : x.box ≡ letters.VerdictOf first second node k verdict piece ∷ more) where
    abbrev l : Letter
    l = letters.VerdictOf first second node k verdict piece

    verdict_moves : Moves s.plan s.place (present w.conductor) x.node (node_heard s.plan s.script s.place l x.node)
    unfolding node_heard
    verdict_moves =
        subst (λ q. Moves s.plan s.place (present w.conductor) x.node (node_heard_by s.plan s.script s.place l x.node q)) (sym mine.alive)
        (node_moves s.plan s.place (present w.conductor) x.node mine.body mine.body [] mine.alive (still_moves s.plan s.place (present w.conductor) x.node mine.body))

    verdict_did : (log : List Sent) → Did s.plan log l (node_heard s.plan s.script s.place l x.node).node
    unfolding node_heard
    verdict_did log = subst (λ q. Did s.plan log l (node_heard_by s.plan s.script s.place l x.node q).node) (sym mine.alive) tt

    verdict_step : Step (l ∷ more)
    verdict_step =
        acted_step s o w slot x is sound afloat (node_heard s.plan s.script s.place l x.node) more verdict_moves (heard_leaves s.plan s.script s.place l x.node mine.body mine.alive refl tt) (sym (ap pieces_in front)) (sym (ap orders_in front))
        (λ letter h.
        heard_kept s (present w.conductor) afloat.log x.node l more (node_heard s.plan s.script s.place l x.node) verdict_moves mine.owes (verdict_did (afloat.log ++ (node_heard s.plan s.script s.place l x.node).out)) letter
        (subst (λ box. In letter box ⊎ Did s.plan afloat.log letter x.node) front h))

  commits : (stamp : Stamp) (k : ℕ) (live : LineSet) (more : List Letter) → x.box ≡ letters.Commit stamp k live ∷ more → FirstOrder (letters.Commit stamp k live) → Step (letters.Commit stamp k live ∷ more)
  commits stamp k live more front (Commits taken same) =
      subst (λ l. PlainStep s w afloat.log slot x (slot_heard s w.cut x (l ∷ more))) (sym same)
      (commit_step s o plain w slot x is sound afloat taken more taken.live (front ∙ ap (λ l. l ∷ more) same))
  commits stamp k live more front (Resumes taken same) = absurd (let q : 3 ≡ 4 = ap kind_of same in cc)

  resumes : (stamp : Stamp) (more : List Letter) → x.box ≡ letters.Resume stamp ∷ more → FirstOrder (letters.Resume stamp) → Step (letters.Resume stamp ∷ more)
  resumes stamp more front (Resumes taken same) =
      subst (λ l. PlainStep s w afloat.log slot x (slot_heard s w.cut x (l ∷ more))) (sym same)
      (resume_step s o plain w slot x is sound afloat taken more (front ∙ ap (λ l. l ∷ more) same))
  resumes stamp more front (Commits taken same) = absurd (let q : 4 ≡ 3 = ap kind_of same in cc)

  -- no other order comes
  never : (letter : Letter) → FirstOrder letter → (kind_of letter ≡ 3 → ⊥) → (kind_of letter ≡ 4 → ⊥) → ⊥
  never letter (Commits taken same) three four = three (ap kind_of same)
  never letter (Resumes taken same) three four = four (ap kind_of same)

  pub heard_step : (letter : Letter) (more : List Letter) → x.box ≡ letter ∷ more → IsNoPiece letter → Step (letter ∷ more)
  heard_step (letters.Parcel stamp entry k to payload) more front none =
      mail_step s o w slot x is sound afloat (letters.Parcel stamp entry k to payload) more front hears refl tt tt (sym (ap pieces_in front)) (sym (ap orders_in front))
  heard_step (letters.Partial stamp r k node value) more front none =
      mail_step s o w slot x is sound afloat (letters.Partial stamp r k node value) more front hears refl tt tt (sym (ap pieces_in front)) (sym (ap orders_in front))
  heard_step (letters.Total stamp r k value) more front none =
      mail_step s o w slot x is sound afloat (letters.Total stamp r k value) more front hears refl tt tt (sym (ap pieces_in front)) (sym (ap orders_in front))
  heard_step (letters.Piece stamp piece) more front none = absurd none
  heard_step (letters.VerdictOf first second node k verdict piece) more front none = verdict_step first second node k verdict piece more front
  heard_step (letters.Lend k fresh) more front none = mail_step s o w slot x is sound afloat (letters.Lend k fresh) more front hears refl tt tt (sym (ap pieces_in front)) (sym (ap orders_in front))
  heard_step (letters.Take stamp k live piece) more front none =
      absurd (never (letters.Take stamp k live piece) (order_is (letters.Take stamp k live piece) (orders_in more) (ap orders_in front)) (λ h. let q : 1 ≡ 3 = h in cc) (λ h. let q : 1 ≡ 4 = h in cc))
  heard_step (letters.Restore stamp k live) more front none =
      absurd (never (letters.Restore stamp k live) (order_is (letters.Restore stamp k live) (orders_in more) (ap orders_in front)) (λ h. let q : 2 ≡ 3 = h in cc) (λ h. let q : 2 ≡ 4 = h in cc))
  heard_step (letters.Commit stamp k live) more front none = commits stamp k live more front (order_is (letters.Commit stamp k live) (orders_in more) (ap orders_in front))
  heard_step (letters.Resume stamp) more front none = resumes stamp more front (order_is (letters.Resume stamp) (orders_in more) (ap orders_in front))
  heard_step (letters.Died stamp dead line) more front none = mail_step s o w slot x is sound afloat (letters.Died stamp dead line) more front hears refl tt tt (sym (ap pieces_in front)) (sym (ap orders_in front))
  heard_step letters.Stop more front none = mail_step s o w slot x is sound afloat letters.Stop more front hears refl tt tt (sym (ap pieces_in front)) (sym (ap orders_in front))

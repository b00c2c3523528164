-- What the conductor hears loses nothing.
use Rattle.std.proofs.Common.{◌≡◌, ℕ, zero, suc, ◌<◌, inl, inr, Bool, true, false, cond, List, [], ◌∷◌, length, refl, ap, sym, ◌∙◌, arith, subst, Option, Some, None, IsSome}
use Rattle.std.specs.Prelude.{◌⊎◌, ◌&&◌, is_none, nat_le, nat_lt, slice_index_or, slice_set}
use Rattle.std.specs.List.{AllByRecursion}
use Rattle.std.proofs.lemmas.Bool.{eqb-true, ltb-true}
use Rattle.std.proofs.lemmas.Bool.Decides.{nat_tests}
use Rattle.std.proofs.lemmas.List.{length-set}
use Rattle.iteration_agree.specs.declared.round.Round.{Round}
use Rattle.iteration_agree.specs.declared.round.Round.TheVariants as rounds
use Rattle.iteration_agree.specs.declared.slot.Slot.{Slot}
use Rattle.iteration_agree.specs.Cuts.{slot_of}
use Rattle.letter_post.specs.declared.letter.BoxId.{BoxId}
use Rattle.letter_post.specs.declared.letter.BoxId.TheVariants as boxes
use Rattle.letter_post.specs.declared.letter.Letter.{Letter}
use Rattle.letter_post.specs.declared.letter.Letter.TheVariants as letters
use Rattle.letter_post.specs.declared.letter.Sent.{Sent}
use Rattle.letter_post.specs.declared.stamp.Stamp.{Stamp}
use Rattle.letter_post.specs.Stamps.{same_stamp}
use Rattle.pup_state.specs.declared.compare.Verdict.{Verdict}
use Rattle.pup_state.specs.declared.piece.Piece.{Piece}
use Rattle.run_ledger.specs.Conditions.{due}
use Rattle.node_core.specs.Mail.{In}
use Rattle.node_core.specs.Nodes.{Body}
use Rattle.conductor_core.specs.declared.wants.Phase.{Phase}
use Rattle.conductor_core.specs.declared.wants.Phase.TheVariants as phases
use Rattle.conductor_core.specs.Conductors.{ConductorState, conductor_heard, counts, is_at, silent, verdict_heard, with_verdict}
use Rattle.conductor_core.specs.Tells.{verdict_at}
use Rattle.world_core.specs.Still.{Accepted, Afloat, Arrived, Arrives, Backed, Committed, Compared, Free, Freed, HasPacked, IsPhase, Packed, SlotAfloat, Stage, Told, present, present_in}
use Rattle.world_core.specs.Worlds.{Setting, SlotState, WorldState, after_conductor, told_by}
use Rattle.world_core.proofs.Due.{first, second}
use Rattle.world_core.proofs.Lists.{all_to}
use Rattle.world_core.proofs.Seen.{both_true}

-- verdicts beside each other

set_keeps : (xs : List (Option Verdict)) (i j : ℕ) (v : Verdict) → IsSome (slice_index_or xs j None) → IsSome (slice_index_or (slice_set xs i (Some v)) j None)
set_keeps [] i j v h = h
set_keeps (x ∷ more) zero zero v h = refl
set_keeps (x ∷ more) zero (suc j) v h = h
set_keeps (x ∷ more) (suc i) zero v h = h
set_keeps (x ∷ more) (suc i) (suc j) v h = set_keeps more i j v h

set_own : (xs : List (Option Verdict)) (i : ℕ) (v : Verdict) → i < length xs → IsSome (slice_index_or (slice_set xs i (Some v)) i None)
set_own [] i v h = absurd (omega (arith, h))
set_own (x ∷ more) zero v h = refl
set_own (x ∷ more) (suc i) v h = set_own more i v (omega (arith, h))

set_from : (xs : List (Option Verdict)) (i j : ℕ) (v : Verdict) → IsSome (slice_index_or (slice_set xs i (Some v)) j None) → (j ≡ i) ⊎ IsSome (slice_index_or xs j None)
set_from [] i j v h = inr h
set_from (x ∷ more) zero zero v h = inl refl
set_from (x ∷ more) zero (suc j) v h = inr h
set_from (x ∷ more) (suc i) zero v h = inr h
set_from (x ∷ more) (suc i) (suc j) v h = by (set_from more i j v h)
  where
    by : (j ≡ i) ⊎ IsSome (slice_index_or more j None) → (suc j ≡ suc i) ⊎ IsSome (slice_index_or more j None)
    by (inl q) = inl (ap suc q)
    by (inr q) = inr q

none_is : {A : Type 0} (o : Option A) → is_none o ≡ true → o ≡ None
none_is None h = refl
none_is (Some x) h = absurd (let q : false ≡ true = h in cc)

-- an agreed iteration is behind the base
agreed_late : (c : ConductorState) (floor k : ℕ) (phase : Phase) (round : Round) → IsPhase c floor phase round → is_at k phase ≡ true → (c.ledger.base < k) × (present_in c.ledger.base phase ≡ k)
agreed_late c floor k phases.Quiet round h at = absurd (let q : false ≡ true = at in cc)
agreed_late c floor k phases.Gather round h at = absurd (let q : false ≡ true = at in cc)
agreed_late c floor k (phases.Agreed j) (rounds.Quiet r) h at = absurd h
agreed_late c floor k (phases.Agreed j) (rounds.Gather r f) h at = absurd h
agreed_late c floor k (phases.Agreed j) (rounds.Agreed r q) h at =
    let same : k ≡ j = eqb-true k j at in
    let its : j ≡ q = h.0 in
    let less : c.ledger.base < q = ltb-true c.ledger.base q (second (nat_le (due c.ledger) q) (nat_lt c.ledger.base q) (first (nat_le (due c.ledger) q && nat_lt c.ledger.base q) (nat_le q c.ledger.iterations) h.1)) in
    (omega (arith, same, its, less), sym same)

module _ (s : Setting) (w : WorldState) (afloat : Afloat s w) (desk : List Letter) (verdicts : List (Option Verdict)) (pieces : List Piece) where
  -- the conductor has these verdicts and pieces, and these letters are left
  abbrev told : ConductorState
  told = record w.conductor { verdicts = verdicts; pieces = pieces }

  abbrev next : WorldState
  next = record { posts = record { slots = w.posts.slots; desk = desk }; cut = w.cut; conductor = told; over = w.over }

  stage_told : (t : Slot) (x : SlotState) (b : Body) → Stage w.cut w.conductor t x b → Stage w.cut told t x b
  stage_told t x b (Free h) = Free (record { free = h.free; fresh = h.fresh; goes = h.goes; orders = h.orders; base = h.base; packed = h.packed })
  stage_told t x b (Packed h) = Packed (record { held = h.held; piece = h.piece; fresh = h.fresh; agreed = h.agreed; goes = h.goes; since = h.since; orders = h.orders; base = h.base; packed = h.packed })
  stage_told t x b (Accepted h) = Accepted (record { held = h.held; piece = h.piece; fresh = h.fresh; at = h.at; goes = h.goes; since = h.since; live = h.live; orders = h.orders; earlier = h.earlier })
  stage_told t x b (Committed h) = Committed (record { held = h.held; fresh = h.fresh; waits = h.waits; since = h.since; orders = h.orders; base = h.base; earlier = h.earlier })
  stage_told t x b (Freed h) = Freed (record { held = h.held; fresh = h.fresh; goes = h.goes; since = h.since; orders = h.orders; base = h.base; earlier = h.earlier })

  slot_told : (x : SlotState) → SlotAfloat s w.cut w.conductor afloat.log x → SlotAfloat s w.cut told afloat.log x
  slot_told x h = record {
    body = h.body;
    alive = h.alive;
    stamp = h.stamp;
    owes = h.owes;
    back = h.back;
    stage = stage_told (slot_of w.cut x.node.slot) x h.body h.stage;
    top = h.top;
    cap = h.cap;
    others = h.others;
    buddy = h.buddy;
  }

  abbrev packed_told : (r j k : ℕ) → HasPacked s w r j k → HasPacked s next r j k
  packed_told r j k h = record { slot = h.slot; there = h.there; body = h.body; alive = h.alive; piece = h.piece; fresh = h.fresh; at = h.at }

  pub compared_told : (j k : ℕ) → Compared s w j k → Compared s next j k
  compared_told j k h = record { first = packed_told 0 j k h.first; second = packed_told 1 j k h.second; held = h.held; other = h.other; at = h.at }

  backed_told : (letter : Letter) → Backed s w letter → Backed s next letter
  backed_told (letters.Parcel stamp entry k to payload) h = tt
  backed_told (letters.Partial stamp r k node value) h = tt
  backed_told (letters.Total stamp r k value) h = tt
  backed_told (letters.Piece stamp piece) h = tt
  backed_told (letters.VerdictOf one other node k verdict piece) h = λ late. compared_told node k (h late)
  backed_told (letters.Lend k fresh) h = tt
  backed_told (letters.Take stamp k live piece) h = tt
  backed_told (letters.Restore stamp k live) h = tt
  backed_told (letters.Commit stamp k live) h = tt
  backed_told (letters.Resume stamp) h = tt
  backed_told (letters.Died stamp slot line) h = tt
  backed_told letters.Stop h = tt

  phase_told : (floor : ℕ) (phase : Phase) (round : Round) → IsPhase w.conductor floor phase round → IsPhase told floor phase round
  phase_told floor phases.Quiet (rounds.Quiet r) h = tt
  phase_told floor phases.Quiet (rounds.Gather r f) h = absurd h
  phase_told floor phases.Quiet (rounds.Agreed r k) h = absurd h
  phase_told floor phases.Gather (rounds.Quiet r) h = absurd h
  phase_told floor phases.Gather (rounds.Gather r f) h = h
  phase_told floor phases.Gather (rounds.Agreed r k) h = absurd h
  phase_told floor (phases.Agreed j) (rounds.Quiet r) h = absurd h
  phase_told floor (phases.Agreed j) (rounds.Gather r f) h = absurd h
  phase_told floor (phases.Agreed j) (rounds.Agreed r k) h = h

  -- where all that arrived stays so, and each verdict is of pieces that are there
  pub told_afloat : ((letter : Letter) → In letter w.posts.desk ⊎ Told letter w.conductor → In letter desk ⊎ Told letter told) → AllByRecursion (Backed s w) desk →
      ((j : ℕ) → IsSome (verdict_at verdicts j) → Compared s w j (present w.conductor)) → Afloat s next
  told_afloat arrives left heard = record {
    log = afloat.log;
    arrived = all_to (Arrived s afloat.log w) (Arrived s afloat.log next) afloat.log (λ sent h. by sent.to sent.letter h) afloat.arrived;
    backed = all_to (λ (sent : Sent). Backed s w sent.letter) (λ (sent : Sent). Backed s next sent.letter) afloat.log (λ sent h. backed_told sent.letter h) afloat.backed;
    over = afloat.over;
    slots = all_to (SlotAfloat s w.cut w.conductor afloat.log) (SlotAfloat s w.cut told afloat.log) w.posts.slots slot_told afloat.slots;
    pairs = afloat.pairs;
    desk = all_to (Backed s w) (Backed s next) desk backed_told left;
    heard = λ j some. compared_told j (present w.conductor) (heard j some);
    beside = record {
      phase = phase_told w.cut.floor w.conductor.phase w.cut.round afloat.beside.phase;
      both = afloat.beside.both;
      counted = afloat.beside.counted;
      going = afloat.beside.going;
      every = afloat.beside.every;
      unended = afloat.beside.unended;
      up = afloat.beside.up;
      first = afloat.beside.first;
      second = afloat.beside.second;
      noted = afloat.beside.noted;
    };
  }
    where
      by : (to : BoxId) (letter : Letter) → Arrives s afloat.log w to letter → Arrives s afloat.log next to letter
      by (boxes.Slot slot) letter h = h
      by boxes.Conductor letter h = arrives letter h

module _ (s : Setting) (w : WorldState) (afloat : Afloat s w) (letter : Letter) (more : List Letter) (front : w.posts.desk ≡ letter ∷ more) where
  all_backed : AllByRecursion (Backed s w) (letter ∷ more)
  all_backed = subst (AllByRecursion (Backed s w)) front afloat.desk

  moved : (now : ConductorState) → ((l : Letter) → Told l w.conductor → Told l now) → Told letter now → (l : Letter) → In l w.posts.desk ⊎ Told l w.conductor → In l more ⊎ Told l now
  moved now stays own l (inr told_l) = inr (stays l told_l)
  moved now stays own l (inl lies) = by (subst (In l) front lies)
    where
      by : In l (letter ∷ more) → In l more ⊎ Told l now
      by (inl q) = inr (subst (λ m. Told m now) (sym q) own)
      by (inr q) = inl q

  -- a letter that is dropped
  pub dropped : Told letter w.conductor → Afloat s (after_conductor s (silent w.conductor) more w)
  dropped own = told_afloat s w afloat more w.conductor.verdicts w.conductor.pieces (moved w.conductor (λ l h. h) own) all_backed.1 afloat.heard

module _ (s : Setting) (w : WorldState) (afloat : Afloat s w) (one two : Stamp) (node k : ℕ) (verdict : Verdict) (piece : Piece) (more : List Letter) (front : w.posts.desk ≡ letters.VerdictOf one two node k verdict piece ∷ more) where
  abbrev c : ConductorState
  c = w.conductor

  abbrev l : Letter
  l = letters.VerdictOf one two node k verdict piece

  a : Bool
  a = is_none c.outcome

  b : Bool
  b = same_stamp one c.first

  d : Bool
  d = same_stamp two c.second

  e : Bool
  e = is_at k c.phase

  f : Bool
  f = nat_lt node (length c.verdicts)

  abbrev kept : ConductorState
  kept = with_verdict node verdict piece c

  stays : (m : Letter) → Told m c → Told m kept
  stays (letters.Parcel stamp entry j to payload) h = tt
  stays (letters.Partial stamp r j n value) h = tt
  stays (letters.Total stamp r j value) h = tt
  stays (letters.Piece stamp its) h = tt
  stays (letters.VerdictOf x y n j v q) h = λ at within hx hy.
      let same : length (slice_set c.verdicts node (Some verdict)) ≡ length c.verdicts = length-set c.verdicts node (Some verdict) in
      set_keeps c.verdicts node n verdict (h at (omega (arith, within, same)) hx hy)
  stays (letters.Lend j fresh) h = tt
  stays (letters.Take stamp j live its) h = tt
  stays (letters.Restore stamp j live) h = tt
  stays (letters.Commit stamp j live) h = tt
  stays (letters.Resume stamp) h = tt
  stays (letters.Died stamp slot line) h = tt
  stays letters.Stop h = tt

  pub verdict_afloat : c.outcome ≡ None → Afloat s (after_conductor s (silent (verdict_heard one two node k verdict piece c)) more w)
  unfolding a b d e f
  verdict_afloat going = by (counts one two node k c) refl
    where
      by : (t : Bool) → counts one two node k c ≡ t → Afloat s (after_conductor s (silent (cond t kept c)) more w)
      by false h = dropped s w afloat l more front refused
        where
          refused : Told l c
          refused at within hx hy =
              let few : f ≡ true = grind (arith, nat_tests, within) in
              let all : (a && b && d && e && f) ≡ true = both_true (a && b && d && e) f (both_true (a && b && d) e (both_true (a && b) d (both_true a b (ap (λ q. is_none q) going) hx) hy) at) few in
              absurd (let q : true ≡ false = sym all ∙ h in cc)
      by true h =
          told_afloat s w afloat more (slice_set c.verdicts node (Some verdict)) (slice_set c.pieces node piece) (moved s w afloat l more front kept stays own) (all_backed s w afloat l more front).1 heard
        where
          at : e ≡ true
          at = second (a && b && d) e (first (a && b && d && e) f h)

          below : node < length c.verdicts
          below = ltb-true node (length c.verdicts) (second (a && b && d && e) f h)

          own : Told l kept
          own = λ at within hx hy. set_own c.verdicts node verdict below

          late : (c.ledger.base < k) × (present c ≡ k)
          late = agreed_late c w.cut.floor k c.phase w.cut.round afloat.beside.phase at

          mine : Compared s w node k
          mine = (all_backed s w afloat l more front).0 late.0

          heard : (j : ℕ) → IsSome (verdict_at (slice_set c.verdicts node (Some verdict)) j) → Compared s w j (present c)
          heard j some = which (set_from c.verdicts node j verdict some)
            where
              which : (j ≡ node) ⊎ IsSome (slice_index_or c.verdicts j None) → Compared s w j (present c)
              which (inl q) = subst (λ m. Compared s w j m) (sym late.1) (subst (λ m. Compared s w m k) (sym q) mine)
              which (inr q) = afloat.heard j q

-- whatever letter it is
pub heard_afloat : (s : Setting) (w : WorldState) → Afloat s w → w.conductor.outcome ≡ None → (desk : List Letter) → w.posts.desk ≡ desk → Afloat s (told_by s w desk)
unfolding conductor_heard
heard_afloat s w afloat going [] is = afloat
heard_afloat s w afloat going (letters.Parcel stamp entry k to payload ∷ more) is = dropped s w afloat (letters.Parcel stamp entry k to payload) more is tt
heard_afloat s w afloat going (letters.Partial stamp r k node value ∷ more) is = dropped s w afloat (letters.Partial stamp r k node value) more is tt
heard_afloat s w afloat going (letters.Total stamp r k value ∷ more) is = dropped s w afloat (letters.Total stamp r k value) more is tt
heard_afloat s w afloat going (letters.Piece stamp piece ∷ more) is = dropped s w afloat (letters.Piece stamp piece) more is tt
heard_afloat s w afloat going (letters.VerdictOf one two node k verdict piece ∷ more) is = verdict_afloat s w afloat one two node k verdict piece more is going
heard_afloat s w afloat going (letters.Lend k fresh ∷ more) is = dropped s w afloat (letters.Lend k fresh) more is tt
heard_afloat s w afloat going (letters.Take stamp k live piece ∷ more) is = dropped s w afloat (letters.Take stamp k live piece) more is tt
heard_afloat s w afloat going (letters.Restore stamp k live ∷ more) is = dropped s w afloat (letters.Restore stamp k live) more is tt
heard_afloat s w afloat going (letters.Commit stamp k live ∷ more) is = dropped s w afloat (letters.Commit stamp k live) more is tt
heard_afloat s w afloat going (letters.Resume stamp ∷ more) is = dropped s w afloat (letters.Resume stamp) more is tt
heard_afloat s w afloat going (letters.Died stamp slot line ∷ more) is = dropped s w afloat (letters.Died stamp slot line) more is tt
heard_afloat s w afloat going (letters.Stop ∷ more) is = dropped s w afloat letters.Stop more is tt

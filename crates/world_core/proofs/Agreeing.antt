-- An iteration that is agreed on loses nothing.
use Rattle.std.proofs.Common.{◌≡◌, ℕ, zero, suc, ◌<◌, ◌≤◌, inl, inr, Bool, true, false, cond, List, [], ◌∷◌, length, refl, ap, sym, ◌∙◌, arith, subst, Option, Some, None, IsSome}
use Rattle.std.specs.Prelude.{◌⊎◌, ◌&&◌, IfSome, nat_le, nat_lt, slice_get, slice_index_or}
use Rattle.std.specs.List.{list_all}
use Rattle.std.proofs.lemmas.Bool.Decides.{nat_tests}
use Rattle.std.proofs.lemmas.Option.{same_Some}
use Rattle.chare_base.specs.declared.options.Options.{Options}
use Rattle.chare_base.specs.declared.slots.SlotId.{SlotId}
use Rattle.iteration_agree.specs.declared.round.Round.{Round}
use Rattle.iteration_agree.specs.declared.round.Round.TheVariants as rounds
use Rattle.iteration_agree.specs.declared.round.Taking.TheVariants as takings
use Rattle.iteration_agree.specs.declared.slot.Cap.{Cap}
use Rattle.iteration_agree.specs.declared.slot.Slot.{Slot}
use Rattle.iteration_agree.specs.Cuts.{CutState, HasSlot, agreement, all_noted, greatest, is_noted, slot_of, slot_place}
use Rattle.iteration_agree.specs.Laws.{AgreesOnGreatest, IsGreatest, IsNoted}
use Rattle.iteration_agree.specs.Rounds.{number}
use Rattle.iteration_agree.specs.Under.{UnderSlot}
use Rattle.iteration_agree.specs.Slots.{opening_slot}
use Rattle.iteration_agree.proofs.Holding.{has_place}
use Rattle.iteration_agree.proofs.Keeping.{one}
use Rattle.letter_post.specs.declared.letter.Letter.{Letter}
use Rattle.letter_post.specs.declared.letter.Letter.TheVariants as letters
use Rattle.pup_state.specs.declared.piece.Piece.{Piece}
use Rattle.pup_state.specs.declared.compare.Verdict.{Verdict}
use Rattle.run_ledger.specs.Conditions.{due, is_next}
use Rattle.node_core.specs.declared.piece.Held.{Held}
use Rattle.node_core.specs.Mail.{BodyOwes, Owes}
use Rattle.node_core.specs.Nodes.{Body}
use Rattle.conductor_core.specs.declared.wants.Phase.{Phase}
use Rattle.conductor_core.specs.declared.wants.Phase.TheVariants as phases
use Rattle.conductor_core.specs.Conductors.{ConductorState}
use Rattle.conductor_core.specs.Moves.{slot_named}
use Rattle.conductor_core.specs.Tells.{IsKept, verdict_at}
use Rattle.world_core.specs.Sound.{Sound}
use Rattle.world_core.specs.Still.{Accepted, Afloat, Backed, Beside, Committed, Earlier, Free, Freed, HasPacked, IsFree, IsPhase, IsPlain, Packed, PairIn, Passes, SlotAfloat, Stage, Told, Unsent, present, present_in}
use Rattle.world_core.specs.Worlds.{Setting, SlotState, WorldState, again, number_of, slot_at}
use Rattle.world_core.proofs.Carrying.{stands_there}
use Rattle.world_core.proofs.Due.{first, second}
use Rattle.world_core.proofs.Lists.{all_got}
use Rattle.world_core.proofs.Mailing.{Is, IsNamed, place_is, slot_is}
use Rattle.world_core.proofs.Seen.{both_true, some_of}
use Rattle.world_core.proofs.Turning.{Alike, SameStand, Turned, slot_turned, turned_afloat, turned_to}

all_index : (test : Slot → Bool) (xs : List Slot) (i : ℕ) (d : Slot) → list_all test xs ≡ true → i < length xs → test (slice_index_or xs i d) ≡ true
all_index test [] i d h less = absurd (omega (arith, less))
all_index test (x ∷ more) zero d h less = first (test x) (list_all test more) h
all_index test (x ∷ more) (suc i) d h less = all_index test more i d (second (test x) (list_all test more) h) (omega (arith, less))

agreement_all : (cut : CutState) (k : ℕ) → agreement takings.Both cut ≡ Some k → all_noted takings.Both cut.slots ≡ true
agreement_all cut k h = by (all_noted takings.Both cut.slots) h
  where
    by : (b : Bool) → cond b (Some (greatest cut.floor cut.slots)) None ≡ Some k → b ≡ true
    by true g = refl
    by false g = absurd (let q : None ≡ Some k = g in cc)

module _ (s : Setting) (o : Options) (plain : IsPlain s o) (w : WorldState) (sound : Sound s o w) (afloat : Afloat s w) (law : AgreesOnGreatest) (gathers : w.conductor.phase ≡ phases.Gather) (k : ℕ) (on_k : agreement takings.Both w.cut ≡ Some k) where
  abbrev c : ConductorState
  c = w.conductor

  abbrev now : ConductorState
  now = record c { phase = phases.Agreed k }

  abbrev cut : CutState
  cut = record w.cut { round = rounds.Agreed (number w.cut.round) k; taking = takings.Both }

  abbrev base : ℕ
  base = c.ledger.base

  great : IsGreatest k w.cut
  great = subst (λ q. IfSome q (λ k. IsGreatest k w.cut)) on_k (law w.cut takings.Both sound.agreement)

  floor_due : w.cut.floor ≡ due c.ledger
  floor_due = by w.cut.round (subst (λ p. IsPhase c w.cut.floor p w.cut.round) gathers afloat.beside.phase)
    where
      by : (round : Round) → IsPhase c w.cut.floor phases.Gather round → w.cut.floor ≡ due c.ledger
      by (rounds.Quiet r) h = absurd h
      by (rounds.Gather r f) h = h
      by (rounds.Agreed r j) h = absurd h

  present_is : present c ≡ base
  present_is = ap (λ (p : Phase). present_in base p) gathers

  not_agreed : (j : ℕ) → c.phase ≡ phases.Agreed j → ⊥
  not_agreed j h = let q : phases.Gather ≡ phases.Agreed j = sym gathers ∙ h in cc

  -- ---- each slot is noted, so it is between two checkpoints

  module _ (slot : SlotId) (has : HasSlot w.cut slot) where
    abbrev t : Slot
    t = slot_of w.cut slot

    under : UnderSlot w.cut.round w.cut.floor w.cut.taking t
    under = one w.cut (slot_place w.cut.nodes slot) (has_place w.cut slot sound.agreement has) sound.agreement.under

    noted : IsSome t.noted
    noted = all_index (is_noted takings.Both) w.cut.slots (slot_place w.cut.nodes slot) (opening_slot 0) (agreement_all w.cut k on_k) (has_place w.cut slot sound.agreement has)

    n : (n : ℕ) × (t.noted ≡ Some n)
    n = some_of t.noted noted

    cap : t.cap ≡ Some (record { cap = n.0; round = number w.cut.round })
    cap = subst (λ q. IfSome q (λ n. t.cap ≡ Some (record { cap = n; round = number w.cut.round }))) n.1 under.noted

    never : Earlier w.cut.round t → ⊥
    never earlier = let h : number w.cut.round < number w.cut.round = subst (λ c. IfSome c (λ (c : Cap). c.round < number w.cut.round)) cap earlier.cap in omega (arith, h)

    free : (x : SlotState) (b : Body) → Stage w.cut c t x b → IsFree w.cut c t x b
    free x b (Free h) = h
    free x b (Packed h) = absurd (not_agreed h.piece.iteration h.agreed)
    free x b (Accepted h) = absurd (never h.earlier)
    free x b (Committed h) = absurd (never h.earlier)
    free x b (Freed h) = absurd (never h.earlier)

  has_named : (m : ℕ) (x : SlotState) → slice_get w.posts.slots m ≡ Some x → HasSlot w.cut x.node.slot
  has_named m x there =
      let named : IsNamed s.nodes m x.node.slot = place_is s.nodes w.posts.slots sound.names m x there in
      (named.replica, let a = named.node in let b = sound.nodes in omega (arith, a, b))

  old_at : (m : ℕ) (x : SlotState) → slice_get w.posts.slots m ≡ Some x → SlotAfloat s w.cut c afloat.log x
  old_at m x there = all_got (SlotAfloat s w.cut c afloat.log) w.posts.slots m x afloat.slots there

  -- ---- what is agreed is behind the base, and within the job

  every : 1 ≤ c.ledger.options.every
  every = afloat.beside.every

  job : c.ledger.iterations ≡ s.plan.iterations
  job = sound.conductor.recorded.job

  due_is : (base < due c.ledger) × (due c.ledger ≤ c.ledger.iterations)
  due_is = let a = every in let b = job in let g = afloat.beside.going in (omega (arith, a, b, g), omega arith)

  behind : base < k
  behind = let a = due_is.0 in let b = floor_due in let d = great.floor in omega (arith, a, b, d)

  within : k ≤ s.plan.iterations
  within = by great.one
    where
      by : (k ≡ w.cut.floor) ⊎ IsNoted k w.cut → k ≤ s.plan.iterations
      by (inl q) = let a = due_is.1 in let b = floor_due in let d = job in omega (arith, q, a, b, d)
      by (inr h) = few
        where
          u : (y : SlotState) × (slot_at s.nodes w.posts.slots (slot_named h.slot.replica h.slot.node) ≡ Some y)
          u = stands_there s o w sound h.slot.replica h.slot.node h.has.0 (let a = h.has.1 in let b = sound.nodes in omega (arith, a, b))

          i : Is s.nodes w.posts.slots (slot_named h.slot.replica h.slot.node) u.0
          i = slot_is s.nodes w.posts.slots (slot_named h.slot.replica h.slot.node) u.0 u.1

          its : SlotAfloat s w.cut c afloat.log u.0
          its = old_at (number_of s.nodes (slot_named h.slot.replica h.slot.node)) u.0 i.there

          there : (slot_of w.cut h.slot).cap ≡ Some (record { cap = k; round = number w.cut.round })
          there = subst (λ q. IfSome q (λ n. (slot_of w.cut h.slot).cap ≡ Some (record { cap = n; round = number w.cut.round }))) h.cap (under h.slot h.has).noted

          few : k ≤ s.plan.iterations
          few = subst (λ q. IfSome q (λ (d : Cap). d.cap ≤ s.plan.iterations)) there (subst (λ m. IfSome (slot_of w.cut m).cap (λ (d : Cap). d.cap ≤ s.plan.iterations)) i.name its.cap)

  next_is : is_next c.ledger k ≡ true
  next_is =
      let a = great.floor in
      let b = floor_due in
      let d = behind in
      let e = within in
      let f = job in
      both_true (nat_le (due c.ledger) k && nat_lt base k) (nat_le k c.ledger.iterations)
      (both_true (nat_le (due c.ledger) k) (nat_lt base k) (let low : due c.ledger ≤ k = omega (arith, a, b) in grind (arith, nat_tests, low)) (grind (arith, nat_tests, d)))
      (let few : k ≤ c.ledger.iterations = omega (arith, e, f) in grind (arith, nat_tests, few))

  -- ---- nobody has packed there

  unpacked : (r j m : ℕ) → HasPacked s w r j m → ⊥
  unpacked r j m h =
      let i = slot_is s.nodes w.posts.slots (slot_named r j) h.slot h.there in
      let its : SlotAfloat s w.cut c afloat.log h.slot = old_at (number_of s.nodes (slot_named r j)) h.slot i.there in
      let is : IsFree w.cut c (slot_of w.cut h.slot.node.slot) h.slot its.body = free h.slot.node.slot (has_named (number_of s.nodes (slot_named r j)) h.slot i.there) h.slot its.body its.stage in
      let same : its.body ≡ h.body = same_Some its.body h.body (sym its.alive ∙ h.alive) in
      let q : None ≡ Some h.piece = sym is.fresh ∙ ap (λ (b : Body). b.fresh) same ∙ h.fresh in
      cc

  told : (letter : Letter) → Backed s w letter → Told letter c → Told letter now
  told (letters.Parcel stamp entry j to payload) backed h = tt
  told (letters.Partial stamp r j node value) backed h = tt
  told (letters.Total stamp r j value) backed h = tt
  told (letters.Piece stamp piece) backed h = tt
  told (letters.VerdictOf first second node j verdict piece) backed h = λ at within one two. absurd (unpacked 0 node j (backed (let b = behind in grind (arith, nat_tests, at, b))).first)
  told (letters.Lend j fresh) backed h = tt
  told (letters.Take stamp j live piece) backed h = tt
  told (letters.Restore stamp j live) backed h = tt
  told (letters.Commit stamp j live) backed h = tt
  told (letters.Resume stamp) backed h = tt
  told (letters.Died stamp slot line) backed h = tt
  told letters.Stop backed h = tt

  no_verdict : (j : ℕ) → IsSome (verdict_at c.verdicts j) → ⊥
  no_verdict j some =
      let v : (v : Verdict) × (verdict_at c.verdicts j ≡ Some v) = some_of (verdict_at c.verdicts j) some in
      subst (λ p. IsKept s.plan s.script s.place c.first c.second p c.pieces j v.0) gathers (sound.conductor.kept j v.0 v.1)

  -- ---- the slots at the new iteration

  stands : (name : SlotId) → SameStand w.cut cut c now (slot_of w.cut name) (slot_of cut name)
  stands name = record { round = refl; free = refl; packed = refl; cap = refl; top = refl; ledger = refl; agreed = λ j h. absurd (not_agreed j h) }

  abbrev alike_again : (x : SlotState) → Alike x (again s.plan cut x)
  alike_again x = record { node = refl; box = refl; back = refl; since = refl }

  pays : (x : SlotState) (b : Body) → x.node.body ≡ Some b → Owes s.plan s.place (present c) afloat.log x.node → BodyOwes s.plan s.place base afloat.log x.node b
  pays x b alive h = subst (λ m. BodyOwes s.plan s.place m afloat.log x.node b) present_is (subst (λ q. IfSome q (BodyOwes s.plan s.place (present c) afloat.log x.node)) alive h)

  -- what it holds of its buddy's is of the base or an earlier one
  older : (q : Option Held) → IfSome q (λ (held : Held). held.piece.iteration ≤ base) → IfSome q (λ (held : Held). held.piece.iteration < k)
  older None h = tt
  older (Some held) h = let b = behind in omega (arith, h, b)

  at_most : (q : Option Held) → IfSome q (λ (held : Held). held.piece.iteration ≤ base) → IfSome q (λ (held : Held). held.piece.iteration ≤ k)
  at_most None h = tt
  at_most (Some held) h = let b = behind in omega (arith, h, b)

  owes_there : (x : SlotState) (b : Body) → x.node.body ≡ Some b → b.fresh ≡ None → Owes s.plan s.place (present c) afloat.log x.node → Owes s.plan s.place k afloat.log x.node
  owes_there x b alive none h =
      let p : BodyOwes s.plan s.place base afloat.log x.node b = pays x b alive h in
      subst (λ q. IfSome q (BodyOwes s.plan s.place k afloat.log x.node)) (sym alive)
      (record {
        objects = p.objects;
        contributed = p.contributed;
        piece = p.piece;
        verdict = p.verdict;
        fresh = subst (λ f. IfSome f (λ (piece : Piece). piece.iteration ≡ k)) (sym none) tt;
        other = at_most b.other p.other;
      })

  slot_agreed : (m : ℕ) (x : SlotState) → slice_get w.posts.slots m ≡ Some x → SlotAfloat s w.cut c afloat.log x → SlotAfloat s cut now afloat.log (again s.plan cut x)
  slot_agreed m x there h =
      slot_turned s w.cut cut c now afloat.log x (again s.plan cut x) (stands x.node.slot) (alike_again x)
      (owes_there x h.body h.alive (free x.node.slot (has_named m x there) x h.body h.stage).fresh) h

  -- its replica's other slot hasn't packed either
  module _ (x other : SlotState) (b own : Body) (one_is : SlotAfloat s w.cut c afloat.log x) (alive : x.node.body ≡ Some b) where
    unsent : own.fresh ≡ None → PairIn phases.Gather other x b own → Passes k other x b own
    unsent none h = Unsent (record { unpacked = none; none = h; older = older b.other (pays x b alive one_is.owes).other })

  beside : Beside s cut now
  beside = record {
    phase = (refl, next_is);
    both = refl;
    counted = afloat.beside.counted;
    going = afloat.beside.going;
    every = afloat.beside.every;
    unended = afloat.beside.unended;
    up = afloat.beside.up;
    first = afloat.beside.first;
    second = afloat.beside.second;
    noted = λ at slot h. absurd (let q : phases.Agreed k ≡ phases.Gather = at in cc);
  }

  turned : Turned s w afloat cut now (again s.plan cut) alike_again
  turned = record {
    ledger = refl;
    told = told;
    slots = slot_agreed;
    pairs = λ j hj x other b own there_x there_other one_is other_is alive theirs h. unsent x other b own one_is alive (fresh_none j there_other other_is theirs) (subst (λ p. PairIn p other x b own) gathers h);
    heard = λ j some. absurd (no_verdict j some);
    beside = beside;
  }
    where
      fresh_none : {other : SlotState} {own : Body} (j : ℕ) → slot_at s.nodes w.posts.slots (slot_named 1 j) ≡ Some other → SlotAfloat s w.cut c afloat.log other → other.node.body ≡ Some own → own.fresh ≡ None
      fresh_none {other} {own} j there its theirs =
          let i : Is s.nodes w.posts.slots (slot_named 1 j) other = slot_is s.nodes w.posts.slots (slot_named 1 j) other there in
          let is : IsFree w.cut c (slot_of w.cut other.node.slot) other its.body = free other.node.slot (has_named (number_of s.nodes (slot_named 1 j)) other i.there) other its.body its.stage in
          ap (λ (b : Body). b.fresh) (same_Some own its.body (sym theirs ∙ its.alive)) ∙ is.fresh

  pub agreed_afloat : Afloat s (turned_to s w afloat cut now (again s.plan cut) alike_again)
  agreed_afloat = turned_afloat s w afloat cut now (again s.plan cut) alike_again turned

-- What the calls of a slot ask and answer: a move that is due may be made, a node after an event fits the plan, and the
-- slot after an event is put together.
use Rattle.std.proofs.Common.{◌≡◌, ℕ, ◌≤◌, Bool, true, false, cond, List, ◌∷◌, refl, ap, sym, subst, ◌∙◌, arith, Option, Some, None}
use Rattle.std.specs.Prelude.{◌==◌, ◌&&◌, ◌||◌, not, is_none, nat_le, nat_lt}
use Rattle.std.specs.Option.{ForSome}
use Rattle.std.proofs.lemmas.Bool.{leb-true, ltb-true, eqb-true}
use Rattle.std.proofs.lemmas.Option.{same_Some}
use Rattle.chare_base.specs.declared.plan.Plan.{Plan}
use Rattle.chare_base.specs.declared.slots.SlotId.{SlotId}
use Rattle.iteration_agree.specs.Cuts.{CutState, HasSlot, begun_by, packed_by, released_by, reported_by, rewound_by, seen_by, slot_of}
use Rattle.iteration_agree.specs.Rounds.{IsGather}
use Rattle.iteration_agree.specs.Slots.{reported, standing_of}
use Rattle.iteration_agree.specs.Under.{BackTo, SawAgreed}
use Rattle.iteration_agree.specs.declared.round.Round.{Round}
use Rattle.iteration_agree.specs.declared.round.Round.TheVariants.{Quiet, Gather, Agreed}
use Rattle.iteration_agree.specs.declared.round.Standing.{Standing}
use Rattle.iteration_agree.specs.declared.slot.Slot.{Slot}
use Rattle.letter_post.specs.declared.letter.BoxId.TheVariants as boxes
use Rattle.letter_post.specs.declared.letter.Letter.{Letter}
use Rattle.letter_post.specs.Orders.{next_order}
use Rattle.letter_post.specs.declared.letter.Sent.{Sent}
use Rattle.node_core.specs.Keeps.{Fitted, HearsKeep, KeepsFits, KeepsOn, PacksKeep, RunsKeep}
use Rattle.node_core.specs.Nodes.{NodeState, Outcome, all_at, next_begin, node_heard, node_packed, node_ran, outcome_of, rests}
use Rattle.letter_post.specs.declared.order.LastOrder.{LastOrder}
use Rattle.world_core.specs.declared.doing.Doing.{Doing}
use Rattle.world_core.specs.declared.doing.Readiness.{Readiness}
use Rattle.world_core.specs.declared.doing.SlotMove.{SlotMove}
use Rattle.world_core.specs.declared.doing.SlotMove.TheVariants.{See, Rewind, Release, Report, Pack, Begin}
use Rattle.world_core.specs.declared.doing.Since.{Since}
use Rattle.world_core.specs.Moves.{begin_due, begin_if, goes_to, is_below, is_resumed, limit_of, may_go_back, move_by, move_of, move_on, pack_due, pack_or_begin, release_due, report_due, same_round}
use Rattle.world_core.specs.Sound.{AllTrue, FirstFollows, Served}
use Rattle.world_core.specs.Steps.{Renews}
use Rattle.world_core.specs.Worlds.{Acted, MayMove, Setting, SlotState, acted, doing_of, seats_of, shifted, slot_move, stand}

-- ---- a move that is due may be made

left : (a b : Bool) → (a && b) ≡ true → a ≡ true
left true b h = refl
left false b h = absurd (let q : false ≡ true = h in cc)

right : (a b : Bool) → (a && b) ≡ true → b ≡ true
right true b h = h
right false b h = absurd (let q : false ≡ true = h in cc)

no_cap : (o : Option ℕ) → is_none o ≡ true → o ≡ None
no_cap None h = refl
no_cap (Some k) h = absurd (let q : false ≡ true = h in cc)

-- what is known of a pack besides
abbrev pub Packs : Plan → NodeState → SlotMove → Type 0
Packs p n See = Unit {0}
Packs p n (Rewind base) = Unit {0}
Packs p n Release = Unit {0}
Packs p n Report = Unit {0}
Packs p n (Pack k) = (all_at k n ≡ true) × (k ≤ p.iterations)
Packs p n (Begin k) = Unit {0}

abbrev pub MayBeMade : Plan → NodeState → Slot → SlotMove → Type 0
MayBeMade p n s m = MayMove m s × Packs p n m

-- a move from a test
by_test : (p : Plan) (n : NodeState) (s : Slot) (test : Bool) (move : SlotMove) (rest : Option SlotMove) (m : SlotMove) → cond test (Some move) rest ≡ Some m →
    (test ≡ true → MayBeMade p n s move) → (rest ≡ Some m → MayBeMade p n s m) → MayBeMade p n s m
by_test p n s true move rest m h may more = subst (MayBeMade p n s) (same_Some move m h) (may refl)
by_test p n s false move rest m h may more = more h

nothing : (p : Plan) (n : NodeState) (s : Slot) (m : SlotMove) → None ≡ Some m → MayBeMade p n s m
nothing p n s m h = absurd (let q : None ≡ Some m = h in cc)

some_else : (b : Bool) (o : Option SlotMove) (m : SlotMove) → cond b None o ≡ Some m → o ≡ Some m
some_else true o m h = absurd (let q : None ≡ Some m = h in cc)
some_else false o m h = h

module _ (p : Plan) (n : NodeState) (s : Slot) where
  abbrev t : Standing
  t = standing_of s

  back_to : (base : ℕ) (seen : Round) → goes_to base seen ≡ true → BackTo base seen
  back_to base (Quiet r) h = tt
  back_to base (Gather r floor) h = leb-true base floor h
  back_to base (Agreed r k) h = leb-true base k h

  back_if : (base : ℕ) → (is_none (reported s) || goes_to base s.seen) ≡ true → ForSome (reported s) (λ _. BackTo base s.seen)
  back_if base h = λ c is. back_to base s.seen (sym (ap (λ o. is_none o || goes_to base s.seen) is) ∙ h)

  rewinds : (base : ℕ) → may_go_back base t ≡ true → MayBeMade p n s (Rewind base)
  rewinds base h =
      (record { few = leb-true base 1000000 (left (nat_le base 1000000) (is_none (reported s) || goes_to base s.seen) h); back = back_if base (right (nat_le base 1000000) (is_none (reported s) || goes_to base s.seen) h) }, tt)

  releases : (since : Since) → release_due t since ≡ true → MayBeMade p n s Release
  releases since h = (no_cap (reported s) (right (is_resumed since && not s.free) (is_none (reported s)) h), tt)

  reports_in : (seen : Round) → report_due t seen ≡ true → IsGather seen × (s.free ≡ true) × (reported s ≡ None)
  reports_in (Quiet r) h = absurd (let q : false ≡ true = h in cc)
  reports_in (Gather r floor) h = (tt, left s.free (is_none (reported s)) h, no_cap (reported s) (right s.free (is_none (reported s)) h))
  reports_in (Agreed r k) h = absurd (let q : false ≡ true = h in cc)

  reports : report_due t s.seen ≡ true → MayBeMade p n s Report
  reports h = let all = reports_in s.seen h in (record { gather = all.0; free = all.1; once = all.2 }, tt)

  packs_if : (k : ℕ) (j : ℕ) (test : Bool) → test ≡ (s.top == k && nat_le k p.iterations && not t.packed && all_at k n) → cond test (Some k) None ≡ Some j → (s.top ≡ k) × (all_at j n ≡ true) × (j ≤ p.iterations)
  packs_if k j false is h = absurd (let q : None ≡ Some j = h in cc)
  packs_if k j true is h =
      let same : k ≡ j = same_Some k j h in
      let all : (s.top == k && nat_le k p.iterations && not t.packed && all_at k n) ≡ true = sym is in
      let first = left (s.top == k && nat_le k p.iterations && not t.packed) (all_at k n) all in
      let second = left (s.top == k && nat_le k p.iterations) (not t.packed) first in (
        eqb-true s.top k (left (s.top == k) (nat_le k p.iterations) second),
        subst (λ i. all_at i n ≡ true) same (right (s.top == k && nat_le k p.iterations && not t.packed) (all_at k n) all),
        subst (λ i. i ≤ p.iterations) same (leb-true k p.iterations (right (s.top == k) (nat_le k p.iterations) second)),
      )

  packs_in : (seen : Round) (j : ℕ) → pack_due p n t seen ≡ Some j → SawAgreed s.top seen × (all_at j n ≡ true) × (j ≤ p.iterations)
  packs_in (Quiet r) j h = absurd (let q : None ≡ Some j = h in cc)
  packs_in (Gather r floor) j h = absurd (let q : None ≡ Some j = h in cc)
  packs_in (Agreed r k) j h = packs_if k j (s.top == k && nat_le k p.iterations && not t.packed && all_at k n) refl h

  begins_if : (next : Bool) (m : SlotMove) → begin_if next t ≡ Some m → MayBeMade p n s m
  begins_if next m h =
      by_test p n s (next && nat_lt s.top 1000000 && is_below s.top (limit_of t)) (Begin s.top) None m h
      (λ all. (record { below = omega arith; few = ltb-true s.top 1000000 (right next (nat_lt s.top 1000000) (left (next && nat_lt s.top 1000000) (is_below s.top (limit_of t)) all)) }, tt))
      (nothing p n s m)

  begins_of : (o : Option ℕ) (m : SlotMove) → begin_due t o ≡ Some m → MayBeMade p n s m
  begins_of None m h = nothing p n s m h
  begins_of (Some k) m h = begins_if (k == s.top) m h

  packs_or_begins : (o : Option ℕ) (m : SlotMove) → pack_due p n t s.seen ≡ o → pack_or_begin n t o ≡ Some m → MayBeMade p n s m
  packs_or_begins None m is h = begins_of (next_begin n) m h
  packs_or_begins (Some k) m is h = let all = packs_in s.seen k is in subst (MayBeMade p n s) (same_Some (Pack k) m h) (all.0, (all.1, all.2))

  goes_on : (since : Since) (m : SlotMove) → move_on p n t since ≡ Some m → MayBeMade p n s m
  goes_on since m h =
      by_test p n s (release_due t since) Release (cond (report_due t s.seen) (Some Report) (pack_or_begin n t (pack_due p n t s.seen))) m h (releases since)
      (λ more. by_test p n s (report_due t s.seen) Report (pack_or_begin n t (pack_due p n t s.seen)) m more reports (packs_or_begins (pack_due p n t s.seen) m refl))

  moves : (back : Option ℕ) (since : Since) (m : SlotMove) → move_by p n t back since ≡ Some m → MayBeMade p n s m
  moves None since m h = goes_on since m (some_else (rests n) (move_on p n t since) m h)
  moves (Some base) since m h = by_test p n s (may_go_back base t) (Rewind base) None m h (rewinds base) (nothing p n s m)

  pub due_may : (round : Round) (back : Option ℕ) (since : Since) (m : SlotMove) → move_of p round n t back since ≡ Some m → MayBeMade p n s m
  due_may round back since m h =
      by_test p n s (not (same_round s.seen round)) See (move_by p n t back since) m
      (some_else (is_none n.body) (cond (not (same_round s.seen round)) (Some See) (move_by p n t back since)) m h)
      (λ _. (tt, tt)) (moves back since m)

pub may_make : (p : Plan) (cut : CutState) (x : SlotState) (m : SlotMove) → slot_move p cut x ≡ Some m → MayBeMade p x.node (slot_of cut x.node.slot) m
may_make p cut x m h = due_may p x.node (slot_of cut x.node.slot) cut.round x.back x.since m h

-- a slot's move leaves the nodes
pub shifted_has : (slot other : SlotId) (m : SlotMove) (cut : CutState) → HasSlot cut other → HasSlot (shifted slot m cut) other
unfolding seen_by rewound_by released_by reported_by begun_by
shifted_has slot other See cut h = h
shifted_has slot other (Rewind base) cut h = h
shifted_has slot other Release cut h = h
shifted_has slot other Report cut h = h
shifted_has slot other (Pack k) cut h = h
shifted_has slot other (Begin k) cut h = h

pub packed_has : (slot other : SlotId) (cut : CutState) → HasSlot cut other → HasSlot (packed_by slot cut) other
unfolding packed_by
packed_has slot other cut h = h

-- ---- a slot's node after an event

pub record After (p : Plan) (own : SlotId) (n : NodeState) : Type 0 where
  pub fits : Fitted p n
  pub roster : n.roster.iterations ≡ p.iterations
  pub slot : n.slot ≡ own

kept_on : KeepsFits → (s : Setting) (cut : CutState) (x : SlotState) (last : LastOrder) (o : Outcome) → Served s cut x → KeepsOn s.plan s.script s.place x.node last o → After s.plan x.node.slot o.node
kept_on fits s cut x last o served on = record {
  fits = fits s.plan s.script s.place o.node on.keeps;
  roster = ap (λ r. r.iterations) on.roster ∙ served.fresh.renews.roster;
  slot = on.slot;
}

pub ran_after : KeepsFits → RunsKeep → (s : Setting) (cut : CutState) (x : SlotState) (e : ℕ) (n : NodeState) → Served s cut x →
    n ≡ (outcome_of (node_ran s.plan s.script s.place (stand cut x.node.slot).top e x.node)).node → After s.plan x.node.slot n
ran_after fits runs s cut x e n served is =
    subst (After s.plan x.node.slot) (sym is)
    (kept_on fits s cut x x.node.last (outcome_of (node_ran s.plan s.script s.place (stand cut x.node.slot).top e x.node)) served (runs s.plan s.script s.place (stand cut x.node.slot).top e x.node served.keeps served.capped))

pub heard_after : KeepsFits → HearsKeep → (s : Setting) (cut : CutState) (x : SlotState) (letter : Letter) (more : List Letter) (n : NodeState) → Served s cut x → x.box ≡ letter ∷ more →
    n ≡ (node_heard s.plan s.script s.place letter x.node).node → After s.plan x.node.slot n
heard_after fits hears s cut x letter more n served box is =
    let letters = subst (AllTrue s (boxes.Slot x.node.slot)) box served.letters in
    let follows = subst (FirstFollows s x.node.last) box served.follows in
    subst (After s.plan x.node.slot) (sym is)
    (kept_on fits s cut x (next_order x.node.last letter) (node_heard s.plan s.script s.place letter x.node) served (hears s.plan s.script s.place letter x.node served.keeps letters.0 follows))

pub packed_after : KeepsFits → PacksKeep → (s : Setting) (cut : CutState) (x : SlotState) (k : ℕ) (n : NodeState) → Served s cut x → Packs s.plan x.node (Pack k) →
    n ≡ (node_packed s.plan s.script k x.node).node → After s.plan x.node.slot n
packed_after fits packs s cut x k n served may is =
    subst (After s.plan x.node.slot) (sym is)
    (kept_on fits s cut x x.node.last (node_packed s.plan s.script k x.node) served (packs s.plan s.script s.place k x.node served.keeps may.0 may.1))

-- so what it would do can be worked out again
pub renews : (p : Plan) (cut : CutState) (slot : SlotId) (x : SlotState) → After p slot x.node → HasSlot cut slot → Renews p cut x
renews p cut slot x after has = record { fits = after.fits; roster = after.roster; slot = subst (HasSlot cut) (sym after.slot) has }

-- ---- a slot after an event

pub acted_is : (p : Plan) (cut : CutState) (o : Outcome) (box : List Letter) (back : Option ℕ) (since : Since) (slot : SlotId) (n : NodeState) (out : List Sent) (seats : List Readiness) (doing : Option Doing) →
    ◌≡◌ {A = Outcome} (record { node = n; out = out }) o → n.slot ≡ slot → seats ≡ seats_of p (stand cut slot).top n → doing ≡ doing_of p cut.round (stand cut slot) n box back since →
    ◌≡◌ {A = Acted} (record { slot = record { node = n; box = box; back = back; since = since; seats = seats; doing = doing }; cut = cut; out = out }) (acted p cut o box back since)
acted_is p cut o box back since slot n out seats doing is at kept told =
    let with_seats : List Readiness → Acted = λ r. record { slot = record { node = n; box = box; back = back; since = since; seats = r; doing = doing }; cut = cut; out = out } in
    let with_doing : Option Doing → Acted = λ d. record { slot = record { node = n; box = box; back = back; since = since; seats = seats_of p (stand cut n.slot).top n; doing = d }; cut = cut; out = out } in
    ap with_seats (kept ∙ ap (λ i. seats_of p (stand cut i).top n) (sym at)) ∙ ap with_doing (told ∙ ap (λ i. doing_of p cut.round (stand cut i) n box back since) (sym at))
    ∙ ap (λ y. acted p cut y box back since) is

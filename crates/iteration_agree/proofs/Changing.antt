-- What each move changes.
use Rattle.std.proofs.Common.{◌≡◌, ℕ, ◌+◌, ◌<◌, ◌≤◌, Bool, true, false, cond, [], ◌∷◌, refl, ap, sym, ◌∙◌, arith, subst, Option, Some, None}
use Rattle.std.specs.Prelude.{◌==◌, ◌≢◌}
use Rattle.std.proofs.lemmas.Bool.{eqb-true}
use Rattle.std.proofs.lemmas.Bool.Decides.{nat_tests}
use Rattle.chare_base.specs.declared.slots.SlotId.{SlotId}
use Rattle.iteration_agree.specs.declared.round.Leave.{Leave}
use Rattle.iteration_agree.specs.declared.round.Leave.TheVariants as leaves
use Rattle.iteration_agree.specs.declared.round.Round.{Round}
use Rattle.iteration_agree.specs.declared.round.Round.TheVariants.{Quiet, Gather, Agreed}
use Rattle.iteration_agree.specs.declared.round.Taking.{Taking}
use Rattle.iteration_agree.specs.declared.slot.Slot.{Slot}
use Rattle.iteration_agree.specs.Rounds.{IsAgreed, IsGather, IsQuiet, number}
use Rattle.iteration_agree.specs.Slots.{leave, opening_slot, slot_begun, slot_noted, slot_packed, slot_released, slot_reported, slot_rewound, slot_saw, slot_unnoted, standing_of, went}
use Rattle.iteration_agree.specs.Cuts.{CutState, HasSlot, agreed, agreed_on, agreement, at_place, begun_by, noted, opened, packed_by, quieted, released_by, reported_by, rewound_by, seen_by, slot_at, slot_of, slot_place}
use Rattle.iteration_agree.specs.Under.{IsCut}
use Rattle.iteration_agree.specs.Moves.{Agrees, Allowed, Begins, Move, Notes, Opens, Packs, Quiets, Releases, Reports, Rewinds, Sees, after_moves, moved, mover}
use Rattle.iteration_agree.specs.Laws.{AgreedStands, AgreedStandsOn, BeginsRaise, EachSlotMoves, IsRewind, NotesLeaveTheRound, OthersStand, RoundsAreCounted, SlotsLeaveTheRound, Stands, TopsRise}
use Rattle.iteration_agree.proofs.Lists as lists
use Rattle.iteration_agree.proofs.Holding.{has_place}

-- ---- names and places

by_replica : (n a b : ℕ) (p q : ℕ) (x y : Bool) → (p == 0) ≡ x → (q == 0) ≡ y → p ≤ 1 → q ≤ 1 → a < n → b < n → cond x a (n + a) ≡ cond y b (n + b) → (p ≡ q) × (a ≡ b)
by_replica n a b p q true true hx hy hp hq ha hb same = (eqb-true p 0 hx ∙ sym (eqb-true q 0 hy), same)
by_replica n a b p q true false hx hy hp hq ha hb same = absurd (omega (arith, same, ha))
by_replica n a b p q false true hx hy hp hq ha hb same = absurd (omega (arith, same, hb))
by_replica n a b p q false false hx hy hp hq ha hb same =
    let one_p : 0 < p = grind (arith, nat_tests, hx) in
    let one_q : 0 < q = grind (arith, nat_tests, hy) in
    (omega (arith, one_p, one_q, hp, hq), omega (arith, same))

-- two slots at one place are one slot
pub same_slot : (c : CutState) (a b : SlotId) → HasSlot c a → HasSlot c b → slot_place c.nodes a ≡ slot_place c.nodes b → a ≡ b
same_slot c a b has_a has_b same =
    let parts : (a.replica ≡ b.replica) × (a.node ≡ b.node) = by_replica c.nodes a.node b.node a.replica b.replica (a.replica == 0) (b.replica == 0) refl refl has_a.0 has_b.0 has_a.1 has_b.1 same in
    ap (λ (x : ℕ). record { replica = x; node = a.node }) parts.0 ∙ ap (λ (x : ℕ). record { replica = b.replica; node = x }) parts.1

-- ---- the slot that moves, and the others

module _ (c : CutState) (slot : SlotId) (cut : IsCut c) (has : HasSlot c slot) where
  pub moved_here : (move : Slot → Slot) → slot_of (at_place move (slot_place c.nodes slot) c) slot ≡ move (slot_of c slot)
  moved_here move = lists.set_there c.slots (slot_place c.nodes slot) (move (slot_of c slot)) (opening_slot 0) (has_place c slot cut has)

-- where the move keeps a fact of its own slot, it keeps it of each slot
pub at_or_away : (P : Slot → Type 0) (c : CutState) (mover slot : SlotId) (move : Slot → Slot) → IsCut c → HasSlot c mover → HasSlot c slot → (mover ≡ slot → P (move (slot_of c slot))) → P (slot_of c slot) → P (slot_of (at_place move (slot_place c.nodes mover) c) slot)
at_or_away P c mover slot move cut has_mover has here away = by (slot_place c.nodes mover == slot_place c.nodes slot) refl
  where
    by : (b : Bool) → (slot_place c.nodes mover == slot_place c.nodes slot) ≡ b → P (slot_of (at_place move (slot_place c.nodes mover) c) slot)
    by true h =
        let place : slot_place c.nodes mover ≡ slot_place c.nodes slot = eqb-true (slot_place c.nodes mover) (slot_place c.nodes slot) h in
        subst (λ i. P (slot_of (at_place move i c) slot)) (sym place) (subst P (sym (moved_here c slot cut has move)) (here (same_slot c mover slot has_mover has place)))
    by false h =
        subst P (sym (lists.set_elsewhere c.slots (slot_place c.nodes mover) (slot_place c.nodes slot) (move (slot_at c.slots (slot_place c.nodes mover))) (opening_slot 0) (λ same. absurd (grind (arith, nat_tests, h, same))))) away

pub each_slot_moves : EachSlotMoves
unfolding seen_by begun_by reported_by packed_by rewound_by released_by noted
each_slot_moves c slot cut has = record {
  sees = moved_here c slot cut has (slot_saw c.round);
  begins = λ k. moved_here c slot cut has (slot_begun k);
  reports = moved_here c slot cut has slot_reported;
  packs = moved_here c slot cut has slot_packed;
  rewinds = λ base. moved_here c slot cut has (slot_rewound base);
  releases = moved_here c slot cut has slot_released;
  notes = moved_here c slot cut has (slot_noted c.round);
}

-- ---- standings

noted_stands : (round : Round) (s : Slot) → standing_of (slot_noted round s) ≡ standing_of s
noted_stands (Quiet r) s = refl
noted_stands (Gather r f) s = refl
noted_stands (Agreed r k) s = refl

pub others_stand : OthersStand
unfolding seen_by begun_by reported_by packed_by rewound_by released_by noted opened agreed quieted
others_stand c move other cut may has = by move may
  where
    Same : Slot → Type 0
    Same s = standing_of s ≡ standing_of (slot_of c other)

    away : (mover : SlotId) (move : Slot → Slot) → HasSlot c mover → Some mover ≢ Some other → standing_of (slot_of (at_place move (slot_place c.nodes mover) c) other) ≡ standing_of (slot_of c other)
    away mover move has_mover apart = at_or_away (λ s. standing_of s ≡ standing_of (slot_of c other)) c mover other move cut has_mover has (λ same. absurd (apart (ap (λ (x : SlotId). Some x) same))) refl

    on : (o : Option ℕ) (taking : Taking) → standing_of (slot_of (agreed_on taking c o) other) ≡ standing_of (slot_of c other)
    on None taking = refl
    on (Some k) taking = refl

    by : (move : Move) → Allowed c move → mover move ≢ Some other → standing_of (slot_of (moved c move) other) ≡ standing_of (slot_of c other)
    by (Sees slot) may apart = away slot (slot_saw c.round) may apart
    by (Begins slot k) may apart = away slot (slot_begun k) may.0 apart
    by (Reports slot) may apart = away slot slot_reported may.0 apart
    by (Packs slot) may apart = away slot slot_packed may.0 apart
    by (Rewinds slot base) may apart = away slot (slot_rewound base) may.0 apart
    by (Releases slot) may apart = away slot slot_released may.0 apart
    by (Opens floor) may apart = refl
    by (Notes slot) may apart = at_or_away (λ s. standing_of s ≡ standing_of (slot_of c other)) c slot other (slot_noted c.round) cut may has (λ same. noted_stands c.round (slot_of c other)) refl
    by (Agrees taking) may apart = on (agreement taking c) taking
    by Quiets may apart = lists.mapped_same standing_of slot_unnoted c.slots (slot_place c.nodes other) (opening_slot 0) (λ s. refl)

-- ---- tops

begun_top : (k : ℕ) (s : Slot) → s.top ≤ (slot_begun k s).top
begun_top k s = by (leave s k)
  where
    by : (l : Leave) → s.top ≤ (went s k l).top
    by (leaves.Hold limit) = omega arith
    by leaves.Go = omega arith

pub begins_raise : BeginsRaise
begins_raise k s = (λ go. subst (λ l. k < (went s k l).top) (sym go) (omega arith), begun_top k s)

noted_top : (round : Round) (s : Slot) → s.top ≤ (slot_noted round s).top
noted_top (Quiet r) s = omega arith
noted_top (Gather r f) s = omega arith
noted_top (Agreed r k) s = omega arith

pub tops_rise : TopsRise
unfolding seen_by begun_by reported_by packed_by rewound_by released_by noted opened agreed quieted
tops_rise c move slot cut may has = by move may
  where
    kept : (mover : SlotId) (move : Slot → Slot) → HasSlot c mover → (slot_of c slot).top ≤ (move (slot_of c slot)).top → (slot_of c slot).top ≤ (slot_of (at_place move (slot_place c.nodes mover) c) slot).top
    kept mover move has_mover rises = at_or_away (λ s. (slot_of c slot).top ≤ s.top) c mover slot move cut has_mover has (λ same. rises) (omega arith)

    on : (o : Option ℕ) (taking : Taking) → (slot_of c slot).top ≤ (slot_of (agreed_on taking c o) slot).top
    on None taking = omega arith
    on (Some k) taking = omega arith

    by : (move : Move) → Allowed c move → (IsRewind slot move → ⊥) → (slot_of c slot).top ≤ (slot_of (moved c move) slot).top
    by (Sees other) may stays = kept other (slot_saw c.round) may (omega arith)
    by (Begins other k) may stays = kept other (slot_begun k) may.0 (begun_top k (slot_of c slot))
    by (Reports other) may stays = kept other slot_reported may.0 (omega arith)
    by (Packs other) may stays = kept other slot_packed may.0 (omega arith)
    by (Rewinds other base) may stays = at_or_away (λ s. (slot_of c slot).top ≤ s.top) c other slot (slot_rewound base) cut may.0 has (λ same. absurd (stays same)) (omega arith)
    by (Releases other) may stays = kept other slot_released may.0 (omega arith)
    by (Opens floor) may stays = omega arith
    by (Notes other) may stays = kept other (slot_noted c.round) may (noted_top c.round (slot_of c slot))
    by (Agrees taking) may stays = on (agreement taking c) taking
    by Quiets may stays = omega (arith, lists.mapped_same (λ s. s.top) slot_unnoted c.slots (slot_place c.nodes slot) (opening_slot 0) (λ s. refl))

-- ---- rounds

pub slots_leave : SlotsLeaveTheRound
unfolding seen_by begun_by reported_by packed_by rewound_by released_by
slots_leave c (Sees other) slot is = record { round = refl; floor = refl; taking = refl }
slots_leave c (Begins other k) slot is = record { round = refl; floor = refl; taking = refl }
slots_leave c (Reports other) slot is = record { round = refl; floor = refl; taking = refl }
slots_leave c (Packs other) slot is = record { round = refl; floor = refl; taking = refl }
slots_leave c (Rewinds other base) slot is = record { round = refl; floor = refl; taking = refl }
slots_leave c (Releases other) slot is = record { round = refl; floor = refl; taking = refl }
slots_leave c (Opens floor) slot is = absurd cc
slots_leave c (Notes other) slot is = absurd cc
slots_leave c (Agrees taking) slot is = absurd cc
slots_leave c Quiets slot is = absurd cc

pub notes_leave : NotesLeaveTheRound
unfolding noted
notes_leave c slot = record { round = refl; floor = refl; taking = refl }

quiet_or_agreed : (round : Round) → IsQuiet round → IsAgreed round → ⊥
quiet_or_agreed (Quiet r) q a = a
quiet_or_agreed (Gather r f) q a = a
quiet_or_agreed (Agreed r k) q a = q

gather_or_agreed : (round : Round) → IsGather round → IsAgreed round → ⊥
gather_or_agreed (Quiet r) g a = a
gather_or_agreed (Gather r f) g a = a
gather_or_agreed (Agreed r k) g a = g

pub agreed_stands : AgreedStands
unfolding seen_by begun_by reported_by packed_by rewound_by released_by noted
agreed_stands c (Sees other) may is not = record { round = refl; taking = refl }
agreed_stands c (Begins other k) may is not = record { round = refl; taking = refl }
agreed_stands c (Reports other) may is not = record { round = refl; taking = refl }
agreed_stands c (Packs other) may is not = record { round = refl; taking = refl }
agreed_stands c (Rewinds other base) may is not = record { round = refl; taking = refl }
agreed_stands c (Releases other) may is not = record { round = refl; taking = refl }
agreed_stands c (Opens floor) may is not = absurd (quiet_or_agreed c.round may.0 is)
agreed_stands c (Notes other) may is not = record { round = refl; taking = refl }
agreed_stands c (Agrees taking) may is not = absurd (gather_or_agreed c.round may.0 is)
agreed_stands c Quiets may is not = absurd (not refl)

pub agreed_stands_on : AgreedStandsOn
agreed_stands_on c [] all is none = record { round = refl; taking = refl }
agreed_stands_on c (move ∷ more) all is none =
    let one : Stands c (moved c move) = agreed_stands c move all.0 is none.0 in
    let rest : Stands (moved c move) (after_moves (moved c move) more) = agreed_stands_on (moved c move) more all.1 (subst (λ x. IsAgreed x) (sym one.round) is) none.1 in
    record { round = rest.round ∙ one.round; taking = rest.taking ∙ one.taking }

pub rounds_counted : RoundsAreCounted
unfolding seen_by begun_by reported_by packed_by rewound_by released_by noted opened agreed quieted
rounds_counted c (Sees other) = (refl, refl)
rounds_counted c (Begins other k) = (refl, refl)
rounds_counted c (Reports other) = (refl, refl)
rounds_counted c (Packs other) = (refl, refl)
rounds_counted c (Rewinds other base) = (refl, refl)
rounds_counted c (Releases other) = (refl, refl)
rounds_counted c (Opens floor) = (refl, refl)
rounds_counted c (Notes other) = (refl, refl)
rounds_counted c (Agrees taking) = by (agreement taking c)
  where
    by : (o : Option ℕ) → (number (agreed_on taking c o).round ≡ number c.round) × ((agreed_on taking c o).nodes ≡ c.nodes)
    by None = (refl, refl)
    by (Some k) = (refl, refl)
rounds_counted c Quiets = (refl, refl)

-- Every allowed move of a cut makes a cut.
use Rattle.std.proofs.Common.{◌≡◌, ℕ, zero, suc, ◌+◌, ◌<◌, ◌≤◌, Bool, true, false, cond, List, [], ◌∷◌, ◌++◌, length, map, refl, ap, sym, ◌∙◌, arith, subst, Option, Some, None}
use Rattle.std.specs.Prelude.{◌==◌, IfSome, replicate, slice_index_or, slice_set}
use Rattle.std.specs.List.{AllByRecursion}
use Rattle.std.proofs.lemmas.Bool.{eqb-true}
use Rattle.std.proofs.lemmas.List.{length-append, length-map, length-replicate, length-set}
use Rattle.chare_base.specs.declared.slots.SlotId.{SlotId}
use Rattle.iteration_agree.specs.declared.round.Leave.{Leave}
use Rattle.iteration_agree.specs.declared.round.Leave.TheVariants as leaves
use Rattle.iteration_agree.specs.declared.round.Round.{Round}
use Rattle.iteration_agree.specs.declared.round.Round.TheVariants.{Quiet, Gather, Agreed}
use Rattle.iteration_agree.specs.declared.round.Taking.{Taking}
use Rattle.iteration_agree.specs.declared.round.Taking.TheVariants as takings
use Rattle.iteration_agree.specs.declared.slot.Slot.{Slot}
use Rattle.iteration_agree.specs.Rounds.{IsGather, IsQuiet, last_round, most_iterations, number}
use Rattle.iteration_agree.specs.Slots.{leave, opening_slot, slot_begun, slot_noted, slot_packed, slot_released, slot_reported, slot_rewound, slot_saw, slot_unnoted, went}
use Rattle.iteration_agree.specs.Cuts.{CutState, HasSlot, agreed, agreed_on, all_noted, at_place, begun_by, greatest, noted, opened, opening_cut, opening_slots, packed_by, quieted, released_by, reported_by, rewound_by, seen_by, slot_at, slot_of, slot_place}
use Rattle.iteration_agree.specs.Under.{IsCut, MayPack, MayReport, MayRewind, SmallRound, SmallSlot, Under, UnderSlot}
use Rattle.iteration_agree.proofs.Lists as lists
use Rattle.iteration_agree.proofs.OneSlot.{cap_of}
use Rattle.iteration_agree.proofs.Keeping.{agree_under, begin_under, greatest_most, note_under, open_under, pack_under, quiet_under, release_under, report_under, rewind_under, see_under}

-- ---- places

place_by : (nodes node : ℕ) (b : Bool) → node < nodes → cond b node (nodes + node) < nodes + nodes
place_by nodes node true h = omega (arith, h)
place_by nodes node false h = omega (arith, h)

pub has_place : (c : CutState) (slot : SlotId) → IsCut c → HasSlot c slot → slot_place c.nodes slot < length c.slots
has_place c slot cut has = omega (arith, place_by c.nodes slot.node (slot.replica == 0) has.1, cut.named.long)

-- ---- a slot's moves

begun_small : (k : ℕ) (s : Slot) → k < most_iterations → SmallSlot s → SmallSlot (slot_begun k s)
begun_small k s few small = by (leave s k)
  where
    by : (l : Leave) → SmallSlot (went s k l)
    by (leaves.Hold limit) = small
    by leaves.Go = (omega (arith, few, small.0), small.1)

begun_replica : (k : ℕ) (s : Slot) → (slot_begun k s).replica ≡ s.replica
begun_replica k s = by (leave s k)
  where
    by : (l : Leave) → (went s k l).replica ≡ s.replica
    by (leaves.Hold limit) = refl
    by leaves.Go = refl

noted_small : (round : Round) (s : Slot) → SmallSlot s → SmallSlot (slot_noted round s)
noted_small (Quiet r) s small = small
noted_small (Gather r f) s small = small
noted_small (Agreed r k) s small = small

noted_replica : (round : Round) (s : Slot) → (slot_noted round s).replica ≡ s.replica
noted_replica (Quiet r) s = refl
noted_replica (Gather r f) s = refl
noted_replica (Agreed r k) s = refl

module _ (c : CutState) (i : ℕ) (there : i < length c.slots) (cut : IsCut c) where
  small_here : SmallSlot (slot_at c.slots i)
  small_here = lists.at_place SmallSlot c.slots i (opening_slot 0) cut.small.slots there

  moves : (move : Slot → Slot) → Under (at_place move i c) → SmallSlot (move (slot_at c.slots i)) → (move (slot_at c.slots i)).replica ≡ (slot_at c.slots i).replica → IsCut (at_place move i c)
  moves move under small same = record {
    under = under;
    small = record { nodes = cut.small.nodes; round = cut.small.round; floor = cut.small.floor; slots = lists.all_set SmallSlot c.slots i (move (slot_at c.slots i)) cut.small.slots small };
    named = record {
      long = length-set c.slots i (move (slot_at c.slots i)) ∙ cut.named.long;
      replica = λ slot has. lists.set_same (λ s. s.replica) c.slots i (slot_place c.nodes slot) (move (slot_at c.slots i)) (opening_slot 0) same ∙ cut.named.replica slot has;
    };
  }

  pub see_holds : IsCut (at_place (slot_saw c.round) i c)
  see_holds = moves (slot_saw c.round) (see_under c i there cut.under) small_here refl

  pub begin_holds : (k : ℕ) → k < most_iterations → IsCut (at_place (slot_begun k) i c)
  begin_holds k few = moves (slot_begun k) (begin_under c i there cut.under k) (begun_small k (slot_at c.slots i) few small_here) (begun_replica k (slot_at c.slots i))

  pub report_holds : MayReport (slot_at c.slots i) → IsCut (at_place slot_reported i c)
  report_holds may = moves slot_reported (report_under c i there cut.under may) (small_here.0, small_here.0) refl

  pub pack_holds : MayPack (slot_at c.slots i) → IsCut (at_place slot_packed i c)
  pack_holds may = moves slot_packed (pack_under c i there cut.under may) small_here refl

  pub rewind_holds : (base : ℕ) → MayRewind base (slot_at c.slots i) → IsCut (at_place (slot_rewound base) i c)
  rewind_holds base may = moves (slot_rewound base) (rewind_under c i there cut.under base may) (may.few, small_here.1) refl

  pub release_holds : IsCut (at_place slot_released i c)
  release_holds = moves slot_released (release_under c i there cut.under) small_here refl

  pub note_holds : IsCut (at_place (slot_noted c.round) i c)
  note_holds = moves (slot_noted c.round) (note_under c i there cut.under) (noted_small c.round (slot_at c.slots i) small_here) (noted_replica c.round (slot_at c.slots i))

-- ---- the conductor's moves

number_small : (round : Round) → SmallRound round → number round ≤ last_round
number_small (Quiet r) small = small
number_small (Gather r f) small = small.0
number_small (Agreed r k) small = small.0

pub open_holds : (c : CutState) (floor : ℕ) → IsQuiet c.round → floor ≤ most_iterations → IsCut c → IsCut (opened floor c)
unfolding opened
open_holds c floor quiet few cut = record {
  under = open_under c floor quiet cut.under;
  small = record { nodes = cut.small.nodes; round = (number_small c.round cut.small.round, few); floor = few; slots = cut.small.slots };
  named = record { long = cut.named.long; replica = cut.named.replica };
}

pub quiet_holds : (c : CutState) → number c.round < last_round → IsCut c → IsCut (quieted c)
unfolding quieted
quiet_holds c few cut = record {
  under = quiet_under c cut.under;
  small = record { nodes = cut.small.nodes; round = omega (arith, few); floor = omega arith; slots = lists.all_mapped SmallSlot SmallSlot slot_unnoted c.slots (λ s small. small) cut.small.slots };
  named = record {
    long = length-map c.slots slot_unnoted ∙ cut.named.long;
    replica = λ slot has. lists.mapped_same (λ s. s.replica) slot_unnoted c.slots (slot_place c.nodes slot) (opening_slot 0) (λ s. refl) ∙ cut.named.replica slot has;
  };
}

-- noted caps are small, as the slots' caps are
notes_small : (round : Round) (floor : ℕ) (taking : Taking) (slots : List Slot) → AllByRecursion (UnderSlot round floor taking) slots → AllByRecursion SmallSlot slots → AllByRecursion (λ s. IfSome s.noted (λ n. n ≤ most_iterations)) slots
notes_small round floor taking [] all small = tt
notes_small round floor taking (s ∷ more) all small = (by s.noted refl, notes_small round floor taking more all.1 small.1)
  where
    by : (o : Option ℕ) → s.noted ≡ o → IfSome o (λ n. n ≤ most_iterations)
    by None is = tt
    by (Some n) is =
        let whole : s.cap ≡ Some (cap_of n (number round)) = subst (λ o. IfSome o (λ m. s.cap ≡ Some (cap_of m (number round)))) is all.0.noted in
        subst (λ o. IfSome o (λ c. c.cap ≤ most_iterations)) whole small.0.1

pub agree_holds : (c : CutState) (taking : Taking) → IsGather c.round → IsCut c → IsCut (agreed taking c)
unfolding agreed
agree_holds c taking gather cut = by (all_noted taking c.slots) (agree_under c taking gather cut.under)
  where
    few : greatest c.floor c.slots ≤ most_iterations
    few = greatest_most most_iterations c.floor c.slots cut.small.floor (notes_small c.round c.floor c.taking c.slots cut.under.slots cut.small.slots)

    by : (b : Bool) → Under (agreed_on taking c (cond b (Some (greatest c.floor c.slots)) None)) → IsCut (agreed_on taking c (cond b (Some (greatest c.floor c.slots)) None))
    by false under = cut
    by true under = record {
      under = under;
      small = record { nodes = cut.small.nodes; round = (number_small c.round cut.small.round, few); floor = cut.small.floor; slots = cut.small.slots };
      named = record { long = cut.named.long; replica = cut.named.replica };
    }

-- ---- by name

module _ (c : CutState) (slot : SlotId) (has : HasSlot c slot) (cut : IsCut c) where
  pub seen_holds : IsCut (seen_by slot c)
  unfolding seen_by
  seen_holds = see_holds c (slot_place c.nodes slot) (has_place c slot cut has) cut

  pub begun_holds : (k : ℕ) → k < most_iterations → IsCut (begun_by slot k c)
  unfolding begun_by
  begun_holds k few = begin_holds c (slot_place c.nodes slot) (has_place c slot cut has) cut k few

  pub reported_holds : MayReport (slot_of c slot) → IsCut (reported_by slot c)
  unfolding reported_by
  reported_holds may = report_holds c (slot_place c.nodes slot) (has_place c slot cut has) cut may

  pub packed_holds : MayPack (slot_of c slot) → IsCut (packed_by slot c)
  unfolding packed_by
  packed_holds may = pack_holds c (slot_place c.nodes slot) (has_place c slot cut has) cut may

  pub rewound_holds : (base : ℕ) → MayRewind base (slot_of c slot) → IsCut (rewound_by slot base c)
  unfolding rewound_by
  rewound_holds base may = rewind_holds c (slot_place c.nodes slot) (has_place c slot cut has) cut base may

  pub released_holds : IsCut (released_by slot c)
  unfolding released_by
  released_holds = release_holds c (slot_place c.nodes slot) (has_place c slot cut has) cut

  pub noted_holds : IsCut (noted slot c)
  unfolding noted
  noted_holds = note_holds c (slot_place c.nodes slot) (has_place c slot cut has) cut

-- ---- the opening

opening_under : (replica : ℕ) → UnderSlot (Quiet 0) 0 takings.Both (opening_slot replica)
opening_under replica = record { seen = omega arith; reported = tt; loud = tt; parked = λ held. tt; same = λ at. tt; noted = tt; here = (tt, λ at. tt) }

opening_small : (replica : ℕ) → SmallSlot (opening_slot replica)
opening_small replica = (omega arith, tt)

in_front : (n i : ℕ) (s : Slot) (more : List Slot) → i < n → slot_at (replicate n s ++ more) i ≡ s
in_front zero i s more h = absurd (omega (arith, h))
in_front (suc n) zero s more h = refl
in_front (suc n) (suc i) s more h = in_front n i s more (omega (arith, h))

past_front : (n i j : ℕ) (s : Slot) (more : List Slot) → i ≡ n + j → slot_at (replicate n s ++ more) i ≡ slot_at more j
past_front zero i j s more is = let same : i ≡ j = omega (arith, is) in ap (slot_at more) same
past_front (suc n) zero j s more is = absurd (omega (arith, is))
past_front (suc n) (suc i) j s more is = past_front n i j s more (omega (arith, is))

at_once : (n i : ℕ) (s : Slot) → i < n → slot_at (replicate n s) i ≡ s
at_once zero i s h = absurd (omega (arith, h))
at_once (suc n) zero s h = refl
at_once (suc n) (suc i) s h = at_once n i s (omega (arith, h))

pub opening_holds : (nodes : ℕ) → nodes ≤ 32 → IsCut (opening_cut nodes)
unfolding opening_cut
opening_holds nodes few = record {
  under = record {
    slots = lists.all_behind (UnderSlot (Quiet 0) 0 takings.Both) (replicate nodes (opening_slot 0)) (replicate nodes (opening_slot 1))
        (lists.all_replicate (UnderSlot (Quiet 0) 0 takings.Both) nodes (opening_slot 0) (opening_under 0)) (lists.all_replicate (UnderSlot (Quiet 0) 0 takings.Both) nodes (opening_slot 1) (opening_under 1));
    round = tt;
  };
  small = record {
    nodes = few;
    round = omega arith;
    floor = omega arith;
    slots = lists.all_behind SmallSlot (replicate nodes (opening_slot 0)) (replicate nodes (opening_slot 1))
        (lists.all_replicate SmallSlot nodes (opening_slot 0) (opening_small 0)) (lists.all_replicate SmallSlot nodes (opening_slot 1) (opening_small 1));
  };
  named = record {
    long = omega (arith, length-append (replicate nodes (opening_slot 0)) (replicate nodes (opening_slot 1)), length-replicate nodes (opening_slot 0), length-replicate nodes (opening_slot 1));
    replica = λ slot has. by slot (slot.replica == 0) refl has.0 has.1;
  };
}
  where
    by : (slot : SlotId) (b : Bool) → (slot.replica == 0) ≡ b → slot.replica ≤ 1 → slot.node < nodes → (slot_at (opening_slots nodes) (cond b slot.node (nodes + slot.node))).replica ≡ slot.replica
    by slot true h one low = ap (λ s. s.replica) (in_front nodes slot.node (opening_slot 0) (replicate nodes (opening_slot 1)) low) ∙ sym (eqb-true slot.replica 0 h)
    by slot false h one low =
        ap (λ s. s.replica) (past_front nodes (nodes + slot.node) slot.node (opening_slot 0) (replicate nodes (opening_slot 1)) refl ∙ at_once nodes slot.node (opening_slot 1) low) ∙ sym (other slot.replica h one)
      where
        other : (r : ℕ) → (r == 0) ≡ false → r ≤ 1 → r ≡ 1
        other zero h le = absurd cc
        other (suc r) h le = omega (arith, le)

-- ---- as the code has them

-- the slot at a place was moved
pub closes : (c : CutState) (slot : SlotId) (place : ℕ) (move : Slot → Slot) (value new : Slot) → place ≡ slot_place c.nodes slot → HasSlot c slot → IsCut c → value ≡ slice_index_or c.slots place value → new ≡ move value →
    ((i : ℕ) → i < length c.slots → i ≡ slot_place c.nodes slot → IsCut (at_place move i c)) → IsCut (record { nodes = c.nodes; round = c.round; floor = c.floor; taking = c.taking; slots = slice_set c.slots place new })
closes c slot place move value new at has cut stands is holds =
    let there : place < length c.slots = omega (arith, at, has_place c slot cut has) in
    let here : new ≡ move (slot_at c.slots place) = is ∙ ap move (lists.same_default c.slots place value (opening_slot 0) there stands) in
    subst (λ x. IsCut (record { nodes = c.nodes; round = c.round; floor = c.floor; taking = c.taking; slots = slice_set c.slots place x })) (sym here) (holds place there at)

pub agree_closes : (c : CutState) (taking : Taking) (n k : ℕ) → IsGather c.round → IsCut c → all_noted taking c.slots ≡ true → n ≡ number c.round → k ≡ greatest c.floor c.slots →
    IsCut (record { nodes = c.nodes; round = Agreed n k; floor = c.floor; taking = taking; slots = c.slots })
unfolding agreed
agree_closes c taking n k gather cut all is most =
    let whole : IsCut (agreed_on taking c (cond (all_noted taking c.slots) (Some (greatest c.floor c.slots)) None)) = agree_holds c taking gather cut in
    let there : IsCut (agreed_on taking c (Some (greatest c.floor c.slots))) = subst (λ b. IsCut (agreed_on taking c (cond b (Some (greatest c.floor c.slots)) None))) all whole in
    subst (λ m. IsCut (record { nodes = c.nodes; round = Agreed m k; floor = c.floor; taking = taking; slots = c.slots })) (sym is)
    (subst (λ m. IsCut (record { nodes = c.nodes; round = Agreed (number c.round) m; floor = c.floor; taking = taking; slots = c.slots })) (sym most) there)

pub quiet_closes : (c : CutState) (n : ℕ) (slots : List Slot) → number c.round < last_round → IsCut c → n ≡ number c.round → slots ≡ map slot_unnoted c.slots → IsCut (record { nodes = c.nodes; round = Quiet (n + 1); floor = 0; taking = c.taking; slots = slots })
unfolding quieted
quiet_closes c n slots few cut is same =
    subst (λ m. IsCut (record { nodes = c.nodes; round = Quiet (m + 1); floor = 0; taking = c.taking; slots = slots })) (sym is)
    (subst (λ x. IsCut (record { nodes = c.nodes; round = Quiet (number c.round + 1); floor = 0; taking = c.taking; slots = x })) (sym same) (quiet_holds c few cut))

pub start_closes : (nodes : ℕ) (slots : List Slot) → nodes ≤ 32 → slots ≡ opening_slots nodes → IsCut (record { nodes = nodes; round = Quiet 0; floor = 0; taking = takings.Both; slots = slots })
unfolding opening_cut
start_closes nodes slots few same = subst (λ x. IsCut (record { nodes = nodes; round = Quiet 0; floor = 0; taking = takings.Both; slots = x })) (sym same) (opening_holds nodes few)

pub open_closes : (c : CutState) (n floor : ℕ) → IsQuiet c.round → floor ≤ most_iterations → IsCut c → n ≡ number c.round → IsCut (record { nodes = c.nodes; round = Gather n floor; floor = floor; taking = c.taking; slots = c.slots })
unfolding opened
open_closes c n floor quiet few cut is = subst (λ m. IsCut (record { nodes = c.nodes; round = Gather m floor; floor = floor; taking = c.taking; slots = c.slots })) (sym is) (open_holds c floor quiet few cut)

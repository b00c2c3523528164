-- Every move keeps what holds of the agreement.
use Rattle.std.proofs.Common.{◌≡◌, ℕ, zero, suc, ◌+◌, ◌<◌, ◌≤◌, Bool, true, false, cond, List, [], ◌∷◌, length, refl, ap, sym, ◌∙◌, arith, subst, Option, Some, None}
use Rattle.std.specs.Prelude.{◌&&◌, ◌||◌, not, max, is_some, unwrap_or, IfSome, IsSome, slice_set}
use Rattle.std.specs.List.{AllByRecursion}
use Rattle.iteration_agree.specs.declared.round.Leave.{Leave}
use Rattle.iteration_agree.specs.declared.round.Leave.TheVariants as leaves
use Rattle.iteration_agree.specs.declared.round.Round.{Round}
use Rattle.iteration_agree.specs.declared.round.Round.TheVariants.{Quiet, Gather, Agreed}
use Rattle.iteration_agree.specs.declared.round.Taking.{Taking}
use Rattle.iteration_agree.specs.declared.slot.Cap.{Cap}
use Rattle.iteration_agree.specs.declared.slot.Slot.{Slot}
use Rattle.iteration_agree.specs.Rounds.{IsGather, IsQuiet, number, takes_part}
use Rattle.iteration_agree.specs.Slots.{leave, opening_slot, slot_begun, slot_noted, slot_packed, slot_released, slot_reported, slot_rewound, slot_saw, slot_unnoted, went}
use Rattle.iteration_agree.specs.Cuts.{CutState, agreed, agreed_on, all_noted, at_place, greatest, is_noted, noted, opened, quieted, slot_at}
use Rattle.iteration_agree.specs.Under.{MayPack, MayReport, MayRewind, RoundIs, SeenAs, Under, UnderSlot}
use Rattle.iteration_agree.proofs.Lists as lists
use Rattle.iteration_agree.proofs.OneSlot.{Below, begun_under, cap_of, no_some, noted_under, packed_under, released_under, reported_under, rewound_under, saw_under}

-- ---- the greatest cap

pub greatest_first : (k : ℕ) (slots : List Slot) → k ≤ greatest k slots
greatest_first k [] = omega arith
greatest_first k (s ∷ more) = omega (arith, greatest_first (max k (unwrap_or s.noted 0)) more)

some_few : (o : Option ℕ) (k : ℕ) → unwrap_or o 0 ≤ k → IfSome o (λ n. n ≤ k)
some_few None k h = tt
some_few (Some n) k h = h

pub greatest_all : (k : ℕ) (slots : List Slot) → AllByRecursion (λ s. IfSome s.noted (λ n. n ≤ greatest k slots)) slots
greatest_all k [] = tt
greatest_all k (s ∷ more) =
    (some_few s.noted (greatest (max k (unwrap_or s.noted 0)) more) (omega (arith, greatest_first (max k (unwrap_or s.noted 0)) more)), greatest_all (max k (unwrap_or s.noted 0)) more)

greatest_set : (k : ℕ) (slots : List Slot) (i : ℕ) (x : Slot) → x.noted ≡ (slot_at slots i).noted → greatest k (slice_set slots i x) ≡ greatest k slots
greatest_set k [] i x same = refl
greatest_set k (s ∷ more) zero x same = ap (λ o. greatest (max k (unwrap_or o 0)) more) same
greatest_set k (s ∷ more) (suc i) x same = greatest_set (max k (unwrap_or s.noted 0)) more i x same

noted_most : (big n k : ℕ) (o : Option ℕ) → k ≤ big → (IfSome o (λ m. m ≤ big)) → n ≡ max k (unwrap_or o 0) → n ≤ big
noted_most big n k None le h is = omega (arith, le, is)
noted_most big n k (Some m) le h is = omega (arith, le, h, is)

-- at most what bounds the first number and all noted caps
pub greatest_most : (big k : ℕ) (slots : List Slot) → k ≤ big → AllByRecursion (λ s. IfSome s.noted (λ n. n ≤ big)) slots → greatest k slots ≤ big
greatest_most big k [] le all = le
greatest_most big k (s ∷ more) le all = greatest_most big (max k (unwrap_or s.noted 0)) more (noted_most big (max k (unwrap_or s.noted 0)) k s.noted le all.0 refl) all.1

-- ---- a slot's move

round_set : (round : Round) (floor : ℕ) (slots : List Slot) (i : ℕ) (x : Slot) → x.noted ≡ (slot_at slots i).noted → RoundIs round floor slots → RoundIs round floor (slice_set slots i x)
round_set (Quiet r) floor slots i x same is = tt
round_set (Gather r f) floor slots i x same is = is
round_set (Agreed r k) floor slots i x same is = is ∙ sym (greatest_set floor slots i x same)

pub begun_noted : (k : ℕ) (s : Slot) → (slot_begun k s).noted ≡ s.noted
begun_noted k s = by (leave s k)
  where
    by : (l : Leave) → (went s k l).noted ≡ s.noted
    by (leaves.Hold limit) = refl
    by leaves.Go = refl

module _ (c : CutState) (i : ℕ) (there : i < length c.slots) (under : Under c) where
  pub one : UnderSlot c.round c.floor c.taking (slot_at c.slots i)
  one = lists.at_place (UnderSlot c.round c.floor c.taking) c.slots i (opening_slot 0) under.slots there

  pub below_round : (round : Round) → RoundIs round c.floor c.slots → Below round c.floor (slot_at c.slots i)
  below_round (Quiet r) is = tt
  below_round (Gather r f) is = tt
  below_round (Agreed r k) is = (
    omega (arith, is, greatest_first c.floor c.slots),
    subst (λ n. IfSome (slot_at c.slots i).noted (λ m. m ≤ n)) (sym is)
        (lists.at_place (λ s. IfSome s.noted (λ n. n ≤ greatest c.floor c.slots)) c.slots i (opening_slot 0) (greatest_all c.floor c.slots) there),
  )

  moves : (move : Slot → Slot) → UnderSlot c.round c.floor c.taking (move (slot_at c.slots i)) → (move (slot_at c.slots i)).noted ≡ (slot_at c.slots i).noted → Under (at_place move i c)
  moves move new same = record {
    slots = lists.all_set (UnderSlot c.round c.floor c.taking) c.slots i (move (slot_at c.slots i)) under.slots new;
    round = round_set c.round c.floor c.slots i (move (slot_at c.slots i)) same under.round;
  }

  floor_of : (round : Round) → RoundIs round c.floor c.slots → (r f : ℕ) → round ≡ Gather r f → f ≡ c.floor
  floor_of (Quiet n) is r f h = absurd cc
  floor_of (Agreed n k) is r f h = absurd cc
  floor_of (Gather n j) is r f h = let same : j ≡ f = cc in sym same ∙ is

  pub see_under : Under (at_place (slot_saw c.round) i c)
  see_under = moves (slot_saw c.round) (saw_under c.floor c.taking c.round (slot_at c.slots i) (floor_of c.round under.round) one) refl

  pub begin_under : (k : ℕ) → Under (at_place (slot_begun k) i c)
  begin_under k = moves (slot_begun k) (begun_under c.floor c.taking k c.round (slot_at c.slots i) one (below_round c.round under.round)) (begun_noted k (slot_at c.slots i))

  pub report_under : MayReport (slot_at c.slots i) → Under (at_place slot_reported i c)
  report_under may = moves slot_reported (reported_under c.floor c.taking c.round (slot_at c.slots i) may one) refl

  pub pack_under : MayPack (slot_at c.slots i) → Under (at_place slot_packed i c)
  pack_under may = moves slot_packed (packed_under c.floor c.taking c.round (slot_at c.slots i) may one) refl

  pub rewind_under : (base : ℕ) → MayRewind base (slot_at c.slots i) → Under (at_place (slot_rewound base) i c)
  rewind_under base may = moves (slot_rewound base) (rewound_under c.floor c.taking base c.round (slot_at c.slots i) may one (below_round c.round under.round)) refl

  pub release_under : Under (at_place slot_released i c)
  release_under = moves slot_released (released_under c.floor c.taking c.round (slot_at c.slots i) one) refl

  -- the conductor's note
  note_round : (round : Round) → RoundIs round c.floor c.slots → RoundIs round c.floor (slice_set c.slots i (slot_noted round (slot_at c.slots i)))
  note_round (Quiet r) is = tt
  note_round (Gather r f) is = is
  note_round (Agreed r k) is = is ∙ sym (greatest_set c.floor c.slots i (slot_at c.slots i) refl)

  pub note_under : Under (at_place (slot_noted c.round) i c)
  note_under = record {
    slots = lists.all_set (UnderSlot c.round c.floor c.taking) c.slots i (slot_noted c.round (slot_at c.slots i)) under.slots (noted_under c.floor c.taking c.round (slot_at c.slots i) one);
    round = note_round c.round under.round;
  }

-- ---- the conductor's other moves

quiet_as : (round : Round) (floor : ℕ) (seen : Round) → IsQuiet seen → SeenAs round floor seen
quiet_as round floor (Quiet n) q = tt
quiet_as round floor (Gather n f) q = absurd q
quiet_as round floor (Agreed n k) q = absurd q

pub open_under : (c : CutState) (floor : ℕ) → IsQuiet c.round → Under c → Under (opened floor c)
unfolding opened
open_under c floor quiet under = record {
  slots = lists.all_to (UnderSlot c.round c.floor c.taking) (UnderSlot (Gather (number c.round) floor) floor c.taking) c.slots (each c.round quiet) under.slots;
  round = refl;
}
  where
    none_yet : (r top : ℕ) (cap : Option Cap) → IfSome cap (λ x. x.round < r) → IfSome cap (λ x. x.round ≡ r → top ≤ max x.cap floor)
    none_yet r top None h = tt
    none_yet r top (Some x) h = λ at. absurd (omega (arith, h, at))

    each : (round : Round) → IsQuiet round → (s : Slot) → UnderSlot round c.floor c.taking s → UnderSlot (Gather (number round) floor) floor c.taking s
    each (Gather r f) q s u = absurd q
    each (Agreed r k) q s u = absurd q
    each (Quiet r) q s u = record {
      seen = u.seen;
      reported = u.reported;
      loud = u.loud;
      parked = u.parked;
      same = λ at. quiet_as (Gather r floor) floor s.seen (u.here.1 at);
      noted = u.noted;
      here = none_yet r s.top s.cap u.here.0;
    }

pub quiet_under : (c : CutState) → Under c → Under (quieted c)
unfolding quieted
quiet_under c under = record {
  slots = lists.all_mapped (UnderSlot c.round c.floor c.taking) (UnderSlot (Quiet (number c.round + 1)) 0 c.taking) slot_unnoted c.slots each under.slots;
  round = tt;
}
  where
    lower : (n m : ℕ) (cap : Option Cap) → IfSome cap (λ x. x.round ≤ n) → n ≤ m → IfSome cap (λ x. x.round < m + 1)
    lower n m None h le = tt
    lower n m (Some x) h le = omega (arith, h, le)

    each : (s : Slot) → UnderSlot c.round c.floor c.taking s → UnderSlot (Quiet (number c.round + 1)) 0 c.taking (slot_unnoted s)
    each s u = record {
      seen = omega (arith, u.seen);
      reported = u.reported;
      loud = u.loud;
      parked = u.parked;
      same = λ at. absurd (omega (arith, at, u.seen));
      noted = tt;
      here = (lower (number s.seen) (number c.round) s.cap u.reported u.seen, λ at. absurd (omega (arith, at, u.seen)));
    }

first : (a b : Bool) → (a && b) ≡ true → a ≡ true
first true b h = refl
first false b h = absurd cc

second : (a b : Bool) → (a && b) ≡ true → b ≡ true
second true b h = h
second false b h = absurd cc

module _ (r f floor big : ℕ) (before taking : Taking) (fits : floor ≤ big) where
  agreed_slot : (s : Slot) → UnderSlot (Gather r f) floor before s → is_noted taking s ≡ true → IfSome s.noted (λ n. n ≤ big) → UnderSlot (Agreed r big) floor taking s
  agreed_slot s u noted few = record {
    seen = u.seen;
    reported = u.reported;
    loud = u.loud;
    parked = u.parked;
    same = λ at. as_agreed s.seen (u.same at);
    noted = u.noted;
    here = λ part. (some part, top s.noted refl (some part));
  }
    where
      as_agreed : (seen : Round) → SeenAs (Gather r f) floor seen → SeenAs (Agreed r big) floor seen
      as_agreed (Quiet n) h = tt
      as_agreed (Gather n j) h = h
      as_agreed (Agreed n j) h = absurd cc

      needs : (part some : Bool) → part ≡ true → (not part || some) ≡ true → some ≡ true
      needs true some is h = h
      needs false some is h = absurd cc

      some : takes_part taking s.replica ≡ true → IsSome s.noted
      some part = needs (takes_part taking s.replica) (is_some s.noted) part noted

      top : (o : Option ℕ) → s.noted ≡ o → IsSome s.noted → s.top ≤ big
      top None is h = absurd (no_some s.noted h is)
      top (Some n) is h =
          let whole : s.cap ≡ Some (cap_of n r) = subst (λ o. IfSome o (λ m. s.cap ≡ Some (cap_of m r))) is u.noted in
          let low : r ≡ r → s.top ≤ max n floor = subst (λ o. IfSome o (λ x. x.round ≡ r → s.top ≤ max x.cap floor)) whole u.here in
          let small : n ≤ big = subst (λ o. IfSome o (λ m. m ≤ big)) is few in
          omega (arith, low refl, small, fits)

  agreed_slots : (slots : List Slot) → AllByRecursion (UnderSlot (Gather r f) floor before) slots → all_noted taking slots ≡ true → AllByRecursion (λ s. IfSome s.noted (λ n. n ≤ big)) slots →
      AllByRecursion (UnderSlot (Agreed r big) floor taking) slots
  agreed_slots [] all noted few = tt
  agreed_slots (s ∷ more) all noted few =
      (agreed_slot s all.0 (first (is_noted taking s) (all_noted taking more) noted) few.0, agreed_slots more all.1 (second (is_noted taking s) (all_noted taking more) noted) few.1)

pub agree_under : (c : CutState) (taking : Taking) → IsGather c.round → Under c → Under (agreed taking c)
unfolding agreed
agree_under c taking gather under = by (all_noted taking c.slots) refl
  where
    big : ℕ
    big = greatest c.floor c.slots

    each : (round : Round) → IsGather round → AllByRecursion (UnderSlot round c.floor c.taking) c.slots → all_noted taking c.slots ≡ true → AllByRecursion (UnderSlot (Agreed (number round) (greatest c.floor c.slots)) c.floor taking) c.slots
    each (Quiet r) g all noted = absurd g
    each (Agreed r k) g all noted = absurd g
    each (Gather r f) g all noted = agreed_slots r f c.floor (greatest c.floor c.slots) c.taking taking (greatest_first c.floor c.slots) c.slots all noted (greatest_all c.floor c.slots)

    by : (b : Bool) → all_noted taking c.slots ≡ b → Under (agreed_on taking c (cond b (Some (greatest c.floor c.slots)) None))
    by false h = under
    by true h = record { slots = each c.round gather under.slots h; round = refl }

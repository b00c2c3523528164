-- What follows for every agreement.
use Rattle.std.proofs.Common.{◌≡◌, ℕ, zero, suc, ◌-◌, ◌<◌, ◌≤◌, Bool, true, false, cond, List, [], ◌∷◌, length, refl, ap, sym, ◌∙◌, arith, subst, Option, Some, None, inl, inr}
use Rattle.std.specs.Prelude.{◌&&◌, ◌||◌, ◌⊎◌, not, is_none, is_some, max, nat_le, nat_lt, unwrap_or, IfSome}
use Rattle.std.specs.List.{AllByRecursion}
use Rattle.std.proofs.lemmas.Bool.{leb-true, ltb-true}
use Rattle.std.proofs.lemmas.Bool.Decides.{nat_tests}
use Rattle.chare_base.specs.declared.slots.SlotId.{SlotId}
use Rattle.iteration_agree.specs.declared.round.Leave.{Leave}
use Rattle.iteration_agree.specs.declared.round.Leave.TheVariants as leaves
use Rattle.iteration_agree.specs.declared.round.Round.{Round}
use Rattle.iteration_agree.specs.declared.round.Round.TheVariants.{Quiet, Gather, Agreed}
use Rattle.iteration_agree.specs.declared.round.Taking.{Taking}
use Rattle.iteration_agree.specs.declared.slot.Cap.{Cap}
use Rattle.iteration_agree.specs.declared.slot.Slot.{Slot}
use Rattle.iteration_agree.specs.Rounds.{number, takes_part}
use Rattle.iteration_agree.specs.Slots.{cap_in, leave, leave_at, limit, limit_seen, opening_slot, slot_begun, slot_noted, slot_packed, slot_released, slot_reported, slot_rewound, slot_saw, slot_unnoted, went}
use Rattle.iteration_agree.specs.Cuts.{CutState, HasSlot, agreed, agreed_on, agreement, all_noted, at_place, begun_by, greatest, is_noted, noted, opened, opening_cut, packed_by, quieted, released_by, reported_by, rewound_by, seen_by, slot_at, slot_of, slot_place}
use Rattle.iteration_agree.specs.Under.{IsCut, MayPack, RoundIs, SawAgreed, SeenAs, UnderSlot}
use Rattle.iteration_agree.specs.Moves.{AllAllowed, Agrees, Allowed, Begins, Move, Notes, Opens, Packs, Quiets, Releases, Reports, Rewinds, Sees, after_moves, moved}
use Rattle.iteration_agree.specs.Laws.{AgreedIsGreatest, AgreesOnGreatest, AgreesUnlessMissing, EveryCutHolds, HoldsExactly, IsGreatest, IsNoted, Misses, MovesKeep, NoneIsBegun, PackedWaits, StartIsCut, Stays, TakesPart, TopsStayBelow, Waits}
use Rattle.iteration_agree.proofs.Lists as lists
use Rattle.iteration_agree.proofs.OneSlot.{Below, cap_is, cap_of, go_below, limit_agreed, below, slot}
use Rattle.iteration_agree.proofs.Keeping.{below_round, greatest_all, greatest_first, one}
use Rattle.iteration_agree.proofs.Holding.{agree_holds, begun_holds, has_place, noted_holds, open_holds, opening_holds, packed_holds, quiet_holds, released_holds, reported_holds, rewound_holds, seen_holds}
use Rattle.iteration_agree.proofs.Changing.{at_or_away, each_slot_moves, rounds_counted}

-- ---- every cut

pub start_is_cut : StartIsCut
start_is_cut = opening_holds

pub moves_keep : MovesKeep
moves_keep c (Sees slot) cut may = seen_holds c slot may cut
moves_keep c (Begins slot k) cut may = begun_holds c slot may.0 cut k may.1.few
moves_keep c (Reports slot) cut may = reported_holds c slot may.0 cut may.1
moves_keep c (Packs slot) cut may = packed_holds c slot may.0 cut may.1
moves_keep c (Rewinds slot base) cut may = rewound_holds c slot may.0 cut base may.1
moves_keep c (Releases slot) cut may = released_holds c slot may.0 cut
moves_keep c (Opens floor) cut may = open_holds c floor may.0 may.1 cut
moves_keep c (Notes slot) cut may = noted_holds c slot may cut
moves_keep c (Agrees taking) cut may = agree_holds c taking may.0 cut
moves_keep c Quiets cut may = quiet_holds c may.1 cut

after_holds : (c : CutState) (moves : List Move) → IsCut c → AllAllowed c moves → IsCut (after_moves c moves)
after_holds c [] cut all = cut
after_holds c (move ∷ more) cut all = after_holds (moved c move) more (moves_keep c move cut all.0) all.1

pub every_cut_holds : EveryCutHolds
every_cut_holds nodes moves few all = after_holds (opening_cut nodes) moves (opening_holds nodes few) all

-- ---- slots at places

-- a slot at each place
record SlotAt (c : CutState) (i : ℕ) : Type 0 where
  slot : SlotId
  has : HasSlot c slot
  place : slot_place c.nodes slot ≡ i

named_at : (c : CutState) (i : ℕ) → IsCut c → i < length c.slots → SlotAt c i
named_at c i cut low = by (nat_lt i c.nodes) refl
  where
    by : (b : Bool) → nat_lt i c.nodes ≡ b → SlotAt c i
    by true h = record { slot = record { replica = 0; node = i }; has = (omega arith, ltb-true i c.nodes h); place = refl }
    by false h =
        let high : c.nodes ≤ i = grind (arith, nat_tests, h) in
        record { slot = record { replica = 1; node = i - c.nodes }; has = (omega arith, omega (arith, low, cut.named.long, high)); place = omega (arith, high) }

-- ---- the greatest

-- a place at which this cap is noted
record NotedAt (slots : List Slot) (k : ℕ) : Type 0 where
  place : ℕ
  there : place < length slots
  cap : (slot_at slots place).noted ≡ Some k

behind : (s : Slot) (slots : List Slot) (k : ℕ) → NotedAt slots k → NotedAt (s ∷ slots) k
behind s slots k at = record { place = suc at.place; there = omega (arith, at.there); cap = at.cap }

greater : (k : ℕ) (o : Option ℕ) → (max k (unwrap_or o 0) ≡ k) ⊎ (o ≡ Some (max k (unwrap_or o 0)))
greater k None = inl (omega arith)
greater k (Some n) = by (nat_le n k) refl
  where
    by : (b : Bool) → nat_le n k ≡ b → (max k n ≡ k) ⊎ (Some n ≡ Some (max k n))
    by true h = inl (let le : n ≤ k = leb-true n k h in omega (arith, le))
    by false h = let lt : k < n = grind (arith, nat_tests, h) in let same : n ≡ max k n = omega (arith, lt) in inr (ap (λ (m : ℕ). Some m) same)

greatest_one : (k : ℕ) (slots : List Slot) → (greatest k slots ≡ k) ⊎ NotedAt slots (greatest k slots)
greatest_one k [] = inl refl
greatest_one k (s ∷ more) = by (greatest_one (max k (unwrap_or s.noted 0)) more) (greater k s.noted)
  where
    m : ℕ
    m = max k (unwrap_or s.noted 0)

    by : (greatest m more ≡ m) ⊎ NotedAt more (greatest m more) → (m ≡ k) ⊎ (s.noted ≡ Some m) → (greatest m more ≡ k) ⊎ NotedAt (s ∷ more) (greatest m more)
    by (inr at) which = inr (behind s more (greatest m more) at)
    by (inl same) (inl low) = inl (same ∙ low)
    by (inl same) (inr here) = inr (record { place = 0; there = omega arith; cap = here ∙ ap (λ (n : ℕ). Some n) (sym same) })

pub is_greatest : (c : CutState) → IsCut c → IsGreatest (greatest c.floor c.slots) c
is_greatest c cut = record {
  floor = greatest_first c.floor c.slots;
  caps = λ slot has. lists.at_place (λ s. IfSome s.noted (λ n. n ≤ greatest c.floor c.slots)) c.slots (slot_place c.nodes slot) (opening_slot 0) (greatest_all c.floor c.slots) (has_place c slot cut has);
  one = by (greatest_one c.floor c.slots);
}
  where
    by : (greatest c.floor c.slots ≡ c.floor) ⊎ NotedAt c.slots (greatest c.floor c.slots) → (greatest c.floor c.slots ≡ c.floor) ⊎ IsNoted (greatest c.floor c.slots) c
    by (inl same) = inl same
    by (inr at) =
        let name : SlotAt c at.place = named_at c at.place cut at.there in
        inr (record { slot = name.slot; has = name.has; cap = ap (λ i. (slot_at c.slots i).noted) name.place ∙ at.cap })

pub agreed_is_greatest : AgreedIsGreatest
agreed_is_greatest c r k cut is = subst (λ n. IsGreatest n c) (sym (by c.round is cut.under.round)) (is_greatest c cut)
  where
    by : (round : Round) → round ≡ Agreed r k → RoundIs round c.floor c.slots → k ≡ greatest c.floor c.slots
    by (Quiet n) is h = absurd cc
    by (Gather n f) is h = absurd cc
    by (Agreed n j) is h = let same : j ≡ k = cc in sym same ∙ h

pub agrees_on_greatest : AgreesOnGreatest
agrees_on_greatest c taking cut = by (all_noted taking c.slots)
  where
    by : (b : Bool) → IfSome (cond b (Some (greatest c.floor c.slots)) None) (λ k. IsGreatest k c)
    by true = is_greatest c cut
    by false = tt

-- a place of a slot that takes part and isn't noted
record MissingAt (taking : Taking) (slots : List Slot) : Type 0 where
  place : ℕ
  there : place < length slots
  part : takes_part taking (slot_at slots place).replica ≡ true
  unnoted : (slot_at slots place).noted ≡ None

not_noted : (taking : Taking) (s : Slot) → is_noted taking s ≡ false → (takes_part taking s.replica ≡ true) × (s.noted ≡ None)
not_noted taking s h = by (takes_part taking s.replica) s.noted refl refl h
  where
    by : (p : Bool) (o : Option ℕ) → takes_part taking s.replica ≡ p → s.noted ≡ o → (not p || is_some o) ≡ false → (takes_part taking s.replica ≡ true) × (s.noted ≡ None)
    by true None a b h = (a, b)
    by true (Some n) a b h = absurd cc
    by false None a b h = absurd cc
    by false (Some n) a b h = absurd cc

missing_at : (taking : Taking) (slots : List Slot) → all_noted taking slots ≡ false → MissingAt taking slots
missing_at taking [] h = absurd cc
missing_at taking (s ∷ more) h = by (is_noted taking s) refl h (λ rest. missing_at taking more rest)
  where
    next : MissingAt taking more → MissingAt taking (s ∷ more)
    next at = record { place = suc at.place; there = omega (arith, at.there); part = at.part; unnoted = at.unnoted }

    by : (b : Bool) → is_noted taking s ≡ b → (b && all_noted taking more) ≡ false → (all_noted taking more ≡ false → MissingAt taking more) → MissingAt taking (s ∷ more)
    by true e h rest = next (rest h)
    by false e h rest = let p = not_noted taking s e in record { place = 0; there = omega arith; part = p.0; unnoted = p.1 }

is_missing : (taking : Taking) (slots : List Slot) (i : ℕ) → i < length slots → takes_part taking (slot_at slots i).replica ≡ true → (slot_at slots i).noted ≡ None → all_noted taking slots ≡ false
is_missing taking [] i low part none = absurd (omega (arith, low))
is_missing taking (s ∷ more) zero low part none = ap (λ p. (not p || is_some s.noted) && all_noted taking more) part ∙ ap (λ (o : Option ℕ). is_some o && all_noted taking more) none
is_missing taking (s ∷ more) (suc i) low part none = ap (λ b. is_noted taking s && b) (is_missing taking more i (omega (arith, low)) part none) ∙ never (is_noted taking s)
  where
    never : (b : Bool) → (b && false) ≡ false
    never true = refl
    never false = refl

pub agrees_unless : AgreesUnlessMissing
agrees_unless c taking cut = (λ none. to (all_noted taking c.slots) refl none, from)
  where
    to : (b : Bool) → all_noted taking c.slots ≡ b → cond b (Some (greatest c.floor c.slots)) None ≡ None → Misses taking c
    to true h none = absurd cc
    to false h none =
        let at : MissingAt taking c.slots = missing_at taking c.slots h in
        let name : SlotAt c at.place = named_at c at.place cut at.there in
        record {
          slot = name.slot;
          has = name.has;
          part = ap (λ r. takes_part taking r) (sym (cut.named.replica name.slot name.has) ∙ ap (λ i. (slot_at c.slots i).replica) name.place) ∙ at.part;
          unnoted = ap (λ i. (slot_at c.slots i).noted) name.place ∙ at.unnoted;
        }

    from : Misses taking c → agreement taking c ≡ None
    from m =
        ap (λ b. cond b (Some (greatest c.floor c.slots)) None)
        (is_missing taking c.slots (slot_place c.nodes m.slot) (has_place c m.slot cut m.has) (ap (λ r. takes_part taking r) (cut.named.replica m.slot m.has) ∙ m.part) m.unnoted)

-- ---- nothing is begun at what is agreed

module _ (c : CutState) (r k : ℕ) (slot : SlotId) (cut : IsCut c) (part : TakesPart r k slot c) where
  there : slot_place c.nodes slot < length c.slots
  there = has_place c slot cut part.has

  under_here : UnderSlot (Agreed r k) c.floor c.taking (slot_of c slot)
  under_here = subst (λ x. UnderSlot x c.floor c.taking (slot_of c slot)) part.agreed (one c (slot_place c.nodes slot) (has_place c slot cut part.has) cut.under)

  below_here : Below (Agreed r k) c.floor (slot_of c slot)
  below_here = subst (λ x. Below x c.floor (slot_of c slot)) part.agreed (below_round c (slot_place c.nodes slot) (has_place c slot cut part.has) cut.under c.round cut.under.round)

  takes : takes_part c.taking (slot_of c slot).replica ≡ true
  takes = ap (λ x. takes_part c.taking x) (cut.named.replica slot part.has) ∙ part.part

  top_below : (slot_of c slot).top ≤ k
  top_below = (under_here.here takes).1

  begins_below : (j : ℕ) → leave (slot_of c slot) j ≡ leaves.Go → j < k
  begins_below j go = go_below r k c.floor c.taking (slot_of c slot) j under_here below_here takes go

pub tops_stay_below : TopsStayBelow
tops_stay_below c r k slot cut part = top_below c r k slot cut part

pub none_is_begun : NoneIsBegun
none_is_begun c r k j slot cut part go = begins_below c r k slot cut part j go

-- ---- limits

pub holds_exactly : HoldsExactly
holds_exactly s k l = (λ held. to (limit s) refl held, λ both. from (limit s) both.0 both.1)
  where
    to : (o : Option ℕ) → limit s ≡ o → leave_at o k ≡ leaves.Hold l → (limit s ≡ Some l) × (l ≤ k)
    to None is held = absurd cc
    to (Some n) is held = by (nat_le n k) refl held
      where
        by : (b : Bool) → nat_le n k ≡ b → cond b (leaves.Hold n) leaves.Go ≡ leaves.Hold l → (limit s ≡ Some l) × (l ≤ k)
        by true h e = let same : n ≡ l = cc in (is ∙ ap (λ (m : ℕ). Some m) same, subst (λ m. m ≤ k) same (leb-true n k h))
        by false h e = absurd cc

    from : (o : Option ℕ) → o ≡ Some l → l ≤ k → leave_at o k ≡ leaves.Hold l
    from o is le = ap (λ x. leave_at x k) is ∙ by (nat_le l k) refl
      where
        by : (b : Bool) → nat_le l k ≡ b → cond b (leaves.Hold l) leaves.Go ≡ leaves.Hold l
        by true h = refl
        by false h = absurd (grind (arith, nat_tests, h, le))

-- ---- slots that have packed

abbrev AgreedAtMost : ℕ → Round → Type 0
AgreedAtMost k (Quiet r) = ⊥
AgreedAtMost k (Gather r f) = ⊥
AgreedAtMost k (Agreed r j) = j ≤ k

-- it isn't free, its top is at most k, and where it reported in the round that it last saw, it saw one at most k agreed
record Parked (k : ℕ) (s : Slot) : Type 0 where
  free : s.free ≡ false
  top : s.top ≤ k
  agreed : IfSome s.cap (λ c. c.round ≡ number s.seen → AgreedAtMost k s.seen)

of_cap : (P : Cap → Type 0) (cap : Option Cap) (c : Cap) → cap ≡ Some c → IfSome cap P → P c
of_cap P cap c is h = subst (λ o. IfSome o P) is h

if_cap : (P : Cap → Type 0) (cap : Option Cap) → ((c : Cap) → cap ≡ Some c → P c) → IfSome cap P
if_cap P None to = tt
if_cap P (Some c) to = to c refl

-- a slot by its parts, that isn't free
held_below : (replica top : ℕ) (cap : Option Cap) (packed noted : Option ℕ) (seen : Round) (k j : ℕ) → top ≤ k → IfSome cap (λ c. c.round ≡ number seen → AgreedAtMost k seen) →
    leave (slot replica seen top cap false packed noted) j ≡ leaves.Go → j < k
held_below replica top cap packed noted seen k j low agreed go = by (cap_in (number seen) cap) refl
  where
    s : Slot
    s = slot replica seen top cap false packed noted

    seen_by_it : (seen : Round) (n : ℕ) → cap_in (number seen) cap ≡ Some n → AgreedAtMost k seen → leave (slot replica seen top cap false packed noted) j ≡ leaves.Go → j < k
    seen_by_it (Quiet r) n is most go = absurd most
    seen_by_it (Gather r f) n is most go = absurd most
    seen_by_it (Agreed r i) n is most go = omega (arith, most, below (limit (slot replica (Agreed r i) top cap false packed noted)) i j (limit_agreed replica top cap false packed noted r i n is) go)

    by : (o : Option ℕ) → cap_in (number seen) cap ≡ o → j < k
    by None is =
        let held : limit (slot replica seen top cap false packed noted) ≡ Some top = ap (λ (o : Option ℕ). cond (is_none o) (Some top) (limit_seen (slot replica seen top cap false packed noted) seen)) is in
        omega (arith, low, below (limit (slot replica seen top cap false packed noted)) top j held go)
    by (Some n) is = seen_by_it seen n is (of_cap (λ c. c.round ≡ number seen → AgreedAtMost k seen) cap (cap_of n (number seen)) (cap_is cap (number seen) n is) agreed refl) go

parked_below : (k : ℕ) (s : Slot) (j : ℕ) → Parked k s → leave s j ≡ leaves.Go → j < k
parked_below k s j parked go =
    held_below s.replica s.top s.cap s.packed s.noted s.seen k j parked.top parked.agreed
    (subst (λ f. leave (slot s.replica s.seen s.top s.cap f s.packed s.noted) j ≡ leaves.Go) parked.free go)

waits : (k : ℕ) (s : Slot) → Parked k s → Waits k s
waits k s parked = record { free = parked.free; top = parked.top; begins = λ j go. parked_below k s j parked go }

-- who saw one agreed sees it agreed
most_agreed : (k : ℕ) (round : Round) (floor : ℕ) (seen : Round) → AgreedAtMost k seen → SeenAs round floor seen → AgreedAtMost k round
most_agreed k round floor (Quiet r) most same = absurd most
most_agreed k round floor (Gather r f) most same = absurd most
most_agreed k round floor (Agreed r j) most same = subst (λ x. AgreedAtMost k x) (sym same) most

sees_parked : (k : ℕ) (round : Round) (floor : ℕ) (taking : Taking) (s : Slot) → UnderSlot round floor taking s → Parked k s → Parked k (slot_saw round s)
sees_parked k round floor taking s u parked = record {
  free = parked.free;
  top = parked.top;
  agreed = if_cap (λ c. c.round ≡ number round → AgreedAtMost k round) s.cap (λ c is at.
      let early : c.round ≤ number s.seen = of_cap (λ x. x.round ≤ number s.seen) s.cap c is u.reported in
      let here : number s.seen ≡ number round = omega (arith, early, u.seen, at) in
      most_agreed k round floor s.seen (of_cap (λ x. x.round ≡ number s.seen → AgreedAtMost k s.seen) s.cap c is parked.agreed (at ∙ sym here)) (u.same here));
}

begins_parked : (k j : ℕ) (s : Slot) → Parked k s → Parked k (slot_begun j s)
begins_parked k j s parked = by (leave s j) refl
  where
    by : (l : Leave) → leave s j ≡ l → Parked k (went s j l)
    by (leaves.Hold limit) is = parked
    by leaves.Go is = record { free = parked.free; top = omega (arith, parked.top, parked_below k s j parked is); agreed = parked.agreed }

notes_parked : (k : ℕ) (round : Round) (s : Slot) → Parked k s → Parked k (slot_noted round s)
notes_parked k (Quiet r) s parked = parked
notes_parked k (Gather r f) s parked = record { free = parked.free; top = parked.top; agreed = parked.agreed }
notes_parked k (Agreed r j) s parked = parked

packs_at : (top : ℕ) (seen : Round) → SawAgreed top seen → AgreedAtMost top seen
packs_at top (Quiet r) saw = absurd saw
packs_at top (Gather r f) saw = absurd saw
packs_at top (Agreed r k) saw = omega (arith, saw)

packs_parked : (s : Slot) → MayPack s → Parked s.top (slot_packed s)
packs_parked s may = record { free = refl; top = omega arith; agreed = if_cap (λ c. c.round ≡ number s.seen → AgreedAtMost s.top s.seen) s.cap (λ c is at. packs_at s.top s.seen may) }

unnoted_parked : (k : ℕ) (s : Slot) → Parked k s → Parked k (slot_unnoted s)
unnoted_parked k s parked = record { free = parked.free; top = parked.top; agreed = parked.agreed }

step : (c : CutState) (slot : SlotId) (k : ℕ) (move : Move) → IsCut c → HasSlot c slot → Parked k (slot_of c slot) → Allowed c move → Stays slot k move → Parked k (slot_of (moved c move) slot)
unfolding seen_by begun_by reported_by packed_by rewound_by released_by noted opened agreed quieted
step c slot k move cut has parked = by move
  where
    kept : (mover : SlotId) (move : Slot → Slot) → HasSlot c mover → (mover ≡ slot → Parked k (move (slot_of c slot))) → Parked k (slot_of (at_place move (slot_place c.nodes mover) c) slot)
    kept mover move has_mover here = at_or_away (Parked k) c mover slot move cut has_mover has here parked

    on : (o : Option ℕ) (taking : Taking) → Parked k (slot_of (agreed_on taking c o) slot)
    on None taking = parked
    on (Some n) taking = parked

    by : (move : Move) → Allowed c move → Stays slot k move → Parked k (slot_of (moved c move) slot)
    by (Sees other) may stays = kept other (slot_saw c.round) may (λ same. sees_parked k c.round c.floor c.taking (slot_of c slot) (one c (slot_place c.nodes slot) (has_place c slot cut has) cut.under) parked)
    by (Begins other j) may stays = kept other (slot_begun j) may.0 (λ same. begins_parked k j (slot_of c slot) parked)
    by (Reports other) may stays = kept other slot_reported may.0 (λ same. absurd (let never : true ≡ false = sym may.1.free ∙ ap (λ x. (slot_of c x).free) same ∙ parked.free in cc))
    by (Packs other) may stays = kept other slot_packed may.0 (λ same. record { free = refl; top = parked.top; agreed = parked.agreed })
    by (Rewinds other base) may stays = kept other (slot_rewound base) may.0 (λ same. record { free = parked.free; top = stays same; agreed = parked.agreed })
    by (Releases other) may stays = kept other slot_released may.0 (λ same. absurd (stays same))
    by (Opens floor) may stays = parked
    by (Notes other) may stays = kept other (slot_noted c.round) may (λ same. notes_parked k c.round (slot_of c slot) parked)
    by (Agrees taking) may stays = on (agreement taking c) taking
    by Quiets may stays = subst (Parked k) (sym (lists.mapped_there slot_unnoted c.slots (slot_place c.nodes slot) (opening_slot 0) (has_place c slot cut has))) (unnoted_parked k (slot_of c slot) parked)

has_after : (c : CutState) (slot : SlotId) (move : Move) → HasSlot c slot → HasSlot (moved c move) slot
has_after c slot move has = (has.0, subst (λ n. slot.node < n) (sym (rounds_counted c move).1) has.1)

steps : (c : CutState) (slot : SlotId) (k : ℕ) (moves : List Move) → IsCut c → HasSlot c slot → Parked k (slot_of c slot) → AllAllowed c moves → AllByRecursion (Stays slot k) moves → Parked k (slot_of (after_moves c moves) slot)
steps c slot k [] cut has parked all stays = parked
steps c slot k (move ∷ more) cut has parked all stays =
    steps (moved c move) slot k more (moves_keep c move cut all.0) (has_after c slot move has) (step c slot k move cut has parked all.0 stays.0) all.1 stays.1

pub packed_waits : PackedWaits
packed_waits c slot moves cut has may all stays =
    waits (slot_of c slot).top (slot_of (after_moves (packed_by slot c) moves) slot)
    (steps (packed_by slot c) slot (slot_of c slot).top moves (packed_holds c slot has cut may) (has_after c slot (Packs slot) has)
    (subst (Parked (slot_of c slot).top) (sym (each_slot_moves c slot cut has).packs) (packs_parked (slot_of c slot) may)) all stays)

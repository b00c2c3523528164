-- An event that the conductor has leaves less of the world.
use Rattle.std.proofs.Common.{◌≡◌, ℕ, zero, suc, ◌+◌, ◌-◌, ◌*◌, ◌<◌, ◌≤◌, inl, inr, Bool, true, false, cond, List, [], ◌∷◌, ◌++◌, length, map, refl, ap, sym, ◌∙◌, arith, subst, Option, Some, None, IsSome}
use Rattle.std.specs.Prelude.{◌==◌, ◌&&◌, is_none, is_some, nat_lt, not, replicate, slice_get, slice_index_or, slice_set}
use Rattle.std.specs.List.{list_any}
use Rattle.std.proofs.lemmas.Bool.{ltb-true}
use Rattle.std.proofs.lemmas.Bool.Decides.{nat_tests}
use Rattle.std.proofs.lemmas.Option.{same_Some}
use Rattle.chare_base.specs.declared.options.Options.{Options}
use Rattle.chare_base.specs.declared.slots.SlotId.{SlotId}
use Rattle.buddy_compare.specs.Laws.{EqualExactly}
use Rattle.iteration_agree.specs.declared.round.Round.{Round}
use Rattle.iteration_agree.specs.declared.round.Round.TheVariants as rounds
use Rattle.iteration_agree.specs.declared.round.Sight.{Sight}
use Rattle.iteration_agree.specs.declared.round.Taking.TheVariants as takings
use Rattle.iteration_agree.specs.declared.slot.Slot.{Slot}
use Rattle.iteration_agree.specs.Cuts.{CutState, HasSlot, agreed, agreed_on, agreement, noted, opened, slot_of, slot_place}
use Rattle.iteration_agree.specs.Cuts.{quieted as cut_quieted}
use Rattle.iteration_agree.specs.Laws.{AgreesUnlessMissing, Misses}
use Rattle.iteration_agree.specs.Rounds.{number}
use Rattle.iteration_agree.specs.Slots.{cap_in, opening_slot, sight_of, slot_noted}
use Rattle.iteration_agree.proofs.Changing.{same_slot as same_place}
use Rattle.letter_post.specs.declared.letter.BoxId.TheVariants as boxes
use Rattle.letter_post.specs.declared.letter.Letter.{Letter}
use Rattle.letter_post.specs.declared.letter.Letter.TheVariants as letters
use Rattle.node_core.specs.Costs.{node_left, sum, times}
use Rattle.node_core.proofs.Sums.{sum_append}
use Rattle.run_ledger.specs.Conditions.{due}
use Rattle.run_ledger.specs.Ledgers.{live_set}
use Rattle.conductor_core.specs.declared.wants.CutAnswer.TheVariants as answers
use Rattle.conductor_core.specs.declared.wants.CutMove.{CutMove}
use Rattle.conductor_core.specs.declared.wants.CutMove.TheVariants as moves
use Rattle.conductor_core.specs.declared.wants.Phase.{Phase}
use Rattle.conductor_core.specs.declared.wants.Phase.TheVariants as phases
use Rattle.conductor_core.specs.Conductors.{ConductorState, Heard, conductor_did, conductor_heard, counts, moved, move_in, nodes_of, silent, wanted, with_note, with_sight, with_verdict}
use Rattle.conductor_core.specs.Conductors.{sight_of as last_sight}
use Rattle.conductor_core.specs.Moves.{first_unnoted, gather_move, is_noted, reaches, slot_after, slot_named, slot_or, unnoted_from}
use Rattle.conductor_core.specs.Orders.{letters_to}
use Rattle.conductor_core.specs.Tells.{MoveFits, MovesFit}
use Rattle.world_core.specs.declared.doing.Since.{Since}
use Rattle.world_core.specs.Costs.{agreed_left, begins_left, desk_left, gather_left, going_left, has_news, letter_left, looks_left, moves_left, release_left, report_left, round_left, rounds_left, see_left, sent_left, slot_left, slots_left, unnoted}
use Rattle.world_core.specs.Moves.{is_resumed, same_round}
use Rattle.world_core.specs.Sound.{Sound, names, slot_name}
use Rattle.world_core.specs.Still.{Afloat, IsPlain}
use Rattle.world_core.specs.Worlds.{Setting, WorldState, after_conductor, again, any_news, conductor_made, did_in, in_cut, is_news, number_of, same_cap, saw_in, sight_in, told_by, with_noted}
use Rattle.world_core.proofs.Lowering.{few_names, names_count, report_same}
use Rattle.world_core.proofs.Mailing.{IsNamed, name_is, own_name, same_slot}
use Rattle.world_core.proofs.News.{Follows, any_found, looks_kept, looks_lower, looks_most}
use Rattle.world_core.proofs.Placing.{kept_at}
use Rattle.world_core.proofs.Quieting.{unnoted_of}
use Rattle.world_core.proofs.Seen.{name_at, self_equal, some_of}
use Rattle.world_core.proofs.Settling.{behind, goes_on, settles_on}
use Rattle.world_core.proofs.Weights.{posted_left, sum_mapped, sum_most, sum_same, times_more, times_one}
use Rattle.world_core.proofs.Lists.{long_map}

-- ---- a slot's place, as far as what is left of its moves and its sight go

record SamePart (q t : Slot) : Type 0 where
  seen : q.seen ≡ t.seen
  cap : q.cap ≡ t.cap
  free : q.free ≡ t.free
  top : q.top ≡ t.top

moves_same : (places iterations : ℕ) (round : Round) (since : Since) (q t : Slot) → SamePart q t → moves_left places iterations round since q ≡ moves_left places iterations round since t
moves_same places iterations round since q t same =
    let see : see_left round q ≡ see_left round t = ap (λ r. cond (same_round r round) 0 1) same.seen in
    let report = report_same places round q t same.cap in
    let release : release_left since q ≡ release_left since t = ap (λ b. cond (is_resumed since && not b) 1 0) same.free in
    let begins : begins_left places iterations q ≡ begins_left places iterations t = ap (λ n. times (iterations - n) (suc places)) same.top in
    omega (arith, see, report, release, begins)

sight_same : (round : Round) (q t : Slot) → SamePart q t → sight_of round q ≡ sight_of round t
sight_same round q t same =
    let one : sight_of round q ≡ sight_of round (record q { top = t.top }) = ap (λ m. sight_of round (record q { top = m })) same.top in
    one ∙ ap (λ c. sight_of round (record q { top = t.top; cap = c })) same.cap

-- seeing another round costs one event at most
pub see_few : (round : Round) (t : Slot) → see_left round t ≤ 1
see_few round t = by (same_round t.seen round)
  where
    by : (b : Bool) → cond b 0 1 ≤ 1
    by true = omega arith
    by false = omega arith

report_few : (places : ℕ) (round : Round) (t : Slot) → report_left places round t ≤ suc places
report_few places (rounds.Quiet r) t = omega arith
report_few places (rounds.Agreed r k) t = omega arith
report_few places (rounds.Gather r f) t = by (is_none (cap_in r t.cap))
  where
    by : (b : Bool) → cond b (suc places) 0 ≤ suc places
    by true = omega arith
    by false = omega arith

-- ---- numbers

times_seven : (n : ℕ) → times n 7 ≡ 7 * n
times_seven zero = refl
times_seven (suc n) = let rest = times_seven n in omega (arith, rest)

to_all : (s : Setting) (r n : ℕ) (letter : Letter) → sum (sent_left s.plan s.place) (letters_to r letter n) ≡ times n (letter_left s.plan s.place letter)
to_all s r zero letter = refl
to_all s r (suc j) letter =
    let both = sum_append (sent_left s.plan s.place) (letters_to r letter j) (record { to = boxes.Slot (record { replica = r; node = j }); letter = letter } ∷ []) in
    let rest = to_all s r j letter in
    omega (arith, both, rest)

times_four : (n : ℕ) → times n 4 ≡ 4 * n
times_four zero = refl
times_four (suc n) = let rest = times_four n in omega (arith, rest)

times_two : (n : ℕ) → times n 2 ≡ 2 * n
times_two zero = refl
times_two (suc n) = let rest = times_two n in omega (arith, rest)

-- ---- marks and sights

unmarked : (n : ℕ) → unnoted (replicate n false) ≡ n
unmarked zero = refl
unmarked (suc n) = let rest = unmarked n in omega (arith, rest)

marked_less : (xs : List Bool) (i : ℕ) → i < length xs → slice_index_or xs i false ≡ false → suc (unnoted (slice_set xs i true)) ≡ unnoted xs
marked_less [] i less h = absurd (omega (arith, less))
marked_less (true ∷ more) zero less h = absurd (let q : true ≡ false = h in cc)
marked_less (false ∷ more) zero less h = omega arith
marked_less (x ∷ more) (suc i) less h = let rest = marked_less more i (omega (arith, less)) h in omega (arith, rest)

index_set : {A : Type 0} (xs : List (Option A)) (i : ℕ) (v : A) → i < length xs → slice_index_or (slice_set xs i (Some v)) i None ≡ Some v
index_set [] i v less = absurd (omega (arith, less))
index_set (x ∷ more) zero v less = refl
index_set (x ∷ more) (suc i) v less = index_set more i v (omega (arith, less))

index_away : {A : Type 0} (xs : List (Option A)) (i j : ℕ) (v : A) → (j ≡ i → ⊥) → slice_index_or (slice_set xs i (Some v)) j None ≡ slice_index_or xs j None
index_away [] i j v apart = refl
index_away (x ∷ more) zero zero v apart = absurd (apart refl)
index_away (x ∷ more) zero (suc j) v apart = refl
index_away (x ∷ more) (suc i) zero v apart = refl
index_away (x ∷ more) (suc i) (suc j) v apart = index_away more i j v (λ same. apart (ap suc same))

same_cap_self : (c : Option ℕ) → same_cap c c ≡ true
same_cap_self None = refl
same_cap_self (Some n) = self_equal n

-- what was just seen is no news
not_news : (sight : Sight) → is_news (Some sight) sight ≡ false
not_news sight = ap (λ b. not (b && same_cap sight.cap sight.cap)) (self_equal sight.top) ∙ ap (λ b. not b) (same_cap_self sight.cap)

-- at most a look at each place, to each place
pub looks_most_left : (cut : CutState) (c : ConductorState) → looks_left cut c ≤ times (cut.nodes + cut.nodes) (cut.nodes + cut.nodes)
unfolding looks_left
looks_most_left cut c =
    let long = long_map (has_news cut c) (names cut.nodes) ∙ names_count cut.nodes in
    subst (λ l. looks_left cut c ≤ times l (cut.nodes + cut.nodes)) long (looks_most (cut.nodes + cut.nodes) (slot_place cut.nodes c.next_look) 0 (map (has_news cut c) (names cut.nodes)) (omega (arith, long)))

-- ---- places

place_number : (nodes : ℕ) (slot : SlotId) → slot.replica ≤ 1 → slot_place nodes slot ≡ number_of nodes slot
place_number nodes slot few = by slot.replica few
  where
    by : (r : ℕ) → r ≤ 1 → cond (r == 0) slot.node (nodes + slot.node) ≡ r * nodes + slot.node
    by zero few = omega arith
    by (suc zero) few = omega arith
    by (suc (suc r)) few = absurd (omega (arith, few))

place_after : (nodes : ℕ) (slot : SlotId) → slot.replica ≤ 1 → slot.node < nodes → Follows (nodes + nodes) (slot_place nodes slot) (slot_place nodes (slot_after nodes slot))
place_after nodes slot few less = by slot.replica few (nat_lt (slot.node + 1) nodes) refl
  where
    by : (r : ℕ) → r ≤ 1 → (b : Bool) → nat_lt (slot.node + 1) nodes ≡ b →
        Follows (nodes + nodes) (cond (r == 0) slot.node (nodes + slot.node)) (slot_place nodes (cond b (slot_named r (slot.node + 1)) (slot_named (cond (r == 0) 1 0) 0)))
    by zero few true is = let low : slot.node + 1 < nodes = ltb-true (slot.node + 1) nodes is in inl (omega arith, omega (arith, low))
    by zero few false is = let high : nodes ≤ slot.node + 1 = grind (arith, nat_tests, is) in inl (omega (arith, high, less), omega (arith, less))
    by (suc zero) few true is = let low : slot.node + 1 < nodes = ltb-true (slot.node + 1) nodes is in inl (omega arith, omega (arith, low))
    by (suc zero) few false is = let high : nodes ≤ slot.node + 1 = grind (arith, nat_tests, is) in inr (refl, omega (arith, high, less))
    by (suc (suc r)) few b is = absurd (omega (arith, few))

-- ---- the first that isn't noted

unnoted_is : (marks : List Bool) (nodes r j n : ℕ) (slot : SlotId) → unnoted_from marks nodes r j n ≡ Some slot → is_noted marks nodes slot ≡ false
unnoted_is marks nodes r j zero slot h = absurd (let q : None ≡ Some slot = h in cc)
unnoted_is marks nodes r j (suc n) slot h = by (is_noted marks nodes (slot_named r j)) refl h (unnoted_is marks nodes r (suc j) n slot)
  where
    by : (b : Bool) → is_noted marks nodes (slot_named r j) ≡ b → cond b (unnoted_from marks nodes r (suc j) n) (Some (slot_named r j)) ≡ Some slot → (unnoted_from marks nodes r (suc j) n ≡ Some slot → is_noted marks nodes slot ≡ false) → is_noted marks nodes slot ≡ false
    by true is h rest = rest h
    by false is h rest = subst (λ m. is_noted marks nodes m ≡ false) (same_Some (slot_named r j) slot h) is

unnoted_first : (marks : List Bool) (n : ℕ) (slot : SlotId) → first_unnoted marks n ≡ Some slot → is_noted marks n slot ≡ false
unnoted_first marks n slot h = by (unnoted_from marks n 0 0 n) (unnoted_from marks n 1 0 n) refl refl h
  where
    by : (a b : Option SlotId) → unnoted_from marks n 0 0 n ≡ a → unnoted_from marks n 1 0 n ≡ b → slot_or a b ≡ Some slot → is_noted marks n slot ≡ false
    by (Some a) b ha hb h = unnoted_is marks n 0 0 n slot (ha ∙ h)
    by None b ha hb h = unnoted_is marks n 1 0 n slot (hb ∙ h)

none_from : (marks : List Bool) (nodes r j n i : ℕ) → unnoted_from marks nodes r j n ≡ None → i < n → is_noted marks nodes (slot_named r (j + i)) ≡ true
none_from marks nodes r j zero i h less = absurd (omega (arith, less))
none_from marks nodes r j (suc n) i h less = by (is_noted marks nodes (slot_named r j)) refl h i less (none_from marks nodes r (suc j) n)
  where
    by : (b : Bool) → is_noted marks nodes (slot_named r j) ≡ b → cond b (unnoted_from marks nodes r (suc j) n) (Some (slot_named r j)) ≡ None → (i : ℕ) → i < suc n →
        ((i : ℕ) → unnoted_from marks nodes r (suc j) n ≡ None → i < n → is_noted marks nodes (slot_named r (suc j + i)) ≡ true) → is_noted marks nodes (slot_named r (j + i)) ≡ true
    by false is h i less rest = absurd (let q : Some (slot_named r j) ≡ None = h in cc)
    by true is h zero less rest = let at : j + 0 ≡ j = omega arith in ap (λ m. is_noted marks nodes (slot_named r m)) at ∙ is
    by true is h (suc i) less rest = let at : j + suc i ≡ suc j + i = omega arith in ap (λ m. is_noted marks nodes (slot_named r m)) at ∙ rest i h (omega (arith, less))

none_first : (marks : List Bool) (n r j : ℕ) → first_unnoted marks n ≡ None → r ≤ 1 → j < n → is_noted marks n (slot_named r j) ≡ true
none_first marks n r j h few less = by (unnoted_from marks n 0 0 n) (unnoted_from marks n 1 0 n) refl refl h r few
  where
    by : (a b : Option SlotId) → unnoted_from marks n 0 0 n ≡ a → unnoted_from marks n 1 0 n ≡ b → slot_or a b ≡ None → (r : ℕ) → r ≤ 1 → is_noted marks n (slot_named r j) ≡ true
    by (Some a) b ha hb h r few = absurd (let q : Some a ≡ None = h in cc)
    by None (Some b) ha hb h r few = absurd (let q : Some b ≡ None = h in cc)
    by None None ha hb h zero few = let at : 0 + j ≡ j = omega arith in ap (λ m. is_noted marks n (slot_named 0 m)) (sym at) ∙ none_from marks n 0 0 n j ha less
    by None None ha hb h (suc zero) few = let at : 0 + j ≡ j = omega arith in ap (λ m. is_noted marks n (slot_named 1 m)) (sym at) ∙ none_from marks n 1 0 n j hb less
    by None None ha hb h (suc (suc r)) few = absurd (omega (arith, few))

-- ---- moves are of one slot

look_of_slot : (a b : SlotId) → moves.Look a ≡ moves.Look b → b ≡ a
look_of_slot a b h = sym (ap slot_in h)
  where
    slot_in : CutMove → SlotId
    slot_in moves.None = a
    slot_in (moves.Look slot) = slot
    slot_in (moves.OpenRound floor) = a
    slot_in (moves.Note slot) = a
    slot_in (moves.Agree taking) = a
    slot_in moves.Quiet = a

note_of_slot : (q : Option SlotId) (slot : SlotId) → gather_move q ≡ moves.Note slot → q ≡ Some slot
note_of_slot None slot h = absurd (let e : moves.Agree takings.Both ≡ moves.Note slot = h in cc)
note_of_slot (Some a) slot h = ap slot_in h
  where
    slot_in : CutMove → Option SlotId
    slot_in moves.None = None
    slot_in (moves.Look other) = None
    slot_in (moves.OpenRound floor) = None
    slot_in (moves.Note other) = Some other
    slot_in (moves.Agree taking) = None
    slot_in moves.Quiet = None

-- ---- what the conductor hears

letter_some : (s : Setting) (letter : Letter) → 0 < letter_left s.plan s.place letter
letter_some s (letters.Parcel stamp entry k to payload) = omega arith
letter_some s (letters.Partial stamp r k node value) = omega arith
letter_some s (letters.Total stamp r k value) = omega arith
letter_some s (letters.Piece stamp piece) = omega arith
letter_some s (letters.VerdictOf one two node k verdict piece) = omega arith
letter_some s (letters.Lend k fresh) = omega arith
letter_some s (letters.Take stamp k live piece) = omega arith
letter_some s (letters.Restore stamp k live) = omega arith
letter_some s (letters.Commit stamp k live) = omega arith
letter_some s (letters.Resume stamp) = omega arith
letter_some s (letters.Died stamp slot line) = omega arith
letter_some s letters.Stop = omega arith

module _ (s : Setting) (w : WorldState) (letter : Letter) (more : List Letter) (front : w.posts.desk ≡ letter ∷ more) where
  -- a letter that is dropped
  dropped_lowers : going_left s (after_conductor s (silent w.conductor) more w) < going_left s w
  dropped_lowers =
      let some = letter_some s letter in
      let desk : desk_left s w.posts.desk ≡ letter_left s.plan s.place letter + desk_left s more = ap (desk_left s) front in
      omega (arith, some, desk)

pub heard_lowers : (s : Setting) (w : WorldState) (letter : Letter) (more : List Letter) → w.posts.desk ≡ letter ∷ more → going_left s (told_by s w (letter ∷ more)) < going_left s w
unfolding conductor_heard looks_left
heard_lowers s w (letters.Parcel stamp entry k to payload) more is = dropped_lowers s w (letters.Parcel stamp entry k to payload) more is
heard_lowers s w (letters.Partial stamp r k node value) more is = dropped_lowers s w (letters.Partial stamp r k node value) more is
heard_lowers s w (letters.Total stamp r k value) more is = dropped_lowers s w (letters.Total stamp r k value) more is
heard_lowers s w (letters.Piece stamp piece) more is = dropped_lowers s w (letters.Piece stamp piece) more is
heard_lowers s w (letters.VerdictOf one two node k verdict piece) more is = by (counts one two node k w.conductor)
  where
    by : (b : Bool) → going_left s (after_conductor s (silent (cond b (with_verdict node verdict piece w.conductor) w.conductor)) more w) < going_left s w
    by true = dropped_lowers s w (letters.VerdictOf one two node k verdict piece) more is
    by false = dropped_lowers s w (letters.VerdictOf one two node k verdict piece) more is
heard_lowers s w (letters.Lend k fresh) more is = dropped_lowers s w (letters.Lend k fresh) more is
heard_lowers s w (letters.Take stamp k live piece) more is = dropped_lowers s w (letters.Take stamp k live piece) more is
heard_lowers s w (letters.Restore stamp k live) more is = dropped_lowers s w (letters.Restore stamp k live) more is
heard_lowers s w (letters.Commit stamp k live) more is = dropped_lowers s w (letters.Commit stamp k live) more is
heard_lowers s w (letters.Resume stamp) more is = dropped_lowers s w (letters.Resume stamp) more is
heard_lowers s w (letters.Died stamp slot line) more is = dropped_lowers s w (letters.Died stamp slot line) more is
heard_lowers s w letters.Stop more is = dropped_lowers s w letters.Stop more is

-- ---- what it does

module _ (s : Setting) (o : Options) (plain : IsPlain s o) (fit : MovesFit) (w : WorldState) (sound : Sound s o w) (afloat : Afloat s w) (going : w.conductor.outcome ≡ None) where
  abbrev c : ConductorState
  c = w.conductor

  abbrev places : ℕ
  places = s.nodes + s.nodes

  abbrev jobs : ℕ
  jobs = s.plan.iterations

  abbrev n : ℕ
  n = w.cut.nodes + w.cut.nodes

  nodes_same : nodes_of c ≡ w.cut.nodes
  nodes_same = let a = sound.conductor.sized.options in let b = plain.options.nodes in let d = sound.nodes in omega (arith, a, b, d)

  fits : (m : CutMove) → wanted c ≡ m → MoveFits s.plan o.nodes c m
  fits m is = subst (MoveFits s.plan o.nodes c) is (fit s.plan s.script o s.place c (let a = plain.some in let b = plain.options.nodes in omega (arith, a, b)) sound.conductor)

  wants : (phase : Phase) (m : CutMove) → c.phase ≡ phase → wanted c ≡ m → move_in c phase ≡ m
  unfolding wanted
  wants phase m at is = sym (ap (move_in c) at) ∙ sym (ap (λ q. cond (is_some q) moves.None (move_in c c.phase)) going) ∙ is

  count : length w.posts.slots ≡ places
  count = let a = sym (long_map slot_name w.posts.slots) ∙ ap length sound.names in let b = few_names s.nodes in let d = names_count s.nodes in omega (arith, a, b, d)

  -- all slots in another agreement: each has at most so much more left
  slots_most : (new : CutState) (m : ℕ) → ((name : SlotId) (since : Since) → moves_left places jobs new.round since (slot_of new name) ≤ moves_left places jobs w.cut.round since (slot_of w.cut name) + m) →
      slots_left s new w.posts.slots ≤ slots_left s w.cut w.posts.slots + times places m
  slots_most new m each = subst (λ l. slots_left s new w.posts.slots ≤ slots_left s w.cut w.posts.slots + times l m) count
      (sum_most (slot_left s new) (slot_left s w.cut) m w.posts.slots (λ i x there. let one = each x.node.slot x.since in omega (arith, one)))

  turned_same : (new : CutState) → slots_left s new (map (again s.plan new) w.posts.slots) ≡ slots_left s new w.posts.slots
  turned_same new = sum_mapped (slot_left s new) (again s.plan new) w.posts.slots

  -- ---- a slot is seen

  module _ (slot : SlotId) (has : HasSlot w.cut slot) where
    abbrev seen_cut : CutState
    seen_cut = noted slot w.cut

    abbrev sight : Sight
    sight = sight_in w.cut slot

    part_noted : (round : Round) (t : Slot) → SamePart (slot_noted round t) t
    part_noted (rounds.Quiet r) t = record { seen = refl; cap = refl; free = refl; top = refl }
    part_noted (rounds.Gather r f) t = record { seen = refl; cap = refl; free = refl; top = refl }
    part_noted (rounds.Agreed r k) t = record { seen = refl; cap = refl; free = refl; top = refl }

    parts : (name : SlotId) → SamePart (slot_of seen_cut name) (slot_of w.cut name)
    unfolding noted
    parts name = record {
      seen = kept_at (λ (q : Slot). q.seen) (slot_noted w.cut.round) (opening_slot 0) (λ t. (part_noted w.cut.round t).seen) w.cut.slots (slot_place w.cut.nodes slot) (slot_place w.cut.nodes name);
      cap = kept_at (λ (q : Slot). q.cap) (slot_noted w.cut.round) (opening_slot 0) (λ t. (part_noted w.cut.round t).cap) w.cut.slots (slot_place w.cut.nodes slot) (slot_place w.cut.nodes name);
      free = kept_at (λ (q : Slot). q.free) (slot_noted w.cut.round) (opening_slot 0) (λ t. (part_noted w.cut.round t).free) w.cut.slots (slot_place w.cut.nodes slot) (slot_place w.cut.nodes name);
      top = kept_at (λ (q : Slot). q.top) (slot_noted w.cut.round) (opening_slot 0) (λ t. (part_noted w.cut.round t).top) w.cut.slots (slot_place w.cut.nodes slot) (slot_place w.cut.nodes name);
    }

    slots_seen : slots_left s seen_cut w.posts.slots ≡ slots_left s w.cut w.posts.slots
    unfolding noted
    slots_seen = sum_same (slot_left s seen_cut) (slot_left s w.cut) w.posts.slots (λ m x there. ap (λ l. node_left s.plan s.place x.node + (sum (letter_left s.plan s.place) x.box + l)) (moves_same places jobs w.cut.round x.since (slot_of seen_cut x.node.slot) (slot_of w.cut x.node.slot) (parts x.node.slot)))

    sights_seen : (name : SlotId) → sight_in seen_cut name ≡ sight_in w.cut name
    unfolding noted
    sights_seen name = sight_same w.cut.round (slot_of seen_cut name) (slot_of w.cut name) (parts name)

    -- a conductor that keeps the sight
    module _ (d : ConductorState) (kept : d.sights ≡ slice_set c.sights (slot_place (nodes_of c) slot) (Some sight)) (same : nodes_of d ≡ nodes_of c) where
      place_few : slot_place (nodes_of c) slot < length c.sights
      place_few =
          let at = place_number (nodes_of c) slot has.0 in
          let long = sound.conductor.sized.sights in
          let a = sound.conductor.sized.options in
          few slot.replica has.0 (omega (arith, has.1, nodes_same)) at (omega (arith, long, a))
        where
          few : (r : ℕ) → r ≤ 1 → slot.node < nodes_of c → slot_place (nodes_of c) slot ≡ r * nodes_of c + slot.node → length c.sights ≡ nodes_of c + nodes_of c → slot_place (nodes_of c) slot < length c.sights
          few zero h less at long = omega (arith, less, at, long)
          few (suc zero) h less at long = omega (arith, less, at, long)
          few (suc (suc r)) h less at long = absurd (omega (arith, h))

      -- it is no news any more
      own_seen : has_news seen_cut d slot ≡ false
      own_seen =
          ap (λ q. is_news q (sight_in seen_cut slot)) (ap (λ l. slice_index_or l (slot_place (nodes_of d) slot) None) kept ∙ ap (λ m. slice_index_or (slice_set c.sights (slot_place (nodes_of c) slot) (Some sight)) (slot_place m slot) None) same ∙ index_set c.sights (slot_place (nodes_of c) slot) sight place_few)
          ∙ ap (is_news (Some sight)) (sights_seen slot)
          ∙ not_news sight

      away_seen : (other : SlotId) → HasSlot w.cut other → (other ≡ slot → ⊥) → has_news seen_cut d other ≡ has_news w.cut c other
      away_seen other there apart =
          ap (λ q. is_news q (sight_in seen_cut other))
          (ap (λ l. slice_index_or l (slot_place (nodes_of d) other) None) kept ∙ ap (λ m. slice_index_or (slice_set c.sights (slot_place (nodes_of c) slot) (Some sight)) (slot_place m other) None) same
          ∙ index_away c.sights (slot_place (nodes_of c) slot) (slot_place (nodes_of c) other) sight (λ at. apart (same_place w.cut other slot there has (sym (ap (λ m. slot_place m other) nodes_same) ∙ at ∙ ap (λ m. slot_place m slot) nodes_same))))
          ∙ ap (is_news (last_sight other c)) (sights_seen other)

      -- so no slot has more
      less_news : (m : ℕ) (other : SlotId) → slice_get (names w.cut.nodes) m ≡ Some other → has_news seen_cut d other ≡ true → has_news w.cut c other ≡ true
      less_news m other there new = by (other.replica == slot.replica && other.node == slot.node) refl
        where
          its : IsNamed w.cut.nodes m other
          its = name_is w.cut.nodes m other there

          by : (b : Bool) → (other.replica == slot.replica && other.node == slot.node) ≡ b → has_news w.cut c other ≡ true
          by true q = absurd (let z : true ≡ false = sym new ∙ ap (has_news seen_cut d) (same_slot other slot q) ∙ own_seen in cc)
          by false q = sym (away_seen other (its.replica, its.node) (λ e. absurd (let z : true ≡ false = sym (ap (λ (a : SlotId). a.replica == slot.replica && a.node == slot.node) e ∙ own_name slot) ∙ q in cc))) ∙ new

    -- it looks at the next slot
    module _ (is : wanted c ≡ moves.Look slot) (any : any_news w.cut c ≡ true) where
      abbrev looked : ConductorState
      looked = record (with_sight slot sight c) { next_look = slot_after (nodes_of c) slot }

      is_next : slot ≡ c.next_look
      is_next = by (list_any (reaches (due c.ledger)) c.sights) (wants phases.Quiet (moves.Look slot) (fits (moves.Look slot) is).0 is)
        where
          by : (b : Bool) → cond b (moves.OpenRound (due c.ledger)) (moves.Look c.next_look) ≡ moves.Look slot → slot ≡ c.next_look
          by true h = absurd (let q : moves.OpenRound (due c.ledger) ≡ moves.Look slot = h in cc)
          by false h = look_of_slot c.next_look slot h

      looks_lowers : looks_left seen_cut looked < looks_left w.cut c
      unfolding looks_left noted
      looks_lowers =
          let found = any_found w.cut c any in
          let at = name_at w.cut.nodes found.0 found.1 found.2 found.3 in
          looks_lower n (slot_place w.cut.nodes c.next_look) (slot_place w.cut.nodes looked.next_look) follows (has_news seen_cut looked) (has_news w.cut c) 0 (found.0 * w.cut.nodes + found.1) (names w.cut.nodes) (record { replica = found.0; node = found.1 }) (few_names w.cut.nodes)
          (λ m other there. (less_news looked refl refl m other there, λ here. used m other there here)) at found.4
        where
          follows : Follows n (slot_place w.cut.nodes c.next_look) (slot_place w.cut.nodes looked.next_look)
          follows = subst (λ q. Follows n (slot_place w.cut.nodes q) (slot_place w.cut.nodes looked.next_look)) is_next
              (subst (λ m. Follows n (slot_place w.cut.nodes slot) (slot_place w.cut.nodes (slot_after m slot))) (sym nodes_same) (place_after w.cut.nodes slot has.0 has.1))

          used : (m : ℕ) (other : SlotId) → slice_get (names w.cut.nodes) m ≡ Some other → 0 + m ≡ slot_place w.cut.nodes c.next_look → has_news seen_cut looked other ≡ false
          used m other there here =
              let its : IsNamed w.cut.nodes m other = name_is w.cut.nodes m other there in
              let from_zero : 0 + m ≡ m = omega arith in
              let at : slot_place w.cut.nodes other ≡ slot_place w.cut.nodes slot = place_number w.cut.nodes other its.replica ∙ its.number ∙ sym from_zero ∙ here ∙ ap (slot_place w.cut.nodes) (sym is_next) in
              ap (has_news seen_cut looked) (same_place w.cut other slot (its.replica, its.node) has at) ∙ own_seen looked refl refl

      pub look_lowers : going_left s (saw_in s slot w) < going_left s w
      unfolding conductor_did
      look_lowers = subst (λ m. going_left s (did_in s (moved s.plan s.place m (answers.Seen sight) c) (with_noted slot w)) < going_left s w) (sym is)
          (let same = slots_seen in let less = looks_lowers in omega (arith, same, less))

    -- it notes a cap
    module _ (is : wanted c ≡ moves.Note slot) (cap : IsSome sight.cap) where
      abbrev marked : ConductorState
      marked = record (with_sight slot sight c) { noted = slice_set c.noted (slot_place (nodes_of c) slot) true }

      unmarked_now : is_noted c.noted (nodes_of c) slot ≡ false
      unmarked_now = unnoted_first c.noted (nodes_of c) slot (note_of_slot (first_unnoted c.noted (nodes_of c)) slot (wants phases.Gather (moves.Note slot) (fits (moves.Note slot) is).0 is))

      mark_few : slot_place (nodes_of c) slot < length c.noted
      mark_few = let a = place_few marked refl refl in let b = sound.conductor.sized.sights in let d = sound.conductor.sized.noted in omega (arith, a, b, d)

      gathers : c.phase ≡ phases.Gather
      gathers = (fits (moves.Note slot) is).0

      looks_kept_on : looks_left seen_cut marked ≤ looks_left w.cut c
      unfolding looks_left noted
      looks_kept_on = looks_kept n (slot_place w.cut.nodes c.next_look) (has_news seen_cut marked) (has_news w.cut c) 0 (names w.cut.nodes) (less_news marked refl refl)

      rounds_lower : rounds_left places jobs marked.ledger.base (unnoted marked.noted) marked.phase < rounds_left places jobs c.ledger.base (unnoted c.noted) c.phase
      rounds_lower =
          let less = marked_less c.noted (slot_place (nodes_of c) slot) mark_few unmarked_now in
          let one : rounds_left places jobs c.ledger.base (unnoted marked.noted) c.phase ≡ rounds_left places jobs c.ledger.base (unnoted marked.noted) phases.Gather = ap (rounds_left places jobs c.ledger.base (unnoted marked.noted)) gathers in
          let two : rounds_left places jobs c.ledger.base (unnoted c.noted) c.phase ≡ rounds_left places jobs c.ledger.base (unnoted c.noted) phases.Gather = ap (rounds_left places jobs c.ledger.base (unnoted c.noted)) gathers in
          omega (arith, less, one, two)

      pub note_lowers : going_left s (saw_in s slot w) < going_left s w
      unfolding conductor_did
      note_lowers = subst (λ m. going_left s (did_in s (moved s.plan s.place m (answers.Seen sight) c) (with_noted slot w)) < going_left s w) (sym is)
          (subst (λ q. going_left s (did_in s (silent (with_note slot q (with_sight slot sight c))) (with_noted slot w)) < going_left s w) (sym (some_of sight.cap cap).1)
          (let same = slots_seen in let few = looks_kept_on in let less = rounds_lower in omega (arith, same, few, less)))

  -- ---- a round is opened

  module _ (floor : ℕ) (is : wanted c ≡ moves.OpenRound floor) where
    abbrev open_cut : CutState
    open_cut = opened floor w.cut

    abbrev opener : ConductorState
    opener = record c { phase = phases.Gather; noted = replicate (length c.noted) false }

    is_quiet_now : c.phase ≡ phases.Quiet
    is_quiet_now = (fits (moves.OpenRound floor) is).0

    slots_open : slots_left s open_cut w.posts.slots ≤ slots_left s w.cut w.posts.slots + times places (suc (suc places))
    unfolding opened
    slots_open = slots_most open_cut (suc (suc places)) (λ name since. let see = see_few open_cut.round (slot_of w.cut name) in let report = report_few places open_cut.round (slot_of w.cut name) in omega (arith, see, report))

    looks_open : looks_left open_cut opener ≡ looks_left w.cut c
    unfolding looks_left opened
    looks_open = refl

    pub open_lowers : going_left s (conductor_made s w (moves.OpenRound floor)) < going_left s w
    unfolding conductor_did
    open_lowers = subst (λ m. going_left s (did_in s (moved s.plan s.place m answers.Nothing c) (in_cut s.plan open_cut w)) < going_left s w) (sym is)
        (let turned = turned_same open_cut in
        let few = slots_open in
        let looks = looks_open in
        let marks = unmarked (length c.noted) in
        let long : length c.noted ≡ places = let a = sound.conductor.sized.noted in let b = plain.options.nodes in omega (arith, a, b) in
        let missing : gather_left places (unnoted opener.noted) ≡ gather_left places places = ap (gather_left places) (marks ∙ long) in
        let before : rounds_left places jobs c.ledger.base (unnoted c.noted) c.phase ≡ times (jobs - c.ledger.base) (round_left places) = ap (rounds_left places jobs c.ledger.base (unnoted c.noted)) is_quiet_now in
        let one : times (jobs - c.ledger.base) (round_left places) ≡ round_left places + times (jobs - suc c.ledger.base) (round_left places) = ap (λ m. times m (round_left places)) one_less in
        omega (arith, turned, few, looks, missing, before, one))
      where
        one_less : jobs - c.ledger.base ≡ suc (jobs - suc c.ledger.base)
        one_less = let less = afloat.beside.going in omega (arith, less)

  -- ---- an iteration is agreed on

  module _ (missing_law : AgreesUnlessMissing) (is : wanted c ≡ moves.Agree takings.Both) where
    gathers_now : c.phase ≡ phases.Gather
    gathers_now = (fits (moves.Agree takings.Both) is).0

    all_marked : first_unnoted c.noted (nodes_of c) ≡ None
    all_marked = by (first_unnoted c.noted (nodes_of c)) (wants phases.Gather (moves.Agree takings.Both) gathers_now is)
      where
        by : (q : Option SlotId) → gather_move q ≡ moves.Agree takings.Both → q ≡ None
        by None h = refl
        by (Some slot) h = absurd (let e : moves.Note slot ≡ moves.Agree takings.Both = h in cc)

    never_missing : agreement takings.Both w.cut ≡ None → ⊥
    never_missing none =
        let miss : Misses takings.Both w.cut = (missing_law w.cut takings.Both sound.agreement).0 none in
        let marked_slot : is_noted c.noted (nodes_of c) miss.slot ≡ true = none_first c.noted (nodes_of c) miss.slot.replica miss.slot.node all_marked miss.has.0 (let a = miss.has.1 in let b = nodes_same in omega (arith, a, b)) in
        let some : IsSome (slot_of w.cut miss.slot).noted = afloat.beside.noted gathers_now miss.slot (ap (λ m. is_noted c.noted m miss.slot) (sym (nodes_same ∙ sound.nodes)) ∙ marked_slot) in
        let q : false ≡ true = sym (ap (λ x. is_some x) miss.unnoted) ∙ some in
        cc

    looks_agreed : (k : ℕ) → looks_left (agreed_on takings.Both w.cut (Some k)) (record c { phase = phases.Agreed k }) ≡ looks_left w.cut c
    unfolding looks_left
    looks_agreed k = refl

    pub agree_lowers : going_left s (conductor_made s w (moves.Agree takings.Both)) < going_left s w
    unfolding conductor_did agreed
    agree_lowers = subst (λ m. going_left s (did_in s (moved s.plan s.place m (answers.Agreed (agreement takings.Both w.cut)) c) (in_cut s.plan (agreed_on takings.Both w.cut (agreement takings.Both w.cut)) w)) < going_left s w) (sym is) (by (agreement takings.Both w.cut) refl)
      where
        by : (q : Option ℕ) → agreement takings.Both w.cut ≡ q → going_left s (did_in s (moved s.plan s.place (moves.Agree takings.Both) (answers.Agreed q) c) (in_cut s.plan (agreed_on takings.Both w.cut q) w)) < going_left s w
        by None none = absurd (never_missing none)
        by (Some k) on =
            let turned = turned_same (agreed_on takings.Both w.cut (Some k)) in
            let few = slots_most (agreed_on takings.Both w.cut (Some k)) 1 (λ name since. let see = see_few (rounds.Agreed (number w.cut.round) k) (slot_of w.cut name) in omega (arith, see)) in
            let ones = times_one places in
            let looks = looks_agreed k in
            let before : rounds_left places jobs c.ledger.base (unnoted c.noted) c.phase ≡ times (jobs - suc c.ledger.base) (round_left places) + gather_left places (unnoted c.noted) = ap (rounds_left places jobs c.ledger.base (unnoted c.noted)) gathers_now in
            omega (arith, turned, few, ones, looks, before)

  -- ---- the round is made quiet, and the run goes on

  module _ (equal : EqualExactly) (k : ℕ) (at : c.phase ≡ phases.Agreed k) (is : wanted c ≡ moves.Quiet) (goes : (conductor_did s.plan s.place answers.Nothing c).conductor.outcome ≡ None) where
    abbrev next : Heard
    next = goes_on s o plain w sound afloat equal k at is

    abbrev quiet_cut : CutState
    quiet_cut = cut_quieted w.cut

    part_quiet : (name : SlotId) → SamePart (slot_of quiet_cut name) (slot_of w.cut name)
    part_quiet name = record {
      seen = ap (λ (q : Slot). q.seen) (unnoted_of w.cut name);
      cap = ap (λ (q : Slot). q.cap) (unnoted_of w.cut name);
      free = ap (λ (q : Slot). q.free) (unnoted_of w.cut name);
      top = ap (λ (q : Slot). q.top) (unnoted_of w.cut name);
    }

    slots_quiet : slots_left s quiet_cut w.posts.slots ≤ slots_left s w.cut w.posts.slots + times places 1
    unfolding cut_quieted
    slots_quiet = slots_most quiet_cut 1 (λ name since.
        let same = moves_same places jobs quiet_cut.round since (slot_of quiet_cut name) (slot_of w.cut name) (part_quiet name) in
        let see = see_few quiet_cut.round (slot_of w.cut name) in
        omega (arith, same, see))

    orders_weigh : sum (sent_left s.plan s.place) next.out ≡ 6 * (nodes_of c + nodes_of c)
    orders_weigh =
        let m = nodes_of c in
        let d = next.conductor in
        let a = letters_to 0 (letters.Commit d.first k (record { 0 = live_set d.ledger })) m in
        let b = letters_to 1 (letters.Commit d.second k (record { 0 = live_set d.ledger })) m in
        let e = letters_to 0 (letters.Resume d.first) m in
        let f = letters_to 1 (letters.Resume d.second) m in
        let one = sum_append (sent_left s.plan s.place) a b in
        let two = sum_append (sent_left s.plan s.place) (a ++ b) e in
        let three = sum_append (sent_left s.plan s.place) ((a ++ b) ++ e) f in
        let wa = to_all s 0 m (letters.Commit d.first k (record { 0 = live_set d.ledger })) in
        let wb = to_all s 1 m (letters.Commit d.second k (record { 0 = live_set d.ledger })) in
        let we = to_all s 0 m (letters.Resume d.first) in
        let wf = to_all s 1 m (letters.Resume d.second) in
        let fours = times_four m in
        let twos = times_two m in
        omega (arith, one, two, three, wa, wb, we, wf, fours, twos)

    looks_quiet : looks_left quiet_cut next.conductor ≤ times n n
    unfolding cut_quieted
    looks_quiet = looks_most_left quiet_cut next.conductor

    pub quiet_lowers : going_left s (did_in s (conductor_did s.plan s.place answers.Nothing c) (in_cut s.plan quiet_cut w)) < going_left s w
    quiet_lowers = subst (λ h. going_left s (did_in s h (in_cut s.plan quiet_cut w)) < going_left s w) (sym (settles_on s o plain w sound afloat equal k at is goes))
        (let put = posted_left s quiet_cut next.out (in_cut s.plan quiet_cut w).posts in
        let turned = turned_same quiet_cut in
        let few = slots_quiet in
        let weigh = orders_weigh in
        let same = nodes_same in
        let count_nodes = sound.nodes in
        let ones = times_one places in
        let sevens = times_seven places in
        let looks : looks_left quiet_cut next.conductor ≤ times places places = subst (λ m. looks_left quiet_cut next.conductor ≤ times (m + m) (m + m)) count_nodes looks_quiet in
        let before : rounds_left places jobs c.ledger.base (unnoted c.noted) c.phase ≡ times (jobs - suc c.ledger.base) (round_left places) + agreed_left places = ap (rounds_left places jobs c.ledger.base (unnoted c.noted)) at in
        let rounds_more = times_more (jobs - k) (jobs - suc c.ledger.base) (round_left places) (let late = behind s o plain w sound afloat equal k at is goes in omega (arith, late)) in
        omega (arith, put, turned, few, weigh, same, count_nodes, ones, sevens, looks, before, rounds_more))

-- A run that keeps its messages sorted is the plain fold.
use Rattle.std.proofs.Common.{◌≡◌, ℕ, zero, suc, ◌+◌, ◌<◌, ◌≤◌, min, ℤ, Bool, true, false, cond, List, [], ◌∷◌, ◌++◌, length, map, refl, ap, sym, ◌∙◌, subst, arith, Option, Some, None, inl, inr, append_assoc, zero-add, take, drop}
use Rattle.std.specs.Prelude.{◌==◌, ◌&&◌, ◌≢◌, slice_get, slice_set, unwrap_or}
use Rattle.std.specs.Option.{option_map, option_map_or}
use Rattle.std.proofs.lemmas.Bool.Decides.{eqb_tells}
use Rattle.std.proofs.lemmas.List.{append-nil, length-set, length-map}
use Rattle.std.proofs.lemmas.Option.{slice_get-map}
use Rattle.std.proofs.Math.Seq.{take-append_seam}
use Rattle.chare_base.specs.declared.cells.Cells.{Cells}
use Rattle.chare_base.specs.declared.message.EntryId.{EntryId}
use Rattle.chare_base.specs.declared.message.Need.TheVariants as needs
use Rattle.chare_base.specs.declared.message.Need.{Need}
use Rattle.chare_base.specs.declared.message.Payload.{Payload}
use Rattle.chare_base.specs.declared.message.Port.{Port}
use Rattle.chare_base.specs.declared.message.Port.TheVariants as ports
use Rattle.chare_base.specs.declared.plan.Array.{Array}
use Rattle.chare_base.specs.declared.plan.How.{How}
use Rattle.chare_base.specs.declared.plan.How.TheVariants.{Sum}
use Rattle.chare_base.specs.declared.plan.Part.{Part}
use Rattle.chare_base.specs.declared.plan.Plan.{Plan}
use Rattle.chare_base.specs.declared.plan.Reduction.{Reduction}
use Rattle.chare_base.specs.Elements.{elements, parts_at, steps_in_round}
use Rattle.chare_base.specs.Entries.{nothing, reduction_of}
use Rattle.chare_base.specs.Limits.{array_fits}
use Rattle.chare_base.specs.Sizes.{size_of}
use Rattle.chare_base.specs.Total.{both, joined_to}
use Rattle.chare_base.proofs.Facts.{each_at, each_fits, size_few}
use Rattle.chare_eval.specs.declared.effects.Outgoing.{Outgoing}
use Rattle.chare_eval.specs.declared.effects.Outgoing.TheVariants.{Parcel, Contribution}
use Rattle.chare_eval.specs.declared.tables.Letter.{Letter}
use Rattle.chare_eval.specs.declared.tables.Tally.{Tally}
use Rattle.chare_eval.specs.Block.{Effect, block_runs, quiet}
use Rattle.chare_eval.specs.Fold.{fold, fold_from, plain}
use Rattle.chare_eval.specs.Opening.{opening}
use Rattle.chare_eval.specs.Stage.{Board, Inbox, contributions, effect, found_at, given, held, inbox, members_in, parcel_held, part_runs, parts_run, ran, round, stage, state_at, step_of, total_payload, with_effect}
use Rattle.chare_eval.specs.Tables.{Sorted, Tables, add_in, all_delivered, box_of, delivered, element_runs, elements_run, emptied, kept, letter_at, no_value, put_in, round_runs, rounds_run, steps_run, tally_total, with_value}

-- ---- lists

got_same : {A : Type 0} (xs : List A) (i : ℕ) (x a : A) → slice_get xs i ≡ Some x → slice_get (slice_set xs i a) i ≡ Some a
got_same [] i x a h = absurd cc
got_same (y ∷ xs) zero x a h = refl
got_same (y ∷ xs) (suc i) x a h = got_same xs i x a h

got_other : {A : Type 0} (xs : List A) (i j : ℕ) (a : A) → j ≢ i → slice_get (slice_set xs i a) j ≡ slice_get xs j
got_other [] i j a h = refl
got_other (y ∷ xs) zero zero a h = absurd (h refl)
got_other (y ∷ xs) zero (suc j) a h = refl
got_other (y ∷ xs) (suc i) zero a h = refl
got_other (y ∷ xs) (suc i) (suc j) a h = got_other xs i j a (λ e. h (ap suc e))

-- ---- what was sent, sorted

-- what came to an element, of what was sent
abbrev letters_to : List Outgoing → ℕ → List Letter
letters_to [] e = []
letters_to (Parcel entry to payload ∷ more) e = cond (to.0 == e) (record { entry = entry; payload = payload } ∷ letters_to more e) (letters_to more e)
letters_to (Contribution reduction value ∷ more) e = letters_to more e

letter_found : (mail : List Outgoing) (e x : ℕ) → parcel_held mail e x ≡ letter_at (letters_to mail e) x
letter_found [] e x = refl
letter_found (Parcel entry to payload ∷ more) e x = by_test (to.0 == e) (letter_found more e x)
  where
    by_test : (b : Bool) → parcel_held more e x ≡ letter_at (letters_to more e) x → cond (b && (entry.0 == x)) (Some payload) (parcel_held more e x) ≡ letter_at (cond b (record { entry = entry; payload = payload } ∷ letters_to more e) (letters_to more e)) x
    by_test true rest = ap (λ o. cond (entry.0 == x) (Some payload) o) rest
    by_test false rest = rest
letter_found (Contribution reduction value ∷ more) e x = letter_found more e x

letters_append : (xs ys : List Outgoing) (e : ℕ) → letters_to (xs ++ ys) e ≡ letters_to xs e ++ letters_to ys e
letters_append [] ys e = refl
letters_append (Parcel entry to payload ∷ more) ys e = by_test (to.0 == e) (letters_append more ys e)
  where
    by_test : (b : Bool) → letters_to (more ++ ys) e ≡ letters_to more e ++ letters_to ys e → cond b (record { entry = entry; payload = payload } ∷ letters_to (more ++ ys) e) (letters_to (more ++ ys) e)
        ≡ cond b (record { entry = entry; payload = payload } ∷ letters_to more e) (letters_to more e) ++ letters_to ys e
    by_test true rest = ap (λ l. record { entry = entry; payload = payload } ∷ l) rest
    by_test false rest = rest
letters_append (Contribution reduction value ∷ more) ys e = letters_append more ys e

values_append : (xs ys : List Outgoing) (r : ℕ) → contributions (xs ++ ys) r ≡ contributions xs r ++ contributions ys r
values_append [] ys r = refl
values_append (Parcel entry to payload ∷ more) ys r = values_append more ys r
values_append (Contribution reduction value ∷ more) ys r = by_test (reduction.0 == r) (values_append more ys r)
  where
    by_test : (b : Bool) → contributions (more ++ ys) r ≡ contributions more r ++ contributions ys r → cond b (value ∷ contributions (more ++ ys) r) (contributions (more ++ ys) r) ≡ cond b (value ∷ contributions more r) (contributions more r) ++ contributions ys r
    by_test true rest = ap (λ l. value ∷ l) rest
    by_test false rest = rest

-- a tally of values
abbrev tally_of : List Array → Reduction → List ℤ → Tally
tally_of arrays r values = record { how = r.how; members = members_in arrays (Some r); count = min 18446744073709551615 (length values); total = joined_to r.how None values }

abbrev tally_in : List Array → List ℤ → Option Reduction → Option Tally
tally_in arrays values None = None
tally_in arrays values (Some r) = Some (tally_of arrays r values)

joined_append : (how : How) (total : Option ℤ) (xs : List ℤ) (v : ℤ) → joined_to how total (xs ++ v ∷ []) ≡ both how (joined_to how total xs) (Some v)
joined_append how total [] v = refl
joined_append how total (x ∷ xs) v = joined_append how (both how total (Some x)) xs v

length_append : (xs : List ℤ) (v : ℤ) → length (xs ++ v ∷ []) ≡ length xs + 1
length_append [] v = omega arith
length_append (x ∷ xs) v = let rest : length (xs ++ v ∷ []) ≡ length xs + 1 = length_append xs v in omega (arith, rest)

count_next : (n m : ℕ) → m ≡ n + 1 → min 18446744073709551615 (min 18446744073709551615 n + 1) ≡ min 18446744073709551615 m
count_next n m h = omega (arith, h)

tally_next : (arrays : List Array) (r : Reduction) (values : List ℤ) (v : ℤ) → with_value v (tally_of arrays r values) ≡ tally_of arrays r (values ++ v ∷ [])
tally_next arrays r values v =
    ap (λ c. let t : Tally = record { how = r.how; members = members_in arrays (Some r); count = c; total = both r.how (joined_to r.how None values) (Some v) } in t)
    (count_next (length values) (length (values ++ v ∷ [])) (length_append values v))
    ∙ ap (λ o. let t : Tally = record { how = r.how; members = members_in arrays (Some r); count = min 18446744073709551615 (length (values ++ v ∷ [])); total = o } in t)
    (sym (joined_append r.how None values v))

-- ---- what is kept of what was sent

record Keeps (p : Plan) (mail : List Outgoing) (t : Tables) : Type 0 where
  count : length t.boxes ≡ elements p
  boxes : (e : ℕ) → e < elements p → slice_get t.boxes e ≡ Some (letters_to mail e)
  tallies : (r : ℕ) → slice_get t.tallies r ≡ tally_in p.arrays (contributions mail r) (reduction_of p r)

put_len : (boxes : List (List Letter)) (to : ℕ) (letter : Letter) (o : Option (List Letter)) → length (put_in boxes to letter o) ≡ length boxes
put_len boxes to letter None = refl
put_len boxes to letter (Some box) = length-set boxes to (box ++ letter ∷ [])

put_same : (boxes : List (List Letter)) (to : ℕ) (letter : Letter) (box : List Letter) → slice_get boxes to ≡ Some box → slice_get (put_in boxes to letter (slice_get boxes to)) to ≡ Some (box ++ letter ∷ [])
put_same boxes to letter box is =
    ap (λ o. slice_get (put_in boxes to letter o) to) is ∙ got_same boxes to box (box ++ letter ∷ []) is

put_other : (boxes : List (List Letter)) (to j : ℕ) (letter : Letter) (o : Option (List Letter)) → j ≢ to → slice_get (put_in boxes to letter o) j ≡ slice_get boxes j
put_other boxes to j letter None h = refl
put_other boxes to j letter (Some box) h = got_other boxes to j (box ++ letter ∷ []) h

add_same : (tallies : List Tally) (arrays : List Array) (values : List ℤ) (v : ℤ) (r : ℕ) (o : Option Reduction) → slice_get tallies r ≡ tally_in arrays values o →
    slice_get (add_in tallies r v (tally_in arrays values o)) r ≡ tally_in arrays (values ++ v ∷ []) o
add_same tallies arrays values v r None is = is
add_same tallies arrays values v r (Some x) is =
    got_same tallies r (tally_of arrays x values) (with_value v (tally_of arrays x values)) is ∙ ap Some (tally_next arrays x values v)

add_other : (tallies : List Tally) (q r : ℕ) (v : ℤ) (o : Option Tally) → r ≢ q → slice_get (add_in tallies q v o) r ≡ slice_get tallies r
add_other tallies q r v None h = refl
add_other tallies q r v (Some t) h = got_other tallies q r (with_value v t) h

abbrev letter : EntryId → Payload → Letter
letter entry payload = record { entry = entry; payload = payload }

delivered_keeps : (p : Plan) (mail : List Outgoing) (t : Tables) (o : Outgoing) → Keeps p mail t → Keeps p (mail ++ o ∷ []) (delivered o t)
delivered_keeps p mail t (Parcel entry to payload) k = record {
  count = put_len t.boxes to.0 (letter entry payload) (slice_get t.boxes to.0) ∙ k.count;
  boxes = λ e below. elim (eqb_tells to.0 e) [ inl q ↦ here e below q.0 q.1 | inr q ↦ there e below q.0 (λ x. q.1 (sym x)) ];
  tallies = λ r. k.tallies r ∙ ap (λ vs. tally_in p.arrays vs (reduction_of p r)) (sym (values_append mail (Parcel entry to payload ∷ []) r ∙ append-nil (contributions mail r)));
}
  where
    here : (e : ℕ) → e < elements p → (to.0 == e) ≡ true → to.0 ≡ e →
        slice_get (put_in t.boxes to.0 (letter entry payload) (slice_get t.boxes to.0)) e ≡ Some (letters_to (mail ++ Parcel entry to payload ∷ []) e)
    here e below test same =
        ap (λ j. slice_get (put_in t.boxes j (letter entry payload) (slice_get t.boxes j)) e) same ∙ put_same t.boxes e (letter entry payload) (letters_to mail e) (k.boxes e below)
        ∙ ap (λ b. Some (letters_to mail e ++ cond b (letter entry payload ∷ []) [])) (sym test)
        ∙ ap Some (sym (letters_append mail (Parcel entry to payload ∷ []) e))

    there : (e : ℕ) → e < elements p → (to.0 == e) ≡ false → e ≢ to.0 →
        slice_get (put_in t.boxes to.0 (letter entry payload) (slice_get t.boxes to.0)) e ≡ Some (letters_to (mail ++ Parcel entry to payload ∷ []) e)
    there e below test other =
        put_other t.boxes to.0 e (letter entry payload) (slice_get t.boxes to.0) other ∙ k.boxes e below
        ∙ ap Some (sym (append-nil (letters_to mail e)))
        ∙ ap (λ b. Some (letters_to mail e ++ cond b (letter entry payload ∷ []) [])) (sym test)
        ∙ ap Some (sym (letters_append mail (Parcel entry to payload ∷ []) e))
delivered_keeps p mail t (Contribution reduction value) k = record {
  count = k.count;
  boxes = λ e below. k.boxes e below ∙ ap Some (sym (letters_append mail (Contribution reduction value ∷ []) e ∙ append-nil (letters_to mail e)));
  tallies = λ r. elim (eqb_tells reduction.0 r) [ inl q ↦ here r q.0 q.1 | inr q ↦ there r q.0 (λ x. q.1 (sym x)) ];
}
  where
    here : (r : ℕ) → (reduction.0 == r) ≡ true → reduction.0 ≡ r →
        slice_get (add_in t.tallies reduction.0 value (slice_get t.tallies reduction.0)) r ≡ tally_in p.arrays (contributions (mail ++ Contribution reduction value ∷ []) r) (reduction_of p r)
    here r test same =
        ap (λ j. slice_get (add_in t.tallies j value (slice_get t.tallies j)) r) same
        ∙ ap (λ o. slice_get (add_in t.tallies r value o) r) (k.tallies r)
        ∙ add_same t.tallies p.arrays (contributions mail r) value r (reduction_of p r) (k.tallies r)
        ∙ ap (λ b. tally_in p.arrays (contributions mail r ++ cond b (value ∷ []) []) (reduction_of p r)) (sym test)
        ∙ ap (λ vs. tally_in p.arrays vs (reduction_of p r)) (sym (values_append mail (Contribution reduction value ∷ []) r))

    there : (r : ℕ) → (reduction.0 == r) ≡ false → r ≢ reduction.0 →
        slice_get (add_in t.tallies reduction.0 value (slice_get t.tallies reduction.0)) r ≡ tally_in p.arrays (contributions (mail ++ Contribution reduction value ∷ []) r) (reduction_of p r)
    there r test other =
        add_other t.tallies reduction.0 r value (slice_get t.tallies reduction.0) other ∙ k.tallies r
        ∙ ap (λ vs. tally_in p.arrays vs (reduction_of p r)) (sym (append-nil (contributions mail r)))
        ∙ ap (λ b. tally_in p.arrays (contributions mail r ++ cond b (value ∷ []) []) (reduction_of p r)) (sym test)
        ∙ ap (λ vs. tally_in p.arrays vs (reduction_of p r)) (sym (values_append mail (Contribution reduction value ∷ []) r))

all_keep : (p : Plan) (mail : List Outgoing) (t : Tables) (sent : List Outgoing) → Keeps p mail t → Keeps p (mail ++ sent) (all_delivered sent t)
all_keep p mail t [] k = subst (λ l. Keeps p l t) (sym (append-nil mail)) k
all_keep p mail t (o ∷ more) k =
    subst (λ l. Keeps p l (all_delivered more (delivered o t))) (append_assoc mail (o ∷ []) more)
    (all_keep p (mail ++ o ∷ []) (delivered o t) more (delivered_keeps p mail t o k))

-- ---- what an element finds

count_same : (n m : ℕ) → m < 18446744073709551615 → (n == m) ≡ (min 18446744073709551615 n == m)
count_same n m h = grind arith

members_few : (p : Plan) (o : Option Array) → ((a : Array) → o ≡ Some a → size_of a ≤ 4096) → option_map_or size_of o 0 < 18446744073709551615
members_few p None h = omega arith
members_few p (Some a) h = omega (arith, h a refl)

members_small : (p : Plan) (r : Reduction) → members_in p.arrays (Some r) < 18446744073709551615
members_small p r =
    members_few p (slice_get p.arrays r.owner) (λ a is. size_few a (each_at array_fits p.arrays r.owner a (each_fits p) is))

none_total : (values : List ℤ) → cond (length values == 0) (total_payload (joined_to Sum None values)) None ≡ None
none_total [] = refl
none_total (v ∷ more) = ap (λ b. cond b (total_payload (joined_to Sum None (v ∷ more))) None) zero_not
  where
    zero_not : (suc (length more) == 0) ≡ false
    zero_not = grind arith

total_told : (p : Plan) (values : List ℤ) (o : Option Reduction) →
    cond (length values == members_in p.arrays o) (total_payload (joined_to (option_map_or (λ (x : Reduction). x.how) o Sum) None values)) None ≡ tally_total (tally_in p.arrays values o)
total_told p values None = none_total values
total_told p values (Some r) = ap (λ b. cond b (total_payload (joined_to r.how None values)) None) (count_same (length values) (members_in p.arrays (Some r)) (members_small p r))

kept_same : (p : Plan) (mail : List Outgoing) (t : Tables) (e : ℕ) → Keeps p mail t → e < elements p → (port : Port) → held p mail e port ≡ kept t e port
kept_same p mail t e k below (ports.Entry entry) =
    letter_found mail e entry.0 ∙ ap (λ o. letter_at (unwrap_or o []) entry.0) (sym (k.boxes e below))
kept_same p mail t e k below (ports.Total reduction) =
    total_told p (contributions mail reduction.0) (reduction_of p reduction.0) ∙ ap tally_total (sym (k.tallies reduction.0))

box_same : (p : Plan) (mail : List Outgoing) (t : Tables) (e : ℕ) → Keeps p mail t → e < elements p → (port : Port) → inbox p mail e port ≡ box_of p t e port
box_same p mail t e k below port = ap (found_at p e port) (kept_same p mail t e k below port)

given_same : (need : Need) (a b : Inbox) → ((port : Port) → a port ≡ b port) → given need a ≡ given need b
given_same needs.Nothing a b h = refl
given_same (needs.Port port) a b h = ap (λ o. unwrap_or o nothing) (h port)

parts_same : (p : Plan) (e s k : ℕ) (a b : Inbox) (parts : List Part) (f : Effect) → ((port : Port) → a port ≡ b port) → parts_run p e s k a parts f ≡ parts_run p e s k b parts f
parts_same p e s k a b [] f h = refl
parts_same p e s k a b (part ∷ more) f h =
    parts_same p e s k a b more (part_runs p e s k a part f) h
    ∙ ap (λ payload. parts_run p e s k b more (block_runs p e s k part.block payload f)) (given_same part.need a b h)

-- ---- the run

record Same (p : Plan) (b : Board) (m : Sorted) : Type 0 where
  states : b.states ≡ m.states
  keeps : Keeps p b.mail m.tables

-- what a step of an element does, with what is kept for it
abbrev sorted_effect : Plan → ℕ → ℕ → ℕ → Sorted → Effect
sorted_effect p s k e m = step_of p s k e (box_of p m.tables e) (state_at m.states e)

element_next : (p : Plan) (s k e : ℕ) (b : Board) (m : Sorted) → e < elements p → Same p b m → Same p (with_effect e b (effect p s k e b)) (element_runs p s k e m)
element_next p s k e b m below same = record {
  states = ap (λ (x : Effect). slice_set b.states e x.cells) effects ∙ ap (λ l. slice_set l e (sorted_effect p s k e m).cells) same.states;
  keeps = subst (λ (x : Effect). Keeps p (b.mail ++ x.sent) (all_delivered (sorted_effect p s k e m).sent m.tables)) (sym effects) (all_keep p b.mail m.tables (sorted_effect p s k e m).sent same.keeps);
}
  where
    effects : effect p s k e b ≡ sorted_effect p s k e m
    effects =
        parts_same p e s k (inbox p b.mail e) (box_of p m.tables e) (parts_at p e s) (quiet (state_at b.states e)) (box_same p b.mail m.tables e same.keeps below)
        ∙ ap (λ l. step_of p s k e (box_of p m.tables e) (state_at l e)) same.states

elements_next : (p : Plan) (s k n : ℕ) (b : Board) (m : Sorted) → n ≤ elements p → Same p b m → Same p (ran p s k n b) (elements_run p s k n m)
unfolding ran elements_run
elements_next p s k zero b m below same = same
elements_next p s k (suc n) b m below same =
    element_next p s k n (ran p s k n b) (elements_run p s k n m) (omega (arith, below)) (elements_next p s k n b m (omega (arith, below)) same)

steps_next : (p : Plan) (k s : ℕ) (all : List Cells) (t : Tables) → length t.boxes ≡ elements p →
    Same p (stage p [] k all s) (steps_run p k s (record { states = all; tables = emptied p t }))
unfolding stage steps_run
steps_next p k zero all t count = record {
  states = refl;
  keeps = record {
    count = length-map t.boxes (λ box. []) ∙ count;
    boxes = λ e below. empty t.boxes e (omega (arith, count, below));
    tallies = λ r. slice_get-map (no_value p.arrays) p.reductions r ∙ begun (reduction_of p r);
  };
}
  where
    empty : (boxes : List (List Letter)) (e : ℕ) → e < length boxes → slice_get (map (λ box. let none : List Letter = [] in none) boxes) e ≡ Some []
    empty [] e h = absurd (omega (arith, h))
    empty (b ∷ more) zero h = refl
    empty (b ∷ more) (suc e) h = empty more e (omega (arith, h))

    begun : (o : Option Reduction) → option_map (no_value p.arrays) o ≡ tally_in p.arrays [] o
    begun None = refl
    begun (Some r) = refl
steps_next p k (suc s) all t count =
    elements_next p s k (elements p) (stage p [] k all s) (steps_run p k s (record { states = all; tables = emptied p t })) (omega arith) (steps_next p k s all t count)

record Rounds (p : Plan) (m : Sorted) (n : ℕ) : Type 0 where
  states : fold_from p [] 0 m.states n ≡ (rounds_run p n m).states
  count : length (rounds_run p n m).tables.boxes ≡ elements p

round_next : (p : Plan) (m : Sorted) (n : ℕ) → Rounds p m n → Rounds p m (suc n)
unfolding fold_from rounds_run round
round_next p m n before = record {
  states = ap (λ k. round p [] k (fold_from p [] 0 m.states n)) (zero-add n) ∙ ap (round p [] n) before.states ∙ now.states;
  count = now.keeps.count;
}
  where
    now : Same p (stage p [] n (rounds_run p n m).states (steps_in_round p)) (round_runs p n (rounds_run p n m))
    now = steps_next p n (steps_in_round p) (rounds_run p n m).states (rounds_run p n m).tables before.count

rounds_next : (p : Plan) (m : Sorted) (n : ℕ) → length m.tables.boxes ≡ elements p → Rounds p m n
unfolding fold_from rounds_run
rounds_next p m zero count = record { states = refl; count = count }
rounds_next p m (suc n) count = round_next p m n (rounds_next p m n count)

-- the states at the end are those of the plain fold
pub plain_told : (p : Plan) (all all' : List Cells) (t t' : Tables) → all ≡ opening p → length t.boxes ≡ elements p →
    record { states = all'; tables = t' } ≡ rounds_run p p.iterations (record { states = all; tables = t }) → all' ≡ plain p p.iterations
unfolding fold
plain_told p all all' t t' start count told =
    ap (λ (m : Sorted). m.states) told ∙ sym (rounds_next p (record { states = all; tables = t }) p.iterations count).states
    ∙ ap (λ l. fold_from p [] 0 l p.iterations) start

-- what is written through a slice of a whole vector
pub written_back : (n : ℕ) (xs ys : List Cells) → length xs ≡ n → take n (xs ++ drop (length xs) ys) ≡ xs
written_back n xs ys h = ap (λ m. take m (xs ++ drop (length xs) ys)) (sym h) ∙ take-append_seam xs (drop (length xs) ys)

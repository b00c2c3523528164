-- A record back from its bytes, and its bytes from what was read.
use Rattle.std.proofs.Common.{◌≡◌, ℕ, zero, suc, ◌+◌, ◌-◌, ◌*◌, ◌^◌, ◌<◌, ◌≤◌, Bool, true, false, cond, List, [], ◌∷◌, ◌++◌, length, drop, refl, ap, sym, ◌∙◌, append_assoc, arith, length-drop, length-append, Option, Some, None, inl, inr, Fits, FitsSigned}
use Rattle.std.specs.Prelude.{ℤ, ◌==◌, ◌&&◌, not, nat_le, nat_lt}
use Rattle.std.specs.List.{AllByRecursion}
use Rattle.std.specs.Int.{w64, cast_signed, cast_unsigned}
use Rattle.std.specs.Option.{option_map_or}
use Rattle.std.proofs.lemmas.Bool.{and_parts, eq-eqb, eqb-true, le-leb, le-ltb, leb-true, lt-ltb, ltb-true, ltb-false, not_from_true}
use Rattle.std.proofs.lemmas.Int.{of_z-to_z, to_z-of_z}
use Rattle.std.proofs.lemmas.List.{drop-drop}
use Rattle.std.proofs.Math.Facts.{sfits_to_z}
use Rattle.std.proofs.Math.Seq.{drop-append_seam}
use Rattle.chare_base.specs.declared.cells.Cells.{Cells}
use Rattle.chare_base.specs.declared.cells.Slip.{Slip}
use Rattle.chare_base.specs.declared.plan.Array.{Array}
use Rattle.chare_base.specs.declared.plan.Place.{Place}
use Rattle.chare_base.specs.declared.plan.Plan.{Plan}
use Rattle.chare_base.specs.Elements.{array_of, cells_of, elements, place_in, place_of, steps_of}
use Rattle.chare_base.specs.Sizes.{cells_in as cells_of_states, size_of as array_size}
use Rattle.chare_base.proofs.Facts.{arrays_few, cells_few, elements_few, fits as array_fits_of, iterations_few, place_in_range}
use Rattle.pup_state.specs.declared.fault.PupFault.{PupFault}
use Rattle.pup_state.specs.Faults.{done_in, first_fault, is_first, is_placed, is_slip, is_timely, number_at, record_fault, record_tests, slip_fits}
use Rattle.pup_state.specs.Laws.{RecordTellsPlace}
use Rattle.pup_state.specs.Packs.{Lawful, LawfulSlip}
use Rattle.pup_state.specs.Reading.{cells_in, numbers_in}
use Rattle.pup_state.specs.Spelling.{cells_spelling, field, record_spelling, size_of}
use Rattle.pup_state.proofs.Fields.{AreBytes, bytes_behind, field_at, number_fits, past, reads_field}
use Rattle.pup_state.proofs.Lengths.{record_length}
use Rattle.pup_state.proofs.Once.{bits_few as once_bits_few, fields_of, made, same_cells}

-- ---- tests

pub not_false : (b : Bool) → not b ≡ false → b ≡ true
not_false true h = refl
not_false false h = absurd (let q : true ≡ false = h in cc)

both : (a b : Bool) → a ≡ true → b ≡ true → (a && b) ≡ true
both a b h k = ap (λ x. x && b) h ∙ k

-- no test of a list is met
abbrev Unmet : List (Bool × PupFault) → Type 0
Unmet tests = AllByRecursion (λ t. t.0 ≡ false) tests

pub unmet : (tests : List (Bool × PupFault)) → first_fault tests ≡ None → Unmet tests
unmet [] h = tt
unmet (t ∷ more) h = by t.0 refl h (λ k. unmet more k)
  where
    by : (b : Bool) → t.0 ≡ b → cond b (Some t.1) (first_fault more) ≡ None → (first_fault more ≡ None → Unmet more) → (t.0 ≡ false) × Unmet more
    by true is k rest = absurd cc
    by false is k rest = (is, rest k)

pub none_met : (tests : List (Bool × PupFault)) → Unmet tests → first_fault tests ≡ None
none_met [] h = refl
none_met (t ∷ more) h = ap (λ b. cond b (Some t.1) (first_fault more)) h.0 ∙ none_met more h.1

-- ---- bounds

pub cells_are_few : (p : Plan) (e : ℕ) → cells_of p e ≤ 4096
cells_are_few p e = by (array_of p e) refl
  where
    by : (o : Option Array) → array_of p e ≡ o → cells_of_states (option_map_or (λ a. a.states) o []) ≤ 4096
    by None is = omega arith
    by (Some a) is = cells_few p e a is

pub steps_are_few : (p : Plan) (e : ℕ) → length (steps_of p e) ≤ 32
steps_are_few p e = by (array_of p e) refl
  where
    by : (o : Option Array) → array_of p e ≡ o → length (option_map_or (λ (a : Array). a.steps) o []) ≤ 32
    by None is = omega arith
    by (Some a) is = (array_fits_of p e a is).steps.1

index_below : (number : ℕ) (arrays : List Array) (e : ℕ) → (place_in number arrays e).index ≤ e
index_below number [] e = omega arith
index_below number (a ∷ more) e = by (nat_lt e (a.first + array_size a)) (index_below (suc number) more e)
  where
    by : (b : Bool) → (place_in (suc number) more e).index ≤ e → (cond {A = Place} b (record { array = number; index = e - a.first }) (place_in (suc number) more e)).index ≤ e
    by true k = omega arith
    by false k = k

index_few : (p : Plan) (e : ℕ) → (place_of p e).index ≤ e
unfolding place_of
index_few p e = index_below 0 p.arrays e

-- ---- slips

slip_lawful : (steps done : ℕ) (slip : Slip) → is_slip steps done slip.kind slip.step slip.iteration ≡ true → LawfulSlip steps done slip
slip_lawful steps done slip h = by (slip.kind == 0) refl h
  where
    none : slip.kind ≡ 0 → slip.step ≡ 0 → slip.iteration ≡ 0 → slip ≡ record { kind = 0; step = 0; iteration = 0 }
    none k s i =
        ap (λ z. (made [] z slip.step slip.iteration).slip) k ∙ ap (λ z. (made [] 0 z slip.iteration).slip) s ∙ ap (λ z. (made [] 0 0 z).slip) i

    some : (slip.kind == 0) ≡ false → 1 ≤ slip.kind
    some t = by_kind slip.kind refl
      where
        by_kind : (k : ℕ) → slip.kind ≡ k → 1 ≤ slip.kind
        by_kind zero is = absurd (let q : (slip.kind == 0) ≡ true = eq-eqb slip.kind 0 is in let z : true ≡ false = sym q ∙ t in cc)
        by_kind (suc k) is = omega (arith, is)

    by : (b : Bool) → (slip.kind == 0) ≡ b →
        cond b (slip.step == 0 && slip.iteration == 0) (nat_le slip.kind 3 && nat_lt slip.step steps && nat_lt slip.iteration done) ≡ true → LawfulSlip steps done slip
    by true t k =
        let parts = and_parts _ _ k in
        inl (none (eqb-true slip.kind 0 t) (eqb-true slip.step 0 parts.0) (eqb-true slip.iteration 0 parts.1))
    by false t k =
        let later = and_parts _ _ k in
        let parts = and_parts _ _ later.0 in
        inr (record {
          some = some t;
          kinds = leb-true slip.kind 3 parts.0;
          step = ltb-true slip.step steps parts.1;
          iteration = ltb-true slip.iteration done later.1;
        })

slip_passes : (steps done : ℕ) (slip : Slip) → LawfulSlip steps done slip → is_slip steps done slip.kind slip.step slip.iteration ≡ true
slip_passes steps done slip (inl none) = ap (λ (s : Slip). is_slip steps done s.kind s.step s.iteration) none
slip_passes steps done slip (inr n) =
    ap (λ b. cond b (slip.step == 0 && slip.iteration == 0) (nat_le slip.kind 3 && nat_lt slip.step steps && nat_lt slip.iteration done)) (kind_some slip.kind n.some)
    ∙ both (nat_le slip.kind 3 && nat_lt slip.step steps) (nat_lt slip.iteration done)
    (both (nat_le slip.kind 3) (nat_lt slip.step steps) (le-leb slip.kind 3 n.kinds) (lt-ltb slip.step steps n.step))
    (lt-ltb slip.iteration done n.iteration)
  where
    kind_some : (k : ℕ) → 1 ≤ k → (k == 0) ≡ false
    kind_some k h = by (k == 0) refl
      where
        by : (b : Bool) → (k == 0) ≡ b → b ≡ false
        by true t = absurd (omega (arith, eqb-true k 0 t, h))
        by false t = refl

-- ---- cells

numbers_fit : (n : ℕ) (bytes : List ℕ) → AreBytes bytes → AllByRecursion (FitsSigned w64) (numbers_in n bytes)
numbers_fit zero bytes a = tt
numbers_fit (suc n) bytes a =
    let fits : Fits w64 (number_at 8 0 bytes) = omega (arith, number_fits 8 0 bytes a) in
    (sfits_to_z {w = w64} {n = number_at 8 0 bytes} fits, numbers_fit n (drop 8 bytes) (bytes_behind 8 bytes a))

numbers_count : (n : ℕ) (bytes : List ℕ) → length (numbers_in n bytes) ≡ n
numbers_count zero bytes = refl
numbers_count (suc n) bytes = ap suc (numbers_count n (drop 8 bytes))

numbers_spelled : (n : ℕ) (bytes : List ℕ) → AreBytes bytes → 8 * n ≤ length bytes → cells_spelling (numbers_in n bytes) ++ drop (8 * n) bytes ≡ bytes
numbers_spelled zero bytes a h = refl
numbers_spelled (suc n) bytes a h =
    let x : ℕ = number_at 8 0 bytes in
    let rest : List ℕ = drop 8 bytes in
    let more : List ℕ = cells_spelling (numbers_in n rest) in
    let bits : cast_unsigned w64 (cast_signed w64 x) ≡ x = of_z-to_z w64 x (number_fits 8 0 bytes a) in
    let far : drop (8 * suc n) bytes ≡ drop (8 * n) rest = ap (λ m. drop m bytes) (let q : 8 * suc n ≡ 8 + 8 * n = omega arith in q) ∙ sym (drop-drop (8 * n) 8 bytes) in
    append_assoc (field 8 (cast_unsigned w64 (cast_signed w64 x))) more (drop (8 * suc n) bytes)
    ∙ ap (λ y. field 8 y ++ (more ++ drop (8 * suc n) bytes)) bits
    ∙ ap (λ ys. field 8 x ++ (more ++ ys)) far
    ∙ ap (λ ys. field 8 x ++ ys) (numbers_spelled n rest (bytes_behind 8 bytes a) (omega (arith, h, length-drop 8 bytes)))
    ∙ field_at 8 0 bytes a (omega (arith, h))

numbers_again : (numbers : List ℤ) (rest : List ℕ) → AllByRecursion (FitsSigned w64) numbers → numbers_in (length numbers) (cells_spelling numbers ++ rest) ≡ numbers
numbers_again [] rest h = refl
numbers_again (x ∷ more) rest h =
    let bits : ℕ = cast_unsigned w64 x in
    let all : List ℕ = cells_spelling (x ∷ more) ++ rest in
    let split : all ≡ field 8 bits ++ (cells_spelling more ++ rest) = append_assoc (field 8 bits) (cells_spelling more) rest in
    let first : cast_signed w64 (number_at 8 0 all) ≡ x = ap (cast_signed w64) (reads_field 8 0 bits all (cells_spelling more ++ rest) split (bits_few x h.0)) ∙ to_z-of_z w64 x h.0 in
    let behind : drop 8 all ≡ cells_spelling more ++ rest = ap (drop 8) split ∙ past 8 0 bits (cells_spelling more ++ rest) in
    ap (λ z. z ∷ numbers_in (length more) (drop 8 all)) first
    ∙ ap (λ zs. x ∷ numbers_in (length more) zs) behind
    ∙ ap (λ zs. x ∷ zs) (numbers_again more rest h.1)
  where
    bits_few : (x : ℤ) → FitsSigned w64 x → cast_unsigned w64 x < 256 ^ 8
    bits_few x k = once_bits_few x k

-- ---- what is read is spelled so

pub record Read (p : Plan) (e : ℕ) (first : Option ℕ) (bytes : List ℕ) : Type 0 where
  pub spelled : record_spelling p e (done_in bytes) (cells_in p e bytes) ++ drop (size_of p e) bytes ≡ bytes
  pub lawful : Lawful p e (done_in bytes) (cells_in p e bytes)
  pub starts : is_first first (done_in bytes) ≡ true

seven : (a b : List ℕ) (array index done kind step iteration count : ℕ) (xs : List ℕ) → AreBytes xs → 28 ≤ length xs →
    number_at 2 0 xs ≡ array → number_at 4 2 xs ≡ index → number_at 8 6 xs ≡ done → number_at 1 14 xs ≡ kind → number_at 1 15 xs ≡ step → number_at 8 16 xs ≡ iteration →
    number_at 4 24 xs ≡ count → a ++ b ≡ drop 28 xs →
    field 2 array ++ (field 4 index ++ (field 8 done ++ (field 1 kind ++ (field 1 step ++ (field 8 iteration ++ (field 4 count ++ (a ++ b))))))) ≡ xs
seven a b array index done kind step iteration count xs bytes long is2 is6 is14 is15 is16 is24 is28 cells =
    ap (λ r. field 2 array ++ (field 4 index ++ (field 8 done ++ (field 1 kind ++ (field 1 step ++ (field 8 iteration ++ r)))))) (one 4 24 count (drop 28 xs) (a ++ b) cells is28 (field_at 4 24 xs bytes (omega (arith, long))))
    ∙ ap (λ r. field 2 array ++ (field 4 index ++ (field 8 done ++ (field 1 kind ++ (field 1 step ++ r))))) (one 8 16 iteration (drop 24 xs) (drop 24 xs) refl is24 (field_at 8 16 xs bytes (omega (arith, long))))
    ∙ ap (λ r. field 2 array ++ (field 4 index ++ (field 8 done ++ (field 1 kind ++ r)))) (one 1 15 step (drop 16 xs) (drop 16 xs) refl is16 (field_at 1 15 xs bytes (omega (arith, long))))
    ∙ ap (λ r. field 2 array ++ (field 4 index ++ (field 8 done ++ r))) (one 1 14 kind (drop 15 xs) (drop 15 xs) refl is15 (field_at 1 14 xs bytes (omega (arith, long))))
    ∙ ap (λ r. field 2 array ++ (field 4 index ++ r)) (one 8 6 done (drop 14 xs) (drop 14 xs) refl is14 (field_at 8 6 xs bytes (omega (arith, long))))
    ∙ ap (λ r. field 2 array ++ r) (one 4 2 index (drop 6 xs) (drop 6 xs) refl is6 (field_at 4 2 xs bytes (omega (arith, long))))
    ∙ one 2 0 array (drop 2 xs) (drop 2 xs) refl is2 (field_at 2 0 xs bytes (omega (arith, long)))
  where
    one : (width at x : ℕ) (next other : List ℕ) → other ≡ next → number_at width at xs ≡ x → field width (number_at width at xs) ++ next ≡ drop at xs → field width x ++ other ≡ drop at xs
    one width at x next other same is read = ap (λ r. field width x ++ r) same ∙ ap (λ n. field width n ++ next) (sym is) ∙ read

pub read_of : (p : Plan) (e : ℕ) (first : Option ℕ) (at : ℕ) (bytes : List ℕ) → AreBytes bytes → record_fault p e first at bytes ≡ None → Read p e first bytes
unfolding record_fault
read_of p e first at bytes are none =
    let t = unmet (record_tests p e first at bytes) none in
    let long : 28 ≤ length bytes = ltb-false (length bytes) 28 t.0 in
    let placed = and_parts (number_at 2 0 bytes == (place_of p e).array) (number_at 4 2 bytes == (place_of p e).index) (not_false (is_placed p e bytes) t.1.0) in
    let timely = and_parts (nat_le (done_in bytes) p.iterations) (is_first first (done_in bytes)) (not_false (is_timely p first bytes) t.1.1.0) in
    let slip = not_false (slip_fits p e bytes) t.1.1.1.0 in
    let count : number_at 4 24 bytes ≡ cells_of p e = eqb-true (number_at 4 24 bytes) (cells_of p e) (not_false (number_at 4 24 bytes == cells_of p e) t.1.1.1.1.0) in
    let whole : size_of p e ≤ length bytes = ltb-false (length bytes) (size_of p e) t.1.1.1.1.1.0 in
    let n : ℕ = cells_of p e in
    let far : drop (size_of p e) bytes ≡ drop (8 * n) (drop 28 bytes) = sym (drop-drop (8 * n) 28 bytes) in
    let tail : cells_spelling (numbers_in n (drop 28 bytes)) ++ drop (size_of p e) bytes ≡ drop 28 bytes =
    ap (λ r. cells_spelling (numbers_in n (drop 28 bytes)) ++ r) far
    ∙ numbers_spelled n (drop 28 bytes) (bytes_behind 28 bytes are) (omega (arith, whole, length-drop 28 bytes)) in
    let counted : length (numbers_in n (drop 28 bytes)) ≡ n = numbers_count n (drop 28 bytes) in
    record {
      spelled =
          fields_of p e (done_in bytes) (cells_in p e bytes) (drop (size_of p e) bytes)
          ∙ seven (cells_spelling (numbers_in n (drop 28 bytes))) (drop (size_of p e) bytes) (place_of p e).array (place_of p e).index (done_in bytes)
          (number_at 1 14 bytes) (number_at 1 15 bytes) (number_at 8 16 bytes) (length (numbers_in n (drop 28 bytes))) bytes are long
          (eqb-true (number_at 2 0 bytes) (place_of p e).array placed.0) (eqb-true (number_at 4 2 bytes) (place_of p e).index placed.1)
          refl refl refl refl (count ∙ sym counted) tail;
      lawful = record {
        time = leb-true (done_in bytes) p.iterations timely.0;
        count = counted;
        numbers = numbers_fit n (drop 28 bytes) (bytes_behind 28 bytes are);
        slip = slip_lawful (length (steps_of p e)) (done_in bytes) (cells_in p e bytes).slip slip;
      };
      starts = timely.1;
    }

-- ---- what is spelled so is read

pub record Again (p : Plan) (e : ℕ) (first : Option ℕ) (at k : ℕ) (cells : Cells) (rest : List ℕ) : Type 0 where
  pub fine : record_fault p e first at (record_spelling p e k cells ++ rest) ≡ None
  pub done : done_in (record_spelling p e k cells ++ rest) ≡ k
  pub state : cells_in p e (record_spelling p e k cells ++ rest) ≡ cells
  pub left : drop (size_of p e) (record_spelling p e k cells ++ rest) ≡ rest

-- the numbers at the places of a record's fields
pub record Numbers (a i d k s t c : ℕ) (more bytes : List ℕ) : Type 0 where
  pub array : number_at 2 0 bytes ≡ a
  pub index : number_at 4 2 bytes ≡ i
  pub done : number_at 8 6 bytes ≡ d
  pub kind : number_at 1 14 bytes ≡ k
  pub step : number_at 1 15 bytes ≡ s
  pub iteration : number_at 8 16 bytes ≡ t
  pub count : number_at 4 24 bytes ≡ c
  pub tail : drop 28 bytes ≡ more

numbers_of : (array index done kind step iteration count : ℕ) (tail : List ℕ) →
    array < 256 ^ 2 → index < 256 ^ 4 → done < 256 ^ 8 → kind < 256 ^ 1 → step < 256 ^ 1 → iteration < 256 ^ 8 → count < 256 ^ 4 → (bytes : List ℕ) →
    bytes ≡ field 2 array ++ (field 4 index ++ (field 8 done ++ (field 1 kind ++ (field 1 step ++ (field 8 iteration ++ (field 4 count ++ tail)))))) →
    Numbers array index done kind step iteration count tail bytes
numbers_of array index done kind step iteration count tail h2 h6 h14 h15 h16 h24 h28 bytes is =
    let r24 : List ℕ = field 4 count ++ tail in
    let r16 : List ℕ = field 8 iteration ++ r24 in
    let r15 : List ℕ = field 1 step ++ r16 in
    let r14 : List ℕ = field 1 kind ++ r15 in
    let r6 : List ℕ = field 8 done ++ r14 in
    let r2 : List ℕ = field 4 index ++ r6 in
    let to2 : (n : ℕ) → drop (2 + n) bytes ≡ drop n r2 = λ n. ap (drop (2 + n)) is ∙ past 2 n array r2 in
    let at2 : drop 2 bytes ≡ r2 = to2 0 in
    let at6 : drop 6 bytes ≡ r6 = to2 4 ∙ past 4 0 index r6 in
    let at14 : drop 14 bytes ≡ r14 = to2 12 ∙ past 4 8 index r6 ∙ past 8 0 done r14 in
    let at15 : drop 15 bytes ≡ r15 = to2 13 ∙ past 4 9 index r6 ∙ past 8 1 done r14 ∙ past 1 0 kind r15 in
    let at16 : drop 16 bytes ≡ r16 = to2 14 ∙ past 4 10 index r6 ∙ past 8 2 done r14 ∙ past 1 1 kind r15 ∙ past 1 0 step r16 in
    let at24 : drop 24 bytes ≡ r24 = to2 22 ∙ past 4 18 index r6 ∙ past 8 10 done r14 ∙ past 1 9 kind r15 ∙ past 1 8 step r16 ∙ past 8 0 iteration r24 in
    let at28 : drop 28 bytes ≡ tail = to2 26 ∙ past 4 22 index r6 ∙ past 8 14 done r14 ∙ past 1 13 kind r15 ∙ past 1 12 step r16 ∙ past 8 4 iteration r24 ∙ past 4 0 count tail in
    record {
      array = reads_field 2 0 array bytes r2 is h2;
      index = reads_field 4 2 index bytes r6 at2 h6;
      done = reads_field 8 6 done bytes r14 at6 h14;
      kind = reads_field 1 14 kind bytes r15 at14 h15;
      step = reads_field 1 15 step bytes r16 at15 h16;
      iteration = reads_field 8 16 iteration bytes r24 at16 h24;
      count = reads_field 4 24 count bytes tail at24 h28;
      tail = at28;
    }

-- what the slip's numbers are below
abbrev pub SlipSmall : Slip → Type 0
SlipSmall slip = (slip.kind < 256 ^ 1) × (slip.step < 256 ^ 1) × (slip.iteration < 256 ^ 8)

pub slip_small : (steps done : ℕ) (slip : Slip) → steps ≤ 32 → done ≤ 1000000 → LawfulSlip steps done slip → SlipSmall slip
slip_small steps done slip few late (inl none) =
    let k : slip.kind ≡ 0 = ap (λ (s : Slip). s.kind) none in
    let s : slip.step ≡ 0 = ap (λ (s : Slip). s.step) none in
    let i : slip.iteration ≡ 0 = ap (λ (s : Slip). s.iteration) none in
    (omega (arith, k), omega (arith, s), omega (arith, i))
slip_small steps done slip few late (inr n) = (omega (arith, n.kinds), omega (arith, n.step, few), omega (arith, n.iteration, late))

pub again : (p : Plan) (e : ℕ) (first : Option ℕ) (at k : ℕ) (cells : Cells) (rest : List ℕ) → e < elements p → Lawful p e k cells → is_first first k ≡ true → Again p e first at k cells rest
unfolding record_fault
again p e first at k cells rest there lawful same =
    let bytes : List ℕ = record_spelling p e k cells ++ rest in
    let tail : List ℕ = cells_spelling cells.numbers ++ rest in
    let place : Place = place_of p e in
    let late : k ≤ 1000000 = omega (arith, lawful.time, iterations_few p) in
    let few : cells_of p e ≤ 4096 = cells_are_few p e in
    let small : SlipSmall cells.slip = slip_small (length (steps_of p e)) k cells.slip (steps_are_few p e) late lawful.slip in
    let size : length bytes ≡ size_of p e + length rest = length-append (record_spelling p e k cells) rest ∙ ap (λ n. n + length rest) (record_length p e k cells ∙ ap (λ n. 28 + 8 * n) lawful.count) in
    let numbers : Numbers place.array place.index k cells.slip.kind cells.slip.step cells.slip.iteration (length cells.numbers) tail bytes =
    numbers_of place.array place.index k cells.slip.kind cells.slip.step cells.slip.iteration (length cells.numbers) tail
    (omega (arith, place_in_range p e there, arrays_few p)) (omega (arith, index_few p e, there, elements_small)) (omega (arith, late)) small.0 small.1 small.2
    (omega (arith, lawful.count, few)) bytes (fields_of p e k cells rest) in
    let done : done_in bytes ≡ k = numbers.done in
    let read : numbers_in (cells_of p e) (drop 28 bytes) ≡ cells.numbers =
    ap (λ n. numbers_in n (drop 28 bytes)) (sym lawful.count) ∙ ap (numbers_in (length cells.numbers)) numbers.tail ∙ numbers_again cells.numbers rest lawful.numbers in
    let placed : not (is_placed p e bytes) ≡ false =
    not_from_true (is_placed p e bytes) (both (number_at 2 0 bytes == place.array) (number_at 4 2 bytes == place.index)
    (eq-eqb (number_at 2 0 bytes) place.array numbers.array) (eq-eqb (number_at 4 2 bytes) place.index numbers.index)) in
    let timely : not (is_timely p first bytes) ≡ false =
    not_from_true (is_timely p first bytes) (both (nat_le (done_in bytes) p.iterations) (is_first first (done_in bytes))
    (le-leb (done_in bytes) p.iterations (omega (arith, done, lawful.time))) (ap (is_first first) done ∙ same)) in
    let slip : not (slip_fits p e bytes) ≡ false = not_from_true (slip_fits p e bytes) (slip_is bytes done numbers.kind numbers.step numbers.iteration) in
    let count : not (number_at 4 24 bytes == cells_of p e) ≡ false =
    not_from_true (number_at 4 24 bytes == cells_of p e) (eq-eqb (number_at 4 24 bytes) (cells_of p e) (numbers.count ∙ lawful.count)) in
    record {
      fine =
          none_met (record_tests p e first at bytes)
          (le-ltb (length bytes) 28 (omega (arith, size)), (placed, (timely, (slip, (count, (le-ltb (length bytes) (size_of p e) (omega (arith, size)), tt))))));
      done = done;
      state = same_cells (cells_in p e bytes) cells read numbers.kind numbers.step numbers.iteration;
      left = behind bytes tail size;
    }
  where
    elements_small : elements p ≤ 4096
    elements_small = elements_few p

    slip_is : (bytes : List ℕ) → done_in bytes ≡ k → number_at 1 14 bytes ≡ cells.slip.kind → number_at 1 15 bytes ≡ cells.slip.step → number_at 8 16 bytes ≡ cells.slip.iteration →
        slip_fits p e bytes ≡ true
    slip_is bytes d a b i =
        ap (λ n. is_slip (length (steps_of p e)) n (number_at 1 14 bytes) (number_at 1 15 bytes) (number_at 8 16 bytes)) d
        ∙ ap (λ n. is_slip (length (steps_of p e)) k n (number_at 1 15 bytes) (number_at 8 16 bytes)) a
        ∙ ap (λ n. is_slip (length (steps_of p e)) k cells.slip.kind n (number_at 8 16 bytes)) b
        ∙ ap (λ n. is_slip (length (steps_of p e)) k cells.slip.kind cells.slip.step n) i
        ∙ slip_passes (length (steps_of p e)) k cells.slip lawful.slip

    behind : (bytes tail : List ℕ) → length (record_spelling p e k cells ++ rest) ≡ size_of p e + length rest → drop (size_of p e) (record_spelling p e k cells ++ rest) ≡ rest
    behind bytes tail size =
        ap (λ n. drop n (record_spelling p e k cells ++ rest)) (sym (record_length p e k cells ∙ ap (λ n. 28 + 8 * n) lawful.count))
        ∙ drop-append_seam (record_spelling p e k cells) rest

-- ---- where a record's element stands

pub tells_place : RecordTellsPlace
tells_place p e k cells rest there =
    let bytes : List ℕ = record_spelling p e k cells ++ rest in
    let place : Place = place_of p e in
    let tail : List ℕ = field 8 k
    ++ (field 1 cells.slip.kind
    ++ (field 1 cells.slip.step ++ (field 8 cells.slip.iteration ++ (field 4 (length cells.numbers) ++ (cells_spelling cells.numbers ++ rest))))) in
    let is : bytes ≡ field 2 place.array ++ (field 4 place.index ++ tail) = fields_of p e k cells rest in
    let behind : drop 2 bytes ≡ field 4 place.index ++ tail = ap (drop 2) is ∙ past 2 0 place.array (field 4 place.index ++ tail) in
    let array : number_at 2 0 bytes ≡ place.array = reads_field 2 0 place.array bytes (field 4 place.index ++ tail) is (omega (arith, place_in_range p e there, arrays_few p)) in
    let index : number_at 4 2 bytes ≡ place.index = reads_field 4 2 place.index bytes tail behind (omega (arith, index_few p e, there, elements_few p)) in
    ap (λ b. cond b None (Some (stood (number_at 2 0 bytes) (number_at 4 2 bytes))))
    (le-ltb (length bytes) 28 (omega (arith, length-append (record_spelling p e k cells) rest, record_length p e k cells)))
    ∙ ap (λ a. Some (stood a (number_at 4 2 bytes))) array ∙ ap (λ i. Some (stood place.array i)) index
  where
    stood : ℕ → ℕ → Place
    stood array index = record { array = array; index = index }

-- A checkpoint spells one state.
use Rattle.std.proofs.Common.{◌≡◌, ℕ, suc, ◌<◌, ◌^◌, List, [], ◌∷◌, ◌++◌, length, slice_index_or, refl, ap, sym, ◌∙◌, append_assoc, arith, to_z, FitsSigned}
use Rattle.std.specs.Prelude.{ℤ, pos, negsuc}
use Rattle.std.specs.List.{AllByRecursion}
use Rattle.std.specs.Int.{w64, cast_unsigned}
use Rattle.std.proofs.lemmas.Int.{to_z-of_z}
use Rattle.std.proofs.lemmas.List.{append_cancel_left}
use Rattle.byteorder.specs.Endian.{little_number}
use Rattle.byteorder.specs.Numbers.{little_number-reads_back}
use Rattle.chare_base.specs.declared.cells.Cells.{Cells}
use Rattle.chare_base.specs.declared.plan.Plan.{Plan}
use Rattle.chare_base.specs.Elements.{cells_of, place_of}
use Rattle.chare_base.proofs.Facts.{elements_some}
use Rattle.pup_state.specs.Spelling.{field, cells_spelling, record_spelling, records_from, head, pack}
use Rattle.pup_state.specs.Laws.{CellsFit, OneSpelling}

one_field : (width x y : ℕ) (r s : List ℕ) → x < 256 ^ width → y < 256 ^ width → field width x ++ r ≡ field width y ++ s → (x ≡ y) × (r ≡ s)
unfolding field
one_field width x y r s h k e =
    let same : x ≡ y = sym (little_number-reads_back width x r h) ∙ ap (little_number width) e ∙ little_number-reads_back width y s k in
    (same, append_cancel_left (field width x) r s (e ∙ ap (λ z. field width z ++ s) (sym same)))

-- a cell's bits are below 64 bits, and tell the cell
pub bits_few : (x : ℤ) → FitsSigned w64 x → cast_unsigned w64 x < 2 ^ 64
bits_few (pos n) h = omega arith
bits_few (negsuc n) h = omega arith

one_cell : (x y : ℤ) → FitsSigned w64 x → FitsSigned w64 y → cast_unsigned w64 x ≡ cast_unsigned w64 y → x ≡ y
one_cell x y h k e = sym (to_z-of_z w64 x h) ∙ ap (to_z w64) e ∙ to_z-of_z w64 y k

one_list : (xs ys : List ℤ) (r s : List ℕ) → length xs ≡ length ys → AllByRecursion (FitsSigned w64) xs → AllByRecursion (FitsSigned w64) ys →
    cells_spelling xs ++ r ≡ cells_spelling ys ++ s → (xs ≡ ys) × (r ≡ s)
one_list [] [] r s l h k e = (refl, e)
one_list [] (y ∷ ys) r s l h k e = absurd (omega arith)
one_list (x ∷ xs) [] r s l h k e = absurd (omega arith)
one_list (x ∷ xs) (y ∷ ys) r s l h k e =
    let apart : field 8 (cast_unsigned w64 x) ++ (cells_spelling xs ++ r) ≡ field 8 (cast_unsigned w64 y) ++ (cells_spelling ys ++ s) =
    sym (append_assoc (field 8 (cast_unsigned w64 x)) (cells_spelling xs) r) ∙ e ∙ append_assoc (field 8 (cast_unsigned w64 y)) (cells_spelling ys) s in
    let first = one_field 8 (cast_unsigned w64 x) (cast_unsigned w64 y) (cells_spelling xs ++ r) (cells_spelling ys ++ s) (bits_few x h.0) (bits_few y k.0) apart in
    let rest = one_list xs ys r s (omega arith) h.1 k.1 first.1 in
    (ap (λ z. z ∷ xs) (one_cell x y h.0 k.0 first.0) ∙ ap (λ zs. y ∷ zs) rest.0, rest.1)

flat : (a b c d f g h i r : List ℕ) → (a ++ (b ++ (c ++ (d ++ (f ++ (g ++ (h ++ i))))))) ++ r ≡ a ++ (b ++ (c ++ (d ++ (f ++ (g ++ (h ++ (i ++ r)))))))
flat a b c d f g h i r = simp append_assoc

-- a record's fields, and what follows it
abbrev pub fields : ℕ → ℕ → ℕ → Cells → List ℕ → List ℕ
fields array index done cells r =
    field 2 array ++ (field 4 index ++ (field 8 done ++ (field 1 cells.slip.kind ++ (field 1 cells.slip.step
    ++ (field 8 cells.slip.iteration ++ (field 4 (length cells.numbers) ++ (cells_spelling cells.numbers ++ r)))))))

pub fields_of : (p : Plan) (e done : ℕ) (cells : Cells) (r : List ℕ) → record_spelling p e done cells ++ r ≡ fields (place_of p e).array (place_of p e).index done cells r
unfolding record_spelling
fields_of p e done cells r =
    flat (field 2 (place_of p e).array) (field 4 (place_of p e).index) (field 8 done) (field 1 cells.slip.kind) (field 1 cells.slip.step)
    (field 8 cells.slip.iteration) (field 4 (length cells.numbers)) (cells_spelling cells.numbers) r

abbrev pub made : List ℤ → ℕ → ℕ → ℕ → Cells
made numbers kind step iteration = record { numbers = numbers; slip = record { kind = kind; step = step; iteration = iteration } }

pub same_cells : (a b : Cells) → a.numbers ≡ b.numbers → a.slip.kind ≡ b.slip.kind → a.slip.step ≡ b.slip.step → a.slip.iteration ≡ b.slip.iteration → a ≡ b
same_cells a b n k s i =
    ap (λ z. made z a.slip.kind a.slip.step a.slip.iteration) n ∙ ap (λ z. made b.numbers z a.slip.step a.slip.iteration) k
    ∙ ap (λ z. made b.numbers b.slip.kind z a.slip.iteration) s ∙ ap (λ z. made b.numbers b.slip.kind b.slip.step z) i

-- one record of an element, whatever follows it
one_record : (p : Plan) (e j k : ℕ) (a b : Cells) (r s : List ℕ) → j < 2 ^ 64 → k < 2 ^ 64 → CellsFit a → CellsFit b → length a.numbers ≡ length b.numbers →
    record_spelling p e j a ++ r ≡ record_spelling p e k b ++ s → (a ≡ b) × (j ≡ k) × (r ≡ s)
one_record p e j k a b r s hj hk fa fb l same =
    let place = place_of p e in
    let all : fields place.array place.index j a r ≡ fields place.array place.index k b s = sym (fields_of p e j a r) ∙ same ∙ fields_of p e k b s in
    let placed = append_cancel_left (field 4 place.index) _ _ (append_cancel_left (field 2 place.array) _ _ all) in
    let done = one_field 8 j k _ _ hj hk placed in
    let kind = one_field 1 a.slip.kind b.slip.kind _ _ fa.kind fb.kind done.1 in
    let step = one_field 1 a.slip.step b.slip.step _ _ fa.step fb.step kind.1 in
    let iteration = one_field 8 a.slip.iteration b.slip.iteration _ _ fa.iteration fb.iteration step.1 in
    let counted : cells_spelling a.numbers ++ r ≡ cells_spelling b.numbers ++ s =
    append_cancel_left (field 4 (length b.numbers)) _ _ (ap (λ n. field 4 n ++ (cells_spelling a.numbers ++ r)) (sym l) ∙ iteration.1) in
    let cells = one_list a.numbers b.numbers r s l fa.numbers fb.numbers counted in
    (same_cells a b cells.0 kind.0 step.0 iteration.0, done.0, cells.1)

-- each element's number of cells
abbrev Counted : List Cells → (ℕ → ℕ) → Type 0
Counted all count = (i : ℕ) (none : Cells) → i < length all → length (slice_index_or all i none).numbers ≡ count i

counted_rest : (cells : Cells) (more : List Cells) (count : ℕ → ℕ) → Counted (cells ∷ more) count → Counted more (λ i. count (suc i))
counted_rest cells more count h i none k = h (suc i) none (omega arith)

one_state : (p : Plan) (e j k : ℕ) (a b : List Cells) (count : ℕ → ℕ) → j < 2 ^ 64 → k < 2 ^ 64 → length a ≡ length b → Counted a count → Counted b count →
    AllByRecursion CellsFit a → AllByRecursion CellsFit b → records_from p j e a ≡ records_from p k e b → a ≡ b
one_state p e j k [] [] count hj hk l ca cb fa fb same = refl
one_state p e j k [] (y ∷ ys) count hj hk l ca cb fa fb same = absurd (omega arith)
one_state p e j k (x ∷ xs) [] count hj hk l ca cb fa fb same = absurd (omega arith)
one_state p e j k (x ∷ xs) (y ∷ ys) count hj hk l ca cb fa fb same =
    let first = one_record p e j k x y (records_from p j (suc e) xs) (records_from p k (suc e) ys) hj hk fa.0 fb.0 (ca 0 x (omega arith) ∙ sym (cb 0 y (omega arith))) same in
    let rest = one_state p (suc e) j k xs ys (λ i. count (suc i)) hj hk (omega arith) (counted_rest x xs count ca) (counted_rest y ys count cb) fa.1 fb.1 first.2 in
    ap (λ z. z ∷ xs) first.0 ∙ ap (λ zs. y ∷ zs) rest

-- the first record tells how many iterations are done
one_time : (p : Plan) (j k : ℕ) (a b : List Cells) (count : ℕ → ℕ) → j < 2 ^ 64 → k < 2 ^ 64 → 0 < length a → length a ≡ length b → Counted a count → Counted b count →
    AllByRecursion CellsFit a → AllByRecursion CellsFit b → records_from p j 0 a ≡ records_from p k 0 b → j ≡ k
one_time p j k [] b count hj hk some l ca cb fa fb same = absurd (omega arith)
one_time p j k (x ∷ xs) [] count hj hk some l ca cb fa fb same = absurd (omega arith)
one_time p j k (x ∷ xs) (y ∷ ys) count hj hk some l ca cb fa fb same =
    (one_record p 0 j k x y (records_from p j 1 xs) (records_from p k 1 ys) hj hk fa.0 fb.0 (ca 0 x (omega arith) ∙ sym (cb 0 y (omega arith))) same).1

pub one_spelling : OneSpelling
unfolding pack
one_spelling p j k a b hj hk fa fb same =
    let count = λ (e : ℕ). cells_of p e in
    let l : length a ≡ length b = fa.shape.count ∙ sym fb.shape.count in
    let records : records_from p j 0 a ≡ records_from p k 0 b =
    append_cancel_left (head (length b)) _ _ (ap (λ n. head n ++ records_from p j 0 a) (sym l) ∙ same) in
    let some : 0 < length a = omega (arith, elements_some p, fa.shape.count) in (
      one_state p 0 j k a b count hj hk l fa.shape.cells fb.shape.cells fa.each fb.each records,
      one_time p j k a b count hj hk some l fa.shape.cells fb.shape.cells fa.each fb.each records,
    )

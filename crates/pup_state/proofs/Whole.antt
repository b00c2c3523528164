-- A checkpoint back from its bytes, and what is wrong with bytes that are none.
use Rattle.std.proofs.Common.{◌≡◌, ℕ, zero, suc, ◌+◌, ◌-◌, ◌*◌, ◌<◌, ◌≤◌, Bool, true, false, cond, List, [], ◌∷◌, ◌++◌, length, take, drop, refl, ap, sym, ◌∙◌, append_assoc, subst, arith, length-append, Option, Some, None, inl, inr}
use Rattle.std.specs.Prelude.{◌==◌, ◌⊎◌, not, codes, slice_index_or}
use Rattle.std.specs.Option.{option_or}
use Rattle.std.specs.Str.{bytes_eq}
use Rattle.std.proofs.lemmas.Bool.{eq-eqb, eqb-true, le-ltb, ltb-false, not_from_true}
use Rattle.std.proofs.lemmas.List.{append-nil, take-append-drop}
use Rattle.std.proofs.lemmas.Slice.Eq.{bytes_eq-Decides}
use Rattle.std.proofs.Math.Seq.{drop-append_seam, take-append_seam}
use Rattle.chare_base.specs.declared.cells.Cells.{Cells}
use Rattle.chare_base.specs.declared.plan.Plan.{Plan}
use Rattle.chare_base.specs.Elements.{elements}
use Rattle.chare_base.specs.Shape.{Shaped}
use Rattle.chare_base.proofs.Facts.{elements_few, elements_some}
use Rattle.pup_state.specs.declared.fault.PupFault.{PupFault}
use Rattle.pup_state.specs.declared.fault.PupFault.TheVariants.{Trailing}
use Rattle.pup_state.specs.Faults.{Behind, Cause, InRecord, LawfulFrom, Reaches, done_in, first_done, head_fault, head_tests, is_first, number_at, record_fault}
use Rattle.pup_state.specs.Packs.{IsPack, Lawful, LawfulState}
use Rattle.pup_state.specs.Reading.{cells_in, faults_from, pack_fault, states_from}
use Rattle.pup_state.specs.Spelling.{field, head, pack, record_spelling, records_from, size_of}
use Rattle.pup_state.proofs.Fields.{AreBytes, bytes_behind, field_at, past, reads_field}
use Rattle.pup_state.proofs.Lengths.{field_length, record_length}
use Rattle.pup_state.proofs.Records.{Again, Read, again, none_met, not_false, read_of, unmet}

-- ---- states by their elements, from one on

pub each_from : (p : Plan) (k e : ℕ) (all : List Cells) → ((i : ℕ) (none : Cells) → i < length all → Lawful p (e + i) k (slice_index_or all i none)) → LawfulFrom p k e all
each_from p k e [] h = tt
each_from p k e (c ∷ more) h = (
  subst (λ m. Lawful p m k c) (let q : e + 0 ≡ e = omega arith in q) (h 0 c (omega arith)),
  each_from p k (suc e) more (λ i none there. subst (λ m. Lawful p m k (slice_index_or more i none)) (let q : e + suc i ≡ suc e + i = omega arith in q) (h (suc i) none (omega (arith, there)))),
)

pub each_at : (p : Plan) (k e : ℕ) (all : List Cells) → LawfulFrom p k e all → (i : ℕ) (none : Cells) → i < length all → Lawful p (e + i) k (slice_index_or all i none)
each_at p k e [] h i none there = absurd (omega (arith, there))
each_at p k e (c ∷ more) h zero none there = subst (λ m. Lawful p m k c) (let q : e ≡ e + 0 = omega arith in q) h.0
each_at p k e (c ∷ more) h (suc i) none there =
    subst (λ m. Lawful p m k (slice_index_or more i none)) (let q : suc e + i ≡ e + suc i = omega arith in q) (each_at p k (suc e) more h.1 i none (omega (arith, there)))

pub from_state : (p : Plan) (k : ℕ) (all : List Cells) → LawfulState p k all → LawfulFrom p k 0 all
from_state p k all s = each_from p k 0 all (λ i none there. subst (λ m. Lawful p m k (slice_index_or all i none)) (let q : i ≡ 0 + i = omega arith in q) (s.each i none there))

pub state_of : (p : Plan) (k : ℕ) (all : List Cells) → length all ≡ elements p → LawfulFrom p k 0 all → LawfulState p k all
state_of p k all count h = record {
  count = count;
  each = λ i none there. subst (λ m. Lawful p m k (slice_index_or all i none)) (let q : 0 + i ≡ i = omega arith in q) (each_at p k 0 all h i none there);
}

pub shaped : (p : Plan) (k : ℕ) (all : List Cells) → LawfulState p k all → Shaped p all
shaped p k all s = record { count = s.count; cells = λ e none there. (s.each e none there).count }

-- ---- what stands before the records

pub head_read : (p : Plan) (bytes : List ℕ) → AreBytes bytes → head_fault p bytes ≡ None → bytes ≡ head (elements p) ++ drop 8 bytes
unfolding head_fault
head_read p bytes are none =
    let t = unmet (head_tests p bytes) none in
    let mark : take 4 bytes ≡ codes "ACR1" = (bytes_eq-Decides (take 4 bytes) (codes "ACR1")).0 (not_false (bytes_eq (take 4 bytes) (codes "ACR1")) t.1.0) in
    let long : 8 ≤ length bytes = ltb-false (length bytes) 8 t.1.1.0 in
    let count : number_at 4 4 bytes ≡ elements p = eqb-true (number_at 4 4 bytes) (elements p) (not_false (number_at 4 4 bytes == elements p) t.1.1.1.0) in
    sym (take-append-drop 4 bytes) ∙ ap (λ xs. xs ++ drop 4 bytes) mark
    ∙ ap (λ xs. codes "ACR1" ++ xs) (sym (field_at 4 4 bytes are (omega (arith, long))))
    ∙ ap (λ n. codes "ACR1" ++ (field 4 n ++ drop 8 bytes)) count
    ∙ sym (append_assoc (codes "ACR1") (field 4 (elements p)) (drop 8 bytes))

head_split : (p : Plan) (bytes rest : List ℕ) → bytes ≡ head (elements p) ++ rest → bytes ≡ codes "ACR1" ++ (field 4 (elements p) ++ rest)
head_split p bytes rest is = is ∙ append_assoc (codes "ACR1") (field 4 (elements p)) rest

behind_mark : (p : Plan) (bytes rest : List ℕ) → bytes ≡ head (elements p) ++ rest → drop 4 bytes ≡ field 4 (elements p) ++ rest
behind_mark p bytes rest is = ap (drop 4) (head_split p bytes rest is) ∙ drop-append_seam (codes "ACR1") (field 4 (elements p) ++ rest)

pub behind_head : (p : Plan) (bytes rest : List ℕ) → bytes ≡ head (elements p) ++ rest → drop 8 bytes ≡ rest
behind_head p bytes rest is =
    ap (drop 8) (head_split p bytes rest is) ∙ past 4 0 (elements p) rest

pub head_length : (p : Plan) (bytes rest : List ℕ) → bytes ≡ head (elements p) ++ rest → length bytes ≡ 8 + length rest
head_length p bytes rest is =
    ap length (head_split p bytes rest is)
    ∙ length-append (codes "ACR1") (field 4 (elements p) ++ rest)
    ∙ ap (λ n. 4 + n) (length-append (field 4 (elements p)) rest ∙ ap (λ n. n + length rest) (field_length 4 (elements p)))
    ∙ (let q : 4 + (4 + length rest) ≡ 8 + length rest = omega arith in q)

pub head_again : (p : Plan) (bytes rest : List ℕ) → bytes ≡ head (elements p) ++ rest → head_fault p bytes ≡ None
unfolding head_fault
head_again p bytes rest is =
    let size = head_length p bytes rest is in
    let mark : take 4 bytes ≡ codes "ACR1" = ap (take 4) (head_split p bytes rest is) ∙ take-append_seam (codes "ACR1") (field 4 (elements p) ++ rest) in
    let count : number_at 4 4 bytes ≡ elements p = reads_field 4 4 (elements p) bytes rest (behind_mark p bytes rest is) (omega (arith, elements_few p)) in
    let marked : not (bytes_eq (take 4 bytes) (codes "ACR1")) ≡ false = not_from_true (bytes_eq (take 4 bytes) (codes "ACR1")) ((bytes_eq-Decides (take 4 bytes) (codes "ACR1")).1 mark) in
    let counted : not (number_at 4 4 bytes == elements p) ≡ false = not_from_true (number_at 4 4 bytes == elements p) (eq-eqb (number_at 4 4 bytes) (elements p) count) in
    none_met (head_tests p bytes) (le-ltb (length bytes) 4 (omega (arith, size)), (marked, (le-ltb (length bytes) 8 (omega (arith, size)), (counted, tt))))

-- ---- records one after another

or_none : (o q : Option PupFault) → option_or o q ≡ None → (o ≡ None) × (q ≡ None)
or_none None q h = (refl, h)
or_none (Some x) q h = absurd cc

empty : (bytes : List ℕ) → length bytes ≡ 0 → bytes ≡ []
empty [] h = refl
empty (x ∷ xs) h = absurd (omega (arith, h))

-- what is read of n records is spelled so
pub record Same (p : Plan) (n e : ℕ) (bytes : List ℕ) (k : ℕ) : Type 0 where
  pub spelled : bytes ≡ records_from p k e (states_from p n e bytes)
  pub lawful : LawfulFrom p k e (states_from p n e bytes)
  pub count : length (states_from p n e bytes) ≡ n

same_more : (p : Plan) (n e : ℕ) (first : Option ℕ) (bytes : List ℕ) → Read p e first bytes → Same p n (suc e) (drop (size_of p e) bytes) (done_in bytes) → Same p (suc n) e bytes (done_in bytes)
same_more p n e first bytes r s = record {
  spelled = sym r.spelled ∙ ap (λ xs. record_spelling p e (done_in bytes) (cells_in p e bytes) ++ xs) s.spelled;
  lawful = (r.lawful, s.lawful);
  count = ap suc s.count;
}

same_done : (first : Option ℕ) (d k : ℕ) → first ≡ Some d → is_first first k ≡ true → k ≡ d
same_done None d k is h = absurd cc
same_done (Some f) d k is h = let q : f ≡ d = cc in eqb-true k f h ∙ q

same : (p : Plan) (n e k at : ℕ) (bytes : List ℕ) → AreBytes bytes → faults_from p n e (Some k) at bytes ≡ None → Same p n e bytes k
same p zero e k at bytes are none = by (length bytes == 0) refl none
  where
    by : (b : Bool) → (length bytes == 0) ≡ b → cond b None (Some (Trailing at)) ≡ None → Same p zero e bytes k
    by true t h = record { spelled = empty bytes (eqb-true (length bytes) 0 t); lawful = tt; count = refl }
    by false t h = absurd cc
same p (suc n) e k at bytes are none =
    let parts = or_none (record_fault p e (Some k) at bytes) (faults_from p n (suc e) (Some (done_in bytes)) (at + size_of p e) (drop (size_of p e) bytes)) none in
    let r = read_of p e (Some k) at bytes are parts.0 in
    let rest = same p n (suc e) (done_in bytes) (at + size_of p e) (drop (size_of p e) bytes) (bytes_behind (size_of p e) bytes are) parts.1 in
    subst (λ d. Same p (suc n) e bytes d) (same_done (Some k) k (done_in bytes) refl r.starts) (same_more p n e (Some k) bytes r rest)

same_first : (p : Plan) (n e at : ℕ) (bytes : List ℕ) → 0 < n → AreBytes bytes → faults_from p n e None at bytes ≡ None → Same p n e bytes (done_in bytes)
same_first p zero e at bytes some are none = absurd (omega (arith, some))
same_first p (suc n) e at bytes some are none =
    let parts = or_none (record_fault p e None at bytes) (faults_from p n (suc e) (Some (done_in bytes)) (at + size_of p e) (drop (size_of p e) bytes)) none in
    let r = read_of p e None at bytes are parts.0 in
    let rest = same p n (suc e) (done_in bytes) (at + size_of p e) (drop (size_of p e) bytes) (bytes_behind (size_of p e) bytes are) parts.1 in
    same_more p n e None bytes r rest

pub pack_read : (p : Plan) (bytes : List ℕ) → AreBytes bytes → pack_fault p bytes ≡ None → IsPack p bytes (done_in (drop 8 bytes)) (states_from p (elements p) 0 (drop 8 bytes))
unfolding pack_fault pack
pack_read p bytes are none =
    let parts = or_none (head_fault p bytes) (faults_from p (elements p) 0 None 8 (drop 8 bytes)) none in
    let rest : List ℕ = drop 8 bytes in
    let s = same_first p (elements p) 0 8 rest (omega (arith, elements_some p)) (bytes_behind 8 bytes are) parts.1 in
    record {
      spelled =
          head_read p bytes are parts.0 ∙ ap (λ xs. head (elements p) ++ xs) s.spelled
          ∙ ap (λ n. head n ++ records_from p (done_in rest) 0 (states_from p (elements p) 0 rest)) (sym s.count);
      lawful = state_of p (done_in rest) (states_from p (elements p) 0 rest) s.count s.lawful;
    }

-- ---- what is spelled so is read

-- the first record's iterations behind some records
abbrev after : Option ℕ → ℕ → List Cells → Option ℕ
after first k [] = first
after first k (c ∷ more) = Some k

after_more : (k : ℕ) (more : List Cells) → after (Some k) k more ≡ Some k
after_more k [] = refl
after_more k (c ∷ more) = refl

after_none : (k : ℕ) (front : List Cells) → after None k front ≡ first_done k front
after_none k [] = refl
after_none k (c ∷ more) = refl

same_is : (first : Option ℕ) (k : ℕ) → first ≡ Some k → is_first first k ≡ true
same_is first k h = ap (λ o. is_first o k) h ∙ eq-eqb k k refl

faults_again : (p : Plan) (k : ℕ) (front : List Cells) (m n e far : ℕ) (first : Option ℕ) (at there : ℕ) (rest : List ℕ) →
    m ≡ length front + n → far ≡ e + length front → there ≡ at + length (records_from p k e front) → LawfulFrom p k e front → e + length front ≤ elements p → is_first first k ≡ true →
    faults_from p m e first at (records_from p k e front ++ rest) ≡ faults_from p n far (after first k front) there rest
faults_again p k [] m n e far first at there rest is to place lawful few starts =
    ap (λ x. faults_from p x e first at rest) (let q : m ≡ n = omega (arith, is) in q)
    ∙ ap (λ x. faults_from p n x first at rest) (let q : e ≡ far = omega (arith, to) in q)
    ∙ ap (λ x. faults_from p n far first x rest) (let q : at ≡ there = omega (arith, place) in q)
faults_again p k (c ∷ more) zero n e far first at there rest is to place lawful few starts = absurd (omega (arith, is))
faults_again p k (c ∷ more) (suc m) n e far first at there rest is to place lawful few starts =
    let one : List ℕ = record_spelling p e k c in
    let others : List ℕ = records_from p k (suc e) more in
    let bytes : List ℕ = (one ++ others) ++ rest in
    let tail : List ℕ = others ++ rest in
    let split : bytes ≡ one ++ tail = append_assoc one others rest in
    let a : Again p e first at k c tail = again p e first at k c tail (omega (arith, few)) lawful.0 starts in
    let size : length one ≡ size_of p e = record_length p e k c ∙ ap (λ x. 28 + 8 * x) lawful.0.count in
    let next = faults_again p k more m n (suc e) far (Some k) (at + size_of p e) there rest (omega (arith, is)) (omega (arith, to))
    (omega (arith, place, length-append one others, size)) lawful.1 (omega (arith, few)) (same_is (Some k) k refl) in
    ap (λ xs. faults_from p (suc m) e first at xs) split
    ∙ ap (λ o. option_or o (faults_from p m (suc e) (Some (done_in (one ++ tail))) (at + size_of p e) (drop (size_of p e) (one ++ tail)))) a.fine
    ∙ ap (λ d. faults_from p m (suc e) (Some d) (at + size_of p e) (drop (size_of p e) (one ++ tail))) a.done
    ∙ ap (λ xs. faults_from p m (suc e) (Some k) (at + size_of p e) xs) a.left
    ∙ next
    ∙ ap (λ o. faults_from p n far o there rest) (after_more k more)

states_again : (p : Plan) (k : ℕ) (front : List Cells) (m e : ℕ) (rest : List ℕ) → m ≡ length front → LawfulFrom p k e front → e + length front ≤ elements p →
    states_from p m e (records_from p k e front ++ rest) ≡ front
states_again p k [] m e rest is lawful few = ap (λ x. states_from p x e rest) is
states_again p k (c ∷ more) zero e rest is lawful few = absurd (omega (arith, is))
states_again p k (c ∷ more) (suc m) e rest is lawful few =
    let one : List ℕ = record_spelling p e k c in
    let others : List ℕ = records_from p k (suc e) more in
    let tail : List ℕ = others ++ rest in
    let a : Again p e None 0 k c tail = again p e None 0 k c tail (omega (arith, few)) lawful.0 refl in
    ap (λ xs. states_from p (suc m) e xs) (append_assoc one others rest)
    ∙ ap (λ x. x ∷ states_from p m (suc e) (drop (size_of p e) (one ++ tail))) a.state
    ∙ ap (λ xs. c ∷ states_from p m (suc e) xs) a.left
    ∙ ap (λ xs. c ∷ xs) (states_again p k more m (suc e) rest (omega (arith, is)) lawful.1 (omega (arith, few)))

pub record PackAgain (p : Plan) (bytes : List ℕ) (k : ℕ) (all : List Cells) : Type 0 where
  pub fine : pack_fault p bytes ≡ None
  pub done : done_in (drop 8 bytes) ≡ k
  pub states : states_from p (elements p) 0 (drop 8 bytes) ≡ all

first_again : (p : Plan) (k : ℕ) (all : List Cells) → 0 < length all → length all ≤ elements p → LawfulFrom p k 0 all → done_in (records_from p k 0 all) ≡ k
first_again p k [] some few lawful = absurd (omega (arith, some))
first_again p k (c ∷ more) some few lawful = (again p 0 None 0 k c (records_from p k 1 more) (omega (arith, few)) lawful.0 refl).done

pub pack_again : (p : Plan) (bytes : List ℕ) (k : ℕ) (all : List Cells) → IsPack p bytes k all → PackAgain p bytes k all
unfolding pack_fault pack
pack_again p bytes k all h =
    let count : length all ≡ elements p = h.lawful.count in
    let is : bytes ≡ head (elements p) ++ records_from p k 0 all = h.spelled ∙ ap (λ n. head n ++ records_from p k 0 all) count in
    let rest : drop 8 bytes ≡ records_from p k 0 all = behind_head p bytes (records_from p k 0 all) is in
    let nil : drop 8 bytes ≡ records_from p k 0 all ++ [] = rest ∙ sym (append-nil (records_from p k 0 all)) in
    let lawful = from_state p k all h.lawful in
    let few : 0 + length all ≤ elements p = omega (arith, count) in
    record {
      fine =
          ap (λ o. option_or o (faults_from p (elements p) 0 None 8 (drop 8 bytes))) (head_again p bytes (records_from p k 0 all) is)
          ∙ ap (λ xs. faults_from p (elements p) 0 None 8 xs) nil
          ∙ faults_again p k all (elements p) 0 0 (0 + length all) None 8 (8 + length (records_from p k 0 all)) [] (omega (arith, count)) refl refl lawful few refl;
      done = ap done_in rest ∙ first_again p k all (omega (arith, count, elements_some p)) (omega (arith, count)) lawful;
      states = ap (λ xs. states_from p (elements p) 0 xs) nil ∙ states_again p k all (elements p) 0 [] (sym count) lawful few;
    }

-- ---- causes

-- where reading n records stops
pub record Found (p : Plan) (n e : ℕ) (first : Option ℕ) (at : ℕ) (bytes : List ℕ) (fault : PupFault) : Type 0 where
  pub done : ℕ
  pub front : List Cells
  pub rest : List ℕ
  pub spelled : bytes ≡ records_from p done e front ++ rest
  pub lawful : LawfulFrom p done e front
  pub starts : is_first first done ≡ true
  pub ends : ((length front < n) × (record_fault p (e + length front) (after first done front) (at + length (records_from p done e front)) rest ≡ Some fault))
      ⊎ ((length front ≡ n) × ((0 < length rest) × (fault ≡ Trailing (at + length (records_from p done e front)))))

abbrev started : Option ℕ → ℕ
started None = 0
started (Some d) = d

started_is : (first : Option ℕ) → is_first first (started first) ≡ true
started_is None = refl
started_is (Some d) = eq-eqb d d refl

found : (p : Plan) (n e : ℕ) (first : Option ℕ) (at : ℕ) (bytes : List ℕ) (fault : PupFault) → AreBytes bytes → faults_from p n e first at bytes ≡ Some fault → Found p n e first at bytes fault
found p zero e first at bytes fault are some = by (length bytes == 0) refl some
  where
    by : (b : Bool) → (length bytes == 0) ≡ b → cond b None (Some (Trailing at)) ≡ Some fault → Found p zero e first at bytes fault
    by true t h = absurd cc
    by false t h = record {
      done = started first;
      front = [];
      rest = bytes;
      spelled = refl;
      lawful = tt;
      starts = started_is first;
      ends = inr (refl, (long (length bytes) t, (let q : Trailing at ≡ fault = cc in sym q ∙ ap Trailing (let z : at ≡ at + 0 = omega arith in z))));
    }
      where
        long : (n : ℕ) → (n == 0) ≡ false → 0 < n
        long zero h = absurd (let q : (0 == 0) ≡ true = eq-eqb 0 0 refl in let z : true ≡ false = sym q ∙ h in cc)
        long (suc n) h = omega arith
found p (suc n) e first at bytes fault are some = by (record_fault p e first at bytes) refl some (λ h. found p n (suc e) (Some (done_in bytes)) (at + size_of p e) (drop (size_of p e) bytes) fault (bytes_behind (size_of p e) bytes are) h)
  where
    Rest : Type 0
    Rest = Found p n (suc e) (Some (done_in bytes)) (at + size_of p e) (drop (size_of p e) bytes) fault

    by : (o : Option PupFault) → record_fault p e first at bytes ≡ o → option_or o (faults_from p n (suc e) (Some (done_in bytes)) (at + size_of p e) (drop (size_of p e) bytes)) ≡ Some fault →
        (faults_from p n (suc e) (Some (done_in bytes)) (at + size_of p e) (drop (size_of p e) bytes) ≡ Some fault → Found p n (suc e) (Some (done_in bytes)) (at + size_of p e) (drop (size_of p e) bytes) fault) →
        Found p (suc n) e first at bytes fault
    by (Some f) is h rest = record {
      done = started first;
      front = [];
      rest = bytes;
      spelled = refl;
      lawful = tt;
      starts = started_is first;
      ends = inl (omega arith, ap (λ x. record_fault p x first (at + 0) bytes) (let q : e + 0 ≡ e = omega arith in q) ∙ ap (λ x. record_fault p e first x bytes) (let q : at + 0 ≡ at = omega arith in q) ∙ is ∙ h);
    }
    by None is h rest =
        let r : Read p e first bytes = read_of p e first at bytes are is in
        let g : Found p n (suc e) (Some (done_in bytes)) (at + size_of p e) (drop (size_of p e) bytes) fault = rest h in
        let k : ℕ = g.done in
        let d : k ≡ done_in bytes = same_done (Some (done_in bytes)) (done_in bytes) k refl g.starts in
        let c : Cells = cells_in p e bytes in
        let one : List ℕ = record_spelling p e k c in
        let others : List ℕ = records_from p k (suc e) g.front in
        let lawful : Lawful p e k c = subst (λ x. Lawful p e x c) (sym d) r.lawful in
        let size : length one ≡ size_of p e = record_length p e k c ∙ ap (λ x. 28 + 8 * x) lawful.count in
        record {
          done = k;
          front = c ∷ g.front;
          rest = g.rest;
          spelled =
              sym r.spelled ∙ ap (λ x. record_spelling p e x c ++ drop (size_of p e) bytes) (sym d) ∙ ap (λ xs. one ++ xs) g.spelled
              ∙ sym (append_assoc one others g.rest);
          lawful = (lawful, g.lawful);
          starts = ap (is_first first) d ∙ r.starts;
          ends = more k c g.front g.rest d size g.ends;
        }
      where
        more : (k : ℕ) (c : Cells) (front : List Cells) (rest : List ℕ) → k ≡ done_in bytes → length (record_spelling p e k c) ≡ size_of p e →
            (((length front < n) × (record_fault p (suc e + length front) (after (Some (done_in bytes)) k front) ((at + size_of p e) + length (records_from p k (suc e) front)) rest ≡ Some fault))
            ⊎ ((length front ≡ n) × ((0 < length rest) × (fault ≡ Trailing ((at + size_of p e) + length (records_from p k (suc e) front)))))) →
            (((suc (length front) < suc n) × (record_fault p (e + suc (length front)) (Some k) (at + length (record_spelling p e k c ++ records_from p k (suc e) front)) rest ≡ Some fault))
            ⊎ ((suc (length front) ≡ suc n) × ((0 < length rest) × (fault ≡ Trailing (at + length (record_spelling p e k c ++ records_from p k (suc e) front))))))
        more k c front rest d size (inl h) =
            let place : at + length (record_spelling p e k c ++ records_from p k (suc e) front) ≡ (at + size_of p e) + length (records_from p k (suc e) front) =
            omega (arith, length-append (record_spelling p e k c) (records_from p k (suc e) front), size) in
            let first : after (Some (done_in bytes)) k front ≡ Some k = ap (λ x. after (Some x) k front) (sym d) ∙ after_more k front in
            inl (
              omega (arith, h.0),
              ap (λ x. record_fault p x (Some k) (at + length (record_spelling p e k c ++ records_from p k (suc e) front)) rest) (let q : e + suc (length front) ≡ suc e + length front = omega arith in q)
                  ∙ ap (λ x. record_fault p (suc e + length front) (Some k) x rest) place
                  ∙ ap (λ o. record_fault p (suc e + length front) o ((at + size_of p e) + length (records_from p k (suc e) front)) rest) (sym first) ∙ h.1,
            )
        more k c front rest d size (inr h) =
            let place : (at + size_of p e) + length (records_from p k (suc e) front) ≡ at + length (record_spelling p e k c ++ records_from p k (suc e) front) =
            omega (arith, length-append (record_spelling p e k c) (records_from p k (suc e) front), size) in
            inr (omega (arith, h.0), (h.1.0, h.1.1 ∙ ap Trailing place))

pub cause_of : (p : Plan) (bytes : List ℕ) (fault : PupFault) → AreBytes bytes → pack_fault p bytes ≡ Some fault → Cause p bytes fault
unfolding pack_fault
cause_of p bytes fault are some = by (head_fault p bytes) refl some
  where
    reached : (f : Found p (elements p) 0 None 8 (drop 8 bytes) fault) → bytes ≡ head (elements p) ++ drop 8 bytes → Reaches p bytes f.done f.front f.rest
    reached f is = record { spelled = is ∙ ap (λ xs. head (elements p) ++ xs) f.spelled; lawful = f.lawful }

    place : (f : Found p (elements p) 0 None 8 (drop 8 bytes) fault) → bytes ≡ head (elements p) ++ drop 8 bytes → 8 + length (records_from p f.done 0 f.front) ≡ length bytes - length f.rest
    place f is = omega (arith, head_length p bytes (drop 8 bytes) is, ap length f.spelled, length-append (records_from p f.done 0 f.front) f.rest)

    ending : (f : Found p (elements p) 0 None 8 (drop 8 bytes) fault) → bytes ≡ head (elements p) ++ drop 8 bytes →
        (((length f.front < elements p) × (record_fault p (0 + length f.front) (after None f.done f.front) (8 + length (records_from p f.done 0 f.front)) f.rest ≡ Some fault))
        ⊎ ((length f.front ≡ elements p) × ((0 < length f.rest) × (fault ≡ Trailing (8 + length (records_from p f.done 0 f.front)))))) → InRecord p bytes fault ⊎ Behind p bytes fault
    ending f is (inl h) = inl (record {
      done = f.done;
      front = f.front;
      rest = f.rest;
      reached = reached f is;
      more = h.0;
      wrong =
          ap (λ x. record_fault p x (first_done f.done f.front) (length bytes - length f.rest) f.rest) (let q : length f.front ≡ 0 + length f.front = omega arith in q)
          ∙ ap (λ o. record_fault p (0 + length f.front) o (length bytes - length f.rest) f.rest) (sym (after_none f.done f.front))
          ∙ ap (λ x. record_fault p (0 + length f.front) (after None f.done f.front) x f.rest) (sym (place f is)) ∙ h.1;
    })
    ending f is (inr h) = inr (record {
      done = f.done;
      front = f.front;
      rest = f.rest;
      reached = reached f is;
      all = h.0;
      some = h.1.0;
      is = h.1.1 ∙ ap Trailing (place f is);
    })

    by : (o : Option PupFault) → head_fault p bytes ≡ o → option_or o (faults_from p (elements p) 0 None 8 (drop 8 bytes)) ≡ Some fault → Cause p bytes fault
    by (Some f) is h = inl (is ∙ h)
    by None is h =
        let f = found p (elements p) 0 None 8 (drop 8 bytes) fault (bytes_behind 8 bytes are) h in
        inr (ending f (head_read p bytes are is) f.ends)

-- what reading makes of the bytes behind some records
reaches : (p : Plan) (bytes : List ℕ) (k : ℕ) (front : List Cells) (rest : List ℕ) (n : ℕ) → Reaches p bytes k front rest → elements p ≡ length front + n →
    pack_fault p bytes ≡ faults_from p n (length front) (first_done k front) (length bytes - length rest) rest
unfolding pack_fault
reaches p bytes k front rest n r few =
    let records : List ℕ = records_from p k 0 front in
    let behind : drop 8 bytes ≡ records ++ rest = behind_head p bytes (records ++ rest) r.spelled in
    ap (λ o. option_or o (faults_from p (elements p) 0 None 8 (drop 8 bytes))) (head_again p bytes (records ++ rest) r.spelled)
    ∙ ap (λ xs. faults_from p (elements p) 0 None 8 xs) behind
    ∙ faults_again p k front (elements p) n 0 (length front) None 8 (length bytes - length rest) rest few (omega arith)
    (omega (arith, head_length p bytes (records ++ rest) r.spelled, length-append records rest)) r.lawful (omega (arith, few)) refl
    ∙ ap (λ o. faults_from p n (length front) o (length bytes - length rest) rest) (after_none k front)

pub cause_again : (p : Plan) (bytes : List ℕ) (fault : PupFault) → Cause p bytes fault → pack_fault p bytes ≡ Some fault
unfolding pack_fault
cause_again p bytes fault (inl h) = ap (λ o. option_or o (faults_from p (elements p) 0 None 8 (drop 8 bytes))) h
cause_again p bytes fault (inr (inl c)) =
    let n : ℕ = elements p - suc (length c.front) in
    let few : elements p ≡ length c.front + suc n = omega (arith, c.more) in
    reaches p bytes c.done c.front c.rest (suc n) c.reached few
    ∙ ap (λ o. option_or o (faults_from p n (suc (length c.front)) (Some (done_in c.rest)) ((length bytes - length c.rest) + size_of p (length c.front)) (drop (size_of p (length c.front)) c.rest))) c.wrong
cause_again p bytes fault (inr (inr b)) =
    reaches p bytes b.done b.front b.rest 0 b.reached (omega (arith, b.all))
    ∙ ap (λ t. cond t None (Some (Trailing (length bytes - length b.rest)))) (not_empty (length b.rest) b.some) ∙ ap Some (sym b.is)
  where
    not_empty : (n : ℕ) → 0 < n → (n == 0) ≡ false
    not_empty n h = by (n == 0) refl
      where
        by : (t : Bool) → (n == 0) ≡ t → t ≡ false
        by true t = absurd (omega (arith, eqb-true n 0 t, h))
        by false t = refl

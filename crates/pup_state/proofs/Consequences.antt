-- What follows of checkpoints and pieces.
use Rattle.std.proofs.Common.{◌≡◌, ℕ, zero, suc, Bool, true, false, cond, ◌-◌, ◌+◌, ◌*◌, ◌^◌, ◌<◌, ◌≤◌, List, [], ◌∷◌, ◌++◌, length, drop, refl, ap, sym, ◌∙◌, append_assoc, arith, length-append, Option, Some, None, inl, inr}
use Rattle.std.specs.Prelude.{◌⊎◌}
use Rattle.std.specs.List.{AllByRecursion}
use Rattle.std.proofs.Math.Seq.{drop-append_seam}
use Rattle.chare_base.specs.declared.cells.Cells.{Cells}
use Rattle.chare_base.specs.declared.plan.Plan.{Plan}
use Rattle.chare_base.specs.Elements.{elements, steps_of}
use Rattle.chare_base.proofs.Facts.{elements_few, iterations_few}
use Rattle.pup_state.specs.declared.fault.PupFault.{PupFault}
use Rattle.pup_state.specs.declared.fault.PupFault.TheVariants.{Memory, Trailing}
use Rattle.pup_state.specs.Faults.{LawfulFrom, done_in, first_done, first_fault, head_fault, head_tests, record_fault, record_tests}
use Rattle.pup_state.specs.Laws.{AlwaysOne, CellsFit, Fault, LawfulFits, NeverBoth, NeverMemory, NoPrefix, NoRecordsMemory, OneCause, OneState, PacksAreSmall, PiecesAreSmall, PiecesReadBack, StandFrom, State}
use Rattle.pup_state.specs.Packs.{IsPack, Lawful, LawfulState}
use Rattle.pup_state.specs.Reading.{pack_fault, sizes_from, states_from}
use Rattle.pup_state.specs.Spelling.{cells_at, head, pack, record_spelling, records_from, records_of, size_of}
use Rattle.pup_state.proofs.Fields.{AreBytes}
use Rattle.pup_state.proofs.Lengths.{record_length}
use Rattle.pup_state.proofs.Records.{SlipSmall, cells_are_few, slip_small, steps_are_few}
use Rattle.pup_state.proofs.Replies.{some_not_none}
use Rattle.pup_state.proofs.Whole.{cause_again, cause_of, from_state, head_length, pack_again, pack_read, shaped}

-- ---- one outcome

pub one_state : OneState
one_state p bytes j k a b h g =
    let x = pack_again p bytes j a h in
    let y = pack_again p bytes k b g in
    (sym x.states ∙ y.states, sym x.done ∙ y.done)

pub never_both : NeverBoth
never_both p bytes done all fault h c = some_not_none (pack_fault p bytes) fault (cause_again p bytes fault c) (pack_again p bytes done all h).fine

pub one_cause : OneCause
one_cause p bytes f g h k = let q : Some f ≡ Some g = sym (cause_again p bytes f h) ∙ cause_again p bytes g k in cc

pub always_one : AlwaysOne
always_one p bytes are = by (pack_fault p bytes) refl
  where
    bytes_are : (xs : List ℕ) → AllByRecursion (λ b. b < 2 ^ 8) xs → AreBytes xs
    bytes_are [] h = tt
    bytes_are (x ∷ xs) h = (h.0, bytes_are xs h.1)

    by : (o : Option PupFault) → pack_fault p bytes ≡ o → State p bytes ⊎ Fault p bytes
    by None is = inl (record {
      done = done_in (drop 8 bytes);
      all = states_from p (elements p) 0 (drop 8 bytes);
      is = pack_read p bytes (bytes_are bytes are) is;
    })
    by (Some fault) is = inr (record { fault = fault; is = cause_of p bytes fault (bytes_are bytes are) is })

-- ---- want of memory

-- no test of a list tells of want of memory
abbrev NoMemory : List (Bool × PupFault) → Type 0
NoMemory tests = AllByRecursion (λ t. t.1 ≡ Memory → ⊥) tests

not_memory : (tests : List (Bool × PupFault)) → NoMemory tests → first_fault tests ≡ Some Memory → ⊥
not_memory [] h is = absurd cc
not_memory (t ∷ more) h is = by t.0 is (λ q. not_memory more h.1 q)
  where
    by : (b : Bool) → cond b (Some t.1) (first_fault more) ≡ Some Memory → (first_fault more ≡ Some Memory → ⊥) → ⊥
    by true q rest = h.0 (let same : t.1 ≡ Memory = cc in same)
    by false q rest = rest q

record_memory : (p : Plan) (e : ℕ) (first : Option ℕ) (at : ℕ) (bytes : List ℕ) → record_fault p e first at bytes ≡ Some Memory → ⊥
unfolding record_fault
record_memory p e first at bytes is =
    not_memory (record_tests p e first at bytes) (λ q. absurd cc, (λ q. absurd cc, (λ q. absurd cc, (λ q. absurd cc, (λ q. absurd cc, (λ q. absurd cc, tt)))))) is

head_memory : (p : Plan) (bytes : List ℕ) → head_fault p bytes ≡ Some Memory → ⊥
unfolding head_fault
head_memory p bytes is = not_memory (head_tests p bytes) (λ q. absurd cc, (λ q. absurd cc, (λ q. absurd cc, (λ q. absurd cc, tt)))) is

pub never_memory : NeverMemory
never_memory p bytes (inl h) = head_memory p bytes h
never_memory p bytes (inr (inl c)) = record_memory p (length c.front) (first_done c.done c.front) (length bytes - length c.rest) c.rest c.wrong
never_memory p bytes (inr (inr b)) = absurd (let q : Memory ≡ Trailing (length bytes - length b.rest) = b.is in cc)

pub no_records_memory : NoRecordsMemory
no_records_memory p e at bytes h = record_memory p e None at (drop at bytes) h

-- ---- lengths

records_sized : (p : Plan) (k e : ℕ) (all : List Cells) → LawfulFrom p k e all → length (records_from p k e all) ≡ sizes_from p (length all) e
records_sized p k e [] h = refl
records_sized p k e (c ∷ more) h =
    length-append (record_spelling p e k c) (records_from p k (suc e) more)
    ∙ ap (λ n. n + length (records_from p k (suc e) more)) (record_length p e k c ∙ ap (λ n. 28 + 8 * n) h.0.count)
    ∙ ap (λ n. size_of p e + n) (records_sized p k (suc e) more h.1)

pack_length : (p : Plan) (bytes : List ℕ) (k : ℕ) (all : List Cells) → IsPack p bytes k all → length bytes ≡ 8 + sizes_from p (elements p) 0
unfolding pack
pack_length p bytes k all h =
    head_length p bytes (records_from p k 0 all) (h.spelled ∙ ap (λ n. head n ++ records_from p k 0 all) h.lawful.count)
    ∙ ap (λ n. 8 + n) (records_sized p k 0 all (from_state p k all h.lawful) ∙ ap (λ n. sizes_from p n 0) h.lawful.count)

nothing_more : (xs : List ℕ) → length xs ≡ 0 → xs ≡ []
nothing_more [] h = refl
nothing_more (x ∷ xs) h = absurd (omega (arith, h))

pub no_prefix : NoPrefix
no_prefix p bytes more j k a b h g =
    nothing_more more (omega (arith, pack_length p (bytes ++ more) j a h, pack_length p bytes k b g, length-append bytes more))

-- ---- what a program can hold

cells_fit : (p : Plan) (e k : ℕ) (c : Cells) → Lawful p e k c → CellsFit c
cells_fit p e k c h =
    let late : k ≤ 1000000 = omega (arith, h.time, iterations_few p) in
    let small : SlipSmall c.slip = slip_small (length (steps_of p e)) k c.slip (steps_are_few p e) late h.slip in
    record { numbers = h.numbers; kind = small.0; step = small.1; iteration = small.2 }

all_fit : (p : Plan) (k e : ℕ) (all : List Cells) → LawfulFrom p k e all → AllByRecursion CellsFit all
all_fit p k e [] h = tt
all_fit p k e (c ∷ more) h = (cells_fit p e k c h.0, all_fit p k (suc e) more h.1)

pub lawful_fits : LawfulFits
lawful_fits p k all s = record { shape = shaped p k all s; each = all_fit p k 0 all (from_state p k all s) }

-- ---- pieces

-- behind some bytes, the records of the elements that are left
stand : (p : Plan) (k : ℕ) (all : List Cells) (front : List ℕ) (members : List ℕ) (bytes : List ℕ) (at : ℕ) → LawfulState p k all → AllByRecursion (λ e. e < elements p) members →
    bytes ≡ front ++ records_of p k all members → at ≡ length front → StandFrom p k all members bytes at
stand p k all front [] bytes at s there is place = place ∙ sym (ap length is ∙ length-append front [] ∙ (let q : length front + 0 ≡ length front = omega arith in q))
stand p k all front (e ∷ more) bytes at s there is place =
    let c : Cells = cells_at all e in
    let one : List ℕ = record_spelling p e k c in
    let rest : List ℕ = records_of p k all more in
    let lawful : Lawful p e k c = s.each e (record { numbers = []; slip = record { kind = 0; step = 0; iteration = 0 } }) (omega (arith, there.0, s.count)) in
    let size : length one ≡ size_of p e = record_length p e k c ∙ ap (λ n. 28 + 8 * n) lawful.count in
    let further : bytes ≡ (front ++ one) ++ rest = is ∙ sym (append_assoc front one rest) in
    let next : at + size_of p e ≡ length (front ++ one) = omega (arith, place, size, length-append front one) in
    let here : drop at bytes ≡ one ++ rest = ap (λ n. drop n bytes) place ∙ ap (drop (length front)) is ∙ drop-append_seam front (one ++ rest) in
    let behind : drop (at + size_of p e) bytes ≡ rest = ap (λ n. drop n bytes) next ∙ ap (drop (length (front ++ one))) further ∙ drop-append_seam (front ++ one) rest in (
      record { spelled = here ∙ ap (λ xs. one ++ xs) (sym behind); lawful = lawful; behind = refl },
      stand p k all (front ++ one) more bytes (at + size_of p e) s there.1 further next,
    )

pub pieces_read_back : PiecesReadBack
pieces_read_back p k all members s there = stand p k all [] members (records_of p k all members) 0 s there refl refl

-- ---- how large they are

each_small : (p : Plan) (k : ℕ) (all : List Cells) (members : List ℕ) → LawfulState p k all → AllByRecursion (λ e. e < elements p) members →
    length (records_of p k all members) ≤ 32796 * length members
each_small p k all [] s there = omega arith
each_small p k all (e ∷ more) s there =
    let c : Cells = cells_at all e in
    let lawful : Lawful p e k c = s.each e (record { numbers = []; slip = record { kind = 0; step = 0; iteration = 0 } }) (omega (arith, there.0, s.count)) in
    omega (arith, length-append (record_spelling p e k c) (records_of p k all more), record_length p e k c, lawful.count, cells_are_few p e, each_small p k all more s there.1)

pub pieces_are_small : PiecesAreSmall
pieces_are_small p k all members s there few = omega (arith, each_small p k all members s there, elements_few p, few)

sizes_small : (p : Plan) (n e : ℕ) → sizes_from p n e ≤ 32796 * n
sizes_small p zero e = omega arith
sizes_small p (suc n) e = omega (arith, cells_are_few p e, sizes_small p n (suc e))

pub packs_are_small : PacksAreSmall
packs_are_small p bytes k all h = omega (arith, pack_length p bytes k all h, sizes_small p (elements p) 0, elements_few p)

-- One turn of each loop that reads.
use Rattle.std.proofs.Common.{◌≡◌, ℕ, suc, ◌+◌, ◌-◌, ◌<◌, List, [], ◌∷◌, ◌++◌, drop, ap, sym, ◌∙◌, append_assoc, arith, Option, Some, None}
use Rattle.std.specs.Prelude.{ℤ}
use Rattle.std.specs.Int.{w64, cast_signed}
use Rattle.std.specs.Option.{option_or}
use Rattle.chare_base.specs.declared.cells.Cells.{Cells}
use Rattle.chare_base.specs.declared.plan.Plan.{Plan}
use Rattle.pup_state.specs.declared.fault.PupFault.{PupFault}
use Rattle.pup_state.specs.Faults.{done_in, number_at, record_fault}
use Rattle.pup_state.specs.Reading.{cells_in, faults_from, numbers_in, sizes_from, states_from}
use Rattle.pup_state.specs.Spelling.{size_of}

one_less : (n i : ℕ) → i < n → n - i ≡ suc (n - (i + 1))
one_less n i h = omega (arith, h)

pub numbers_next : (n i : ℕ) (front : List ℤ) (bytes : List ℕ) → i < n →
    (front ++ cast_signed w64 (number_at 8 0 bytes) ∷ []) ++ numbers_in (n - (i + 1)) (drop 8 bytes) ≡ front ++ numbers_in (n - i) bytes
numbers_next n i front bytes h =
    append_assoc front (cast_signed w64 (number_at 8 0 bytes) ∷ []) (numbers_in (n - (i + 1)) (drop 8 bytes))
    ∙ ap (λ m. front ++ numbers_in m bytes) (sym (one_less n i h))

pub states_next : (p : Plan) (n e : ℕ) (front : List Cells) (bytes : List ℕ) → e < n →
    (front ++ cells_in p e bytes ∷ []) ++ states_from p (n - (e + 1)) (e + 1) (drop (size_of p e) bytes) ≡ front ++ states_from p (n - e) e bytes
states_next p n e front bytes h =
    append_assoc front (cells_in p e bytes ∷ []) (states_from p (n - (e + 1)) (e + 1) (drop (size_of p e) bytes))
    ∙ ap (λ m. front ++ (cells_in p e bytes ∷ states_from p (n - (e + 1)) m (drop (size_of p e) bytes))) (let q : e + 1 ≡ suc e = omega arith in q)
    ∙ ap (λ m. front ++ states_from p m e bytes) (sym (one_less n e h))

pub sizes_next : (p : Plan) (n e : ℕ) → e < n → sizes_from p (n - e) e ≡ size_of p e + sizes_from p (n - (e + 1)) (e + 1)
sizes_next p n e h =
    ap (λ m. sizes_from p m e) (one_less n e h)
    ∙ ap (λ m. size_of p e + sizes_from p (n - (e + 1)) m) (let q : suc e ≡ e + 1 = omega arith in q)

pub faults_next : (p : Plan) (n e : ℕ) (first : Option ℕ) (at : ℕ) (bytes : List ℕ) → e < n → record_fault p e first at bytes ≡ None →
    faults_from p (n - (e + 1)) (e + 1) (Some (done_in bytes)) (at + size_of p e) (drop (size_of p e) bytes) ≡ faults_from p (n - e) e first at bytes
faults_next p n e first at bytes h none =
    ap (λ m. faults_from p (n - (e + 1)) m (Some (done_in bytes)) (at + size_of p e) (drop (size_of p e) bytes)) (let q : e + 1 ≡ suc e = omega arith in q)
    ∙ ap (λ o. option_or o (faults_from p (n - (e + 1)) (suc e) (Some (done_in bytes)) (at + size_of p e) (drop (size_of p e) bytes))) (sym none)
    ∙ ap (λ m. faults_from p m e first at bytes) (sym (one_less n e h))

pub faults_end : (p : Plan) (n e : ℕ) (first : Option ℕ) (at : ℕ) (bytes : List ℕ) (fault : PupFault) → e < n → record_fault p e first at bytes ≡ Some fault →
    Some fault ≡ faults_from p (n - e) e first at bytes
faults_end p n e first at bytes fault h some =
    ap (λ o. option_or o (faults_from p (n - (e + 1)) (suc e) (Some (done_in bytes)) (at + size_of p e) (drop (size_of p e) bytes))) (sym some)
    ∙ ap (λ m. faults_from p m e first at bytes) (sym (one_less n e h))

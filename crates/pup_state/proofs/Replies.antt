-- What the calls that read answer.
use Rattle.std.proofs.Common.{◌≡◌, ℕ, zero, suc, ◌+◌, ◌<◌, ◌≤◌, List, ◌++◌, length, drop, refl, ap, sym, ◌∙◌, subst, arith, length-drop, Option, Some, None}
use Rattle.std.proofs.lemmas.List.{drop-drop}
use Rattle.chare_base.specs.declared.cells.Cells.{Cells}
use Rattle.chare_base.specs.declared.plan.Plan.{Plan}
use Rattle.chare_base.specs.Elements.{elements}
use Rattle.chare_base.specs.Shape.{Shaped}
use Rattle.chare_base.proofs.Facts.{elements_some}
use Rattle.pup_state.specs.declared.fault.PupFault.{PupFault}
use Rattle.pup_state.specs.Faults.{done_in, record_fault}
use Rattle.pup_state.specs.Packs.{IsPack, IsRecord, Lawful}
use Rattle.pup_state.specs.Reading.{cells_in, pack_fault, sizes_from, states_from}
use Rattle.pup_state.specs.Spelling.{record_spelling, size_of}
use Rattle.pup_state.proofs.Fields.{AreBytes, bytes_behind}
use Rattle.pup_state.proofs.Records.{Again, Read, again, read_of}
use Rattle.pup_state.proofs.Whole.{PackAgain, pack_again, pack_read, shaped}

pub some_not_none : (o : Option PupFault) (fault : PupFault) → o ≡ Some fault → o ≡ None → ⊥
some_not_none o fault s n = cc

-- ---- a record at a place

module _ (p : Plan) (e at : ℕ) (bytes rest : List ℕ) (here : rest ≡ drop at bytes) where
  further : (n : ℕ) → drop (at + n) bytes ≡ drop n rest
  further n = sym (drop-drop n at bytes) ∙ ap (drop n) (sym here)

  pub is_record : (k next : ℕ) (cells : Cells) → AreBytes bytes → record_fault p e None at rest ≡ None → k ≡ done_in rest → cells ≡ cells_in p e rest → next ≡ at + size_of p e →
      IsRecord p e bytes at k cells next
  is_record k next cells are none done state is =
      let r : Read p e None rest = read_of p e None at rest (subst AreBytes (sym here) (bytes_behind at bytes are)) none in
      record {
        spelled =
            sym here ∙ sym r.spelled ∙ ap (λ d. record_spelling p e d (cells_in p e rest) ++ drop (size_of p e) rest) (sym done)
            ∙ ap (λ c. record_spelling p e k c ++ drop (size_of p e) rest) (sym state)
            ∙ ap (λ xs. record_spelling p e k cells ++ xs) (sym (ap (λ n. drop n bytes) is ∙ further (size_of p e)));
        lawful = ap_lawful k cells done state r.lawful;
        behind = is;
      }
    where
      ap_lawful : (k : ℕ) (cells : Cells) → k ≡ done_in rest → cells ≡ cells_in p e rest → Lawful p e (done_in rest) (cells_in p e rest) → Lawful p e k cells
      ap_lawful k cells d s h = subst (λ x. Lawful p e x cells) (sym d) (subst (λ c. Lawful p e (done_in rest) c) (sym s) h)

  module _ (k' : ℕ) (cells' : Cells) (next' : ℕ) (there : e < elements p) (h : IsRecord p e bytes at k' cells' next') where
    read : Again p e None at k' cells' (drop next' bytes)
    read = again p e None at k' cells' (drop next' bytes) there h.lawful refl

    whole : rest ≡ record_spelling p e k' cells' ++ drop next' bytes
    whole = here ∙ h.spelled

    pub record_fine : record_fault p e None at rest ≡ None
    record_fine = ap (record_fault p e None at) whole ∙ read.fine

    pub reads_record : (k next : ℕ) (cells : Cells) → k ≡ done_in rest → cells ≡ cells_in p e rest → next ≡ at + size_of p e → (k ≡ k') × (cells ≡ cells') × (next ≡ next')
    reads_record k next cells done state n = (
      done ∙ ap done_in whole ∙ read.done,
      state ∙ ap (cells_in p e) whole ∙ read.state,
      n ∙ sym h.behind,
    )

-- ---- a checkpoint

sizes_some : (p : Plan) (n e : ℕ) → 1 ≤ n → 28 ≤ sizes_from p n e
sizes_some p zero e h = absurd (omega (arith, h))
sizes_some p (suc n) e h = omega arith

-- its first record has its fixed fields
pub records_long : (p : Plan) (bytes records : List ℕ) → 8 + sizes_from p (elements p) 0 ≤ length bytes → records ≡ drop 8 bytes → 14 ≤ length records
records_long p bytes records long is = omega (arith, ap length is, length-drop 8 bytes, sizes_some p (elements p) 0 (elements_some p))

module _ (p : Plan) (bytes records : List ℕ) (here : records ≡ drop 8 bytes) (k : ℕ) (all items : List Cells) (done : k ≡ done_in records) (is : all ≡ items)
    (states : items ≡ states_from p (elements p) 0 records) where
  time : done_in (drop 8 bytes) ≡ k
  time = ap done_in (sym here) ∙ sym done

  state : states_from p (elements p) 0 (drop 8 bytes) ≡ all
  state = ap (states_from p (elements p) 0) (sym here) ∙ sym states ∙ sym is

  pub is_pack : AreBytes bytes → pack_fault p bytes ≡ None → IsPack p bytes k all
  is_pack are none = subst (λ d. IsPack p bytes d all) time (subst (λ s. IsPack p bytes (done_in (drop 8 bytes)) s) state (pack_read p bytes are none))

  pub is_shaped : AreBytes bytes → pack_fault p bytes ≡ None → Shaped p all
  is_shaped are none = shaped p k all (is_pack are none).lawful

  pub reads_state : (k' : ℕ) (all' : List Cells) → IsPack p bytes k' all' → (k ≡ k') × (all ≡ all')
  reads_state k' all' h = let a : PackAgain p bytes k' all' = pack_again p bytes k' all' h in (sym time ∙ a.done, sym state ∙ a.states)

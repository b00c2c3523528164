-- Records told one after another.
use Rattle.std.proofs.Common.{◌≡◌, ℕ, suc, ◌+◌, ◌<◌, List, ◌∷◌, ◌++◌, length, drop, get_or, ap, sym, ◌∙◌, arith, subst, append_assoc, None}
use Rattle.std.proofs.Math.Seq.{drop-cons}
use Rattle.chare_base.specs.declared.plan.Plan.{Plan}
use Rattle.fault_script.specs.declared.fault.FaultLine.{FaultLine}
use Rattle.run_ledger.specs.declared.record.Record.{Record}
use Rattle.run_ledger.specs.declared.record.Record.TheVariants.{Accept, Differ, Crash, Mend, Adopt, Both, NoSpare, Lost, Done}
use Rattle.run_ledger.specs.Ledgers.{LedgerState, after}
use Rattle.run_ledger.specs.Conditions.{unlawful}
use Rattle.run_ledger.specs.Lawful.{StepsFrom}
use Rattle.checkpoint_store.specs.declared.mark.Mark.{Mark}
use Rattle.conductor_core.specs.Endings.{IsLast, IsLastAt, marks_by, marks_from}
use Rattle.run_report.specs.Marks.{IsMarkAt, first_mark, marks_behind}
use Rattle.run_report.specs.Report.{record_lines, told}

-- what is left to be told on a ledger takes what was told to the whole
pub record Telling (p : Plan) (script : List FaultLine) (l : LedgerState) (records : List Record) (marks : List Mark) (last out whole : List ℕ) : Type 0 where
  pub allowed : StepsFrom p l records
  pub marked : marks ≡ marks_from p l records
  pub lasts : IsLast p l records last
  pub text : out ++ told p script l records ≡ whole

-- the mark of a record is the first of those that are left
mark_at : (p : Plan) (l : LedgerState) (r : Record) (marks rest : List Mark) → marks ≡ marks_by p l r ++ rest → IsMarkAt p l r (first_mark marks)
mark_at p l (Accept k) marks rest is = ap first_mark is
mark_at p l (Differ k element) marks rest is = tt
mark_at p l (Crash line) marks rest is = tt
mark_at p l (Mend replica) marks rest is = tt
mark_at p l (Adopt k from) marks rest is = ap first_mark is
mark_at p l Both marks rest is = tt
mark_at p l NoSpare marks rest is = tt
mark_at p l (Lost node) marks rest is = tt
mark_at p l Done marks rest is = tt

left_behind : (p : Plan) (l : LedgerState) (r : Record) (marks rest : List Mark) → marks ≡ marks_by p l r ++ rest → marks_behind r marks ≡ rest
left_behind p l (Accept k) marks rest is = ap (drop 1) is
left_behind p l (Differ k element) marks rest is = is
left_behind p l (Crash line) marks rest is = is
left_behind p l (Mend replica) marks rest is = is
left_behind p l (Adopt k from) marks rest is = ap (drop 1) is
left_behind p l Both marks rest is = is
left_behind p l NoSpare marks rest is = is
left_behind p l (Lost node) marks rest is = is
left_behind p l Done marks rest is = is

module _ (p : Plan) (script : List FaultLine) (l : LedgerState) (records : List Record) (i : ℕ) (r : Record) (marks : List Mark) (last out whole : List ℕ) where
  -- the record at the front
  pub at_front : i < length records → r ≡ get_or records i r → Telling p script l (drop i records) marks last out whole → Telling p script l (r ∷ drop (i + 1) records) marks last out whole
  at_front h is t =
      let P : List Record → Type 0 = λ rs. Telling p script l rs marks last out whole in
      subst P split t
    where
      split : drop i records ≡ r ∷ drop (i + 1) records
      split = drop-cons records i r h ∙ ap (λ y. y ∷ drop (suc i) records) (sym is) ∙ ap (λ n. r ∷ drop n records) (let q : suc i ≡ i + 1 = omega arith in q)

  pub mark_now : i < length records → r ≡ get_or records i r → Telling p script l (drop i records) marks last out whole → IsMarkAt p l r (first_mark marks)
  mark_now h is t = mark_at p l r marks (marks_from p (after l r) (drop (i + 1) records)) (at_front h is t).marked

  pub last_now : i < length records → r ≡ get_or records i r → Telling p script l (drop i records) marks last out whole → IsLastAt p l r last
  last_now h is t = (at_front h is t).lasts.0

  pub allowed_now : i < length records → r ≡ get_or records i r → Telling p script l (drop i records) marks last out whole → unlawful l r ≡ None
  allowed_now h is t = (at_front h is t).allowed.0.lawful

  -- one record more
  pub told_next : (new : LedgerState) (rest : List Mark) (text : List ℕ) → i < length records → r ≡ get_or records i r → text ≡ out ++ record_lines p script l r → rest ≡ marks_behind r marks → new ≡ after l r →
      Telling p script l (drop i records) marks last out whole → Telling p script new (drop (i + 1) records) rest last text whole
  told_next new rest text h is put behind moved t =
      let now = at_front h is t in
      let P : LedgerState → Type 0 = λ m. Telling p script m (drop (i + 1) records) rest last text whole in
      subst P (sym moved) (record {
        allowed = now.allowed.1;
        marked = behind ∙ left_behind p l r marks (marks_from p (after l r) (drop (i + 1) records)) now.marked;
        lasts = now.lasts.1;
        text = ap (λ o. o ++ told p script (after l r) (drop (i + 1) records)) put ∙ append_assoc out (record_lines p script l r) (told p script (after l r) (drop (i + 1) records)) ∙ now.text;
      })

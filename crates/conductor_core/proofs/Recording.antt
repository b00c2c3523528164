-- One record more.
use Rattle.std.proofs.Common.{◌≡◌, ℕ, List, [], ◌∷◌, ◌++◌, refl, ap, sym, ◌∙◌, append_assoc, subst, Option, Some, None}
use Rattle.chare_base.specs.declared.options.Options.{Options}
use Rattle.chare_base.specs.declared.plan.Plan.{Plan}
use Rattle.chare_base.specs.declared.slots.SlotId.{SlotId}
use Rattle.fault_script.specs.declared.fault.Fault.{Fault}
use Rattle.run_ledger.specs.declared.record.Record.{Record}
use Rattle.run_ledger.specs.declared.record.Record.TheVariants.{Accept, Differ, Crash, Mend, Adopt, Both, NoSpare, Lost, Done}
use Rattle.run_ledger.specs.Lines.{crash_at}
use Rattle.run_ledger.specs.Laws.{FaultsStay, StaysTidy}
use Rattle.run_ledger.specs.Lawful.{Allows, StepsFrom}
use Rattle.run_ledger.specs.Ledgers.{LedgerState, after, after_all, opening_ledger, with_crash}
use Rattle.checkpoint_store.specs.declared.mark.Mark.{Mark}
use Rattle.conductor_core.specs.Endings.{IsLast, IsLastAt, marks_by, marks_from}
use Rattle.conductor_core.specs.Tells.{Recorded}

-- ---- lists of records

pub after_more : (l : LedgerState) (all : List Record) (r : Record) → after_all l (all ++ r ∷ []) ≡ after (after_all l all) r
after_more l [] r = refl
after_more l (x ∷ all) r = after_more (after l x) all r

pub steps_more : (p : Plan) (l : LedgerState) (all : List Record) (r : Record) → StepsFrom p l all → Allows p (after_all l all) r → StepsFrom p l (all ++ r ∷ [])
steps_more p l [] r steps ok = (ok, tt)
steps_more p l (x ∷ all) r steps ok = (steps.0, steps_more p (after l x) all r steps.1 ok)

pub marks_more : (p : Plan) (l : LedgerState) (all : List Record) (r : Record) → marks_from p l (all ++ r ∷ []) ≡ marks_from p l all ++ marks_by p (after_all l all) r
marks_more p l [] r = alone (marks_by p l r)
  where
    alone : (ms : List Mark) → ms ++ [] ≡ ms
    alone [] = refl
    alone (m ∷ ms) = ap (λ xs. m ∷ xs) (alone ms)
marks_more p l (x ∷ all) r =
    ap (λ ms. marks_by p l x ++ ms) (marks_more p (after l x) all r) ∙ sym (append_assoc (marks_by p l x) (marks_from p (after l x) all) (marks_by p (after_all (after l x) all) r))

pub last_more : (p : Plan) (l : LedgerState) (all : List Record) (r : Record) (last : List ℕ) → IsLast p l all last → IsLastAt p (after_all l all) r last → IsLast p l (all ++ r ∷ []) last
last_more p l [] r last is at = (at, tt)
last_more p l (x ∷ all) r last is at = (is.0, last_more p (after l x) all r last is.1 at)

-- ---- what a conductor recorded

-- the job's iterations stay
job_stays : (l : LedgerState) (r : Record) → (after l r).iterations ≡ l.iterations
job_stays l (Accept k) = refl
job_stays l (Differ k element) = refl
job_stays l (Crash line) = crash (crash_at l.lines line)
  where
    crash : (o : Option SlotId) → (with_crash line o l).iterations ≡ l.iterations
    crash None = refl
    crash (Some slot) = refl
job_stays l (Mend replica) = refl
job_stays l (Adopt k from) = refl
job_stays l Both = refl
job_stays l NoSpare = refl
job_stays l (Lost node) = refl
job_stays l Done = refl

pub recorded_more : StaysTidy → FaultsStay → (p : Plan) (script : List Fault) (o : Options) (l : LedgerState) (records : List Record) (marks : List Mark) (r : Record) → Recorded p script o l records marks → Allows p l r →
    Recorded p script o (after l r) (records ++ r ∷ []) (marks ++ marks_by p l r)
recorded_more tidies faults p script o l records marks r is ok =
    let start : LedgerState = opening_ledger script o p.iterations in
    let here : Allows p (after_all start records) r = let P : LedgerState → Type 0 = λ m. Allows p m r in subst P is.made ok in
    record {
      steps = steps_more p start records r is.steps here;
      made = ap (λ m. after m r) is.made ∙ sym (after_more start records r);
      job = job_stays l r ∙ is.job;
      faults = faults.after l r ∙ is.faults;
      tidy = tidies.after l r ok.lawful is.tidy;
      marked = ap (λ ms. ms ++ marks_by p l r) is.marked ∙ ap (λ m. marks_from p start records ++ marks_by p m r) is.made ∙ sym (marks_more p start records r);
    }

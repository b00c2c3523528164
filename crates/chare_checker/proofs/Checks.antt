-- From what was found to what a check answers.
use Rattle.std.proofs.Common.{◌≡◌, ℕ, List, length, None, Some, Err, ap, sym, ◌∙◌}
use Rattle.std.specs.Prelude.{IsTrue}
use Rattle.chare_base.specs.Elements.{Fields}
use Rattle.job_tree.specs.declared.tree.Job.{Job}
use Rattle.job_tree.specs.Accepted.{is_filled, is_shallow, names_lie}
use Rattle.job_rules.specs.declared.fault.CheckFault.{CheckFault}
use Rattle.job_rules.specs.declared.fault.CheckFault.TheVariants as faults
use Rattle.job_rules.specs.declared.tables.JobNames.{JobNames}
use Rattle.job_rules.specs.Checked.{Checks, UnbrokenIsSealed, classes_found, first_fault, plan_of, rules_of}
use Rattle.job_rules.specs.Faults.{Found, nothing}
use Rattle.job_rules.specs.Planned.{planned}
use Rattle.job_rules.specs.Tables.{job_names}

-- a fault is answered as it is
told : (text : List ℕ) (job : Job) (f : CheckFault) → first_fault text job ≡ Some f → Checks text job (Err f)
told text job (faults.Twice at) h = h
told text job (faults.Unknown at) h = h
told text job (faults.Kind at) h = h
told text job (faults.Shape at) h = h
told text job (faults.NotOnce entry at) h = h
told text job (faults.TooEarly entry at) h = h
told text job (faults.Overlap name at) h = h
told text job (faults.Bound at) h = h
told text job (faults.Limit which value at) h = h
told text job faults.Memory h = tt

module _ (text slice : List ℕ) (job : Job) (names : JobNames) (found : Found) where
  -- what was found in a text with its names
  abbrev pub Seen : Type 0
  Seen = (slice ≡ text) × (names ≡ job_names slice job) × (found ≡ classes_found slice names job)

  same : Seen → found ≡ classes_found text (job_names text job) job
  same s =
      s.2 ∙ ap (λ n. classes_found slice n job) s.1
      ∙ ap (λ t. classes_found t (job_names t job) job) s.0

  first_of_classes : (o : Found) → Seen → found ≡ o → first_fault text job ≡ o
  unfolding first_fault
  first_of_classes o s h = sym (same s) ∙ h

  pub broken : (f : CheckFault) → Seen → found ≡ Some f → Checks text job (Err f)
  broken f s h = told text job f (first_of_classes (Some f) s h)

  pub sound : Seen → found ≡ nothing → first_fault text job ≡ nothing
  sound = first_of_classes None

  module _ (fields : Fields) where
    fields_same : Seen → fields ≡ planned slice names job → fields ≡ planned text (job_names text job) job
    fields_same s is = is ∙ ap (λ n. planned slice n job) s.1 ∙ ap (λ t. planned t (job_names t job) job) s.0

    pub plan_is : Seen → fields ≡ planned slice names job → fields ≡ plan_of text job
    unfolding plan_of
    plan_is s is = fields_same s is

    -- the fields keep the rules of a plan's type, where nothing was found
    pub kept : UnbrokenIsSealed → Seen → found ≡ nothing → fields ≡ planned slice names job → IsTrue (is_shallow 32 job) → IsTrue (names_lie (length text) job) → IsTrue (is_filled job) → IsTrue (rules_of fields)
    kept law s h is shallow named filled = ap rules_of (plan_is s is) ∙ law text job shallow named filled (sound s h)

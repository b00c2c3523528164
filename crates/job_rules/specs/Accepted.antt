-- Which texts are jobs, and as which plan; and why a text is none.
use Rattle.std.specs.Prelude.{◌≡◌, ℕ, List, Some, ◌⊎◌}
use Rattle.chare_base.specs.declared.plan.Plan.{Plan}
use Rattle.chare_base.specs.Elements.{fields_of}
use Rattle.job_tree.specs.declared.fault.ParseFault.{ParseFault}
use Rattle.job_tree.specs.declared.fault.ParseFault.TheVariants as parses
use Rattle.job_tree.specs.declared.tree.Job.{Job}
use Rattle.job_tree.specs.Text.{ReadsAs, ReadsAsNone, TextFault}
use Rattle.job_rules.specs.declared.fault.CheckFault.{CheckFault}
use Rattle.job_rules.specs.Checked.{first_fault, plan_of}
use Rattle.job_rules.specs.Faults.{nothing, place_of}
use Rattle.job_rules.specs.Codes.{fault_code, parse_code, parse_place}

-- a text is a job that breaks no rule, and its plan is this one
pub record IsPlan (text : List ℕ) (p : Plan) : Type 0 where
  pub job : Job
  pub reads : ReadsAs text job
  pub sound : first_fault text job ≡ nothing
  pub plans : fields_of p ≡ plan_of text job

-- a text has no plan
abbrev pub HasNoPlan : List ℕ → Type 0
HasNoPlan text = (p : Plan) → IsPlan text p → ⊥

-- the grammar refuses a text at this place, with the word of this code
pub record NotRead (text : List ℕ) (at code : ℕ) : Type 0 where
  pub fault : ParseFault
  pub none : ReadsAsNone text
  pub told : TextFault text fault
  pub real : fault ≡ parses.Memory → ⊥
  pub placed : at ≡ parse_place fault
  pub coded : code ≡ parse_code fault

-- a text is that of a tree, whose first broken rule is at this place, with the word of this code
pub record Broken (text : List ℕ) (at code : ℕ) : Type 0 where
  pub job : Job
  pub fault : CheckFault
  pub reads : ReadsAs text job
  pub first : first_fault text job ≡ Some fault
  pub placed : at ≡ place_of fault
  pub coded : code ≡ fault_code fault

-- why a text is no job: a place, and the code of a word
abbrev pub IsRefused : List ℕ → ℕ → ℕ → Type 0
IsRefused text at code = NotRead text at code ⊎ Broken text at code

-- the plans of one text have the same parts
abbrev pub OnePlan : Type 0
OnePlan = (text : List ℕ) (p q : Plan) → IsPlan text p → IsPlan text q → fields_of p ≡ fields_of q

-- a text that is refused has no plan
abbrev pub RefusedHasNone : Type 0
RefusedHasNone = (text : List ℕ) (at code : ℕ) → IsRefused text at code → HasNoPlan text

-- a text that is refused is refused at one place, with one word
abbrev pub OneRefusal : Type 0
OneRefusal = (text : List ℕ) (at code other_at other_code : ℕ) → IsRefused text at code → IsRefused text other_at other_code → (at ≡ other_at) × (code ≡ other_code)

-- Which texts are a job.
use Rattle.std.specs.Prelude.{◌≡◌, ℕ, ◌<◌, ◌≤◌, List, length}
use Rattle.job_tree.specs.declared.fault.ParseFault.{ParseFault}
use Rattle.job_tree.specs.declared.fault.ParseFault.TheVariants as faults
use Rattle.job_tree.specs.declared.tree.Job.{Job}
use Rattle.job_tree.specs.Accepted.{Faulty, IsJob}
use Rattle.job_tree.specs.Tokens.{tokens}

-- a text is short enough, and its tokens are those of a job
pub record ReadsAs (text : List ℕ) (job : Job) : Type 0 where
  pub short : length text ≤ 65536
  pub spells : IsJob (tokens text) job

-- a text is that of no job
abbrev pub ReadsAsNone : List ℕ → Type 0
ReadsAsNone text = (job : Job) → ReadsAs text job → ⊥

-- a text is that of one job at most
abbrev pub OneTree : Type 0
OneTree = (text : List ℕ) (a b : Job) → ReadsAs text a → ReadsAs text b → a ≡ b

-- what each fault says of a text
abbrev pub TextFault : List ℕ → ParseFault → Type 0
TextFault text faults.Memory = Unit {0}
TextFault text (faults.TooLong at) = (at ≡ 65536) × (65536 < length text)
TextFault text fault = (length text ≤ 65536) × Faulty (tokens text) fault

-- the faults that a text has are equal, but for the one of a call that runs out of memory
abbrev pub OneFault : Type 0
OneFault = (text : List ℕ) (f g : ParseFault) → (f ≡ faults.Memory → ⊥) → (g ≡ faults.Memory → ⊥) → TextFault text f → TextFault text g → f ≡ g

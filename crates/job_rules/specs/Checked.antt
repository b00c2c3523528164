-- The first rule that a tree breaks, and the plan of a tree that breaks none.
use Rattle.std.specs.Prelude.{◌≡◌, ℕ, Bool, IsTrue, List, [], length, Result, Ok, Err, Some, None}
use Rattle.chare_base.specs.declared.plan.Plan.{Plan}
use Rattle.chare_base.specs.Elements.{Fields, fields_of}
use Rattle.chare_base.specs.Rules.{rules_hold}
use Rattle.job_tree.specs.declared.tree.Job.{Job}
use Rattle.job_tree.specs.Accepted.{is_filled, is_shallow, names_lie}
use Rattle.job_rules.specs.declared.fault.CheckFault.{CheckFault}
use Rattle.job_rules.specs.declared.fault.CheckFault.TheVariants as faults
use Rattle.job_rules.specs.declared.notes.Notes.{Notes}
use Rattle.job_rules.specs.declared.tables.JobNames.{JobNames}
use Rattle.job_rules.specs.Answers.{answers_found}
use Rattle.job_rules.specs.Bounds.{bounds_found}
use Rattle.job_rules.specs.Declarations.{declarations_found}
use Rattle.job_rules.specs.Faults.{Found, nothing}
use Rattle.job_rules.specs.Limits.{limits_found}
use Rattle.job_rules.specs.Planned.{planned}
use Rattle.job_rules.specs.Ports.{ports_found}
use Rattle.job_rules.specs.Steps.{job_walked}
use Rattle.job_rules.specs.Tables.{job_names}

abbrev pub nothing_noted : Notes
nothing_noted = record { found = None; uses = []; sent = []; received = [] }

-- of all rules that a tree breaks, the one that is named
abbrev pub after_walk : List ℕ → JobNames → Job → Notes → Found
after_walk text names job n =
    limits_found job (bounds_found job (answers_found text names job (ports_found job n.sent n.received (declarations_found text names job n.found))))

unfoldable pub classes_found : List ℕ → JobNames → Job → Found
classes_found text names job = after_walk text names job (job_walked text names job nothing_noted)

-- the first rule that a tree breaks
unfoldable pub first_fault : List ℕ → Job → Found
first_fault text job = classes_found text (job_names text job) job

-- the plan of a tree
unfoldable pub plan_of : List ℕ → Job → Fields
plan_of text job = planned text (job_names text job) job

-- these fields keep the rules of a plan's type
abbrev pub rules_of : Fields → Bool
rules_of f = rules_hold f.name f.iterations f.arrays f.entries f.reductions f.answers

-- A tree that opens 32 levels at most, whose names lie in the text and whose lists have their items, as that of an `Ast`, has a plan
-- that keeps the rules of a plan's type, where no class of rules is broken.
abbrev pub UnbrokenIsSealed : Type 0
UnbrokenIsSealed = (text : List ℕ) (job : Job) → IsTrue (is_shallow 32 job) → IsTrue (names_lie (length text) job) → IsTrue (is_filled job) →
    first_fault text job ≡ nothing → IsTrue (rules_of (plan_of text job))

-- what a check answers: a plan exactly where no rule is broken, else the first broken rule, unless memory ran out
abbrev pub Checks : List ℕ → Job → Result Plan CheckFault → Type 0
Checks text job (Ok p) = (first_fault text job ≡ nothing) × (fields_of p ≡ plan_of text job)
Checks text job (Err faults.Memory) = Unit {0}
Checks text job (Err f) = first_fault text job ≡ Some f

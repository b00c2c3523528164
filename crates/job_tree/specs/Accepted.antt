-- Which tokens are a job, and the fault of those that are none.
use Rattle.std.specs.Prelude.{◌≡◌, ℕ, ◌+◌, Bool, nat_le, nat_lt, ◌&&◌, true, ◌<◌, ◌≤◌, List, [], ◌∷◌, ◌++◌, length}
use Rattle.std.specs.List.{AllByRecursion, list_all}
use Rattle.job_tree.specs.declared.fault.ParseFault.{ParseFault}
use Rattle.job_tree.specs.declared.fault.ParseFault.TheVariants as faults
use Rattle.job_tree.specs.declared.token.Kind.{Kind}
use Rattle.job_tree.specs.declared.token.Kind.TheVariants as kinds
use Rattle.job_tree.specs.declared.token.Span.{Span}
use Rattle.job_tree.specs.declared.token.Token.{Token}
use Rattle.job_tree.specs.declared.tree.ArrayDecl.{ArrayDecl}
use Rattle.job_tree.specs.declared.tree.Job.{Job}
use Rattle.job_tree.specs.declared.tree.StepBody.{StepBody}
use Rattle.job_tree.specs.declared.tree.StepBody.TheVariants as bodies
use Rattle.job_tree.specs.declared.tree.StepDecl.{StepDecl}
use Rattle.job_tree.specs.Word.{Word, Name, level_of, Is}
use Rattle.job_tree.specs.Spelling.{job_spelling}
use Rattle.job_tree.specs.Tokens.{is_last}

-- ---- the lists of a job have their items

-- an overlap has two parts at least
abbrev pub BodyFilled : StepBody → Type 0
BodyFilled (bodies.Overlap at parts) = 1 < length parts
BodyFilled _ = Unit {0}

abbrev pub StepFilled : StepDecl → Type 0
StepFilled s = BodyFilled s.body

pub record ArrayFilled (a : ArrayDecl) : Type 0 where
  pub some_states : 0 < length a.states
  pub some_steps : 0 < length a.steps
  pub filled_steps : AllByRecursion StepFilled a.steps

pub record JobFilled (j : Job) : Type 0 where
  pub some_arrays : 0 < length j.arrays
  pub filled_arrays : AllByRecursion ArrayFilled j.arrays
  pub some_answers : 0 < length j.answers

-- ---- tokens that words say

-- the tokens are those of the words, which open no level above the last one, and then the end
abbrev pub Whole : ℕ → List Word → List Token → Type 0
Whole last [] [] = ⊥
Whole last [] (t ∷ ts) = (t.kind ≡ kinds.End) × (ts ≡ [])
Whole last (w ∷ ws) [] = ⊥
Whole last (w ∷ ws) (t ∷ ts) = Is w t × (level_of w ≤ last) × Whole last ws ts

-- the tokens are the first of such ones
abbrev pub Front : ℕ → List Word → List Token → Type 0
Front last ws [] = Unit {0}
Front last [] (t ∷ ts) = (t.kind ≡ kinds.End) × (ts ≡ [])
Front last (w ∷ ws) (t ∷ ts) = Is w t × (level_of w ≤ last) × Front last ws ts

-- the tokens are those of this job, and 32 levels at most are open
pub record IsJob (tokens : List Token) (job : Job) : Type 0 where
  pub spelled : Whole 32 (job_spelling job 0) tokens
  pub filled : JobFilled job

-- the tokens are those of no job
abbrev pub NoJob : List Token → Type 0
NoJob tokens = (job : Job) → IsJob tokens job → ⊥

-- tokens are those of one job at most
abbrev pub OneJob : Type 0
OneJob = (tokens : List Token) (a b : Job) → IsJob tokens a → IsJob tokens b → a ≡ b

-- a tree opens no level above the last one
unfoldable pub is_shallow : ℕ → Job → Bool
is_shallow last job = list_all (λ w. nat_le (level_of w) last) (job_spelling job 0)

-- a name has at least one byte, and lies in a text of n bytes
abbrev pub span_lies : ℕ → Span → Bool
span_lies n span = nat_le 1 span.len && nat_le (span.at + span.len) n

-- a word that is a name lies in a text of n bytes
abbrev pub word_lies : ℕ → Word → Bool
word_lies n (Name span) = span_lies n span
word_lies n _ = true

-- each name of a tree, declared or used, has at least one byte, and lies in a text of n bytes
unfoldable pub names_lie : ℕ → Job → Bool
names_lie n job = list_all (word_lies n) (job_spelling job 0)

-- the same as tests: an overlap has two parts at least
abbrev pub body_is_filled : StepBody → Bool
body_is_filled (bodies.Overlap at parts) = nat_lt 1 (length parts)
body_is_filled _ = true

abbrev pub step_is_filled : StepDecl → Bool
step_is_filled s = body_is_filled s.body

abbrev pub array_is_filled : ArrayDecl → Bool
array_is_filled a = nat_lt 0 (length a.states) && nat_lt 0 (length a.steps) && list_all step_is_filled a.steps

-- the lists of a tree have their items
unfoldable pub is_filled : Job → Bool
is_filled j = nat_lt 0 (length j.arrays) && list_all array_is_filled j.arrays && nat_lt 0 (length j.answers)

-- ---- faults

-- the tokens end as those of a text do
abbrev pub Ended : List Token → Type 0
Ended tokens = (front : List Token) × (z : Token) × (tokens ≡ front ++ z ∷ []) × (is_last z.kind ≡ true)

-- some job, of whatever depth, begins with these tokens, of which none opens a level above the last one
abbrev pub Begins : ℕ → List Token → Type 0
Begins last seen = (job : Job) × JobFilled job × Front last (job_spelling job 0) seen

-- the first token with which no job goes on, or that opens a level too many, is at this place; Told is what its kind and its front show
pub record FirstAt (tokens : List Token) (at : ℕ) (Told : List Token → Token → Type 0) : Type 0 where
  pub seen : List Token
  pub token : Token
  pub left : List Token
  pub parts : tokens ≡ seen ++ token ∷ left
  pub placed : token.at ≡ at
  pub begins : Begins 32 seen
  pub ends : Begins 32 (seen ++ token ∷ []) → ⊥
  pub told : Told seen token

-- no job goes on with the token, whatever levels it opens
abbrev pub Never : List Token → Token → Type 0
Never seen token = (last : ℕ) → Begins last (seen ++ token ∷ []) → ⊥

-- neither a byte at which no token begins nor a number too large
abbrev pub Plain : Kind → Type 0
Plain kinds.Bad = ⊥
Plain kinds.TooLarge = ⊥
Plain _ = Unit {0}

-- what each fault says
abbrev pub Faulty : List Token → ParseFault → Type 0
Faulty tokens faults.Memory = Unit {0}
Faulty tokens (faults.TooLong at) = ⊥
Faulty tokens (faults.NotToken at) = FirstAt tokens at (λ seen token. (token.kind ≡ kinds.Bad) × Never seen token)
Faulty tokens (faults.NumberTooLarge at) = FirstAt tokens at (λ seen token. (token.kind ≡ kinds.TooLarge) × Never seen token)
Faulty tokens (faults.Unexpected at) = FirstAt tokens at (λ seen token. Plain token.kind × Never seen token)
Faulty tokens (faults.TooDeep at) = FirstAt tokens at (λ seen token. (last : ℕ) × Begins last (seen ++ token ∷ []))

-- Where reading stops, and the fault that is answered then.
use Rattle.std.specs.Prelude.{◌≡◌, ℕ, List, [], ◌∷◌, Result, Ok, Err}
use Rattle.job_tree.specs.declared.token.Kind.{Kind}
use Rattle.job_tree.specs.declared.token.Kind.TheVariants as kinds
use Rattle.job_tree.specs.declared.token.Token.{Token}
use Rattle.job_tree.specs.declared.fault.ParseFault.{ParseFault}
use Rattle.job_tree.specs.declared.fault.ParseFault.TheVariants as faults

-- no text goes on with the next token, or that token opens a level too many
pub data Why : Type 0 where
  Wrong : Why
  Deep : Why

-- why reading stopped, and the tokens that were left
pub record Stop : Type 0 where
  pub why : Why
  pub left : List Token

abbrev pub wrong : List Token → Stop
wrong ts = record { why = Wrong; left = ts }

abbrev pub deep : List Token → Stop
deep ts = record { why = Deep; left = ts }

-- the place of the first token
abbrev pub place : List Token → ℕ
place [] = 0
place (t ∷ ts) = t.at

-- the fault at a token of this kind that no text goes on with
abbrev pub kind_fault : Kind → ℕ → ParseFault
kind_fault kinds.Bad at = faults.NotToken at
kind_fault kinds.TooLarge at = faults.NumberTooLarge at
kind_fault _ at = faults.Unexpected at

abbrev pub wrong_fault : List Token → ParseFault
wrong_fault [] = faults.Unexpected 0
wrong_fault (t ∷ ts) = kind_fault t.kind t.at

abbrev pub why_fault : Why → List Token → ParseFault
why_fault Wrong left = wrong_fault left
why_fault Deep left = faults.TooDeep (place left)

abbrev pub fault_of : Stop → ParseFault
fault_of s = why_fault s.why s.left

abbrev pub as_fault : {A : Type 0} → Result A Stop → Result A ParseFault
as_fault (Ok x) = Ok x
as_fault (Err s) = Err (fault_of s)

-- a fault answered is the one of reading, unless memory ran out
abbrev pub Fails : {Y : Type 0} → ParseFault → Result Y Stop → Type 0
Fails faults.Memory read = Unit {0}
Fails e read = as_fault read ≡ Err e

-- what a function answered, seen by view, is what reading gives, unless memory ran out
abbrev pub Gives : {X Y : Type 0} → (X → Y) → Result X ParseFault → Result Y Stop → Type 0
Gives view (Ok x) read = read ≡ Ok (view x)
Gives view (Err e) read = Fails e read

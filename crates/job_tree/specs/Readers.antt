-- Readers of tokens from the left, and how they are joined.
use Rattle.std.specs.Prelude.{ℕ, zero, suc, Bool, false, if◌then◌else◌, ◌==◌, List, [], ◌∷◌, length, Option, Some, None, Result, Ok, Err}
use Rattle.job_tree.specs.declared.token.Kind.{Kind}
use Rattle.job_tree.specs.declared.token.Kind.TheVariants as kinds
use Rattle.job_tree.specs.declared.token.Mark.{Mark}
use Rattle.job_tree.specs.declared.token.Opened.{Opened}
use Rattle.job_tree.specs.declared.token.Token.{Token}
use Rattle.job_tree.specs.Mark.{number_of}
use Rattle.job_tree.specs.Fault.{Stop, wrong, deep}

-- a value and the tokens behind it, or where reading stopped
abbrev pub Read : Type 0 → Type 0
Read A = Result (A × List Token) Stop

abbrev pub Reader : Type 0 → Type 0
Reader A = List Token → Read A

abbrev pub and_then : {A B : Type 0} → Read A → (A → Reader B) → Read B
and_then (Ok x) k = k x.0 x.1
and_then (Err s) k = Err s

-- one reader, and then the one that its value gives
infixl 10 ◌>>=◌
abbrev pub ◌>>=◌ : {A B : Type 0} → Reader A → (A → Reader B) → Reader B
p >>= k = λ ts. and_then (p ts) k

-- a value, and no token
abbrev pub done : {A : Type 0} → A → Reader A
done x = λ ts. Ok (x, ts)

-- what a token says, where it may stand
abbrev pub taken : {A : Type 0} → Option A → Token → List Token → Read A
taken (Some x) t ts = Ok (x, ts)
taken None t ts = Err (wrong (t ∷ ts))

-- one token
abbrev pub one : {A : Type 0} → (Token → Option A) → Reader A
one f [] = Err (wrong [])
one f (t ∷ ts) = taken (f t) t ts

-- the first token passes a test
abbrev pub goes : (Kind → Bool) → List Token → Bool
goes on [] = false
goes on (t ∷ ts) = on t.kind

abbrev pub is_mark : Mark → Kind → Bool
is_mark mark (kinds.Mark found) = number_of found == number_of mark
is_mark mark _ = false

-- the place of a mark
abbrev pub mark_of : Mark → Token → Option ℕ
mark_of mark t = if is_mark mark t.kind then Some t.at else None

unfoldable pub mark_at : Mark → Reader ℕ
mark_at mark = one (mark_of mark)

-- no level may be opened: a mark that opens one is too deep
abbrev pub shut : {A : Type 0} → Mark → Reader A
shut mark ts = if goes (is_mark mark) ts then Err (deep ts) else Err (wrong ts)

abbrev pub opened_of : ℕ → Mark → Token → Option Opened
opened_of n mark t = if is_mark mark t.kind then Some (record { at = t.at; left = n }) else None

-- a mark that opens a level, by the number that may still be opened
unfoldable pub open_at : ℕ → Mark → Reader Opened
open_at zero mark = shut mark
open_at (suc n) mark = one (opened_of n mark)

-- one of two, by the first token
abbrev pub either : {A : Type 0} → (Kind → Bool) → Reader A → Reader A → Reader A
either on p q = λ ts. if goes on ts then p ts else q ts

-- items while the next token begins one
abbrev pub many_at : {A : Type 0} → (Kind → Bool) → Reader A → ℕ → Reader (List A)
many_at on item zero = done []
many_at on item (suc n) = either on (item >>= λ x. many_at on item n >>= λ xs. done (x ∷ xs)) (done [])

abbrev pub many : {A : Type 0} → (Kind → Bool) → Reader A → Reader (List A)
many on item = λ ts. many_at on item (length ts) ts

-- one if the next token begins one, else none
abbrev pub optional : {A : Type 0} → (Kind → Bool) → Reader A → Reader (Option A)
optional on item = either on (item >>= λ x. done (Some x)) (done None)

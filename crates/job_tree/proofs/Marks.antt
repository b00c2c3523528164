-- Marks by their numbers.
use Rattle.std.proofs.Common.{◌≡◌, ℕ, zero, suc, true, List, [], ◌∷◌, refl, ap, sym, ◌∙◌}
use Rattle.std.proofs.lemmas.Bool.{eqb-true, eq-eqb}
use Rattle.job_tree.specs.declared.token.Kind.{Kind}
use Rattle.job_tree.specs.declared.token.Kind.TheVariants as kinds
use Rattle.job_tree.specs.declared.token.Mark.{Mark}
use Rattle.job_tree.specs.declared.token.Mark.TheVariants as marks
use Rattle.job_tree.specs.Mark.{number_of}
use Rattle.job_tree.specs.Readers.{is_mark}

abbrev all_marks : List Mark
all_marks =
    marks.Job ∷ marks.Iterate ∷ marks.Array ∷ marks.State ∷ marks.Int ∷ marks.Entry ∷ marks.From ∷ marks.Wrap ∷ marks.Else ∷ marks.Reduce
    ∷ marks.Sum ∷ marks.Min ∷ marks.Max ∷ marks.Step ∷ marks.When ∷ marks.Overlap ∷ marks.Send ∷ marks.Contribute ∷ marks.If ∷ marks.For
    ∷ marks.In ∷ marks.Answer ∷ marks.At ∷ marks.Index ∷ marks.Row ∷ marks.Col ∷ marks.Cell ∷ marks.Iter ∷ marks.And ∷ marks.Or
    ∷ marks.Not ∷ marks.Faults ∷ marks.OpenBrace ∷ marks.CloseBrace ∷ marks.OpenBracket ∷ marks.CloseBracket ∷ marks.OpenParen ∷ marks.CloseParen ∷ marks.Comma ∷ marks.Dot
    ∷ marks.DotDot ∷ marks.Colon ∷ marks.Assign ∷ marks.Equal ∷ marks.NotEqual ∷ marks.Less ∷ marks.LessEqual ∷ marks.Greater ∷ marks.GreaterEqual ∷ marks.Plus
    ∷ marks.Minus ∷ marks.Times ∷ marks.Divide ∷ marks.Remainder ∷ []

abbrev mark_numbered : List Mark → ℕ → Mark
mark_numbered [] n = marks.Job
mark_numbered (m ∷ ms) zero = m
mark_numbered (m ∷ ms) (suc n) = mark_numbered ms n

numbered : (m : Mark) → mark_numbered all_marks (number_of m) ≡ m
numbered marks.Job = refl
numbered _ = refl

pub one_mark : (a b : Mark) → number_of a ≡ number_of b → a ≡ b
one_mark a b e = sym (numbered a) ∙ ap (mark_numbered all_marks) e ∙ numbered b

pub is_mark_same : (m : Mark) (k : Kind) → is_mark m k ≡ true → k ≡ kinds.Mark m
is_mark_same m (kinds.Mark f) e = ap (λ x. kinds.Mark x) (one_mark f m (eqb-true (number_of f) (number_of m) e))
is_mark_same m (kinds.Name s) e = absurd cc
is_mark_same m (kinds.Number n) e = absurd cc
is_mark_same m kinds.Bad e = absurd cc
is_mark_same m kinds.TooLarge e = absurd cc
is_mark_same m kinds.End e = absurd cc

pub is_mark_itself : (m : Mark) → is_mark m (kinds.Mark m) ≡ true
is_mark_itself m = eq-eqb (number_of m) (number_of m) refl

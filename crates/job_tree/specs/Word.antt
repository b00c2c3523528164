-- Words: what a tree says of each token that it is spelled by.
use Rattle.std.specs.Prelude.{◌≡◌, ℕ, ◌≤◌, List, [], ◌∷◌, Option, Some, None}
use Rattle.job_tree.specs.declared.token.Kind.{Kind}
use Rattle.job_tree.specs.declared.token.Kind.TheVariants as kinds
use Rattle.job_tree.specs.declared.token.Mark.{Mark as MarkOf}
use Rattle.job_tree.specs.declared.token.Num.{Num}
use Rattle.job_tree.specs.declared.token.Span.{Span}
use Rattle.job_tree.specs.declared.token.Token.{Token}

-- A name, a number, or a mark: its place, where the tree has it, and the level that it opens, 0 where it opens none.
pub data Word : Type 0 where
  Name : Span → Word
  Number : Num → Word
  Marked : MarkOf → Option ℕ → ℕ → Word

abbrev pub kind_of : Word → Kind
kind_of (Name span) = kinds.Name span
kind_of (Number n) = kinds.Number n
kind_of (Marked mark place level) = kinds.Mark mark

abbrev pub place_of : Word → Option ℕ
place_of (Marked mark place level) = place
place_of _ = None

abbrev pub level_of : Word → ℕ
level_of (Marked mark place level) = level
level_of _ = 0

abbrev pub Placed : Option ℕ → ℕ → Type 0
Placed (Some place) at = at ≡ place
Placed None at = Unit {0}

-- a token is one that the word says, of whatever level
pub record Is (w : Word) (t : Token) : Type 0 where
  pub kind : t.kind ≡ kind_of w
  pub place : Placed (place_of w) t.at

-- tokens are those that the words say, and open no level above the last one
abbrev pub Spells : ℕ → List Word → List Token → Type 0
Spells last [] [] = Unit {0}
Spells last [] (t ∷ ts) = ⊥
Spells last (w ∷ ws) [] = ⊥
Spells last (w ∷ ws) (t ∷ ts) = Is w t × (level_of w ≤ last) × Spells last ws ts

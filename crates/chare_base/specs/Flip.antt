-- Flips: silent changes of one cell.
use Rattle.std.specs.Prelude.{ℕ}

-- At the beginning of iteration `at` a cell of an element is changed by exclusive or with a mask of 64 bits.
pub record Flip : Type 0 where
  pub element : ℕ
  pub cell : ℕ
  pub mask : ℕ
  pub at : ℕ

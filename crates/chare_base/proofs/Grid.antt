-- Rows and columns of an index.
use Rattle.std.proofs.Common.{◌≡◌, ℕ, ◌+◌, ◌*◌, ◌/◌, ◌%◌, ◌<◌, arith}
use Rattle.std.proofs.lemmas.Nat.{mul-add-lt, div-mul-add, mod-mul-add, div-add-mod', div_below, mod_below}

pub index_within : (row col rows cols : ℕ) → row < rows → col < cols → row * cols + col < rows * cols
index_within row col rows cols h k = omega (arith, mul-add-lt row cols col rows h k)

-- an index of a row and a column, and its row and column
module _ (row col cols : ℕ) (h : col < cols) where
  pub row_of_index : (row * cols + col) / cols ≡ row
  row_of_index = div-mul-add row cols col h

  pub col_of_index : (row * cols + col) % cols ≡ col
  col_of_index = mod-mul-add row cols col h

-- an index within, and its row and column
module _ (index rows cols : ℕ) (h : index < rows * cols) (some : 0 < cols) where
  pub row_within : index / cols < rows
  row_within = div_below index cols rows some h

  pub col_within : index % cols < cols
  col_within = mod_below index cols some

  pub index_is : index / cols * cols + index % cols ≡ index
  index_is = div-add-mod' index cols

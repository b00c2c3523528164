-- How long spellings are.
use Rattle.std.proofs.Common.{◌≡◌, ℕ, ◌+◌, ◌*◌, List, [], ◌∷◌, ◌++◌, length, refl, arith}
use Rattle.std.specs.Prelude.{ℤ}
use Rattle.std.proofs.lemmas.List.{length-append}
use Rattle.std.specs.Int.{w64, cast_unsigned}
use Rattle.byteorder.specs.Numbers.{length-bytes_low_first}
use Rattle.chare_base.specs.Elements.{place_of}
use Rattle.pup_state.specs.Spelling.{field, cells_spelling, record_spelling}
use Rattle.pup_state.specs.Laws.{FieldLength, RecordLength}

pub field_length : FieldLength
unfolding field
field_length width x = length-bytes_low_first 0 width x

cells_length : (cells : List ℤ) → length (cells_spelling cells) ≡ 8 * length cells
cells_length [] = refl
cells_length (c ∷ more) =
    omega (arith, length-append (field 8 (cast_unsigned w64 c)) (cells_spelling more), field_length 8 (cast_unsigned w64 c), cells_length more)

eight : (a b c d f g h i : List ℕ) →
    length (a ++ (b ++ (c ++ (d ++ (f ++ (g ++ (h ++ i))))))) ≡ length a + (length b + (length c + (length d + (length f + (length g + (length h + length i))))))
eight a b c d f g h i = simp length-append

pub record_length : RecordLength
unfolding record_spelling
record_length p e done cells =
    omega (
      arith,
      eight (field 2 (place_of p e).array) (field 4 (place_of p e).index) (field 8 done) (field 1 cells.slip.kind) (field 1 cells.slip.step)
          (field 8 cells.slip.iteration) (field 4 (length cells.numbers)) (cells_spelling cells.numbers),
      field_length 2 (place_of p e).array,
      field_length 4 (place_of p e).index,
      field_length 8 done,
      field_length 1 cells.slip.kind,
      field_length 1 cells.slip.step,
      field_length 8 cells.slip.iteration,
      field_length 4 (length cells.numbers),
      cells_length cells.numbers,
    )

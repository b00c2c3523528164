-- How states are spelled as bytes. All numbers have the lowest byte first.
use Rattle.std.specs.Prelude.{ℕ, suc, ◌+◌, ◌*◌, ℤ, List, [], ◌∷◌, ◌++◌, length, codes, slice_index_or}
use Rattle.std.specs.Int.{w64, cast_unsigned}
use Rattle.byteorder.specs.Endian.{little_bytes}
use Rattle.chare_base.specs.declared.cells.Cells.{Cells}
use Rattle.chare_base.specs.declared.plan.Plan.{Plan}
use Rattle.chare_base.specs.Elements.{cells_of, place_of}

-- a number in `width` bytes
unfoldable pub field : ℕ → ℕ → List ℕ
field width x = little_bytes width x

-- cells one after another, each by its 64 bits in two's complement
abbrev pub cells_spelling : List ℤ → List ℕ
cells_spelling [] = []
cells_spelling (c ∷ more) = field 8 (cast_unsigned w64 c) ++ cells_spelling more

-- An element's record: where it stands, how many iterations are completed, its slip and its cells. The fields
-- begin at the bytes 0, 2, 6, 14, 15, 16 and 24, the cells at 28.
unfoldable pub record_spelling : Plan → ℕ → ℕ → Cells → List ℕ
record_spelling p e done cells =
    field 2 (place_of p e).array
    ++ (field 4 (place_of p e).index
    ++ (field 8 done
    ++ (field 1 cells.slip.kind
    ++ (field 1 cells.slip.step
    ++ (field 8 cells.slip.iteration
    ++ (field 4 (length cells.numbers)
    ++ cells_spelling cells.numbers))))))

-- how many bytes an element's record has
abbrev pub size_of : Plan → ℕ → ℕ
size_of p e = 28 + 8 * cells_of p e

-- the records of these elements, the first of which has the given number
abbrev pub records_from : Plan → ℕ → ℕ → List Cells → List ℕ
records_from p done e [] = []
records_from p done e (cells ∷ more) = record_spelling p e done cells ++ records_from p done (suc e) more

-- what stands before the records: the format's mark and the number of elements
abbrev pub head : ℕ → List ℕ
head count = codes "ACR1" ++ field 4 count

-- the checkpoint of all elements after `done` completed iterations
unfoldable pub pack : Plan → ℕ → List Cells → List ℕ
pack p done all = head (length all) ++ records_from p done 0 all

-- an element's state, no cells where there is no such element
abbrev pub cells_at : List Cells → ℕ → Cells
cells_at all e = slice_index_or all e (record { numbers = []; slip = record { kind = 0; step = 0; iteration = 0 } })

-- the records of these elements, one after another: what a piece holds
abbrev pub records_of : Plan → ℕ → List Cells → List ℕ → List ℕ
records_of p done all [] = []
records_of p done all (e ∷ more) = record_spelling p e done (cells_at all e) ++ records_of p done all more

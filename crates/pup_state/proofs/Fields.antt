-- Fields back from their bytes, and numbers back from their fields.
use Rattle.std.proofs.Common.{◌≡◌, ℕ, zero, suc, ◌+◌, ◌*◌, ◌^◌, ◌<◌, ◌≤◌, List, [], ◌∷◌, ◌++◌, length, get_or, take, drop, refl, ap, sym, ◌∙◌, arith, length-drop}
use Rattle.std.proofs.lemmas.List.{drop-drop, length-take-le, take-append-drop}
use Rattle.std.proofs.Math.Seq.{drop-append-add}
use Rattle.byteorder.specs.Endian.{little_from, little_number}
use Rattle.byteorder.specs.Numbers.{little_from-cons, little_from-lt, little_number-reads_back, length-bytes_low_first}
use Rattle.std.specs.Int.{bytes_low_first, byte_at}
use Rattle.std.proofs.Math.Nat.{pow-suc}
use Rattle.pup_state.specs.Faults.{number_at}
use Rattle.pup_state.specs.Spelling.{field}
use Rattle.pup_state.proofs.Lengths.{field_length}

-- ---- bytes

abbrev pub AreBytes : List ℕ → Type 0
AreBytes [] = Unit {0}
AreBytes (b ∷ bs) = (b < 256) × AreBytes bs

pub are_bytes : (xs : List ℕ) → ((i : ℕ) → get_or xs i 0 < 256) → AreBytes xs
are_bytes [] h = tt
are_bytes (x ∷ xs) h = (h 0, are_bytes xs (λ i. h (suc i)))

pub byte_there : (xs : List ℕ) → AreBytes xs → (i : ℕ) → get_or xs i 0 < 256
byte_there [] a i = omega arith
byte_there (x ∷ xs) a zero = a.0
byte_there (x ∷ xs) a (suc i) = byte_there xs a.1 i

pub bytes_behind : (n : ℕ) (xs : List ℕ) → AreBytes xs → AreBytes (drop n xs)
bytes_behind zero xs a = a
bytes_behind (suc n) [] a = tt
bytes_behind (suc n) (x ∷ xs) a = bytes_behind n xs a.1

pub bytes_before : (n : ℕ) (xs : List ℕ) → AreBytes xs → AreBytes (take n xs)
bytes_before zero xs a = tt
bytes_before (suc n) [] a = tt
bytes_before (suc n) (x ∷ xs) a = (a.0, bytes_before n xs a.1)

-- ---- a field's bytes are those that its number was read from

-- the number that bytes spell, the lowest first
abbrev low : List ℕ → ℕ
low [] = 0
low (b ∷ bs) = b + 256 * low bs

low_is : (xs ys : List ℕ) → little_from 0 (length xs) (xs ++ ys) ≡ low xs
low_is [] ys = refl
low_is (x ∷ xs) ys = ap (λ m. x + 256 * m) (little_from-cons 0 (length xs) x (xs ++ ys) ∙ low_is xs ys)

low_once : (xs ys : List ℕ) → length xs ≡ length ys → AreBytes xs → AreBytes ys → low xs ≡ low ys → xs ≡ ys
low_once [] [] l a b e = refl
low_once [] (y ∷ ys) l a b e = absurd (omega arith)
low_once (x ∷ xs) [] l a b e = absurd (omega arith)
low_once (x ∷ xs) (y ∷ ys) l a b e =
    let head : x ≡ y = omega (arith, a.0, b.0) in
    let tail : low xs ≡ low ys = omega (arith, a.0, b.0) in
    ap (λ z. z ∷ xs) head ∙ ap (λ zs. y ∷ zs) (low_once xs ys (omega arith) a.1 b.1 tail)

low_below : (xs : List ℕ) → AreBytes xs → low xs < 256 ^ length xs
low_below [] a = omega arith
low_below (x ∷ xs) a = omega (arith, pow-suc 256 (length xs), low_below xs a.1, a.0)

-- the bytes of a number are bytes
number_bytes : (i n x : ℕ) → AreBytes (bytes_low_first i n x)
number_bytes i zero x = tt
number_bytes i (suc n) x = (byte_below i x, number_bytes (suc i) n x)
  where
    byte_below : (i x : ℕ) → byte_at i x < 256
    byte_below i x = grind arith

field_back : (xs rest : List ℕ) → AreBytes xs → field (length xs) (little_number (length xs) (xs ++ rest)) ≡ xs
unfolding field
field_back xs rest a =
    let n = length xs in
    let x : ℕ = low xs in
    let bs : List ℕ = bytes_low_first 0 n x in
    let len : length bs ≡ n = length-bytes_low_first 0 n x in
    let same : low bs ≡ low xs =
    sym (low_is bs []) ∙ ap (λ m. little_from 0 m (bs ++ [])) len ∙ little_number-reads_back n x [] (low_below xs a) in
    ap (bytes_low_first 0 n) (low_is xs rest) ∙ low_once bs xs len (number_bytes 0 n x) a same

field_front : (width : ℕ) (xs : List ℕ) → AreBytes xs → width ≤ length xs → field width (little_number width xs) ≡ take width xs
field_front width xs a h =
    let len : length (take width xs) ≡ width = length-take-le width xs h in
    let back : field (length (take width xs)) (little_number (length (take width xs)) (take width xs ++ drop width xs)) ≡ take width xs =
    field_back (take width xs) (drop width xs) (bytes_before width xs a) in
    ap (λ zs. field width (little_number width zs)) (sym (take-append-drop width xs))
    ∙ ap (λ n. field n (little_number n (take width xs ++ drop width xs))) (sym len) ∙ back

-- what was read at a place, and what follows it
pub field_at : (width at : ℕ) (xs : List ℕ) → AreBytes xs → at + width ≤ length xs → field width (number_at width at xs) ++ drop (at + width) xs ≡ drop at xs
unfolding number_at
field_at width at xs a h =
    let rest : List ℕ = drop at xs in
    let room : width ≤ length rest = omega (arith, length-drop at xs) in
    ap (λ zs. zs ++ drop (at + width) xs) (field_front width rest (bytes_behind at xs a) room)
    ∙ ap (λ zs. take width rest ++ zs) (sym (behind at width xs)) ∙ take-append-drop width rest
  where
    behind : (n m : ℕ) (xs : List ℕ) → drop m (drop n xs) ≡ drop (n + m) xs
    behind n m xs = drop-drop m n xs

pub number_fits : (width at : ℕ) (xs : List ℕ) → AreBytes xs → number_at width at xs < 256 ^ width
unfolding number_at
number_fits width at xs a = little_from-lt 0 width (drop at xs) (byte_there (drop at xs) (bytes_behind at xs a))

-- ---- a number is read back from its field

pub reads_field : (width at x : ℕ) (xs rest : List ℕ) → drop at xs ≡ field width x ++ rest → x < 256 ^ width → number_at width at xs ≡ x
unfolding number_at field
reads_field width at x xs rest is h = ap (little_number width) is ∙ little_number-reads_back width x rest h

-- past a field
pub past : (width n x : ℕ) (rest : List ℕ) → drop (width + n) (field width x ++ rest) ≡ drop n rest
past width n x rest =
    ap (λ m. drop (m + n) (field width x ++ rest)) (sym (field_length width x)) ∙ drop-append-add (field width x) rest n

-- One piece of a text after another.
use Rattle.std.proofs.Common.{◌≡◌, ℕ, zero, suc, ◌+◌, ◌-◌, ◌*◌, ◌<◌, ◌≤◌, min, Bool, true, false, List, [], ◌∷◌, ◌++◌, length, get_or, take, drop, add-one, drop-cons, refl, ap, sym, ◌∙◌, subst, append_assoc, arith, Option, Some, None}
use Rattle.std.proofs.lemmas.List.{drop_all}
use Rattle.std.proofs.lemmas.List.Folds.{length-prefix_len}
use Rattle.std.proofs.lemmas.Bool.{ne_eqb}
use Rattle.std.specs.Prelude.{◌==◌}
use Rattle.std.specs.List.{take_while}
use Rattle.job_tree.specs.declared.token.Piece.{Piece}
use Rattle.job_tree.specs.declared.token.Piece.TheVariants as pieces
use Rattle.job_tree.specs.declared.token.Mark.{Mark as MarkOf}
use Rattle.job_tree.specs.declared.token.Token.{Token}
use Rattle.job_tree.specs.declared.token.Kind.TheVariants.{End}
use Rattle.job_tree.specs.Tokens.{number_from, piece_of, piece_at, piece_then, piece_tokens, single_piece, symbol_piece, pair_at, pair_mark, bracket_mark, operator_mark, word_piece, number_piece, is_blank, is_letter, is_digit, in_word, len_of, Fits, token, tokens_of}

-- numbers that are the same up to a bound stay so
capped : (m n n' : ℕ) (ds : List ℕ) → min n m ≡ min n' m → min (number_from n ds) m ≡ min (number_from n' ds) m
capped m n n' [] h = h
capped m n n' (d ∷ ds) h = capped m (n * 10 + (d - 48)) (n' * 10 + (d - 48)) ds (omega arith)

pub capped_next : (m n d : ℕ) (ds : List ℕ) → min (number_from (min (min (n * 10) m + d) m) ds) m ≡ min (number_from (n * 10 + d) ds) m
capped_next m n d ds = capped m (min (min (n * 10) m + d) m) (n * 10 + d) ds (omega arith)

digit_at : (ds : List ℕ) (i : ℕ) → i < length ds → drop i ds ≡ get_or ds i 0 ∷ drop (i + 1) ds
digit_at ds i h = rw (add-one, drop-cons ds i 0) refl

-- the digit at a place, and those behind it
pub digit_next : (ds : List ℕ) (m i n d' n' r : ℕ) → i < length ds → d' ≡ get_or ds i 0 - 48 → n' ≡ min (min (n * 10) m + d') m → min (number_from n (drop i ds)) m ≡ r → min (number_from n' (drop (i + 1) ds)) m ≡ r
digit_next ds m i n d' n' r h d e told =
    ap (λ k. min (number_from k (drop (i + 1) ds)) m) (e ∙ ap (λ k. min (min (n * 10) m + k) m) d)
    ∙ capped_next m n (get_or ds i 0 - 48) (drop (i + 1) ds)
    ∙ ap (λ l. min (number_from n l) m) (sym (digit_at ds i h))
    ∙ told

pub digits_end : (ds : List ℕ) (m n i r : ℕ) → length ds ≤ i → n ≤ m → min (number_from n (drop i ds)) m ≡ r → n ≡ r
digits_end ds m n i r h small told = (let e : n ≡ min n m = omega arith in e) ∙ ap (λ l. min (number_from n l) m) (sym (drop_all i ds h)) ∙ told

-- what passes from the front on
pub take_passing : (p : ℕ → Bool) (bs : List ℕ) → take (length (take_while p bs)) bs ≡ take_while p bs
take_passing p bs = ap (λ n. take n bs) (length-prefix_len p bs)

single_fits : (a b : Option MarkOf) (n : ℕ) → Fits (single_piece a b) (suc n)
single_fits (Some a) b n = (omega arith, omega arith)
single_fits None (Some b) n = (omega arith, omega arith)
single_fits None None n = tt

pair_fits : (pair : Option MarkOf) (b n : ℕ) → Fits (symbol_piece pair b) (suc (suc n))
pair_fits (Some a) b n = (omega arith, omega arith)
pair_fits None b n = single_fits (bracket_mark b) (operator_mark b) (suc n)

-- a symbol of two bytes is there only where the text has both
symbol_fits : (b : ℕ) (bs : List ℕ) → Fits (symbol_piece (pair_at b bs) b) (suc (length bs))
symbol_fits b [] = single_fits (bracket_mark b) (operator_mark b) 0
symbol_fits b (c ∷ cs) = pair_fits (pair_mark b c) b (length cs)

pub symbol_told : (b : ℕ) (bs text : List ℕ) (pair : Option MarkOf) (p : Piece) → text ≡ b ∷ bs → pair ≡ pair_at b bs → p ≡ symbol_piece pair b → Fits p (length text)
symbol_told b bs text pair p e f g =
    let P : Piece → Type 0 = λ q. Fits q (length text) in
    let Q : List ℕ → Type 0 = λ t. Fits (symbol_piece (pair_at b bs) b) (length t) in
    subst P (sym (g ∙ ap (λ o. symbol_piece o b) f)) (subst Q (sym e) (symbol_fits b bs))

-- the bytes of a word or of a number, at the front
front : (p : ℕ → Bool) (b : ℕ) (bs text : List ℕ) (n : ℕ) → text ≡ b ∷ bs → n ≡ length (take_while p bs) → take (1 + n) text ≡ b ∷ take_while p bs
front p b bs text n e h =
    ap (λ t. take (1 + n) t) e ∙ ap (λ k. take k (b ∷ bs)) (let q : 1 + n ≡ suc n = omega arith in q) ∙ ap (λ k. b ∷ take k bs) h ∙ ap (λ r. b ∷ r) (take_passing p bs)

word_here : (at b : ℕ) (bs : List ℕ) → is_blank b ≡ false → (b == 35) ≡ false → is_letter b ≡ true → piece_of at b bs ≡ word_piece at (b ∷ take_while in_word bs)
word_here at b bs h g f = rw (h, g, f) refl

number_here : (at b : ℕ) (bs : List ℕ) → is_blank b ≡ false → (b == 35) ≡ false → is_letter b ≡ false → is_digit b ≡ true → piece_of at b bs ≡ number_piece at (b ∷ take_while is_digit bs)
number_here at b bs h g f d = rw (h, g, f, d) refl

pub word_told : (at b : ℕ) (bs text : List ℕ) (n : ℕ) (p : Piece) → text ≡ b ∷ bs → is_blank b ≡ false → (b ≡ 35 → ⊥) → is_letter b ≡ true → n ≡ length (take_while in_word bs) →
    p ≡ word_piece at (take (1 + n) text) → Some p ≡ piece_at at text
unfolding piece_at
word_told at b bs text n p e h g f len told =
    ap (λ x. Some x) (told ∙ ap (word_piece at) (front in_word b bs text n e len) ∙ sym (word_here at b bs h (ne_eqb b 35 g) f)) ∙ ap (piece_at at) (sym e)

pub number_told : (at b : ℕ) (bs text : List ℕ) (n : ℕ) (p : Piece) → text ≡ b ∷ bs → is_blank b ≡ false → (b ≡ 35 → ⊥) → is_letter b ≡ false → is_digit b ≡ true →
    n ≡ length (take_while is_digit bs) → p ≡ number_piece at (take (1 + n) text) → Some p ≡ piece_at at text
unfolding piece_at
number_told at b bs text n p e h g f d len told =
    ap (λ x. Some x) (told ∙ ap (number_piece at) (front is_digit b bs text n e len) ∙ sym (number_here at b bs h (ne_eqb b 35 g) f d)) ∙ ap (piece_at at) (sym e)

-- what is skipped is dropped
skipped : (k at : ℕ) (bs : List ℕ) → k ≤ length bs → tokens_of k at bs ≡ tokens_of 0 (k + at) (drop k bs)
unfolding tokens_of
skipped zero at bs h = ap (λ n. tokens_of 0 n bs) (let e : at ≡ zero + at = omega arith in e)
skipped (suc k) at [] h = absurd (omega arith)
skipped (suc k) at (b ∷ bs) h = skipped k (suc at) bs (omega arith) ∙ ap (λ n. tokens_of 0 n (drop k bs)) (let e : k + suc at ≡ suc k + at = omega arith in e)

goes_on : (p : Piece) (len at : ℕ) (more : ℕ → List Token) → len_of p ≡ Some len → piece_then p at more ≡ piece_tokens p at ++ more len
goes_on (pieces.Blank n) len at more e = ap more (let q : n ≡ len = cc in q)
goes_on (pieces.Token kind n) len at more e = ap (λ l. token kind at ∷ more l) (let q : n ≡ len = cc in q)
goes_on (pieces.Last kind) len at more e = cc

stops : (p : Piece) (at : ℕ) (more : ℕ → List Token) → len_of p ≡ None → piece_then p at more ≡ piece_tokens p at
stops (pieces.Blank n) at more e = cc
stops (pieces.Token kind n) at more e = cc
stops (pieces.Last kind) at more e = refl

pub fitting : (p : Piece) (len most : ℕ) → len_of p ≡ Some len → Fits p most → (0 < len) × (len ≤ most)
fitting (pieces.Blank n) len most e h = let q : n ≡ len = cc in subst (λ l. (0 < l) × (l ≤ most)) q h
fitting (pieces.Token kind n) len most e h = let q : n ≡ len = cc in subst (λ l. (0 < l) × (l ≤ most)) q h
fitting (pieces.Last kind) len most e h = cc

next : (at len b : ℕ) (bs : List ℕ) (p : Piece) → piece_of at b bs ≡ p → len_of p ≡ Some len → 0 < len → len ≤ suc (length bs) →
    tokens_of 0 at (b ∷ bs) ≡ piece_tokens p at ++ tokens_of 0 (at + len) (drop len (b ∷ bs))
unfolding tokens_of
next at zero b bs p e f some most = absurd (omega arith)
next at (suc k) b bs p e f some most =
    ap (λ q. piece_then q at (λ len. tokens_of (len - 1) (suc at) bs)) e ∙ goes_on p (suc k) at (λ len. tokens_of (len - 1) (suc at) bs) f
    ∙ ap (λ r. piece_tokens p at ++ r) (ap (λ n. tokens_of n (suc at) bs) (let q : suc k - 1 ≡ k = omega arith in q) ∙ skipped k (suc at) bs (omega arith)
    ∙ ap (λ n. tokens_of 0 n (drop k bs)) (let q : k + suc at ≡ at + suc k = omega arith in q))

-- one more piece of the text
pub piece_next : (rest : List ℕ) (at len : ℕ) (old new r : List Token) (p : Piece) → piece_at at rest ≡ Some p → len_of p ≡ Some len → Fits p (length rest) →
    new ≡ old ++ piece_tokens p at → old ++ tokens_of 0 at rest ≡ r → new ++ tokens_of 0 (at + len) (drop len rest) ≡ r
unfolding piece_at
piece_next [] at len old new r p e f h g told = cc
piece_next (b ∷ bs) at len old new r p e f h g told =
    let fits = fitting p len (suc (length bs)) f h in
    let is : piece_of at b bs ≡ p = cc in
    ap (λ t. t ++ tokens_of 0 (at + len) (drop len (b ∷ bs))) g ∙ append_assoc old (piece_tokens p at) (tokens_of 0 (at + len) (drop len (b ∷ bs)))
    ∙ ap (λ t. old ++ t) (sym (next at len b bs p is f fits.0 fits.1)) ∙ told

-- the last piece of the text
pub piece_last : (rest : List ℕ) (at : ℕ) (old new r : List Token) (p : Piece) → piece_at at rest ≡ Some p → len_of p ≡ None →
    new ≡ old ++ piece_tokens p at → old ++ tokens_of 0 at rest ≡ r → new ≡ r
unfolding piece_at tokens_of
piece_last [] at old new r p e f g told = cc
piece_last (b ∷ bs) at old new r p e f g told =
    let is : piece_of at b bs ≡ p = cc in
    g ∙ ap (λ t. old ++ t) (sym (ap (λ q. piece_then q at (λ len. tokens_of (len - 1) (suc at) bs)) is ∙ stops p at (λ len. tokens_of (len - 1) (suc at) bs) f)) ∙ told

-- the end of the text
pub piece_none : (rest : List ℕ) (at : ℕ) (old r : List Token) → piece_at at rest ≡ None → old ++ tokens_of 0 at rest ≡ r → old ++ token End at ∷ [] ≡ r
unfolding piece_at tokens_of
piece_none [] at old r e told = told
piece_none (b ∷ bs) at old r e told = cc

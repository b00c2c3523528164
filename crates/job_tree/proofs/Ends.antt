-- The tokens of a text end once.
use Rattle.std.proofs.Common.{◌≡◌, ℕ, zero, suc, ◌-◌, Bool, true, false, cond, List, [], ◌∷◌, refl, ap, ◌∙◌, Option, Some, None}
use Rattle.std.specs.Prelude.{IsTrue, ◌+◌, not, ◌&&◌, nat_le, ◌==◌, length}
use Rattle.std.specs.List.{take_while}
use Rattle.job_tree.specs.declared.token.Piece.{Piece}
use Rattle.job_tree.specs.declared.token.Piece.TheVariants as pieces
use Rattle.job_tree.specs.declared.token.Kind.TheVariants.{Number, TooLarge}
use Rattle.job_tree.specs.declared.token.Mark.{Mark as MarkOf}
use Rattle.job_tree.specs.declared.token.Token.{Token}
use Rattle.job_tree.specs.Tokens.{EndsOnce, greatest, number_from, kind_of_word, word_piece, number_piece, single_piece, symbol_piece, pair_at, bracket_mark, operator_mark, is_blank, is_letter, is_digit, in_word, in_comment, piece_of, piece_then, token, tokens_of, tokens, is_last, ends_once}
use Rattle.job_tree.specs.Words.{reserved}

-- a piece says rightly whether its token is the last
abbrev Right : Piece → Type 0
Right (pieces.Blank n) = Unit {0}
Right (pieces.Token kind n) = is_last kind ≡ false
Right (pieces.Last kind) = is_last kind ≡ true

right_if : (t : Bool) (p q : Piece) → Right p → Right q → Right (cond t p q)
right_if true p q a b = a
right_if false p q a b = b

word_right : (at n : ℕ) (word : List ℕ) (o : Option MarkOf) → is_last (kind_of_word at word o) ≡ false
word_right at n word (Some mark) = refl
word_right at n word None = refl

single_right : (a b : Option MarkOf) → Right (single_piece a b)
single_right (Some a) b = refl
single_right None (Some b) = refl
single_right None None = refl

symbol_right : (pair : Option MarkOf) (b : ℕ) → Right (symbol_piece pair b)
symbol_right (Some a) b = refl
symbol_right None b = single_right (bracket_mark b) (operator_mark b)

number_right : (at : ℕ) (digits : List ℕ) → Right (number_piece at digits)
number_right at digits =
    right_if (nat_le (number_from 0 digits) greatest) (pieces.Token (Number (record { at = at; value = number_from 0 digits })) (length digits)) (pieces.Last TooLarge) refl refl

piece_right : (at b : ℕ) (bs : List ℕ) → Right (piece_of at b bs)
piece_right at b bs =
    let word = word_piece at (b ∷ take_while in_word bs) in
    let number = number_piece at (b ∷ take_while is_digit bs) in
    let symbol = symbol_piece (pair_at b bs) b in
    let digit = right_if (is_digit b) number symbol (number_right at (b ∷ take_while is_digit bs)) (symbol_right (pair_at b bs) b) in
    let letter = right_if (is_letter b) word (cond (is_digit b) number symbol) (word_right at 0 (b ∷ take_while in_word bs) (reserved (b ∷ take_while in_word bs))) digit in
    let comment = right_if (b == 35) (pieces.Blank (1 + length (take_while in_comment bs))) (cond (is_letter b) word (cond (is_digit b) number symbol)) tt letter in
    right_if (is_blank b) (pieces.Blank 1) (cond (b == 35) (pieces.Blank (1 + length (take_while in_comment bs))) (cond (is_letter b) word (cond (is_digit b) number symbol))) tt comment

one_more : (t : Token) (ts : List Token) → is_last t.kind ≡ false → IsTrue (ends_once ts) → IsTrue (ends_once (t ∷ ts))
one_more t [] f h = cc
one_more t (u ∷ more) f h = ap (λ l. not l && ends_once (u ∷ more)) f ∙ h

piece_ends : (p : Piece) (at : ℕ) (more : ℕ → List Token) → Right p → ((len : ℕ) → IsTrue (ends_once (more len))) → IsTrue (ends_once (piece_then p at more))
piece_ends (pieces.Blank n) at more r h = h n
piece_ends (pieces.Token kind n) at more r h = one_more (token kind at) (more n) r (h n)
piece_ends (pieces.Last kind) at more r h = r

ends : (skip at : ℕ) (bs : List ℕ) → IsTrue (ends_once (tokens_of skip at bs))
unfolding tokens_of
ends skip at [] = refl
ends (suc k) at (b ∷ bs) = ends k (suc at) bs
ends zero at (b ∷ bs) = piece_ends (piece_of at b bs) at (λ len. tokens_of (len - 1) (suc at) bs) (piece_right at b bs) (λ len. ends (len - 1) (suc at) bs)

pub tokens_end_once : EndsOnce
unfolding tokens
tokens_end_once text = ends 0 0 text

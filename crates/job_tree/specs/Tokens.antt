-- The tokens of a text.
use Rattle.std.specs.Prelude.{ℕ, zero, suc, ◌+◌, ◌-◌, ◌*◌, Bool, true, false, IsTrue, not, ◌||◌, ◌&&◌, ◌==◌, ◌<◌, ◌≤◌, nat_le, if◌then◌else◌, List, [], ◌∷◌, length, Option, Some, None}
use Rattle.std.specs.List.{take_while}
use Rattle.job_tree.specs.declared.token.Piece.{Piece}
use Rattle.job_tree.specs.declared.token.Piece.TheVariants as pieces
use Rattle.job_tree.specs.declared.token.Kind.{Kind}
use Rattle.job_tree.specs.declared.token.Kind.TheVariants.{Name, Number, Mark, Bad, TooLarge, End}
use Rattle.job_tree.specs.declared.token.Mark.TheVariants as marks
use Rattle.job_tree.specs.declared.token.Mark.{Mark as MarkOf}
use Rattle.job_tree.specs.declared.token.Token.{Token}
use Rattle.job_tree.specs.Words.{reserved}

-- space, tab, line feed and carriage return
abbrev pub is_blank : ℕ → Bool
is_blank b = (b == 32) || (b == 9) || (b == 10) || (b == 13)

-- a comment goes on up to a line feed
abbrev pub in_comment : ℕ → Bool
in_comment b = not (b == 10)

-- `a` to `z`, `A` to `Z`, and `_`
abbrev pub is_letter : ℕ → Bool
is_letter b = (nat_le 97 b && nat_le b 122) || (nat_le 65 b && nat_le b 90) || (b == 95)

-- `0` to `9`
abbrev pub is_digit : ℕ → Bool
is_digit b = nat_le 48 b && nat_le b 57

abbrev pub in_word : ℕ → Bool
in_word b = is_letter b || is_digit b

-- the greatest number that a text may write
abbrev pub greatest : ℕ
greatest = 9223372036854775807

-- the number that digits go on, read from the left
abbrev pub number_from : ℕ → List ℕ → ℕ
number_from n [] = n
number_from n (d ∷ ds) = number_from (n * 10 + (d - 48)) ds

-- a symbol of two bytes
abbrev pub pair_mark : ℕ → ℕ → Option MarkOf
pair_mark b c =
    if (b == 46) && (c == 46) then Some marks.DotDot
    else (if (b == 61) && (c == 61) then Some marks.Equal
    else (if (b == 33) && (c == 61) then Some marks.NotEqual
    else (if (b == 60) && (c == 61) then Some marks.LessEqual
    else (if (b == 62) && (c == 61) then Some marks.GreaterEqual
    else None))))

-- a symbol of two bytes at the front of a text
abbrev pub pair_at : ℕ → List ℕ → Option MarkOf
pair_at b [] = None
pair_at b (c ∷ cs) = pair_mark b c

-- brackets, and what stands between parts
abbrev pub bracket_mark : ℕ → Option MarkOf
bracket_mark b =
    if b == 123 then Some marks.OpenBrace
    else (if b == 125 then Some marks.CloseBrace
    else (if b == 91 then Some marks.OpenBracket
    else (if b == 93 then Some marks.CloseBracket
    else (if b == 40 then Some marks.OpenParen
    else (if b == 41 then Some marks.CloseParen
    else (if b == 44 then Some marks.Comma
    else (if b == 46 then Some marks.Dot
    else (if b == 58 then Some marks.Colon
    else None))))))))

-- operators of one byte
abbrev pub operator_mark : ℕ → Option MarkOf
operator_mark b =
    if b == 61 then Some marks.Assign
    else (if b == 60 then Some marks.Less
    else (if b == 62 then Some marks.Greater
    else (if b == 43 then Some marks.Plus
    else (if b == 45 then Some marks.Minus
    else (if b == 42 then Some marks.Times
    else (if b == 47 then Some marks.Divide
    else (if b == 37 then Some marks.Remainder
    else None)))))))

-- a word that isn't reserved is a name
abbrev pub kind_of_word : ℕ → List ℕ → Option MarkOf → Kind
kind_of_word at word None = Name (record { at = at; len = length word })
kind_of_word at word (Some mark) = Mark mark

abbrev pub word_piece : ℕ → List ℕ → Piece
word_piece at word = pieces.Token (kind_of_word at word (reserved word)) (length word)

abbrev pub number_piece : ℕ → List ℕ → Piece
number_piece at digits =
    if nat_le (number_from 0 digits) greatest then pieces.Token (Number (record { at = at; value = number_from 0 digits })) (length digits)
    else pieces.Last TooLarge

abbrev pub single_piece : Option MarkOf → Option MarkOf → Piece
single_piece (Some mark) other = pieces.Token (Mark mark) 1
single_piece None (Some mark) = pieces.Token (Mark mark) 1
single_piece None None = pieces.Last Bad

-- a symbol of two bytes goes before one of its first byte
abbrev pub symbol_piece : Option MarkOf → ℕ → Piece
symbol_piece (Some mark) b = pieces.Token (Mark mark) 2
symbol_piece None b = single_piece (bracket_mark b) (operator_mark b)

-- what stands at the front of a text, by its first byte
abbrev pub piece_of : ℕ → ℕ → List ℕ → Piece
piece_of at b bs =
    if is_blank b then pieces.Blank 1
    else (if b == 35 then pieces.Blank (1 + length (take_while in_comment bs))
    else (if is_letter b then word_piece at (b ∷ take_while in_word bs)
    else (if is_digit b then number_piece at (b ∷ take_while is_digit bs)
    else symbol_piece (pair_at b bs) b)))

unfoldable pub piece_at : ℕ → List ℕ → Option Piece
piece_at at [] = None
piece_at at (b ∷ bs) = Some (piece_of at b bs)

abbrev pub token : Kind → ℕ → Token
token kind at = record { kind = kind; at = at }

-- a piece, and then what stands behind it
abbrev pub piece_then : Piece → ℕ → (ℕ → List Token) → List Token
piece_then (pieces.Blank len) at more = more len
piece_then (pieces.Token kind len) at more = token kind at ∷ more len
piece_then (pieces.Last kind) at more = token kind at ∷ []

-- The tokens of what is left of a text behind its first `at` bytes. The first `skip` bytes of what is left belong to a piece before.
unfoldable pub tokens_of : ℕ → ℕ → List ℕ → List Token
tokens_of skip at [] = token End at ∷ []
tokens_of (suc k) at (b ∷ bs) = tokens_of k (suc at) bs
tokens_of zero at (b ∷ bs) = piece_then (piece_of at b bs) at (λ len. tokens_of (len - 1) (suc at) bs)

-- the tokens of a text
unfoldable pub tokens : List ℕ → List Token
tokens text = tokens_of 0 0 text

-- behind a token of this kind nothing is read
abbrev pub is_last : Kind → Bool
is_last Bad = true
is_last TooLarge = true
is_last End = true
is_last (Name span) = false
is_last (Number n) = false
is_last (Mark mark) = false

-- there is a last token, and no other behind which nothing is read
abbrev pub ends_once : List Token → Bool
ends_once [] = false
ends_once (t ∷ []) = is_last t.kind
ends_once (t ∷ u ∷ more) = not (is_last t.kind) && ends_once (u ∷ more)

-- how many bytes a piece has, unless nothing is read behind it
abbrev pub len_of : Piece → Option ℕ
len_of (pieces.Blank len) = Some len
len_of (pieces.Token kind len) = Some len
len_of (pieces.Last kind) = None

-- the token of a piece, where it has one
abbrev pub piece_tokens : Piece → ℕ → List Token
piece_tokens (pieces.Blank len) at = []
piece_tokens (pieces.Token kind len) at = token kind at ∷ []
piece_tokens (pieces.Last kind) at = token kind at ∷ []

-- a piece has a byte, and no more than most
abbrev pub Fits : Piece → ℕ → Type 0
Fits (pieces.Blank len) most = (0 < len) × (len ≤ most)
Fits (pieces.Token kind len) most = (0 < len) × (len ≤ most)
Fits (pieces.Last kind) most = Unit {0}

-- The tokens of each text end once.
abbrev pub EndsOnce : Type 0
EndsOnce = (text : List ℕ) → IsTrue (ends_once (tokens text))

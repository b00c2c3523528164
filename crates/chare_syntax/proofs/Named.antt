-- Each name of a tree that a text is read as has a byte, and lies in the text.
use Rattle.std.proofs.Common.{◌≡◌, ℕ, zero, suc, ◌+◌, ◌-◌, ◌≤◌, Bool, true, false, cond, List, [], ◌∷◌, length, refl, ap, sym, ◌∙◌, arith, subst, Option, Some, None}
use Rattle.std.specs.Prelude.{IsTrue, ◌==◌, nat_le}
use Rattle.std.specs.List.{list_all, take_while}
use Rattle.std.proofs.lemmas.Bool.{and_parts, and_from, le-leb}
use Rattle.std.proofs.lemmas.List.Folds.{length-prefix_len}
use Rattle.std.proofs.lemmas.List.Sums.{prefix_len-le-length}
use Rattle.job_tree.specs.declared.token.Piece.{Piece}
use Rattle.job_tree.specs.declared.token.Piece.TheVariants as pieces
use Rattle.job_tree.specs.declared.token.Kind.{Kind}
use Rattle.job_tree.specs.declared.token.Kind.TheVariants as kinds
use Rattle.job_tree.specs.declared.token.Mark.{Mark as MarkOf}
use Rattle.job_tree.specs.declared.token.Token.{Token}
use Rattle.job_tree.specs.declared.tree.Job.{Job}
use Rattle.job_tree.specs.Tokens.{greatest, number_from, kind_of_word, word_piece, number_piece, single_piece, symbol_piece, pair_at, bracket_mark, operator_mark, is_blank, is_letter, is_digit, in_word, in_comment, piece_of, piece_then, tokens_of, tokens}
use Rattle.job_tree.specs.Words.{reserved}
use Rattle.job_tree.specs.Word.{Word, Name, Number, Marked, kind_of}
use Rattle.job_tree.specs.Spelling.{job_spelling}
use Rattle.job_tree.specs.Accepted.{Whole, IsJob, span_lies, word_lies, names_lie}
use Rattle.job_tree.specs.Text.{ReadsAs}

-- ---- the tokens of a text

-- a token that is a name lies in a text of n bytes
abbrev kind_lies : ℕ → Kind → Bool
kind_lies n (kinds.Name span) = span_lies n span
kind_lies n _ = true

abbrev tokens_lie : ℕ → List Token → Bool
tokens_lie n ts = list_all (λ (t : Token). kind_lies n t.kind) ts

abbrev Lies : ℕ → Piece → Type 0
Lies n (pieces.Blank len) = Unit {0}
Lies n (pieces.Token kind len) = IsTrue (kind_lies n kind)
Lies n (pieces.Last kind) = IsTrue (kind_lies n kind)

lies_if : (n : ℕ) (t : Bool) (p q : Piece) → Lies n p → Lies n q → Lies n (cond t p q)
lies_if n true p q a b = a
lies_if n false p q a b = b

word_lies_there : (n at : ℕ) (word : List ℕ) (o : Option MarkOf) → 1 ≤ length word → at + length word ≤ n → IsTrue (kind_lies n (kind_of_word at word o))
word_lies_there n at word (Some mark) some within = refl
word_lies_there n at word None some within = and_from (nat_le 1 (length word)) (nat_le (at + length word) n) (le-leb 1 (length word) some) (le-leb (at + length word) n within)

number_lies : (n at : ℕ) (digits : List ℕ) → Lies n (number_piece at digits)
number_lies n at digits =
    lies_if n (nat_le (number_from 0 digits) greatest) (pieces.Token (kinds.Number (record { at = at; value = number_from 0 digits })) (length digits)) (pieces.Last kinds.TooLarge) refl refl

single_lies : (n : ℕ) (a b : Option MarkOf) → Lies n (single_piece a b)
single_lies n (Some a) b = refl
single_lies n None (Some b) = refl
single_lies n None None = refl

symbol_lies : (n : ℕ) (pair : Option MarkOf) (b : ℕ) → Lies n (symbol_piece pair b)
symbol_lies n (Some a) b = refl
symbol_lies n None b = single_lies n (bracket_mark b) (operator_mark b)

-- what passes from the front on is no longer than all
passing_short : (p : ℕ → Bool) (bs : List ℕ) → length (take_while p bs) ≤ length bs
passing_short p bs = omega (arith, length-prefix_len p bs, prefix_len-le-length p bs)

piece_lies : (n at b : ℕ) (bs : List ℕ) → at + suc (length bs) ≤ n → Lies n (piece_of at b bs)
piece_lies n at b bs h =
    let word = word_piece at (b ∷ take_while in_word bs) in
    let number = number_piece at (b ∷ take_while is_digit bs) in
    let symbol = symbol_piece (pair_at b bs) b in
    let within : at + suc (length (take_while in_word bs)) ≤ n = omega (arith, h, passing_short in_word bs) in
    let digit = lies_if n (is_digit b) number symbol (number_lies n at (b ∷ take_while is_digit bs)) (symbol_lies n (pair_at b bs) b) in
    let letter = lies_if n (is_letter b) word (cond (is_digit b) number symbol) (word_lies_there n at (b ∷ take_while in_word bs) (reserved (b ∷ take_while in_word bs)) (omega arith) within) digit in
    let comment = lies_if n (b == 35) (pieces.Blank (1 + length (take_while in_comment bs))) (cond (is_letter b) word (cond (is_digit b) number symbol)) tt letter in
    lies_if n (is_blank b) (pieces.Blank 1) (cond (b == 35) (pieces.Blank (1 + length (take_while in_comment bs))) (cond (is_letter b) word (cond (is_digit b) number symbol))) tt comment

then_lie : (n : ℕ) (p : Piece) (at : ℕ) (more : ℕ → List Token) → Lies n p → ((len : ℕ) → IsTrue (tokens_lie n (more len))) → IsTrue (tokens_lie n (piece_then p at more))
then_lie n (pieces.Blank len) at more here h = h len
then_lie n (pieces.Token kind len) at more here h = and_from (kind_lies n kind) (tokens_lie n (more len)) here (h len)
then_lie n (pieces.Last kind) at more here h = and_from (kind_lies n kind) true here refl

lie : (n skip at : ℕ) (bs : List ℕ) → at + length bs ≤ n → IsTrue (tokens_lie n (tokens_of skip at bs))
unfolding tokens_of
lie n skip at [] h = refl
lie n (suc k) at (b ∷ bs) h = lie n k (suc at) bs (omega (arith, h))
lie n zero at (b ∷ bs) h =
    then_lie n (piece_of at b bs) at (λ len. tokens_of (len - 1) (suc at) bs) (piece_lies n at b bs h) (λ len. lie n (len - 1) (suc at) bs (omega (arith, h)))

text_lies : (text : List ℕ) → IsTrue (tokens_lie (length text) (tokens text))
unfolding tokens
text_lies text = lie (length text) 0 0 text (omega arith)

-- ---- the words of a tree

kind_told : (n : ℕ) (w : Word) → kind_lies n (kind_of w) ≡ word_lies n w
kind_told n (Name span) = refl
kind_told n (Number number) = refl
kind_told n (Marked mark place level) = refl

words_lie : (n last : ℕ) (ws : List Word) (ts : List Token) → Whole last ws ts → IsTrue (tokens_lie n ts) → IsTrue (list_all (word_lies n) ws)
words_lie n last [] ts h lie = refl
words_lie n last (w ∷ ws) [] h lie = absurd h
words_lie n last (w ∷ ws) (t ∷ ts) h lie =
    let v = and_parts (kind_lies n t.kind) (tokens_lie n ts) lie in
    and_from (word_lies n w) (list_all (word_lies n) ws) (sym (ap (kind_lies n) h.0.kind ∙ kind_told n w) ∙ v.0) (words_lie n last ws ts h.2 v.1)

pub tokens_named : (text : List ℕ) (ts : List Token) (j : Job) → ts ≡ tokens text → IsJob ts j → IsTrue (names_lie (length text) j)
unfolding names_lie
tokens_named text ts j e is =
    words_lie (length text) 32 (job_spelling j 0) ts is.spelled (subst (λ (l : List Token). IsTrue (tokens_lie (length text) l)) (sym e) (text_lies text))

-- The names of a tree that a text is read as lie in the text.
pub named : (text : List ℕ) (j : Job) → ReadsAs text j → IsTrue (names_lie (length text) j)
named text j is = tokens_named text (tokens text) j refl is.spells

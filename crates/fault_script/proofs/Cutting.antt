-- Texts cut at a byte: a line, or a word, and then the others.
use Rattle.std.proofs.Common.{◌≡◌, ℕ, suc, ◌+◌, ◌≤◌, Bool, true, false, cond, List, [], ◌∷◌, length, take, drop, refl, ap, sym, ◌∙◌, subst, arith, Option, Some, None}
use Rattle.std.proofs.lemmas.Bool.{eqb-true, ltb-true, ltb-false, ne_eqb}
use Rattle.std.proofs.lemmas.List.Folds.{length-prefix_len}
use Rattle.std.proofs.lemmas.List.Splits.{slice_split-cons_no, slice_split_first, slice_split_none}
use Rattle.std.proofs.lemmas.List.Sums.{fails_before_first}
use Rattle.std.specs.Prelude.{not, nat_lt, ◌==◌}
use Rattle.std.specs.List.{filter, onto_first, position, position_or_len, prefix_len, slice_split, take_while}
use Rattle.std.specs.Option.{option_map, option_map_or}
use Rattle.std.specs.Str.Lines.{lines, lines_of_parts, strip_carriage_return}
use Rattle.fault_script.specs.Text.{before, behind, words}

-- the parts of a text between such bytes
abbrev parts : ℕ → List ℕ → List (List ℕ)
parts byte text = slice_split (λ b. b == byte) text

parts_by : (byte : ℕ) (text : List ℕ) (t : Bool) → nat_lt (position_or_len (λ b. b == byte) text) (length text) ≡ t →
    parts byte text
    ≡ option_map_or (λ at. take at text) (cond t (Some (position_or_len (λ b. b == byte) text)) None) text
    ∷ option_map_or (parts byte) (option_map (λ at. drop (at + 1) text) (cond t (Some (position_or_len (λ b. b == byte) text)) None)) []
parts_by byte text true h = slice_split_first (λ b. b == byte) text 0 (ltb-true _ _ h)
parts_by byte text false h = slice_split_none (λ b. b == byte) text (λ k d below. fails_before_first (λ b. b == byte) text k d (let past : length text ≤ position_or_len (λ b. b == byte) text = ltb-false _ _ h in omega arith))

-- the first part, and then those of what stands behind it
parts_of : (byte : ℕ) (text : List ℕ) → parts byte text ≡ before byte text ∷ option_map_or (parts byte) (behind byte text) []
parts_of byte text = parts_by byte text (nat_lt (position_or_len (λ b. b == byte) text) (length text)) refl

-- ---- lines

first_by : (line rest : List ℕ) (ps : List (List ℕ)) → parts 10 rest ≡ ps → lines_of_parts (line ∷ ps) ≡ strip_carriage_return line ∷ lines_of_parts ps
first_by line rest [] e = let none : [] ≡ before 10 rest ∷ option_map_or (parts 10) (behind 10 rest) [] = sym e ∙ parts_of 10 rest in cc
first_by line rest (y ∷ ys) e = refl

-- a line with its end, and then the others
pub line_next : (text line rest : List ℕ) → line ≡ before 10 text → behind 10 text ≡ Some rest → lines text ≡ strip_carriage_return line ∷ lines rest
line_next text line rest here more =
    ap lines_of_parts (parts_of 10 text ∙ ap (λ o. before 10 text ∷ option_map_or (parts 10) o []) more ∙ ap (λ l. l ∷ parts 10 rest) (sym here))
    ∙ first_by line rest (parts 10 rest) refl

some_by : (text : List ℕ) → (length text == 0) ≡ false → lines_of_parts (text ∷ []) ≡ text ∷ []
some_by text some = ap (λ t. cond t [] (text ∷ [])) some

all_by : (text : List ℕ) (o : Option ℕ) → option_map (λ at. drop (at + 1) text) o ≡ None → option_map_or (λ at. take at text) o text ≡ text
all_by text None e = refl
all_by text (Some at) e = cc

-- the last line has no end
pub line_last : (text line : List ℕ) → line ≡ before 10 text → behind 10 text ≡ None → (length text == 0) ≡ false → lines text ≡ line ∷ lines []
line_last text line here none some =
    let same : before 10 text ≡ text = all_by text (position (λ b. b == 10) text) none in
    ap lines_of_parts (parts_of 10 text ∙ ap (λ o. before 10 text ∷ option_map_or (parts 10) o []) none ∙ ap (λ l. l ∷ []) same)
    ∙ some_by text some ∙ ap (λ l. l ∷ []) (sym (here ∙ same))

-- ---- words

abbrev is_some_word : List ℕ → Bool
is_some_word w = not (length w == 0)

filled : (b : ℕ) (more : List ℕ) → is_some_word (b ∷ more) ≡ true
filled b more = ap not (ne_eqb (suc (length more)) 0 (λ e. omega arith))

begun : (b : ℕ) (l : List (List ℕ)) (first : List ℕ) (more : List (List ℕ)) → onto_first b l ≡ first ∷ more → is_some_word first ≡ true
begun b [] first more e = let same : b ∷ [] ≡ first = cc in subst (λ w. is_some_word w ≡ true) same (filled b [])
begun b (part ∷ ps) first more e = let same : b ∷ part ≡ first = cc in subst (λ w. is_some_word w ≡ true) same (filled b part)

kept : (o : Option (List ℕ)) → filter is_some_word (option_map_or (parts 32) o []) ≡ option_map_or words o []
unfolding words
kept None = refl
kept (Some rest) = refl

-- a text that begins with no space begins with a word
word_first : (b : ℕ) (more : List ℕ) → (b == 32) ≡ false → words (b ∷ more) ≡ before 32 (b ∷ more) ∷ option_map_or words (behind 32 (b ∷ more)) []
unfolding words
word_first b more clear =
    let cut : parts 32 (b ∷ more) ≡ before 32 (b ∷ more) ∷ option_map_or (parts 32) (behind 32 (b ∷ more)) [] = parts_of 32 (b ∷ more) in
    let some : is_some_word (before 32 (b ∷ more)) ≡ true =
    begun b (parts 32 more) (before 32 (b ∷ more)) (option_map_or (parts 32) (behind 32 (b ∷ more)) []) (sym (slice_split-cons_no (λ c. c == 32) b more clear) ∙ cut) in
    ap (filter is_some_word) cut
    ∙ ap (λ t. cond t (before 32 (b ∷ more) ∷ filter is_some_word (option_map_or (parts 32) (behind 32 (b ∷ more)) [])) (filter is_some_word (option_map_or (parts 32) (behind 32 (b ∷ more)) []))) some
    ∙ ap (λ ws. before 32 (b ∷ more) ∷ ws) (kept (behind 32 (b ∷ more)))

abbrev spaces : List ℕ → ℕ
spaces line = prefix_len (λ b. b == 32) line

-- spaces before a word are no part of it
skipped : (line : List ℕ) → words line ≡ words (drop (spaces line) line)
unfolding words
skipped [] = refl
skipped (b ∷ more) = by (b == 32) refl (skipped more)
  where
    by : (t : Bool) → (b == 32) ≡ t → words more ≡ words (drop (spaces more) more) → words (b ∷ more) ≡ words (drop (cond t (1 + spaces more) 0) (b ∷ more))
    by true e rest =
        ap (filter is_some_word) (ap (λ t. cond t ([] ∷ parts 32 more) (onto_first b (parts 32 more))) e) ∙ rest
        ∙ ap (λ n. words (drop n (b ∷ more))) (let n : suc (spaces more) ≡ 1 + spaces more = omega arith in n)
    by false e rest = refl

no_space : (line : List ℕ) (b : ℕ) (more : List ℕ) → drop (spaces line) line ≡ b ∷ more → (b == 32) ≡ false
no_space [] b more e = cc
no_space (c ∷ line) b more e = by (c == 32) refl e (no_space line b more)
  where
    by : (t : Bool) → (c == 32) ≡ t → drop (cond t (1 + spaces line) 0) (c ∷ line) ≡ b ∷ more → (drop (spaces line) line ≡ b ∷ more → (b == 32) ≡ false) → (b == 32) ≡ false
    by true is f rest = rest (ap (λ n. drop n (c ∷ line)) (let n : suc (spaces line) ≡ 1 + spaces line = omega arith in n) ∙ f)
    by false is f rest = let same : c ≡ b = cc in subst (λ x. (x == 32) ≡ false) same is

pub no_words : words [] ≡ []
unfolding words
no_words = refl

none_of : (line text : List ℕ) → text ≡ drop (spaces line) line → text ≡ [] → words line ≡ []
none_of line text is e = skipped line ∙ ap words (sym is ∙ e) ∙ no_words

first_of_text : (line text : List ℕ) → text ≡ drop (spaces line) line → (length text == 0) ≡ false → words text ≡ before 32 text ∷ option_map_or words (behind 32 text) []
first_of_text line [] is some = cc
first_of_text line (b ∷ more) is some = word_first b more (no_space line b more (sym is))

module _ (line text : List ℕ) (n : ℕ) (counted : n ≡ length (take_while (λ b. b == 32) line)) (is : text ≡ drop n line) where
  dropped : text ≡ drop (spaces line) line
  dropped = is ∙ ap (λ k. drop k line) (counted ∙ length-prefix_len (λ b. b == 32) line)

  pub no_word : (length text == 0) ≡ true → words line ≡ []
  no_word none = none_of line text dropped (empty text none)
    where
      empty : (t : List ℕ) → (length t == 0) ≡ true → t ≡ []
      empty [] e = refl
      empty (b ∷ more) e = absurd (let n : suc (length more) ≡ 0 = eqb-true _ _ e in omega arith)

  pub word_next : (word : List ℕ) (rest : Option (List ℕ)) → (length text == 0) ≡ false → word ≡ before 32 text → rest ≡ behind 32 text → words line ≡ word ∷ option_map_or words rest []
  word_next word rest some here more =
      skipped line ∙ ap words (sym dropped) ∙ first_of_text line text dropped some ∙ ap (λ w. w ∷ option_map_or words (behind 32 text) []) (sym here)
      ∙ ap (λ o. word ∷ option_map_or words o []) (sym more)

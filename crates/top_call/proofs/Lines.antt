-- The line `faults` of a text, by its first line and the others.
use Rattle.std.proofs.Common.{◌≡◌, ℕ, ◌+◌, ◌<◌, ◌≤◌, Bool, true, false, cond, List, [], ◌∷◌, length, take, drop, refl, ap, sym, ◌∙◌, subst, codes, arith, Option, Some, None}
use Rattle.std.proofs.lemmas.Bool.{ltb-true, ltb-false}
use Rattle.std.proofs.lemmas.List.{length-take-le}
use Rattle.std.proofs.lemmas.List.Splits.{slice_split_first, slice_split_none}
use Rattle.std.proofs.lemmas.List.Sums.{fails_before_first}
use Rattle.std.proofs.lemmas.Slice.Eq.{bytes_eq-Decides}
use Rattle.std.specs.Prelude.{nat_lt, ◌==◌}
use Rattle.std.specs.List.{position, position_or_len}
use Rattle.std.specs.Option.{option_map}
use Rattle.std.specs.Str.{bytes_eq}
use Rattle.top_call.specs.Split.{faults_among, faults_at, lines_of}

abbrev ends : ℕ → Bool
ends b = b == 10

-- ---- lines

first_by : (text : List ℕ) (end : ℕ) (t : Bool) → nat_lt (position_or_len ends text) (length text) ≡ t → cond t (Some (position_or_len ends text)) None ≡ Some end →
    lines_of text ≡ take end text ∷ lines_of (drop (end + 1) text)
first_by text end true h is =
    let same : position_or_len ends text ≡ end = cc in
    subst (λ n. lines_of text ≡ take n text ∷ lines_of (drop (n + 1) text)) same (slice_split_first ends text 0 (ltb-true _ _ h))
first_by text end false h is = cc

-- a line with its LF, and then the others
line_first : (text : List ℕ) (end : ℕ) → Some end ≡ position ends text → lines_of text ≡ take end text ∷ lines_of (drop (end + 1) text)
line_first text end is = first_by text end (nat_lt (position_or_len ends text) (length text)) refl (sym is)

last_by : (text : List ℕ) (t : Bool) → nat_lt (position_or_len ends text) (length text) ≡ t → cond t (Some (position_or_len ends text)) None ≡ None → lines_of text ≡ text ∷ []
last_by text true h is = cc
last_by text false h is = slice_split_none ends text (λ k d below. fails_before_first ends text k d (let past : length text ≤ position_or_len ends text = ltb-false _ _ h in omega arith))

-- the last line
line_last : (text : List ℕ) → None ≡ position ends text → lines_of text ≡ text ∷ []
line_last text is = last_by text (nat_lt (position_or_len ends text) (length text)) refl (sym is)

-- ---- the line `faults`

-- what is found, this many bytes further on
abbrev pub on : ℕ → Option ℕ → Option ℕ
on at there = option_map (λ k. at + k) there

twice : (a b : ℕ) (there : Option ℕ) → on a (on b there) ≡ on (a + b) there
twice a b None = refl
twice a b (Some k) = ap Some (omega arith)

pub opening : (input : List ℕ) → faults_at input ≡ on 0 (faults_at input)
opening input = by (faults_at input)
  where
    by : (there : Option ℕ) → there ≡ on 0 there
    by None = refl
    by (Some k) = ap Some (omega arith)

among_by : (line : List ℕ) (more : List (List ℕ)) (t : Bool) → bytes_eq line (codes "faults") ≡ t → faults_among (line ∷ more) ≡ cond t (Some 0) (on (length line + 1) (faults_among more))
among_by line more t is = ap (λ b. cond b (Some 0) (on (length line + 1) (faults_among more))) is

-- a line with its LF
first_at : (rest : List ℕ) (end : ℕ) (t : Bool) → Some end ≡ position ends rest → bytes_eq (take end rest) (codes "faults") ≡ t →
    faults_at rest ≡ cond t (Some 0) (on (length (take end rest) + 1) (faults_at (drop (end + 1) rest)))
unfolding faults_at
first_at rest end t is line = ap faults_among (line_first rest end is) ∙ among_by (take end rest) (lines_of (drop (end + 1) rest)) t line

-- the last line
last_at : (rest : List ℕ) (t : Bool) → None ≡ position ends rest → bytes_eq rest (codes "faults") ≡ t → faults_at rest ≡ cond t (Some 0) None
unfolding faults_at
last_at rest t is line = ap faults_among (line_last rest is) ∙ among_by rest [] t line

module _ (input rest : List ℕ) (at : ℕ) (so_far : faults_at input ≡ on at (faults_at rest)) where
  some_at : faults_at rest ≡ Some 0 → Some at ≡ faults_at input
  some_at is = let none : at + 0 ≡ at = omega arith in sym (so_far ∙ ap (on at) is ∙ ap Some none)

  pub found : (end : ℕ) → Some end ≡ position ends rest → bytes_eq (take end rest) (codes "faults") ≡ true → Some at ≡ faults_at input
  found end is line = some_at (first_at rest end true is line)

  pub passed : (more : List ℕ) (end : ℕ) → Some end ≡ position ends rest → end < length rest → more ≡ drop (end + 1) rest → bytes_eq (take end rest) (codes "faults") ≡ false → faults_at input ≡ on (at + (end + 1)) (faults_at more)
  passed more end is within behind line =
      so_far ∙ ap (on at) (first_at rest end false is line)
      ∙ ap (λ n. on at (on (n + 1) (faults_at (drop (end + 1) rest)))) (length-take-le end rest (omega (arith, within)))
      ∙ twice at (end + 1) (faults_at (drop (end + 1) rest))
      ∙ ap (λ t. on (at + (end + 1)) (faults_at t)) (sym behind)

  pub found_last : None ≡ position ends rest → bytes_eq rest (codes "faults") ≡ true → Some at ≡ faults_at input
  found_last is line = some_at (last_at rest true is line)

  pub none_last : None ≡ position ends rest → bytes_eq rest (codes "faults") ≡ false → None ≡ faults_at input
  none_last is line = sym (so_far ∙ ap (on at) (last_at rest false is line))

-- a line that is `faults` has six bytes
pub six : (line : List ℕ) → bytes_eq line (codes "faults") ≡ true → length line ≡ 6
six line is = ap length ((bytes_eq-Decides line (codes "faults")).0 is)

pub six_first : (rest : List ℕ) (end : ℕ) → end < length rest → bytes_eq (take end rest) (codes "faults") ≡ true → end ≡ 6
six_first rest end within is = sym (length-take-le end rest (omega (arith, within))) ∙ six (take end rest) is

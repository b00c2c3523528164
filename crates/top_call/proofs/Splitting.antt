-- The two texts of an input, by its lines.
use Rattle.std.proofs.Common.{◌≡◌, ℕ, suc, ◌+◌, Bool, true, false, cond, List, [], ◌∷◌, ◌++◌, ◌||◌, length, take, drop, refl, ap, sym, ◌∙◌, codes, arith, length-append, Some, None}
use Rattle.std.proofs.Math.Seq.{drop-append-add, take-append_seam}
use Rattle.std.proofs.lemmas.List.{append_assoc}
use Rattle.std.proofs.lemmas.List.Splits.{join_with_byte-slice_split}
use Rattle.std.specs.List.{join_with_byte, list_any}
use Rattle.std.specs.Option.{option_map, option_map_or}
use Rattle.top_call.specs.Laws.{SplitByLines, WholeWithout, ended}
use Rattle.top_call.specs.Split.{faults_among, faults_at, is_faults, job_text, lines_of, script_text}

first_is : (line : List ℕ) (more : List (List ℕ)) (t : Bool) → is_faults line ≡ t → (t || list_any is_faults more) ≡ false → (is_faults line ≡ false) × (list_any is_faults more ≡ false)
first_is line more true is none = cc
first_is line more false is none = (is, none)

among_next : (line : List ℕ) (more : List (List ℕ)) → is_faults line ≡ false → faults_among (line ∷ more) ≡ option_map (λ at. length line + 1 + at) (faults_among more)
among_next line more is = ap (λ b. cond b (Some 0) (option_map (λ at. length line + 1 + at) (faults_among more))) is

abbrev mark : List ℕ
mark = codes "faults"

place : (before after : List (List ℕ)) → list_any is_faults before ≡ false → faults_among (before ++ (mark ∷ after)) ≡ Some (length (ended before))
place [] after none = refl
place (line ∷ more) after none =
    let h : (is_faults line ≡ false) × (list_any is_faults more ≡ false) = first_is line more (is_faults line) refl none in
    among_next line (more ++ (mark ∷ after)) h.0 ∙ ap (option_map (λ at. length line + 1 + at)) (place more after h.1)
    ∙ ap Some (let e : length (line ++ (10 ∷ ended more)) ≡ length line + suc (length (ended more)) = length-append line (10 ∷ ended more) in omega (arith, e))

joined : (before after : List (List ℕ)) → join_with_byte 10 (before ++ (mark ∷ after)) ≡ ended before ++ join_with_byte 10 (mark ∷ after)
joined [] after = refl
joined (line ∷ []) after = sym (append_assoc line (10 ∷ []) (join_with_byte 10 (mark ∷ after)))
joined (line ∷ (next ∷ more)) after =
    ap (λ l. line ++ (10 ∷ l)) (joined (next ∷ more) after)
    ∙ sym (append_assoc line (10 ∷ ended (next ∷ more)) (join_with_byte 10 (mark ∷ after)))

-- what stands behind the line and its LF
behind_mark : (after : List (List ℕ)) → drop 7 (join_with_byte 10 (mark ∷ after)) ≡ join_with_byte 10 after
behind_mark [] = refl
behind_mark (line ∷ more) = refl

whole : (input : List ℕ) (before after : List (List ℕ)) → lines_of input ≡ before ++ (mark ∷ after) → input ≡ ended before ++ join_with_byte 10 (mark ∷ after)
whole input before after is = sym (join_with_byte-slice_split 10 input) ∙ ap (join_with_byte 10) is ∙ joined before after

pub split_by_lines : SplitByLines
unfolding faults_at
split_by_lines input before after is none = (job, script)
  where
    at : faults_among (lines_of input) ≡ Some (length (ended before))
    at = ap faults_among is ∙ place before after none

    all : input ≡ ended before ++ join_with_byte 10 (mark ∷ after)
    all = whole input before after is

    job : job_text input ≡ ended before
    job = ap (λ o. option_map_or (λ at. take at input) o input) at ∙ ap (take (length (ended before))) all ∙ take-append_seam (ended before) (join_with_byte 10 (mark ∷ after))

    script : script_text input ≡ join_with_byte 10 after
    script =
        ap (λ o. option_map_or (λ at. drop (at + 7) input) o []) at ∙ ap (drop (length (ended before) + 7)) all
        ∙ drop-append-add (ended before) (join_with_byte 10 (mark ∷ after)) 7 ∙ behind_mark after

nowhere : (lines : List (List ℕ)) → list_any is_faults lines ≡ false → faults_among lines ≡ None
nowhere [] none = refl
nowhere (line ∷ more) none =
    let h : (is_faults line ≡ false) × (list_any is_faults more ≡ false) = first_is line more (is_faults line) refl none in
    among_next line more h.0 ∙ ap (option_map (λ at. length line + 1 + at)) (nowhere more h.1)

pub whole_without : WholeWithout
unfolding faults_at
whole_without input none =
    (ap (λ o. option_map_or (λ at. take at input) o input) (nowhere (lines_of input) none), ap (λ o. option_map_or (λ at. drop (at + 7) input) o []) (nowhere (lines_of input) none))

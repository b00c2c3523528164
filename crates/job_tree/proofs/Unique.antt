-- A text has one fault: tokens have one first token with which no job goes on, and that token has one cause.
use Rattle.std.proofs.Common.{◌≡◌, ℕ, ◌≤◌, ◌<◌, ◌⊎◌, inl, inr, List, [], ◌∷◌, ◌++◌, length, append_assoc, refl, ap, sym, ◌∙◌, arith, subst}
use Rattle.job_tree.specs.declared.fault.ParseFault.{ParseFault}
use Rattle.job_tree.specs.declared.fault.ParseFault.TheVariants as faults
use Rattle.job_tree.specs.declared.token.Kind.{Kind}
use Rattle.job_tree.specs.declared.token.Kind.TheVariants as kinds
use Rattle.job_tree.specs.declared.token.Token.{Token}
use Rattle.job_tree.specs.Accepted.{Begins, Faulty, FirstAt, Front, Never, Plain}
use Rattle.job_tree.specs.Fault.{kind_fault}
use Rattle.job_tree.specs.Spelling.{job_spelling}
use Rattle.job_tree.specs.Text.{OneFault, TextFault}
use Rattle.job_tree.specs.Tokens.{tokens}
use Rattle.job_tree.specs.Word.{Word}

-- ---- fronts of fronts

empty_front : (ts more : List Token) → ts ++ more ≡ [] → ts ≡ []
empty_front [] more h = refl
empty_front (t ∷ ts) more h = absurd cc

shorter_front : (last : ℕ) (ws : List Word) (ts more : List Token) → Front last ws (ts ++ more) → Front last ws ts
shorter_front last ws [] more h = tt
shorter_front last [] (t ∷ ts) more h = (h.0, empty_front ts more h.1)
shorter_front last (w ∷ ws) (t ∷ ts) more h = (h.0, h.1, shorter_front last ws ts more h.2)

-- what begins a job begins one where it goes on
begins_before : (last : ℕ) (seen : List Token) (t : Token) (more : List Token) → Begins last (seen ++ t ∷ more) → Begins last (seen ++ t ∷ [])
begins_before last seen t more b =
    let words = job_spelling b.0 0 in
    (b.0, b.1, shorter_front last words (seen ++ t ∷ []) more (subst (λ l. Front last words l) (sym (append_assoc seen (t ∷ []) more)) b.2))

-- ---- the first token

-- two places in one list: the same one, or one behind the other
abbrev Apart : List Token → List Token → Token → Type 0
Apart xs ys x = (more : List Token) × (ys ≡ xs ++ x ∷ more)

abbrev Places : List Token → List Token → Token → Token → Type 0
Places xs ys x y = ((xs ≡ ys) × (x ≡ y)) ⊎ (Apart xs ys x ⊎ Apart ys xs y)

places : (xs ys : List Token) (x y : Token) (p q : List Token) → xs ++ x ∷ p ≡ ys ++ y ∷ q → Places xs ys x y
places [] [] x y p q e = inl (let same : x ≡ y = cc in (refl, same))
places [] (z ∷ ys) x y p q e = inr (inl (let same : z ≡ x = cc in (ys, ap (λ t. t ∷ ys) same)))
places (z ∷ xs) [] x y p q e = inr (inr (let same : z ≡ y = cc in (xs, ap (λ t. t ∷ xs) same)))
places (z ∷ xs) (w ∷ ys) x y p q e =
    let head : z ≡ w = cc in
    let tail : xs ++ x ∷ p ≡ ys ++ y ∷ q = cc in
    elim (places xs ys x y p q tail) [
      | inl s ↦ inl (ap (λ l. z ∷ l) s.0 ∙ ap (λ t. t ∷ ys) head, s.1)
      | inr a ↦ elim a [
        | inl s ↦ inr (inl (s.0, ap (λ t. t ∷ ys) (sym head) ∙ ap (λ l. z ∷ l) s.1))
        | inr s ↦ inr (inr (s.0, ap (λ t. t ∷ xs) head ∙ ap (λ l. w ∷ l) s.1))
      ]
    ]

module _ (ts : List Token) where
  first_same : (at bt : ℕ) (P Q : List Token → Token → Type 0) (a : FirstAt ts at P) (b : FirstAt ts bt Q) → (a.seen ≡ b.seen) × (a.token ≡ b.token)
  first_same at bt P Q a b = elim (places a.seen b.seen a.token b.token a.left b.left (sym a.parts ∙ b.parts)) [
    | inl same ↦ same
    | inr apart ↦ elim apart [
      | inl s ↦ absurd (a.ends (begins_before 32 a.seen a.token s.0 (subst (λ l. Begins 32 l) s.1 b.begins)))
      | inr s ↦ absurd (b.ends (begins_before 32 b.seen b.token s.0 (subst (λ l. Begins 32 l) s.1 a.begins)))
    ]
  ]

  -- ---- the cause

  -- what the first token says of a fault: no job goes on with it, or one does at more levels
  abbrev Why : ParseFault → List Token → Token → Type 0
  Why f seen t = (Never seen t × (f ≡ kind_fault t.kind t.at)) ⊎ (((last : ℕ) × Begins last (seen ++ t ∷ [])) × (f ≡ faults.TooDeep t.at))

  abbrev Caused : ParseFault → Type 0
  Caused f = (at : ℕ) × FirstAt ts at (Why f)

  caused : (f : ParseFault) (at : ℕ) (P : List Token → Token → Type 0) → ((seen : List Token) (t : Token) → t.at ≡ at → P seen t → Why f seen t) → FirstAt ts at P → Caused f
  caused f at P why a = (at, record { seen = a.seen; token = a.token; left = a.left; parts = a.parts; placed = a.placed; begins = a.begins; ends = a.ends; told = why a.seen a.token a.placed a.told })

  of_kind : (k : Kind) (t : Token) (at : ℕ) → t.at ≡ at → t.kind ≡ k → kind_fault k at ≡ kind_fault t.kind t.at
  of_kind k t at placed is = sym (ap (λ x. kind_fault x t.at) is ∙ ap (λ n. kind_fault k n) placed)

  plain_fault : (k : Kind) (at : ℕ) → Plain k → faults.Unexpected at ≡ kind_fault k at
  plain_fault (kinds.Name s) at h = refl
  plain_fault (kinds.Number n) at h = refl
  plain_fault (kinds.Mark m) at h = refl
  plain_fault kinds.Bad at h = absurd h
  plain_fault kinds.TooLarge at h = absurd h
  plain_fault kinds.End at h = refl

  cause_of : (f : ParseFault) → (f ≡ faults.Memory → ⊥) → Faulty ts f → Caused f
  cause_of faults.Memory real h = absurd (real refl)
  cause_of (faults.TooLong at) real h = absurd h
  cause_of (faults.NotToken at) real h = caused (faults.NotToken at) at (λ seen token. (token.kind ≡ kinds.Bad) × Never seen token) (λ seen t placed told. inl (told.1, of_kind kinds.Bad t at placed told.0)) h
  cause_of (faults.NumberTooLarge at) real h =
      caused (faults.NumberTooLarge at) at (λ seen token. (token.kind ≡ kinds.TooLarge) × Never seen token) (λ seen t placed told. inl (told.1, of_kind kinds.TooLarge t at placed told.0)) h
  cause_of (faults.Unexpected at) real h =
      caused (faults.Unexpected at) at (λ seen token. Plain token.kind × Never seen token)
      (λ seen t placed told. inl (told.1, plain_fault t.kind at told.0 ∙ ap (λ n. kind_fault t.kind n) (sym placed))) h
  cause_of (faults.TooDeep at) real h =
      caused (faults.TooDeep at) at (λ seen token. (last : ℕ) × Begins last (seen ++ token ∷ [])) (λ seen t placed told. inr (told, ap (λ n. faults.TooDeep n) (sym placed))) h

  why_same : (f g : ParseFault) (seen : List Token) (t : Token) → Why f seen t → Why g seen t → f ≡ g
  why_same f g seen t (inl a) (inl b) = a.1 ∙ sym b.1
  why_same f g seen t (inl a) (inr b) = absurd (a.0 b.0.0 b.0.1)
  why_same f g seen t (inr a) (inl b) = absurd (b.0 a.0.0 a.0.1)
  why_same f g seen t (inr a) (inr b) = a.1 ∙ sym b.1

  cause_same : (f g : ParseFault) → Caused f → Caused g → f ≡ g
  cause_same f g a b =
      let same = first_same a.0 b.0 (Why f) (Why g) a.1 b.1 in
      why_same f g b.1.seen b.1.token (subst (λ t. Why f b.1.seen t) same.1 (subst (λ l. Why f l a.1.token) same.0 a.1.told)) b.1.told

-- ---- texts

-- a text is too long, or its tokens have the fault
abbrev Cause : List ℕ → ParseFault → Type 0
Cause text f = ((f ≡ faults.TooLong 65536) × (65536 < length text)) ⊎ ((length text ≤ 65536) × Caused (tokens text) f)

text_cause : (text : List ℕ) (f : ParseFault) → (f ≡ faults.Memory → ⊥) → TextFault text f → Cause text f
text_cause text faults.Memory real h = absurd (real refl)
text_cause text (faults.TooLong at) real h = inl (ap (λ n. faults.TooLong n) h.0, h.1)
text_cause text (faults.NotToken at) real h = inr (h.0, cause_of (tokens text) (faults.NotToken at) real h.1)
text_cause text (faults.NumberTooLarge at) real h = inr (h.0, cause_of (tokens text) (faults.NumberTooLarge at) real h.1)
text_cause text (faults.Unexpected at) real h = inr (h.0, cause_of (tokens text) (faults.Unexpected at) real h.1)
text_cause text (faults.TooDeep at) real h = inr (h.0, cause_of (tokens text) (faults.TooDeep at) real h.1)

text_same : (text : List ℕ) (f g : ParseFault) → Cause text f → Cause text g → f ≡ g
text_same text f g (inl a) (inl b) = a.0 ∙ sym b.0
text_same text f g (inl a) (inr b) = absurd (let no : ⊥ = omega (arith, a.1, b.0) in no)
text_same text f g (inr a) (inl b) = absurd (let no : ⊥ = omega (arith, a.0, b.1) in no)
text_same text f g (inr a) (inr b) = cause_same (tokens text) f g a.1 b.1

pub one_fault : OneFault
one_fault text f g f_real g_real a b = text_same text f g (text_cause text f f_real a) (text_cause text g g_real b)

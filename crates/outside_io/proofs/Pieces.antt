-- Pieces that are moved one after another.
use Rattle.std.proofs.Common.{◌≡◌, ℕ, ◌+◌, ◌<◌, ◌≤◌, List, [], ◌∷◌, ◌++◌, Option, Result, Ok, Err, length, take, drop, refl, ap, sym, ◌∙◌, subst, append_assoc, length-append, arith}
use Rattle.std.proofs.lemmas.List.{take-append-drop}
use Rattle.std.proofs.KnownBytes.{Consumes-trans, Appends-trans, Appends-kept}
use Rattle.std.specs.Io.KnownBytes.{Keeps, Consumes, Appends}
use Rattle.std.specs.Prelude.{OnErr}
use Rattle.outside_io.specs.Parts.{ConsumesPart, AppendsPart}

-- what is left of a text, and what was given of it
abbrev pub Gave : Option (List ℕ) → Option (List ℕ) → List ℕ → List ℕ → Type 0
Gave old new text rest = (front : List ℕ) × (text ≡ front ++ rest) × Appends old new front

pub gave_more : (a b c : Option (List ℕ)) (text rest rest' : List ℕ) (n : ℕ) → Gave a b text rest → Appends b c (take n rest) → rest' ≡ drop n rest → Gave a c text rest'
gave_more a b c text rest rest' n h p e = (
  h.0 ++ take n rest,
  h.1 ∙ ap (λ r. h.0 ++ r) (sym (take-append-drop n rest)) ∙ sym (append_assoc h.0 (take n rest) (drop n rest)) ∙ ap (λ r. (h.0 ++ take n rest) ++ r) (sym e),
  Appends-trans a b c h.0 (take n rest) h.2 p,
)

front_of : (front rest : List ℕ) → take (length front) (front ++ rest) ≡ front
front_of [] rest = refl
front_of (x ∷ front) rest = ap (λ r. x ∷ r) (front_of front rest)

pub gave_part : (a b c : Option (List ℕ)) (text rest : List ℕ) → 0 < length rest → Gave a b text rest → Keeps b c → AppendsPart a c text
gave_part a b c text rest some h keeps = (
  length h.0,
  omega (arith, ap length h.1, length-append h.0 rest),
  subst (λ r. Appends a c r) (sym (ap (take (length h.0)) h.1 ∙ front_of h.0 rest)) (Appends-kept a b c h.0 h.2 keeps),
)

pub took_part : (a b c : Option (List ℕ)) (all : List ℕ) (limit most : ℕ) → length all + most ≤ limit → Consumes a b all → ConsumesPart b c most → ConsumesPart a c limit
took_part a b c all limit most h p q = (all ++ q.0, omega (arith, length-append all q.0, q.1), Consumes-trans a b c all q.0 p q.2)

pub at_err : {T E : Type 0} (r : Result T E) (P : Type 0) → P → OnErr r P
at_err (Ok x) P p = tt
at_err (Err e) P p = p

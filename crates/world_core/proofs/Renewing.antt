-- Slots that are renewed one after another.
use Rattle.std.proofs.Common.{◌≡◌, ℕ, zero, suc, ◌<◌, ◌≤◌, ◌+◌, List, [], ◌∷◌, length, map, get_or, refl, ap, sym, ◌∙◌, subst, arith, Option, Some, None}
use Rattle.std.specs.Prelude.{slice_set}
use Rattle.std.specs.List.{AllByRecursion}
use Rattle.chare_base.specs.declared.plan.Plan.{Plan}
use Rattle.iteration_agree.specs.Cuts.{CutState, agreed, agreed_on, agreement, opened, quieted}
use Rattle.iteration_agree.specs.declared.round.Taking.{Taking}
use Rattle.world_core.specs.Steps.{Renews}
use Rattle.world_core.specs.Worlds.{SlotState}

-- the first i of a list are what a function makes of them
abbrev pub renewed_to : {A : Type 0} → (A → A) → ℕ → List A → List A
renewed_to f zero xs = xs
renewed_to f (suc i) [] = []
renewed_to f (suc i) (x ∷ xs) = f x ∷ renewed_to f i xs

pub next_is : {A : Type 0} (f : A → A) (i j : ℕ) (xs now after : List A) (x y : A) → j ≡ i + 1 → i < length xs → now ≡ renewed_to f i xs → x ≡ get_or now i x → y ≡ f x → after ≡ slice_set now i y → after ≡ renewed_to f j xs
next_is f i j xs now after x y one within so_far read made set =
    let up : j ≡ suc i = omega (arith, one) in
    set ∙ ap (slice_set now i) made ∙ ap (λ zs. slice_set zs i (f x)) so_far ∙ by i xs x within (read ∙ ap (λ zs. get_or zs i x) so_far) ∙ ap (λ k. renewed_to f k xs) (sym up)
  where
    by : (i : ℕ) (xs : List _) (x : _) → i < length xs → x ≡ get_or (renewed_to f i xs) i x → slice_set (renewed_to f i xs) i (f x) ≡ renewed_to f (suc i) xs
    by i [] x within read = absurd (omega (arith, within))
    by zero (z ∷ xs) x within read = ap (λ w. f w ∷ xs) read
    by (suc i) (z ∷ xs) x within read = ap (λ zs. f z ∷ zs) (by i xs x (omega (arith, within)) read)

-- what holds of all holds of the one that comes next
pub next_has : {A : Type 0} (P : A → Type 0) (f : A → A) (i : ℕ) (xs now : List A) (x : A) → AllByRecursion P xs → i < length xs → now ≡ renewed_to f i xs → x ≡ get_or now i x → P x
next_has P f i xs now x all within so_far read = by i xs all within (read ∙ ap (λ zs. get_or zs i x) so_far)
  where
    by : (i : ℕ) (xs : List _) → AllByRecursion P xs → i < length xs → x ≡ get_or (renewed_to f i xs) i x → P x
    by i [] all within read = absurd (omega (arith, within))
    by zero (z ∷ xs) all within read = subst P (sym read) all.0
    by (suc i) (z ∷ xs) all within read = by i xs all.1 (omega (arith, within)) read

pub to_the_end : {A : Type 0} (f : A → A) (i : ℕ) (xs now : List A) → length xs ≤ i → now ≡ renewed_to f i xs → now ≡ map f xs
to_the_end f i xs now end so_far = so_far ∙ by i xs end
  where
    by : (i : ℕ) (xs : List _) → length xs ≤ i → renewed_to f i xs ≡ map f xs
    by zero [] end = refl
    by zero (x ∷ xs) end = absurd (omega (arith, end))
    by (suc i) [] end = refl
    by (suc i) (x ∷ xs) end = ap (λ zs. f x ∷ zs) (by i xs (omega (arith, end)))

pub keeps_length : {A : Type 0} (f : A → A) (i : ℕ) (xs now : List A) → now ≡ renewed_to f i xs → length now ≡ length xs
keeps_length f i xs now so_far = ap length so_far ∙ by i xs
  where
    by : (i : ℕ) (xs : List _) → length (renewed_to f i xs) ≡ length xs
    by zero xs = refl
    by (suc i) [] = refl
    by (suc i) (x ∷ xs) = ap suc (by i xs)

-- ---- moves of the round leave each slot its place

renew_in : (p : Plan) (c new : CutState) (slots : List SlotState) → new.nodes ≡ c.nodes → AllByRecursion (Renews p c) slots → AllByRecursion (Renews p new) slots
renew_in p c new [] same all = tt
renew_in p c new (x ∷ slots) same all =
    (record { fits = all.0.fits; roster = all.0.roster; slot = (all.0.slot.0, subst (λ n. x.node.slot.node < n) (sym same) all.0.slot.1) }, renew_in p c new slots same all.1)

nodes_opened : (floor : ℕ) (c : CutState) → (opened floor c).nodes ≡ c.nodes
unfolding opened
nodes_opened floor c = refl

nodes_agreed : (taking : Taking) (c : CutState) → (agreed taking c).nodes ≡ c.nodes
unfolding agreed
nodes_agreed taking c = by (agreement taking c)
  where
    by : (k : Option ℕ) → (agreed_on taking c k).nodes ≡ c.nodes
    by None = refl
    by (Some k) = refl

nodes_quieted : (c : CutState) → (quieted c).nodes ≡ c.nodes
unfolding quieted
nodes_quieted c = refl

pub renew_opened : (p : Plan) (c new : CutState) (floor : ℕ) (slots : List SlotState) → new ≡ opened floor c → AllByRecursion (Renews p c) slots → AllByRecursion (Renews p new) slots
renew_opened p c new floor slots is all = renew_in p c new slots (ap (λ (x : CutState). x.nodes) is ∙ nodes_opened floor c) all

pub renew_agreed : (p : Plan) (c new : CutState) (taking : Taking) (slots : List SlotState) → new ≡ agreed taking c → AllByRecursion (Renews p c) slots → AllByRecursion (Renews p new) slots
renew_agreed p c new taking slots is all = renew_in p c new slots (ap (λ (x : CutState). x.nodes) is ∙ nodes_agreed taking c) all

pub renew_quieted : (p : Plan) (c new : CutState) (slots : List SlotState) → new ≡ quieted c → AllByRecursion (Renews p c) slots → AllByRecursion (Renews p new) slots
renew_quieted p c new slots is all = renew_in p c new slots (ap (λ (x : CutState). x.nodes) is ∙ nodes_quieted c) all

-- Letters to all slots, and which of them come to one slot.
use Rattle.std.proofs.Common.{◌≡◌, ◌≢◌, ℕ, zero, suc, ◌<◌, ◌≤◌, Bool, true, false, cond, List, [], ◌∷◌, ◌++◌, refl, ap, sym, ◌∙◌, arith}
use Rattle.std.specs.Prelude.{◌==◌, ◌&&◌}
use Rattle.std.specs.List.{AllByRecursion}
use Rattle.std.proofs.lemmas.Bool.{eqb-true}
use Rattle.std.proofs.lemmas.Bool.Decides.{Decides-eqb}
use Rattle.chare_base.specs.declared.plan.Plan.{Plan}
use Rattle.chare_base.specs.declared.slots.SlotId.{SlotId}
use Rattle.fault_script.specs.declared.fault.Fault.{Fault}
use Rattle.letter_post.specs.declared.letter.BoxId.TheVariants as boxes
use Rattle.letter_post.specs.declared.letter.Letter.{Letter}
use Rattle.letter_post.specs.declared.letter.Letter.TheVariants as letters
use Rattle.letter_post.specs.declared.letter.Sent.{Sent}
use Rattle.letter_post.specs.declared.stamp.Stamp.{Stamp}
use Rattle.letter_post.specs.Truth.{Holds, Says}
use Rattle.conductor_core.specs.Moves.{slot_named}
use Rattle.conductor_core.specs.Orders.{letters_to, ordered}
use Rattle.conductor_core.specs.Tells.{is_to, mail_to}

-- ---- tests

pub is_same : (j : ℕ) → (j == j) ≡ true
is_same j = (Decides-eqb j j).1 refl

pub is_other : (i j : ℕ) → i ≢ j → (i == j) ≡ false
is_other i j apart = by (i == j) refl
  where
    by : (b : Bool) → (i == j) ≡ b → (i == j) ≡ false
    by true h = absurd (apart (eqb-true i j h))
    by false h = h

-- ---- mail

pub mail_both : (slot : SlotId) (xs ys : List Sent) → mail_to slot (xs ++ ys) ≡ mail_to slot xs ++ mail_to slot ys
mail_both slot [] ys = refl
mail_both slot (x ∷ xs) ys = by (is_to slot x.to) (mail_both slot xs ys)
  where
    by : (b : Bool) → mail_to slot (xs ++ ys) ≡ mail_to slot xs ++ mail_to slot ys →
        cond b (x.letter ∷ mail_to slot (xs ++ ys)) (mail_to slot (xs ++ ys)) ≡ cond b (x.letter ∷ mail_to slot xs) (mail_to slot xs) ++ mail_to slot ys
    by true is = ap (λ l. x.letter ∷ l) is
    by false is = is

-- one letter, to a slot by its name
one_mail : (r j q i : ℕ) (letter : Letter) (b : Bool) → ((q == r) && (i == j)) ≡ b → mail_to (slot_named r j) (record { to = boxes.Slot (slot_named q i); letter = letter } ∷ []) ≡ cond b (letter ∷ []) []
one_mail r j q i letter b is = ap (λ t. cond t (letter ∷ []) []) is

pub other_mail : (r q j n : ℕ) (letter : Letter) → (q == r) ≡ false → mail_to (slot_named r j) (letters_to q letter n) ≡ []
other_mail r q j zero letter apart = refl
other_mail r q j (suc i) letter apart =
    mail_both (slot_named r j) (letters_to q letter i) (record { to = boxes.Slot (slot_named q i); letter = letter } ∷ [])
    ∙ ap (λ l. l ++ mail_to (slot_named r j) (record { to = boxes.Slot (slot_named q i); letter = letter } ∷ [])) (other_mail r q j i letter apart)
    ∙ one_mail r j q i letter false (ap (λ b. b && (i == j)) apart)

-- a slot behind the first n gets none of their letters
none_mail : (r j n : ℕ) (letter : Letter) → n ≤ j → mail_to (slot_named r j) (letters_to r letter n) ≡ []
none_mail r j zero letter h = refl
none_mail r j (suc i) letter h =
    mail_both (slot_named r j) (letters_to r letter i) (record { to = boxes.Slot (slot_named r i); letter = letter } ∷ [])
    ∙ ap (λ l. l ++ mail_to (slot_named r j) (record { to = boxes.Slot (slot_named r i); letter = letter } ∷ [])) (none_mail r j i letter (omega (arith, h)))
    ∙ one_mail r j r i letter false (ap (λ b. b && (i == j)) (is_same r) ∙ is_other i j (λ same. absurd (omega (arith, h, same))))

-- each of the first n slots gets its letter
pub own_mail : (r j n : ℕ) (letter : Letter) → j < n → mail_to (slot_named r j) (letters_to r letter n) ≡ letter ∷ []
own_mail r j zero letter h = absurd (omega (arith, h))
own_mail r j (suc i) letter h =
    mail_both (slot_named r j) (letters_to r letter i) (record { to = boxes.Slot (slot_named r i); letter = letter } ∷ []) ∙ by (i == j) (λ below. own_mail r j i letter below) refl
  where
    by : (b : Bool) → (j < i → mail_to (slot_named r j) (letters_to r letter i) ≡ letter ∷ []) → (i == j) ≡ b → mail_to (slot_named r j) (letters_to r letter i) ++ mail_to (slot_named r j) (record { to = boxes.Slot (slot_named r i); letter = letter } ∷ []) ≡ letter ∷ []
    by true rest is =
        let same : i ≡ j = eqb-true i j is in
        ap (λ l. l ++ mail_to (slot_named r j) (record { to = boxes.Slot (slot_named r i); letter = letter } ∷ [])) (none_mail r j i letter (omega (arith, same)))
        ∙ one_mail r j r i letter true (ap (λ b. b && (i == j)) (is_same r) ∙ is)
    by false rest is =
        let apart : i ≢ j = λ same. absurd (let q : true ≡ false = sym ((Decides-eqb i j).1 same) ∙ is in cc) in
        ap (λ l. l ++ mail_to (slot_named r j) (record { to = boxes.Slot (slot_named r i); letter = letter } ∷ [])) (rest (omega (arith, h, apart)))
        ∙ ap (λ l. (letter ∷ []) ++ l) (one_mail r j r i letter false (ap (λ b. b && (i == j)) (is_same r) ∙ is))

-- letters to the slots of both replicas
both_first : (j n : ℕ) (a b : Letter) → j < n → mail_to (slot_named 0 j) (letters_to 0 a n ++ letters_to 1 b n) ≡ a ∷ []
both_first j n a b h =
    mail_both (slot_named 0 j) (letters_to 0 a n) (letters_to 1 b n) ∙ ap (λ l. l ++ mail_to (slot_named 0 j) (letters_to 1 b n)) (own_mail 0 j n a h) ∙ ap (λ l. (a ∷ []) ++ l) (other_mail 0 1 j n b refl)

both_second : (j n : ℕ) (a b : Letter) → j < n → mail_to (slot_named 1 j) (letters_to 0 a n ++ letters_to 1 b n) ≡ b ∷ []
both_second j n a b h =
    mail_both (slot_named 1 j) (letters_to 0 a n) (letters_to 1 b n) ∙ ap (λ l. l ++ mail_to (slot_named 1 j) (letters_to 1 b n)) (other_mail 1 0 j n a refl) ∙ own_mail 1 j n b h

-- behind other letters
pub more_first : (xs : List Sent) (ls : List Letter) (j n : ℕ) (a b : Letter) → j < n → mail_to (slot_named 0 j) xs ≡ ls → mail_to (slot_named 0 j) ((xs ++ letters_to 0 a n) ++ letters_to 1 b n) ≡ ls ++ a ∷ []
more_first xs ls j n a b h is =
    mail_both (slot_named 0 j) (xs ++ letters_to 0 a n) (letters_to 1 b n)
    ∙ ap (λ l. mail_to (slot_named 0 j) (xs ++ letters_to 0 a n) ++ l) (other_mail 0 1 j n b refl)
    ∙ alone (mail_to (slot_named 0 j) (xs ++ letters_to 0 a n))
    ∙ mail_both (slot_named 0 j) xs (letters_to 0 a n)
    ∙ ap (λ l. l ++ mail_to (slot_named 0 j) (letters_to 0 a n)) is
    ∙ ap (λ l. ls ++ l) (own_mail 0 j n a h)
  where
    alone : (ms : List Letter) → ms ++ [] ≡ ms
    alone [] = refl
    alone (m ∷ ms) = ap (λ zs. m ∷ zs) (alone ms)

pub more_second : (xs : List Sent) (ls : List Letter) (j n : ℕ) (a b : Letter) → j < n → mail_to (slot_named 1 j) xs ≡ ls → mail_to (slot_named 1 j) ((xs ++ letters_to 0 a n) ++ letters_to 1 b n) ≡ ls ++ b ∷ []
more_second xs ls j n a b h is =
    mail_both (slot_named 1 j) (xs ++ letters_to 0 a n) (letters_to 1 b n)
    ∙ ap (λ l. l ++ mail_to (slot_named 1 j) (letters_to 1 b n)) (mail_both (slot_named 1 j) xs (letters_to 0 a n))
    ∙ ap (λ l. (mail_to (slot_named 1 j) xs ++ l) ++ mail_to (slot_named 1 j) (letters_to 1 b n)) (other_mail 1 0 j n a refl)
    ∙ ap (λ l. l ++ mail_to (slot_named 1 j) (letters_to 1 b n)) (alone (mail_to (slot_named 1 j) xs) ∙ is)
    ∙ ap (λ l. ls ++ l) (own_mail 1 j n b h)
  where
    alone : (ms : List Letter) → ms ++ [] ≡ ms
    alone [] = refl
    alone (m ∷ ms) = ap (λ zs. m ∷ zs) (alone ms)

pub ordered_first : (j n : ℕ) (a b : Letter) (first second : Stamp) → j < n → mail_to (slot_named 0 j) (ordered n a b first second) ≡ a ∷ letters.Resume first ∷ []
ordered_first j n a b first second h = more_first (letters_to 0 a n ++ letters_to 1 b n) (a ∷ []) j n (letters.Resume first) (letters.Resume second) h (both_first j n a b h)

pub ordered_second : (j n : ℕ) (a b : Letter) (first second : Stamp) → j < n → mail_to (slot_named 1 j) (ordered n a b first second) ≡ b ∷ letters.Resume second ∷ []
ordered_second j n a b first second h = more_second (letters_to 0 a n ++ letters_to 1 b n) (b ∷ []) j n (letters.Resume first) (letters.Resume second) h (both_second j n a b h)

-- ---- truth

joined : (P : Sent → Type 0) (xs ys : List Sent) → AllByRecursion P xs → AllByRecursion P ys → AllByRecursion P (xs ++ ys)
joined P [] ys a b = b
joined P (x ∷ xs) ys a b = (a.0, joined P xs ys a.1 b)

pub letters_say : (p : Plan) (script : List Fault) (place : List ℕ) (r n : ℕ) (letter : Letter) → ((slot : SlotId) → Holds p script place (boxes.Slot slot) letter) → AllByRecursion (Says p script place) (letters_to r letter n)
letters_say p script place r zero letter holds = tt
letters_say p script place r (suc j) letter holds =
    joined (Says p script place) (letters_to r letter j) (record { to = boxes.Slot (slot_named r j); letter = letter } ∷ []) (letters_say p script place r j letter holds) (holds (slot_named r j), tt)

pub more_say : (p : Plan) (script : List Fault) (place : List ℕ) (xs : List Sent) (n : ℕ) (a b : Letter) → AllByRecursion (Says p script place) xs → ((slot : SlotId) → Holds p script place (boxes.Slot slot) a) →
    ((slot : SlotId) → Holds p script place (boxes.Slot slot) b) → AllByRecursion (Says p script place) ((xs ++ letters_to 0 a n) ++ letters_to 1 b n)
more_say p script place xs n a b all ha hb =
    joined (Says p script place) (xs ++ letters_to 0 a n) (letters_to 1 b n) (joined (Says p script place) xs (letters_to 0 a n) all (letters_say p script place 0 n a ha)) (letters_say p script place 1 n b hb)

pub ordered_say : (p : Plan) (script : List Fault) (place : List ℕ) (n : ℕ) (a b : Letter) (first second : Stamp) → ((slot : SlotId) → Holds p script place (boxes.Slot slot) a) →
    ((slot : SlotId) → Holds p script place (boxes.Slot slot) b) → AllByRecursion (Says p script place) (ordered n a b first second)
ordered_say p script place n a b first second ha hb =
    more_say p script place (letters_to 0 a n ++ letters_to 1 b n) n (letters.Resume first) (letters.Resume second)
    (joined (Says p script place) (letters_to 0 a n) (letters_to 1 b n) (letters_say p script place 0 n a ha) (letters_say p script place 1 n b hb)) (λ slot. tt) (λ slot. tt)

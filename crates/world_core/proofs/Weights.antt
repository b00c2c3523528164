-- What is left of a world after an event of one slot.
use Rattle.std.proofs.Common.{◌≡◌, ℕ, zero, suc, ◌+◌, ◌<◌, ◌≤◌, List, [], ◌∷◌, length, map, refl, ap, arith, Option, Some, None}
use Rattle.std.specs.Prelude.{slice_get, slice_set}
use Rattle.std.proofs.lemmas.Option.{same_Some}
use Rattle.chare_base.specs.declared.slots.SlotId.{SlotId}
use Rattle.iteration_agree.specs.Cuts.{CutState}
use Rattle.letter_post.specs.declared.letter.BoxId.{BoxId}
use Rattle.letter_post.specs.declared.letter.BoxId.TheVariants as boxes
use Rattle.letter_post.specs.declared.letter.Letter.{Letter}
use Rattle.letter_post.specs.declared.letter.Letter.TheVariants as letters
use Rattle.letter_post.specs.declared.letter.Sent.{Sent}
use Rattle.letter_post.specs.Orders.{order_of}
use Rattle.letter_post.specs.Orders as orders
use Rattle.node_core.specs.Costs.{sent_weight, sum, times, weight}
use Rattle.node_core.proofs.Sums.{sum_append, sum_set}
use Rattle.world_core.specs.Costs.{desk_left, going_left, letter_left, looks_left, sent_left, slot_left, slots_left}
use Rattle.world_core.specs.Worlds.{Acted, Posts, Setting, SlotState, WorldState, after_slot, number_of, posted, put_by, put_in, slot_at, slot_put}
use Rattle.world_core.proofs.Mailing.{slot_is}
use Rattle.world_core.proofs.Unordered.{NoOrders}

-- ---- sums

pub sum_same : {A : Type 0} (f g : A → ℕ) (xs : List A) → ((m : ℕ) (x : A) → slice_get xs m ≡ Some x → f x ≡ g x) → sum f xs ≡ sum g xs
sum_same f g [] same = refl
sum_same f g (x ∷ xs) same = let here = same 0 x refl in let rest = sum_same f g xs (λ m y there. same (suc m) y there) in omega (arith, here, rest)

pub sum_mapped : {A B : Type 0} (f : B → ℕ) (g : A → B) (xs : List A) → sum f (map g xs) ≡ sum (λ x. f (g x)) xs
sum_mapped f g [] = refl
sum_mapped f g (x ∷ xs) = let rest = sum_mapped f g xs in omega (arith, rest)

-- each grows by so much at most
pub sum_most : {A : Type 0} (f g : A → ℕ) (n : ℕ) (xs : List A) → ((m : ℕ) (x : A) → slice_get xs m ≡ Some x → f x ≤ g x + n) → sum f xs ≤ sum g xs + times (length xs) n
sum_most f g n [] most = omega arith
sum_most f g n (x ∷ xs) most = let here = most 0 x refl in let rest = sum_most f g n xs (λ m y there. most (suc m) y there) in omega (arith, here, rest)

-- after a change at a place, where the others stay
sum_others : {A : Type 0} (f g : A → ℕ) (xs : List A) (i : ℕ) (x y : A) → slice_get xs i ≡ Some x → ((m : ℕ) (z : A) → slice_get xs m ≡ Some z → (m ≡ i → ⊥) → f z ≡ g z) → sum f (slice_set xs i y) + g x ≡ sum g xs + f y
sum_others f g [] i x y h same = absurd (let q : None ≡ Some x = h in cc)
sum_others f g (z ∷ xs) zero x y h same =
    let here : g z ≡ g x = ap g (same_Some z x h) in
    let rest = sum_same f g xs (λ m q there. same (suc m) q there (λ e. absurd (omega (arith, e)))) in
    omega (arith, here, rest)
sum_others f g (z ∷ xs) (suc i) x y h same =
    let here = same 0 z refl (λ e. absurd (omega (arith, e))) in
    let rest = sum_others f g xs i x y h (λ m q there apart. same (suc m) q there (λ e. apart (omega (arith, e)))) in
    omega (arith, here, rest)

pub times_one : (n : ℕ) → times n 1 ≡ n
times_one zero = refl
times_one (suc n) = let rest = times_one n in omega (arith, rest)

pub times_more : (a b r : ℕ) → a ≤ b → times a r ≤ times b r
times_more zero b r less = omega arith
times_more (suc a) zero r less = absurd (omega (arith, less))
times_more (suc a) (suc b) r less = let rest = times_more a b r (omega (arith, less)) in omega (arith, rest)

-- ---- letters that are no orders

pub mail_left : (s : Setting) (letter : Letter) → order_of letter ≡ None → letter_left s.plan s.place letter ≡ weight s.plan s.place letter
mail_left s (letters.Parcel stamp entry k to payload) mail = refl
mail_left s (letters.Partial stamp r k node value) mail = refl
mail_left s (letters.Total stamp r k value) mail = refl
mail_left s (letters.Piece stamp piece) mail = refl
mail_left s (letters.VerdictOf first second node k verdict piece) mail = refl
mail_left s (letters.Lend k fresh) mail = refl
mail_left s (letters.Take stamp k live piece) mail = refl
mail_left s (letters.Restore stamp k live) mail = refl
mail_left s (letters.Commit stamp k live) mail = absurd (let q : Some (orders.Commit stamp k live) ≡ None = mail in cc)
mail_left s (letters.Resume stamp) mail = absurd (let q : Some (orders.Resume stamp) ≡ None = mail in cc)
mail_left s (letters.Died stamp slot line) mail = refl
mail_left s letters.Stop mail = refl

pub none_left : (s : Setting) (out : List Sent) → NoOrders out → sum (sent_left s.plan s.place) out ≡ sum (sent_weight s.plan s.place) out
none_left s [] none = refl
none_left s (sent ∷ more) none = let here = mail_left s sent.letter none.0 in let rest = none_left s more none.1 in omega (arith, here, rest)

-- ---- letters that are put

module _ (s : Setting) (cut : CutState) where
  abbrev posts_left : Posts → ℕ
  posts_left b = slots_left s cut b.slots + desk_left s b.desk

  put_left : (letter : Letter) (x : SlotState) → slot_left s cut (slot_put letter x) ≡ slot_left s cut x + letter_left s.plan s.place letter
  put_left letter x = let more = sum_append (letter_left s.plan s.place) x.box (letter ∷ []) in omega (arith, more)

  put_in_left : (to : BoxId) (letter : Letter) (b : Posts) → posts_left (put_in s.nodes to letter b) ≤ posts_left b + letter_left s.plan s.place letter
  put_in_left boxes.Conductor letter b = let more = sum_append (letter_left s.plan s.place) b.desk (letter ∷ []) in omega (arith, more)
  put_in_left (boxes.Slot slot) letter b = by (slot_at s.nodes b.slots slot) refl
    where
      by : (q : Option SlotState) → slot_at s.nodes b.slots slot ≡ q → posts_left (put_by s.nodes slot letter b q) ≤ posts_left b + letter_left s.plan s.place letter
      by None is = omega arith
      by (Some x) is =
          let more = put_left letter x in
          let set = sum_set (slot_left s cut) b.slots (number_of s.nodes slot) x (slot_put letter x) (slot_is s.nodes b.slots slot x is).there in
          omega (arith, more, set)

  pub posted_left : (out : List Sent) (b : Posts) → posts_left (posted s.nodes out b) ≤ posts_left b + sum (sent_left s.plan s.place) out
  posted_left [] b = omega arith
  posted_left (sent ∷ more) b =
      let rest = posted_left more (put_in s.nodes sent.to sent.letter b) in
      let one = put_in_left sent.to sent.letter b in
      omega (arith, rest, one)

-- ---- an event of a slot

pub slot_lowers : (s : Setting) (w : WorldState) (slot : SlotId) (x : SlotState) (a : Acted) → slot_at s.nodes w.posts.slots slot ≡ Some x →
    ((m : ℕ) (y : SlotState) → slice_get w.posts.slots m ≡ Some y → (m ≡ number_of s.nodes slot → ⊥) → slot_left s a.cut y ≡ slot_left s w.cut y) →
    slot_left s a.cut a.slot + sum (sent_left s.plan s.place) a.out + looks_left a.cut w.conductor < slot_left s w.cut x + looks_left w.cut w.conductor → going_left s (after_slot s slot a w) < going_left s w
slot_lowers s w slot x a is others lower =
    let put = posted_left s a.cut a.out (record { slots = slice_set w.posts.slots (number_of s.nodes slot) a.slot; desk = w.posts.desk }) in
    let set = sum_others (slot_left s a.cut) (slot_left s w.cut) w.posts.slots (number_of s.nodes slot) x a.slot (slot_is s.nodes w.posts.slots slot x is).there others in
    omega (arith, put, set, lower)

-- Letters on their way to slots.
use Rattle.std.proofs.Common.{◌≡◌, ℕ, zero, suc, ◌+◌, ◌*◌, ◌≤◌, ◌<◌, Bool, true, false, cond, List, [], ◌∷◌, ◌++◌, length, append_assoc, map, refl, ap, sym, ◌∙◌, arith, subst, inl, inr, Option, Some, None}
use Rattle.std.specs.Prelude.{◌⊎◌, ◌==◌, ◌&&◌, slice_get, slice_set}
use Rattle.std.specs.List.{AllByRecursion}
use Rattle.std.proofs.lemmas.Bool.{eq-eqb, eqb-true}
use Rattle.std.proofs.lemmas.Option.{same_Some}
use Rattle.chare_base.specs.declared.slots.SlotId.{SlotId}
use Rattle.iteration_agree.specs.Cuts.{CutState}
use Rattle.letter_post.specs.declared.letter.BoxId.{BoxId}
use Rattle.letter_post.specs.declared.letter.BoxId.TheVariants as boxes
use Rattle.letter_post.specs.declared.letter.Letter.{Letter}
use Rattle.letter_post.specs.declared.letter.Sent.{Sent}
use Rattle.letter_post.specs.declared.order.LastOrder.{LastOrder}
use Rattle.letter_post.specs.Orders.{Chain}
use Rattle.letter_post.specs.Truth.{Holds, Says}
use Rattle.node_core.proofs.Lists.{all_but, all_by, map_set}
use Rattle.conductor_core.specs.Tells.{is_to, mail_to}
use Rattle.world_core.specs.declared.doing.Doing.TheVariants as doings
use Rattle.world_core.specs.Sound.{AllTrue, names, names_to, slot_name}
use Rattle.world_core.specs.Worlds.{Posts, Setting, SlotState, doing_of, named, number_of, posted, put_by, put_in, slot_at, slot_put, stand}
use Rattle.world_core.proofs.Due.{first, second}
use Rattle.world_core.proofs.Lists.{all_behind, all_got, get_mapped}
use Rattle.world_core.proofs.Sides.{Stands}

-- ---- slots by their names

pub same_slot : (a b : SlotId) → (a.replica == b.replica && a.node == b.node) ≡ true → a ≡ b
same_slot a b h =
    let r : a.replica ≡ b.replica = eqb-true a.replica b.replica (first (a.replica == b.replica) (a.node == b.node) h) in
    let n : a.node ≡ b.node = eqb-true a.node b.node (second (a.replica == b.replica) (a.node == b.node) h) in
    let one : a ≡ record { replica = b.replica; node = a.node } = ap (λ m. record { replica = m; node = a.node }) r in
    one ∙ ap (λ m. record { replica = b.replica; node = m }) n

pub own_name : (a : SlotId) → (a.replica == a.replica && a.node == a.node) ≡ true
own_name a = ap (λ b. b && a.node == a.node) (eq-eqb a.replica a.replica refl) ∙ eq-eqb a.node a.node refl

-- a slot where its name says
pub record Is (nodes : ℕ) (all : List SlotState) (slot : SlotId) (x : SlotState) : Type 0 where
  pub there : slice_get all (number_of nodes slot) ≡ Some x
  pub name : x.node.slot ≡ slot

pub slot_is : (nodes : ℕ) (all : List SlotState) (slot : SlotId) (x : SlotState) → slot_at nodes all slot ≡ Some x → Is nodes all slot x
slot_is nodes all slot x h = by (slice_get all (number_of nodes slot)) refl h
  where
    by : (o : Option SlotState) → slice_get all (number_of nodes slot) ≡ o → named slot o ≡ Some x → Is nodes all slot x
    by None is h = absurd (let q : None ≡ Some x = h in cc)
    by (Some y) is h = test (y.node.slot.replica == slot.replica && y.node.slot.node == slot.node) refl h
      where
        test : (b : Bool) → (y.node.slot.replica == slot.replica && y.node.slot.node == slot.node) ≡ b → cond b (Some y) None ≡ Some x → Is nodes all slot x
        test true t h =
            let same : y ≡ x = same_Some y x h in
            record { there = is ∙ ap Some same; name = ap (λ (z : SlotState). z.node.slot) (sym same) ∙ same_slot y.node.slot slot t }
        test false t h = absurd (let q : None ≡ Some x = h in cc)

pub found : (nodes : ℕ) (all : List SlotState) (slot : SlotId) (x : SlotState) → slice_get all (number_of nodes slot) ≡ Some x → x.node.slot ≡ slot → slot_at nodes all slot ≡ Some x
found nodes all slot x there name =
    ap (named slot) there ∙ ap (λ (b : Bool). cond b (Some x) None) (ap (λ (a : SlotId). a.replica == slot.replica && a.node == slot.node) name ∙ own_name slot)

-- ---- where names stand

-- a name's number is its place, and it is one of the run's
pub record IsNamed (nodes : ℕ) (i : ℕ) (slot : SlotId) : Type 0 where
  pub number : number_of nodes slot ≡ i
  pub replica : slot.replica ≤ 1
  pub node : slot.node < nodes

got_front : {A : Type 0} (xs ys : List A) (i : ℕ) (x : A) → slice_get (xs ++ ys) i ≡ Some x → (slice_get xs i ≡ Some x) ⊎ ((j : ℕ) × (i ≡ length xs + j) × (slice_get ys j ≡ Some x))
got_front [] ys i x h = inr (i, omega arith, h)
got_front (y ∷ xs) ys zero x h = inl h
got_front (y ∷ xs) ys (suc i) x h = by (got_front xs ys i x h)
  where
    by : (slice_get xs i ≡ Some x) ⊎ ((j : ℕ) × (i ≡ length xs + j) × (slice_get ys j ≡ Some x)) → (slice_get xs i ≡ Some x) ⊎ ((j : ℕ) × (suc i ≡ suc (length xs) + j) × (slice_get ys j ≡ Some x))
    by (inl h) = inl h
    by (inr h) = let at = h.1 in inr (h.0, omega (arith, at), h.2)

pub names_long : (replica n : ℕ) → length (names_to replica n) ≡ n
names_long replica zero = refl
names_long replica (suc j) = longer (names_to replica j) ∙ ap suc (names_long replica j)
  where
    longer : (xs : List SlotId) → length (xs ++ record { replica = replica; node = j } ∷ []) ≡ suc (length xs)
    longer [] = refl
    longer (x ∷ xs) = ap suc (longer xs)

named_to : (replica n i : ℕ) (slot : SlotId) → slice_get (names_to replica n) i ≡ Some slot → (slot.replica ≡ replica) × (slot.node ≡ i) × (i < n)
named_to replica zero i slot h = absurd (let q : None ≡ Some slot = h in cc)
named_to replica (suc j) i slot h = by (named_to replica j i slot) (got_front (names_to replica j) (record { replica = replica; node = j } ∷ []) i slot h)
  where
    last : (m : ℕ) → i ≡ length (names_to replica j) + m → slice_get (record { replica = replica; node = j } ∷ []) m ≡ Some slot → (slot.replica ≡ replica) × (slot.node ≡ i) × (i < suc j)
    last zero at h =
        let same : record { replica = replica; node = j } ≡ slot = same_Some (record { replica = replica; node = j }) slot h in
        let here : i ≡ j = let long = names_long replica j in omega (arith, at, long) in
        (ap (λ (s : SlotId). s.replica) (sym same), ap (λ (s : SlotId). s.node) (sym same) ∙ sym here, omega (arith, here))
    last (suc m) at h = absurd (let q : None ≡ Some slot = h in cc)

    by : (slice_get (names_to replica j) i ≡ Some slot → (slot.replica ≡ replica) × (slot.node ≡ i) × (i < j)) →
        (slice_get (names_to replica j) i ≡ Some slot) ⊎ ((m : ℕ) × (i ≡ length (names_to replica j) + m) × (slice_get (record { replica = replica; node = j } ∷ []) m ≡ Some slot)) →
        (slot.replica ≡ replica) × (slot.node ≡ i) × (i < suc j)
    by rest (inl before) = let r = rest before in let few = r.2 in (r.0, r.1, omega (arith, few))
    by rest (inr h) = last h.0 h.1 h.2

-- replica 0's slots come first, then replica 1's
first_number : (nodes node i : ℕ) → node ≡ i → 0 * nodes + node ≡ i
first_number nodes node i h = omega (arith, h)

second_number : (nodes node i : ℕ) → nodes + node ≡ i → 1 * nodes + node ≡ i
second_number nodes node i h = omega (arith, h)

pub name_is : (nodes i : ℕ) (slot : SlotId) → slice_get (names nodes) i ≡ Some slot → IsNamed nodes i slot
name_is nodes i slot h = by (got_front (names_to 0 nodes) (names_to 1 nodes) i slot h)
  where
    by : (slice_get (names_to 0 nodes) i ≡ Some slot) ⊎ ((m : ℕ) × (i ≡ length (names_to 0 nodes) + m) × (slice_get (names_to 1 nodes) m ≡ Some slot)) → IsNamed nodes i slot
    by (inl h) =
        let r = named_to 0 nodes i slot h in
        let q : slot.replica ≡ 0 = r.0 in
        let n : slot.node ≡ i = r.1 in
        let few : i < nodes = r.2 in
        record { number = ap (λ m. m * nodes + slot.node) q ∙ first_number nodes slot.node i n; replica = omega (arith, q); node = omega (arith, n, few) }
    by (inr h) =
        let r = named_to 1 nodes h.0 slot h.2 in
        let q : slot.replica ≡ 1 = r.0 in
        let n : slot.node ≡ h.0 = r.1 in
        let few : h.0 < nodes = r.2 in
        let at : i ≡ length (names_to 0 nodes) + h.0 = h.1 in
        let long = names_long 0 nodes in
        record { number = ap (λ m. m * nodes + slot.node) q ∙ second_number nodes slot.node i (omega (arith, n, at, long)); replica = omega (arith, q); node = omega (arith, n, few) }

module _ (nodes : ℕ) (all : List SlotState) (are : map slot_name all ≡ names nodes) where
  pub place_is : (i : ℕ) (x : SlotState) → slice_get all i ≡ Some x → IsNamed nodes i x.node.slot
  place_is i x there = name_is nodes i x.node.slot (ap (λ l. slice_get l i) (sym are) ∙ get_mapped slot_name all i x there)

  -- slots at two places have two names
  pub apart : (i j : ℕ) (x : SlotState) (slot : SlotId) → slice_get all i ≡ Some x → number_of nodes slot ≡ j → (i ≡ j → ⊥) → x.node.slot ≡ slot → ⊥
  apart i j x slot there number other same = other (sym (place_is i x there).number ∙ ap (number_of nodes) same ∙ number)

  pub names_set : (i : ℕ) (x y : SlotState) → slice_get all i ≡ Some y → x.node.slot ≡ y.node.slot → map slot_name (slice_set all i x) ≡ names nodes
  names_set i x y there same = map_set slot_name all i x y there same ∙ are

-- ---- letters that are still to be put

not_to : (a b : SlotId) → (a ≡ b → ⊥) → is_to a (boxes.Slot b) ≡ false
not_to a b other = by (b.replica == a.replica && b.node == a.node) refl
  where
    by : (c : Bool) → (b.replica == a.replica && b.node == a.node) ≡ c → c ≡ false
    by true t = absurd (other (sym (same_slot b a t)))
    by false t = refl

hears_next : (s : Setting) (cut : CutState) (x : SlotState) (box : List Letter) (letter : Letter) → Some doings.Hear ≡ doing_of s.plan cut.round (stand cut x.node.slot) x.node (box ++ letter ∷ []) x.back x.since
hears_next s cut x [] letter = refl
hears_next s cut x (y ∷ more) letter = refl

module _ (s : Setting) (cut : CutState) (ends : ℕ → LastOrder) where
  abbrev ChainTo : List Letter → SlotState → Type 0
  ChainTo more x = Chain s.plan s.script x.node.last (x.box ++ more) (ends x.node.slot.replica)

  -- each slot stands, and its orders follow one another, those that are still to be put behind those in its inbox
  abbrev pub Awaits : List Sent → SlotState → Type 0
  Awaits out x = Stands s cut.round (stand cut x.node.slot) x × ChainTo (mail_to x.node.slot out) x

  pub record Pending (out : List Sent) (b : Posts) : Type 0 where
    pub slots : AllByRecursion (Awaits out) b.slots
    pub names : map slot_name b.slots ≡ names s.nodes
    pub desk : AllTrue s boxes.Conductor b.desk

  -- one slot more with the letter
  put_stands : (letter : Letter) (x : SlotState) → Holds s.plan s.script s.place (boxes.Slot x.node.slot) letter → Stands s cut.round (stand cut x.node.slot) x → Stands s cut.round (stand cut x.node.slot) (slot_put letter x)
  put_stands letter x is old = record {
    keeps = old.keeps;
    letters = all_behind (Holds s.plan s.script s.place (boxes.Slot x.node.slot)) x.box letter old.letters is;
    beside = record { bounded = old.beside.bounded; packed = old.beside.packed; orders = old.beside.orders };
    seats = old.seats;
    current = hears_next s cut x x.box letter;
  }

  -- the letters for a slot, one taken off the front
  abbrev front : SlotId → BoxId → Letter → List Sent → List Letter
  front name to letter more = cond (is_to name to) (letter ∷ mail_to name more) (mail_to name more)

  -- a slot before it is put
  abbrev Before : BoxId → Letter → List Sent → SlotState → Type 0
  Before to letter more x = Stands s cut.round (stand cut x.node.slot) x × ChainTo (front x.node.slot to letter more) x

  put_pending : (to : BoxId) (letter : Letter) (more : List Sent) (b : Posts) → Holds s.plan s.script s.place to letter →
      AllByRecursion (Before to letter more) b.slots → map slot_name b.slots ≡ names s.nodes → AllTrue s boxes.Conductor b.desk →
      Pending more (put_in s.nodes to letter b)
  put_pending boxes.Conductor letter more b is slots are desk =
      record { slots = slots; names = are; desk = all_behind (Holds s.plan s.script s.place boxes.Conductor) b.desk letter desk is }
  put_pending (boxes.Slot slot) letter more b is slots are desk = by (slot_at s.nodes b.slots slot) refl
    where
      -- a slot of another name gets nothing
      passes : (x : SlotState) → (x.node.slot ≡ slot → ⊥) → Before (boxes.Slot slot) letter more x → Awaits more x
      passes x other h = (h.0, subst (λ c. Chain s.plan s.script x.node.last (x.box ++ cond c (letter ∷ mail_to x.node.slot more) (mail_to x.node.slot more)) (ends x.node.slot.replica)) (not_to x.node.slot slot other) h.1)

      gets : (x : SlotState) → x.node.slot ≡ slot → Before (boxes.Slot slot) letter more x → Awaits more (slot_put letter x)
      gets x name h =
          let mine : is_to x.node.slot (boxes.Slot slot) ≡ true = ap (λ (a : SlotId). slot.replica == a.replica && slot.node == a.node) name ∙ own_name slot in
          let chain = subst (λ c. Chain s.plan s.script x.node.last (x.box ++ cond c (letter ∷ mail_to x.node.slot more) (mail_to x.node.slot more)) (ends x.node.slot.replica)) mine h.1 in (
            put_stands letter x (subst (λ name. Holds s.plan s.script s.place (boxes.Slot name) letter) (sym name) is) h.0,
            subst (λ l. Chain s.plan s.script x.node.last l (ends x.node.slot.replica)) (sym (append_assoc x.box (letter ∷ []) (mail_to x.node.slot more))) chain,
          )

      by : (o : Option SlotState) → slot_at s.nodes b.slots slot ≡ o → Pending more (put_by s.nodes slot letter b o)
      by None none = record {
        slots = all_by (Awaits more) b.slots (λ m x there. passes x (missing m x there) (all_got (Before (boxes.Slot slot) letter more) b.slots m x slots there));
        names = are;
        desk = desk;
      }
        where
          missing : (m : ℕ) (x : SlotState) → slice_get b.slots m ≡ Some x → x.node.slot ≡ slot → ⊥
          missing m x there name =
              let place : number_of s.nodes slot ≡ m = sym (ap (number_of s.nodes) name) ∙ (place_is s.nodes b.slots are m x there).number in
              let q : None ≡ Some x = sym none ∙ found s.nodes b.slots slot x (ap (slice_get b.slots) place ∙ there) name in
              absurd cc
      by (Some y) some =
          let at : Is s.nodes b.slots slot y = slot_is s.nodes b.slots slot y some in
          record {
            slots = all_but (Awaits more) b.slots (number_of s.nodes slot) (slot_put letter y)
                (λ m x there other. passes x (apart s.nodes b.slots are m (number_of s.nodes slot) x slot there refl other) (all_got (Before (boxes.Slot slot) letter more) b.slots m x slots there))
                (gets y at.name (all_got (Before (boxes.Slot slot) letter more) b.slots (number_of s.nodes slot) y slots at.there));
            names = names_set s.nodes b.slots are (number_of s.nodes slot) (slot_put letter y) y at.there refl;
            desk = desk;
          }

  pub posted_pending : (out : List Sent) (b : Posts) → Pending out b → AllByRecursion (Says s.plan s.script s.place) out → Pending [] (posted s.nodes out b)
  posted_pending [] b all says = all
  posted_pending (sent ∷ more) b all says =
      posted_pending more (put_in s.nodes sent.to sent.letter b) (put_pending sent.to sent.letter more b says.0 all.slots all.names all.desk) says.1

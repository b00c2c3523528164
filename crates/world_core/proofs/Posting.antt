-- What stands at each name once letters were put.
use Rattle.std.proofs.Common.{◌≡◌, ℕ, inl, inr, Bool, true, false, cond, List, [], ◌∷◌, ◌++◌, refl, ap, sym, ◌∙◌, subst, Option, Some, None}
use Rattle.std.specs.Prelude.{◌⊎◌, ◌==◌, ◌&&◌, slice_get}
use Rattle.chare_base.specs.declared.slots.SlotId.{SlotId}
use Rattle.letter_post.specs.declared.letter.BoxId.{BoxId}
use Rattle.letter_post.specs.declared.letter.BoxId.TheVariants as boxes
use Rattle.letter_post.specs.declared.letter.Letter.{Letter}
use Rattle.letter_post.specs.declared.letter.Sent.{Sent}
use Rattle.conductor_core.specs.Tells.{is_to, mail_to}
use Rattle.world_core.specs.Worlds.{Posts, SlotState, number_of, posted, put_by, put_in, slot_at, slot_put, with_slot}
use Rattle.world_core.proofs.Lists.{append_nil, set_get, set_same}
use Rattle.world_core.proofs.Mailing.{Is, found, own_name, same_slot, slot_is}

-- a slot with more letters at the back of its inbox
pub record Put (x : SlotState) (more : List Letter) (y : SlotState) : Type 0 where
  pub node : y.node ≡ x.node
  pub box : y.box ≡ x.box ++ more
  pub back : y.back ≡ x.back
  pub since : y.since ≡ x.since

append_both : {A : Type 0} (xs ys zs : List A) → (xs ++ ys) ++ zs ≡ xs ++ (ys ++ zs)
append_both [] ys zs = refl
append_both (x ∷ xs) ys zs = ap (λ l. x ∷ l) (append_both xs ys zs)

pub put_none : (x : SlotState) → Put x [] x
put_none x = record { node = refl; box = sym (append_nil x.box); back = refl; since = refl }

put_on : (x y z : SlotState) (some more : List Letter) → Put x some y → Put y more z → Put x (some ++ more) z
put_on x y z some more a b = record {
  node = b.node ∙ a.node;
  box = b.box ∙ ap (λ l. l ++ more) a.box ∙ append_both x.box some more;
  back = b.back ∙ a.back;
  since = b.since ∙ a.since;
}

-- one that stands there before
pub record From (nodes : ℕ) (all : List SlotState) (slot : SlotId) (more : List Letter) (y : SlotState) : Type 0 where
  pub x : SlotState
  pub there : slot_at nodes all slot ≡ Some x
  pub put : Put x more y

-- after a change of a slot that keeps its name, each is the changed one or was there
pub slot_after : (nodes : ℕ) (all : List SlotState) (slot other : SlotId) (y z : SlotState) → y.node.slot ≡ slot → slot_at nodes (with_slot nodes all slot y) other ≡ Some z →
    ((other ≡ slot) × (z ≡ y)) ⊎ (slot_at nodes all other ≡ Some z)
slot_after nodes all slot other y z name h = by (set_get all (number_of nodes slot) (number_of nodes other) y z i.there)
  where
    i : Is nodes (with_slot nodes all slot y) other z
    i = slot_is nodes (with_slot nodes all slot y) other z h

    by : ((number_of nodes other ≡ number_of nodes slot) × (z ≡ y)) ⊎ (slice_get all (number_of nodes other) ≡ Some z) → ((other ≡ slot) × (z ≡ y)) ⊎ (slot_at nodes all other ≡ Some z)
    by (inl q) = inl (sym i.name ∙ ap (λ (x : SlotState). x.node.slot) q.1 ∙ name, q.1)
    by (inr q) = inr (found nodes all other z q i.name)

-- and at its own name it is the changed one
pub slot_changed : (nodes : ℕ) (all : List SlotState) (slot : SlotId) (y z : SlotState) → slot_at nodes (with_slot nodes all slot y) slot ≡ Some z → z ≡ y
slot_changed nodes all slot y z h = set_same all (number_of nodes slot) y z (slot_is nodes (with_slot nodes all slot y) slot z h).there

module _ (nodes : ℕ) (slot : SlotId) where
  abbrev for_it : BoxId → Letter → List Letter
  for_it to letter = cond (is_to slot to) (letter ∷ []) []

  put_at : (to : BoxId) (letter : Letter) (b : Posts) (y : SlotState) → slot_at nodes (put_in nodes to letter b).slots slot ≡ Some y → From nodes b.slots slot (for_it to letter) y
  put_at boxes.Conductor letter b y h = record { x = y; there = h; put = put_none y }
  put_at (boxes.Slot other) letter b y h = by (slot_at nodes b.slots other) (is_to slot (boxes.Slot other)) refl refl h
    where
      same : is_to slot (boxes.Slot other) ≡ true → other ≡ slot
      same t = same_slot other slot t

      self : other ≡ slot → is_to slot (boxes.Slot other) ≡ true
      self q = ap (λ (a : SlotId). a.replica == slot.replica && a.node == slot.node) q ∙ own_name slot

      by : (o : Option SlotState) (t : Bool) → slot_at nodes b.slots other ≡ o → is_to slot (boxes.Slot other) ≡ t → slot_at nodes (put_by nodes other letter b o).slots slot ≡ Some y → From nodes b.slots slot (cond t (letter ∷ []) []) y
      by None false is t g = record { x = y; there = g; put = put_none y }
      by None true is t g = absurd (let q : None ≡ Some y = sym is ∙ ap (slot_at nodes b.slots) (same t) ∙ g in cc)
      by (Some z) true is t g =
          let at : slot_at nodes (with_slot nodes b.slots slot (slot_put letter z)) slot ≡ Some y = ap (λ n. slot_at nodes (with_slot nodes b.slots n (slot_put letter z)) slot) (sym (same t)) ∙ g in
          let done : y ≡ slot_put letter z = slot_changed nodes b.slots slot (slot_put letter z) y at in
          record {
            x = z;
            there = ap (slot_at nodes b.slots) (sym (same t)) ∙ is;
            put = subst (Put z (letter ∷ [])) (sym done) (record { node = refl; box = refl; back = refl; since = refl });
          }
      by (Some z) false is t g = which (slot_after nodes b.slots other slot (slot_put letter z) y (slot_is nodes b.slots other z is).name g)
        where
          which : ((slot ≡ other) × (y ≡ slot_put letter z)) ⊎ (slot_at nodes b.slots slot ≡ Some y) → From nodes b.slots slot [] y
          which (inl q) = absurd (let z : true ≡ false = sym (self (sym q.0)) ∙ t in cc)
          which (inr q) = record { x = y; there = q; put = put_none y }

  front_is : (b : Bool) (letter : Letter) (more : List Letter) → cond b (letter ∷ []) [] ++ more ≡ cond b (letter ∷ more) more
  front_is true letter more = refl
  front_is false letter more = refl

  -- what comes to a slot by all letters that are put
  pub posted_at : (out : List Sent) (b : Posts) (y : SlotState) → slot_at nodes (posted nodes out b).slots slot ≡ Some y → From nodes b.slots slot (mail_to slot out) y
  posted_at [] b y h = record { x = y; there = h; put = put_none y }
  posted_at (sent ∷ more) b y h =
      let later : From nodes (put_in nodes sent.to sent.letter b).slots slot (mail_to slot more) y = posted_at more (put_in nodes sent.to sent.letter b) y h in
      let before : From nodes b.slots slot (for_it sent.to sent.letter) later.x = put_at sent.to sent.letter b later.x later.there in
      record {
        x = before.x;
        there = before.there;
        put = subst (λ l. Put before.x l y) (front_is (is_to slot sent.to) sent.letter (mail_to slot more)) (put_on before.x later.x y (for_it sent.to sent.letter) (mail_to slot more) before.put later.put);
      }

-- what comes to the conductor
abbrev pub to_desk : BoxId → Letter → List Letter → List Letter
to_desk (boxes.Slot slot) letter more = more
to_desk boxes.Conductor letter more = letter ∷ more

abbrev pub desk_of : List Sent → List Letter
desk_of [] = []
desk_of (sent ∷ more) = to_desk sent.to sent.letter (desk_of more)

pub posted_desk : (nodes : ℕ) (out : List Sent) (b : Posts) → (posted nodes out b).desk ≡ b.desk ++ desk_of out
posted_desk nodes [] b = sym (append_nil b.desk)
posted_desk nodes (sent ∷ more) b = posted_desk nodes more (put_in nodes sent.to sent.letter b) ∙ ap (λ l. l ++ desk_of more) (one sent.to) ∙ append_both b.desk (to_desk sent.to sent.letter []) (desk_of more) ∙ ap (λ l. b.desk ++ l) (first sent.to)
  where
    by : (slot : SlotId) (o : Option SlotState) → (put_by nodes slot sent.letter b o).desk ≡ b.desk
    by slot None = refl
    by slot (Some x) = refl

    one : (to : BoxId) → (put_in nodes to sent.letter b).desk ≡ b.desk ++ to_desk to sent.letter []
    one (boxes.Slot slot) = by slot (slot_at nodes b.slots slot) ∙ sym (append_nil b.desk)
    one boxes.Conductor = refl

    first : (to : BoxId) → to_desk to sent.letter [] ++ desk_of more ≡ to_desk to sent.letter (desk_of more)
    first (boxes.Slot slot) = refl
    first boxes.Conductor = refl

-- A slot beside its place in the agreement.
use Rattle.std.proofs.Common.{◌≡◌, ℕ, ◌≤◌, false, List, [], refl, sym, subst, Option, Some, None}
use Rattle.std.specs.Prelude.{◌⊎◌, IfSome}
use Rattle.std.specs.List.{AllByRecursion}
use Rattle.chare_base.specs.declared.slots.SlotId.{SlotId}
use Rattle.iteration_agree.specs.declared.round.Round.{Round}
use Rattle.iteration_agree.specs.declared.round.Standing.{Standing}
use Rattle.iteration_agree.specs.declared.slot.Slot.{Slot}
use Rattle.iteration_agree.specs.Cuts.{CutState, HasSlot, slot_of}
use Rattle.iteration_agree.specs.Laws.{EachSlotMoves, MovesKeep, NotesLeaveTheRound, OthersStand, RoundsAreCounted, SlotsLeaveTheRound, StartIsCut}
use Rattle.iteration_agree.specs.Slots.{standing_of}
use Rattle.iteration_agree.specs.Under.{IsCut, SawAgreed}
use Rattle.letter_post.specs.declared.letter.BoxId.TheVariants as boxes
use Rattle.letter_post.specs.declared.letter.Letter.{Letter}
use Rattle.letter_post.specs.declared.order.LastOrder.{LastOrder}
use Rattle.letter_post.specs.Orders.{Chain, ChainsTakeAll, ChainsTakeOne, MailFollows}
use Rattle.letter_post.specs.Truth.{Says}
use Rattle.pup_state.specs.declared.piece.Piece.{Piece}
use Rattle.node_core.specs.Keeps.{HearsKeep, Keeps, KeepsOn, OrdersRest, PacksKeep, RunsKeep, StartsKeep}
use Rattle.node_core.specs.Nodes.{Body, Outcome, objects_of}
use Rattle.conductor_core.specs.Conductors.{ConductorState}
use Rattle.conductor_core.specs.Tells.{DidTell, HearsTell, StartsTell}
use Rattle.world_core.specs.declared.doing.Since.{Since}
use Rattle.world_core.specs.Sound.{AllTrue, IsBounded, IsSince, SlotSound, Stays, fresh_of, last_sent}
use Rattle.world_core.specs.Worlds.{Acted, Setting, SlotState, acted, doing_of, renewed, seats_of, stand}
use Rattle.world_core.proofs.Unordered.{NoOrders}

-- what is known of nodes, of the conductor, of the agreement and of letters
pub record Known : Type 0 where
  pub starts : StartsKeep
  pub runs : RunsKeep
  pub packs : PacksKeep
  pub hears : HearsKeep
  pub rest : OrdersRest
  pub opens : StartsTell
  pub tells : HearsTell
  pub did : DidTell
  pub begins : StartIsCut
  pub keeps : MovesKeep
  pub each : EachSlotMoves
  pub others : OthersStand
  pub stays : SlotsLeaveTheRound
  pub notes : NotesLeaveTheRound
  pub counted : RoundsAreCounted
  pub one : ChainsTakeOne
  pub all : ChainsTakeAll
  pub mail : MailFollows

-- ---- a place, by how it stands

-- it begins nothing from an iteration on until it is released
pub record StaysAt (k : ℕ) (t : Standing) : Type 0 where
  pub held : t.free ≡ false
  pub top : t.top ≤ k
  pub seen : (t.cap ≡ None) ⊎ SawAgreed k t.seen

-- a node beside such a place
pub record Beside (t : Standing) (back : Option ℕ) (since : Since) (body : Option Body) : Type 0 where
  pub bounded : IsBounded t.top back (objects_of body)
  pub packed : IfSome (fresh_of body) (λ (piece : Piece). StaysAt piece.iteration t)
  pub orders : IsSince since (fresh_of body)

-- a slot beside it, but for the orders on their way
pub record Stands (s : Setting) (round : Round) (t : Standing) (x : SlotState) : Type 0 where
  pub keeps : Keeps s.plan s.script s.place x.node
  pub letters : AllTrue s (boxes.Slot x.node.slot) x.box
  pub beside : Beside t x.back x.since x.node.body
  pub seats : x.seats ≡ seats_of s.plan t.top x.node
  pub current : x.doing ≡ doing_of s.plan round t x.node x.box x.back x.since

pub if_to : {A : Type 0} (P Q : A → Type 0) (o : Option A) → ((x : A) → P x → Q x) → IfSome o P → IfSome o Q
if_to P Q None to h = tt
if_to P Q (Some x) to h = to x h

stays_at : (k : ℕ) (slot : Slot) → Stays k slot → StaysAt k (standing_of slot)
stays_at k slot h = record { held = h.held; top = h.top; seen = h.seen }

stays_of : (k : ℕ) (slot : Slot) → StaysAt k (standing_of slot) → Stays k slot
stays_of k slot h = record { held = h.held; top = h.top; seen = h.seen }

module _ (s : Setting) (cut : CutState) (c : ConductorState) (x : SlotState) where
  abbrev here : Slot
  here = slot_of cut x.node.slot

  pub stands_so : SlotSound s cut c x → Stands s cut.round (stand cut x.node.slot) x
  stands_so h = record {
    keeps = h.keeps;
    letters = h.letters;
    beside = record {
      bounded = h.bounded;
      packed = if_to (λ (piece : Piece). Stays piece.iteration here) (λ (piece : Piece). StaysAt piece.iteration (standing_of here)) (fresh_of x.node.body) (λ piece h. stays_at piece.iteration here h) h.packed;
      orders = h.since;
    };
    seats = h.seats;
    current = h.current;
  }

  pub sound_so : Stands s cut.round (stand cut x.node.slot) x → Chain s.plan s.script x.node.last x.box (last_sent c x.node.slot.replica) → SlotSound s cut c x
  sound_so h chain = record {
    keeps = h.keeps;
    letters = h.letters;
    chain = chain;
    bounded = h.beside.bounded;
    packed = if_to (λ (piece : Piece). StaysAt piece.iteration (standing_of here)) (λ (piece : Piece). Stays piece.iteration here) (fresh_of x.node.body) (λ piece h. stays_of piece.iteration here h) h.beside.packed;
    since = h.beside.orders;
    seats = h.seats;
    current = h.current;
  }

-- ---- a slot after an event of its own

-- what such an event makes of the agreement: it holds, and stands otherwise for this slot alone
pub record Shift (cut : CutState) (slot : SlotId) (new : CutState) : Type 0 where
  pub holds : IsCut new
  pub nodes : new.nodes ≡ cut.nodes
  pub round : new.round ≡ cut.round
  pub others : (other : SlotId) → HasSlot cut other → (other ≡ slot → ⊥) → stand new other ≡ stand cut other

pub record Well (s : Setting) (cut : CutState) (x : SlotState) (end : LastOrder) (a : Acted) : Type 0 where
  pub name : a.slot.node.slot ≡ x.node.slot
  pub stands : Stands s a.cut.round (stand a.cut x.node.slot) a.slot
  pub chain : Chain s.plan s.script a.slot.node.last a.slot.box end
  pub says : AllByRecursion (Says s.plan s.script s.place) a.out
  pub mail : NoOrders a.out
  pub shift : Shift cut x.node.slot a.cut

pub same_cut : (cut : CutState) (slot : SlotId) → IsCut cut → Shift cut slot cut
same_cut cut slot holds = record { holds = holds; nodes = refl; round = refl; others = λ other has apart. refl }

module _ (s : Setting) (cut : CutState) (x : SlotState) (end order : LastOrder) where
  -- nothing happened
  pub still_well : IsCut cut → Stands s cut.round (stand cut x.node.slot) x → Chain s.plan s.script x.node.last x.box end → Well s cut x end (record { slot = x; cut = cut; out = [] })
  still_well holds stands chain = record { name = refl; stands = stands; chain = chain; says = tt; mail = tt; shift = same_cut cut x.node.slot holds }

  -- its node is another, beside this place in this agreement
  pub acted_well : (new : CutState) (o : Outcome) (box : List Letter) (back : Option ℕ) (since : Since) →
      KeepsOn s.plan s.script s.place x.node order o → NoOrders o.out → AllTrue s (boxes.Slot x.node.slot) box → Beside (stand new x.node.slot) back since o.node.body →
      Chain s.plan s.script order box end → Shift cut x.node.slot new → Well s cut x end (acted s.plan new o box back since)
  acted_well new o box back since on none letters beside chain shift = record {
    name = on.slot;
    stands = subst (λ name. Stands s new.round (stand new name) (renewed s.plan new o.node box back since)) on.slot
        (record {
          keeps = on.keeps;
          letters = subst (λ name. AllTrue s (boxes.Slot name) box) (sym on.slot) letters;
          beside = subst (λ name. Beside (stand new name) back since o.node.body) (sym on.slot) beside;
          seats = refl;
          current = refl;
        });
    chain = subst (λ last. Chain s.plan s.script last box end) (sym on.last) chain;
    says = on.says;
    mail = none;
    shift = shift;
  }

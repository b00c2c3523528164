-- No element begins the agreed iteration.
use Rattle.std.proofs.Common.{◌≡◌, ℕ, ◌≤◌, List, [], ◌∷◌, refl, arith, subst, Some, None}
use Rattle.std.specs.Prelude.{slice_get}
use Rattle.std.specs.List.{AllByRecursion}
use Rattle.chare_base.specs.declared.options.Options.{Options}
use Rattle.chare_base.specs.Elements.{elements}
use Rattle.chare_base.proofs.Blocks.{blocks_count, blocks_cover}
use Rattle.iteration_agree.specs.Cuts.{HasSlot, slot_of}
use Rattle.iteration_agree.specs.Laws.{TopsStayBelow}
use Rattle.iteration_agree.specs.declared.round.Round.TheVariants.{Agreed}
use Rattle.node_core.specs.Nodes.{objects_of}
use Rattle.node_core.proofs.Lists.{all_by}
use Rattle.object_steps.specs.Objects.{Progress}
use Rattle.world_core.specs.Drills.{DrillsWait, drill_setting}
use Rattle.world_core.specs.Sound.{EveryWorldIsSound, EveryWorldWaits, IsBounded, IsOn, NoneBegun, SlotSound, Sound, begun_of}
use Rattle.world_core.specs.Worlds.{Setting, SlotState, WorldState, opening_chooser, opening_world, picked, reached}
use Rattle.world_core.proofs.Lists.{all_got}
use Rattle.world_core.proofs.Mailing.{IsNamed, place_is}

at_most : (m k : ℕ) (all : List Progress) → m ≤ k → AllByRecursion (λ o. begun_of o ≤ m) all → AllByRecursion (λ o. begun_of o ≤ k) all
at_most m k [] below h = tt
at_most m k (o ∷ more) below h = let first = h.0 in let here : begun_of o ≤ k = omega (arith, first, below) in (here, at_most m k more below h.1)

none_begun : TopsStayBelow → (s : Setting) (o : Options) (w : WorldState) → Sound s o w → NoneBegun w
none_begun tops s o w sound = λ r k agreed. all_by (Waits r k) w.posts.slots (at r k agreed)
  where
    Waits : ℕ → ℕ → SlotState → Type 0
    Waits r k x = IsOn w.cut x → AllByRecursion (λ o. begun_of o ≤ k) (objects_of x.node.body)

    at : (r k : ℕ) → w.cut.round ≡ Agreed r k → (i : ℕ) (x : SlotState) → slice_get w.posts.slots i ≡ Some x → IsOn w.cut x → AllByRecursion (λ o. begun_of o ≤ k) (objects_of x.node.body)
    at r k agreed i x there on =
        let h : SlotSound s w.cut w.conductor x = all_got (SlotSound s w.cut w.conductor) w.posts.slots i x sound.slots there in
        let named : IsNamed s.nodes i x.node.slot = place_is s.nodes w.posts.slots sound.names i x there in
        let few = named.node in
        let nodes = sound.nodes in
        let has : HasSlot w.cut x.node.slot = (named.replica, omega (arith, few, nodes)) in
        let below = tops w.cut r k x.node.slot sound.agreement (record { has = has; agreed = agreed; part = on.part }) in
        let bounded : IsBounded (slot_of w.cut x.node.slot).top None (objects_of x.node.body) = subst (λ back. IsBounded (slot_of w.cut x.node.slot).top back (objects_of x.node.body)) on.back h.bounded in
        at_most (slot_of w.cut x.node.slot).top k (objects_of x.node.body) below bounded

pub every_world_waits : EveryWorldIsSound → TopsStayBelow → EveryWorldWaits
every_world_waits all_sound tops s o all placed is = none_begun tops s o (reached s (opening_world s o) all) (all_sound s o all placed is)

pub drills_wait : EveryWorldWaits → DrillsWait
drills_wait waits p script o schedule turns some few bounded =
    let s : Setting = drill_setting p script o in
    waits s o (picked s turns (opening_chooser s.nodes schedule) (opening_world s o)) (record { count = blocks_count (elements p) o.nodes; covers = blocks_cover (elements p) o.nodes some few })
    (record { nodes = refl; few = bounded })

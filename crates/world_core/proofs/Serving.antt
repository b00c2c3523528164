-- What the calls of a world ask holds of each that is sound.
use Rattle.std.proofs.Common.{◌≡◌, ℕ, List, [], ◌∷◌, refl, ap, ◌∙◌, arith, subst, Some}
use Rattle.std.specs.Prelude.{slice_get}
use Rattle.chare_base.specs.declared.plan.Plan.{Plan}
use Rattle.letter_post.specs.declared.letter.Letter.{Letter}
use Rattle.letter_post.specs.declared.order.LastOrder.{LastOrder}
use Rattle.letter_post.specs.Orders.{Chain}
use Rattle.node_core.specs.Keeps.{KeepsFits}
use Rattle.node_core.specs.Rosters.{Roster, roster_of}
use Rattle.node_core.proofs.Lists.{all_by}
use Rattle.conductor_core.specs.Conductors.{IsOf}
use Rattle.world_core.specs.Sound.{FirstFollows, Served, SlotSound, SoundServes}
use Rattle.world_core.specs.Worlds.{Setting, SlotState, stand}
use Rattle.world_core.proofs.Acting.{stands_capped}
use Rattle.world_core.proofs.Lists.{all_got}
use Rattle.world_core.proofs.Mailing.{IsNamed, place_is}
use Rattle.world_core.proofs.Sides.{stands_so}

first_follows : (s : Setting) (last end : LastOrder) (box : List Letter) → Chain s.plan s.script last box end → FirstFollows s last box
first_follows s last end [] chain = tt
first_follows s last end (letter ∷ more) chain = chain.0

roster_runs : (p : Plan) (place : List ℕ) (j : ℕ) → (roster_of p place j).iterations ≡ p.iterations
unfolding roster_of
roster_runs p place j = refl

pub sound_serves : KeepsFits → SoundServes
sound_serves fits s o w is sound = record {
  slots = all_by (Served s w.cut) w.posts.slots serves;
  conductor = subst (λ n. IsOf n w.conductor) is.nodes sound.conductor.sized;
  agreement = sound.agreement;
  nodes = sound.nodes;
}
  where
    serves : (i : ℕ) (x : SlotState) → slice_get w.posts.slots i ≡ Some x → Served s w.cut x
    serves i x there =
        let h : SlotSound s w.cut w.conductor x = all_got (SlotSound s w.cut w.conductor) w.posts.slots i x sound.slots there in
        let named : IsNamed s.nodes i x.node.slot = place_is s.nodes w.posts.slots sound.names i x there in
        let few = named.node in
        let nodes = sound.nodes in
        record {
          fresh = record {
            renews = record {
              fits = fits s.plan s.script s.place x.node h.keeps;
              roster = ap (λ (r : Roster). r.iterations) h.keeps.roster.is ∙ roster_runs s.plan s.place x.node.slot.node;
              slot = (named.replica, omega (arith, few, nodes));
            };
            seats = h.seats;
            current = h.current;
          };
          keeps = h.keeps;
          capped = stands_capped (stand w.cut x.node.slot) x.back x.since x.node (stands_so s w.cut w.conductor x h).beside;
          letters = h.letters;
          follows = first_follows s x.node.last _ x.box h.chain;
        }

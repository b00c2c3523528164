-- What a drill's calls ask follows from what holds of each world that it reaches.
use Rattle.std.proofs.Common.{◌≡◌, ◌≤◌, List, [], ◌∷◌, sym, arith}
use Rattle.std.specs.List.{AllByRecursion}
use Rattle.chare_base.specs.declared.options.Options.{Options}
use Rattle.world_core.specs.Sound.{IsFor, Serves}
use Rattle.world_core.specs.Steps.{Fresh, Renews}
use Rattle.world_core.specs.Worlds.{Setting, SlotState, WorldState}

pub for_options : (s : Setting) (o : Options) → s.nodes ≡ o.nodes → o.nodes ≤ 32 → IsFor s o
for_options s o same few = let small : s.nodes ≤ 32 = omega (arith, same, few) in record { nodes = sym same; few = small }

pub all_to : {P Q : SlotState → Type 0} (xs : List SlotState) → ((x : SlotState) → P x → Q x) → AllByRecursion P xs → AllByRecursion Q xs
all_to [] to h = tt
all_to (x ∷ xs) to h = (to x h.0, all_to xs to h.1)

pub all_fresh : (s : Setting) (w : WorldState) → Serves s w → AllByRecursion (Fresh s.plan w.cut) w.posts.slots
all_fresh s w serves = all_to w.posts.slots (λ x is. is.fresh) serves.slots

pub all_renew : (s : Setting) (w : WorldState) → Serves s w → AllByRecursion (Renews s.plan w.cut) w.posts.slots
all_renew s w serves = all_to w.posts.slots (λ x is. is.fresh.renews) serves.slots

use Rattle.std.proofs.Common.{◌≡◌, []}
use Rattle.world_core.specs.Sound.{Sound}
use Rattle.world_core.specs.Worlds.{Setting, picked, reached}
use Rattle.world_core.proofs.drill.go.Given as goal

abbrev pub invariant-loop-left : goal.invariant-loop-left
invariant-loop-left g l =
    let s : Setting = l.setting in
    record {
      told : reached s l.world (picked s l.left l.chooser l.world) ≡ reached s l.fn.world (picked s l.fn.turns l.fn.chooser l.fn.world);
      sound : Sound s l.fn.options l.world;
      empty : l.out ≡ [];
    }

abbrev pub decreases-loop-left : goal.decreases-loop-left
decreases-loop-left g l = l.left

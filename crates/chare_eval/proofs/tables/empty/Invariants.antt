use Rattle.std.proofs.Common.{◌≡◌, ◌++◌, [], drop, map, take}
use Rattle.chare_eval.proofs.tables.empty.Given as goal

abbrev pub invariant-loop-i : goal.invariant-loop-i
invariant-loop-i l = take l.i l.boxes ++ map (λ box. []) (drop l.i l.boxes) ≡ map (λ box. []) l.fn.boxes

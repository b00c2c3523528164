-- The rules that a plan's type keeps.
use Rattle.std.specs.Prelude.{ℕ, Bool, ◌&&◌, List}
use Rattle.chare_base.specs.declared.plan.Answer.{Answer}
use Rattle.chare_base.specs.declared.plan.Array.{Array}
use Rattle.chare_base.specs.declared.plan.Entry.{Entry}
use Rattle.chare_base.specs.declared.plan.Reduction.{Reduction}
use Rattle.chare_base.specs.Limits.{limits_hold}
use Rattle.chare_base.specs.Layout.{layout_holds}
use Rattle.chare_base.specs.Ranges.{ranges_hold}
use Rattle.chare_base.specs.Names.{names_hold}
use Rattle.chare_base.specs.Ports.{ports_hold}
use Rattle.chare_base.specs.Costs.{costs_hold}
use Rattle.chare_base.specs.Overlap.{overlaps_hold}

unfoldable pub rules_hold : List ℕ → ℕ → List Array → List Entry → List Reduction → List Answer → Bool
rules_hold name iterations arrays entries reductions answers =
    limits_hold name iterations arrays entries reductions answers && layout_holds arrays && ranges_hold arrays entries reductions answers
    && names_hold arrays entries reductions && ports_hold arrays entries reductions && costs_hold arrays && overlaps_hold arrays

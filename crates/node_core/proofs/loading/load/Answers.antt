use Rattle.std.proofs.Common.{ℕ, ◌<◌, List, length, arith, ap, sym, ◌∙◌, subst}
use Rattle.std.specs.List.{AllByRecursion}
use Rattle.chare_base.specs.Elements.{elements}
use Rattle.node_core.proofs.Loaded.{none_loaded}
use Rattle.node_core.proofs.Starting.{members_within}
use Rattle.node_core.proofs.loading.load.Goals as goal

pub returns-then-bytes-ge-TOO_MANY-clause-exact : goal.returns-then-bytes-ge-TOO_MANY-clause-exact
returns-then-bytes-ge-TOO_MANY-clause-exact g c =
    none_loaded c.args.plan.now (g.M.Placement.place c.args.map.now) c.args.piece.now.node c.args.piece.now.iteration c.args.piece.now.bytes c.requires
    (omega (arith, c.if-bytes-ge-TOO_MANY.true, ap length c.as_slice-bytes.ensures))

pub load_all-requires-clause-there : goal.load_all-requires-clause-there
load_all-requires-clause-there g c =
    let P : List ℕ → Type 0 = λ xs. AllByRecursion (λ e. e < elements c.args.plan.now) xs in
    subst P (sym (c.as_slice.ensures.value ∙ c.in_ok-members.ensures.exact))
    (members_within (elements c.args.plan.now) 0 (g.M.Placement.place c.args.map.now) c.args.piece.now.node (omega (arith, c.requires)))

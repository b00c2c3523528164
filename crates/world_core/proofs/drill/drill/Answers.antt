use Rattle.std.proofs.Common.{◌∙◌}
use Rattle.chare_base.proofs.Blocks.{blocks_count}
use Rattle.fault_script.specs.Lines.{faults_of}
use Rattle.chare_base.specs.Placing.{block_nodes}
use Rattle.world_core.proofs.drill.drill.Goals as goal

pub run-requires-clause-place : goal.run-requires-clause-place
run-requires-clause-place c = blocks_count c.elements.result c.args.options.now.nodes ∙ c.elements.ensures.exact

pub returns-in-Some-clause-lawful : goal.returns-in-Some-clause-lawful
returns-in-Some-clause-lawful c =
    c.conductors_tell.ensures.ends c.args.plan.now (faults_of c.args.script.now) c.args.options.now (block_nodes c.elements.result c.args.options.now.nodes) c.in_ok-world.world.conductor c.in-Some.ending
    c.in_ok-world.ensures.sound.conductor c.in-Some.ensures.outcome c.in-Some.ensures.records c.in-Some.ensures.marks c.in-Some.ensures.last

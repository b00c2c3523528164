use Rattle.std.proofs.Common.{rules}
use Rattle.top_call.proofs.Plans.{due_drill}
use Rattle.top_call.proofs.answer.answer_to_drill.Goals as goal

pub returns : goal.returns
returns c =
    due_drill c.args.options c.args.schedule c.args.input.now c.split.result.0.now c.split.result.1.now (search rules) c.split.ensures.job c.split.ensures.script
    c.answer_to_texts.result c.answer_to_texts.ensures

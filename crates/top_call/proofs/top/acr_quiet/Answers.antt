use Rattle.std.proofs.Common.{codes, refl, ap, sym, ◌∙◌, Result, Err}
use Rattle.chare_base.specs.declared.bytes.Bytes.{Bytes}
use Rattle.outside_io.specs.declared.edge.ReadFault.{ReadFault}
use Rattle.top_call.proofs.Tops.{answered, due_of, failed_of, usage}
use Rattle.top_call.proofs.top.acr_quiet.Goals as goal
use Rattle.top_call.specs.declared.status.Status.TheVariants.{Read, Usage}

abbrev failed : ReadFault → Result Bytes ReadFault
failed f = Err f

pub returns-in_default-clause-answer : goal.returns-in_default-clause-answer
returns-in_default-clause-answer g c =
    answered c.args.words.now (g.S.Source.left c.args.source.now) (g.S.Source.left c.args.source.now) (g.S.Source.faults c.args.source.now) (g.S.Source.faults c.args.source.now)
    (g.K.Sink.given c.args.sink.now) (g.K.Sink.given c.written.new.sink) (g.K.Sink.faults c.args.sink.now) (g.K.Sink.faults c.written.new.sink)
    (codes "usage\n") Usage c.written.result
    (usage c.args.words.now (g.S.Source.left c.args.source.now) (g.S.Source.faults c.args.source.now) (sym c.command_of.ensures.exact ∙ c.in_default.is))
    c.written.ensures

pub returns-in-Err-Failed-clause-answer : goal.returns-in-Err-Failed-clause-answer
returns-in-Err-Failed-clause-answer g c =
    answered c.args.words.now (g.S.Source.left c.args.source.now) (g.S.Source.left c.read_up_to.new.source) (g.S.Source.faults c.args.source.now) (g.S.Source.faults c.read_up_to.new.source)
    (g.K.Sink.given c.args.sink.now) (g.K.Sink.given c.written-in-Err-Failed.new.sink) (g.K.Sink.faults c.args.sink.now) (g.K.Sink.faults c.written-in-Err-Failed.new.sink)
    (codes "read\n") Read c.written-in-Err-Failed.result
    (failed_of c.args.words.now (g.S.Source.left c.args.source.now) (g.S.Source.left c.read_up_to.new.source) (g.S.Source.faults c.args.source.now) (g.S.Source.faults c.read_up_to.new.source)
    (g.K.Sink.given c.args.sink.now) (g.K.Sink.given c.written-in-Err-Failed.new.sink) (g.K.Sink.faults c.args.sink.now) (g.K.Sink.faults c.written-in-Err-Failed.new.sink)
    (codes "read\n") c.in-Some.command (sym c.in-Some.ensures.exact)
    (c.in-Err-Failed.ensures.cause (ap failed c.in-Err-Failed.field-0-is), c.in-Err-Failed.ensures.part, refl))
    c.written-in-Err-Failed.ensures

pub returns-in-Ok-answer_to-clause-answer : goal.returns-in-Ok-answer_to-clause-answer
returns-in-Ok-answer_to-clause-answer g c =
    answered c.args.words.now (g.S.Source.left c.args.source.now) (g.S.Source.left c.read_up_to.new.source) (g.S.Source.faults c.args.source.now) (g.S.Source.faults c.read_up_to.new.source)
    (g.K.Sink.given c.args.sink.now) (g.K.Sink.given c.written-in-Ok-answer_to.new.sink) (g.K.Sink.faults c.args.sink.now) (g.K.Sink.faults c.written-in-Ok-answer_to.new.sink)
    c.as_slice-in-Ok-answer_to.result.now c.in-Ok-answer_to.field-0.status c.written-in-Ok-answer_to.result
    (due_of c.args.words.now (g.S.Source.left c.args.source.now) (g.S.Source.left c.read_up_to.new.source) (g.S.Source.faults c.args.source.now) (g.S.Source.faults c.read_up_to.new.source)
    (g.K.Sink.given c.args.sink.now) (g.K.Sink.given c.written-in-Ok-answer_to.new.sink) (g.K.Sink.faults c.args.sink.now) (g.K.Sink.faults c.written-in-Ok-answer_to.new.sink)
    c.as_slice-in-Ok-answer_to.result.now c.in-Some.command c.in-Ok.input c.as_slice.result.now c.in-Ok-answer_to.field-0.text c.in-Ok-answer_to.field-0.status
    (sym c.in-Some.ensures.exact)
    (record { taken = c.in-Ok.ensures.bytes; most = c.in-Ok.ensures.bound; end = c.in-Ok.ensures.end })
    c.as_slice.ensures c.as_slice-in-Ok-answer_to.ensures c.in-Ok-answer_to.ensures)
    c.written-in-Ok-answer_to.ensures

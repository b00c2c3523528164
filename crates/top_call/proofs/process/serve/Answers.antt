use Rattle.top_call.specs.Due.{Ends}
use Rattle.top_call.proofs.Tops.{no_words}
use Rattle.top_call.proofs.process.serve.Goals as goal

pub returns-in-Err : goal.returns-in-Err
returns-in-Err g c =
    no_words c.args.words c.in-Err.fault
    (λ list. Ends list.items (g.S.Source.left c.args.source.now) (g.S.Source.left c.args.source.now) (g.S.Source.faults c.args.source.now) (g.S.Source.faults c.args.source.now)
    (g.K.Sink.given c.args.sink.now) (g.K.Sink.given c.args.sink.now) (g.K.Sink.faults c.args.sink.now) (g.K.Sink.faults c.args.sink.now) c.exit_code-in-Err.result)
    (g.S.Source.left c.args.source.now) (g.S.Source.faults c.args.source.now) (g.K.Sink.given c.args.sink.now) (g.K.Sink.faults c.args.sink.now) c.exit_code-in-Err.result
    c.in-Err.is c.exit_code-in-Err.ensures

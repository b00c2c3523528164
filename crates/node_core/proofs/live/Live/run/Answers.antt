use Rattle.fault_script.specs.Lines.{faults_of}
use Rattle.letter_post.specs.Stamps.{lines_of}
use Rattle.node_core.specs.Nodes.{Body}
use Rattle.node_core.proofs.Bodies.{ran_on}
use Rattle.node_core.proofs.live.Live.run.Goals as goal

pub returns-clause-told : goal.returns-clause-told
returns-clause-told g c =
    let inside : Body = record {
      objects = c.self.inside.objects.items;
      gatherings = c.self.inside.gatherings.items;
      totals = c.self.inside.totals.items;
      base = c.self.inside.base;
      fresh = c.self.inside.fresh;
      other = c.self.inside.other;
      live = c.self.inside.live;
      loan = c.self.inside.loan;
      waits = c.self.inside.waits;
    } in
    ran_on c.args.context.now.plan.now (lines_of (faults_of c.args.context.now.script.now) c.args.here.now.stamp) (g.M.Placement.place c.args.context.now.map.now) c.args.limit c.args.e.0 c.args.here.now.slot c.args.here.now.stamp c.args.here.now.roster.now inside c.args.self.now
    c.seat-seat.result _ c.self.view_is c.if-self.false c.seat-seat.ensures (c.in_ok-kind.ensures.told inside)

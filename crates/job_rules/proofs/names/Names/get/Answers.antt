use Rattle.std.proofs.Common.{ap, sym, ◌∙◌}
use Rattle.job_rules.specs.Names.{lookup}
use Rattle.job_rules.proofs.Naming.{lookup_known}
use Rattle.job_rules.proofs.names.Names.get.Goals as goal

pub returns : goal.returns
returns c =
    c.copied.ensures ∙ c.get.ensures.value ∙ sym (lookup_known c.args.name.now c.self.inside.map.entries)
    ∙ ap (λ n. lookup n c.args.name.now) c.self.view_is

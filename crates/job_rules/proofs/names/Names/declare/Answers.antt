use Rattle.std.proofs.Common.{◌≡◌, true, ap, sym, ◌∙◌}
use Rattle.std.specs.Prelude.{is_none, not}
use Rattle.job_rules.specs.Names.{lookup}
use Rattle.job_rules.proofs.Naming.{known_declare}
use Rattle.job_rules.proofs.names.Names.declare.Goals as goal

pub returns-in_ok-insert-clause-ok : goal.returns-in_ok-insert-clause-ok
returns-in_ok-insert-clause-ok c =
    let fresh : is_none (lookup c.args.self.now c.args.name.now) ≡ true = sym (ap is_none c.get.ensures) ∙ ap not c.is_none.ensures ∙ ap (λ b. not (not b)) c.if-is_none.true in
    known_declare c.args.self.now c.args.name.now c.in_ok-name.name c.args.meaning c.self.inside.map.entries c.insert.new.self.entries
    c.self.view_is c.in_ok-name.ensures.items fresh c.in_ok-insert.ensures.entries

use Rattle.std.proofs.Common.{◌∙◌}
use Rattle.chare_checker.specs.Gathered.{fields_in}
use Rattle.chare_checker.proofs.Checks.{Seen, broken, kept, plan_is, sound}
use Rattle.chare_checker.proofs.check.check.Goals as goal

pub returns-in-Some : goal.returns-in-Some
returns-in-Some c =
    broken c.args.ast.now.text c.as_slice-text.result.now c.args.ast.now.job c.in_ok-names.names c.in_ok-fault.field-0 c.in-Some.fault
    (c.as_slice-text.ensures, c.in_ok-names.ensures, c.in_ok-fault.ensures) c.in-Some.is

pub sealed-requires : goal.sealed-requires
sealed-requires c =
    let seen : Seen c.args.ast.now.text c.as_slice-text.result.now c.args.ast.now.job c.in_ok-names.names c.in_ok-fault.field-0 = (c.as_slice-text.ensures, c.in_ok-names.ensures, c.in_ok-fault.ensures) in
    kept c.args.ast.now.text c.as_slice-text.result.now c.args.ast.now.job c.in_ok-names.names c.in_ok-fault.field-0 (fields_in c.in_ok-plan_job-in-None.field-0)
    c.unbroken_is_sealed.ensures seen c.in-None.is c.in_ok-plan_job-in-None.ensures c.args.ast.now.shallow c.args.ast.now.named c.args.ast.now.filled

pub returns : goal.returns
returns c =
    let seen : Seen c.args.ast.now.text c.as_slice-text.result.now c.args.ast.now.job c.in_ok-names.names c.in_ok-fault.field-0 = (c.as_slice-text.ensures, c.in_ok-names.ensures, c.in_ok-fault.ensures) in (
      sound c.args.ast.now.text c.as_slice-text.result.now c.args.ast.now.job c.in_ok-names.names c.in_ok-fault.field-0 seen c.in-None.is,
      c.sealed.ensures ∙ plan_is c.args.ast.now.text c.as_slice-text.result.now c.args.ast.now.job c.in_ok-names.names c.in_ok-fault.field-0 (fields_in c.in_ok-plan_job-in-None.field-0) seen c.in_ok-plan_job-in-None.ensures,
    )

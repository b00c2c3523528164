use Rattle.std.proofs.Common.{◌≡◌, length, ap, sym, ◌∙◌, arith, Ok}
use Rattle.std.proofs.lemmas.Result.{err_from_is_err_and}
use Rattle.std.specs.Str.Lines.{lines}
use Rattle.fault_script.specs.Reading.{script_of}
use Rattle.fault_script.proofs.Continuing.{read_end, read_fault, read_from, read_next, read_whole}
use Rattle.fault_script.proofs.reading.read_script.Goals as goal

pub lines-init : goal.lines-init
lines-init c = record {
  told = ap (λ kept. read_from c.args.plan.now c.args.nodes 1 kept (lines c.args.bytes.now)) c.in_ok-lines.ensures.items ∙ read_whole c.args.plan.now c.args.nodes c.args.bytes.now;
  few = let none : length c.in_ok-lines.lines.items ≡ 0 = ap length c.in_ok-lines.ensures.items in omega arith;
  numbered = omega arith;
}

pub lines-preserved : goal.lines-preserved
lines-preserved c = record {
  told = read_next c.args.plan.now c.args.nodes c.lines.number c.lines.lines.items c.add_line.new.lines.items c.in-Some.line.now (lines c.lines.rest.now) (lines c.in-Some.more.now)
      (script_of c.args.plan.now c.args.nodes c.args.bytes.now) c.in-Some.ensures.exact c.in_ok-add_line.ensures.exact c.lines.invariant.told;
  few = c.add_line.ensures.few;
  numbered = omega (arith, c.in-Some.ensures.shorter);
}

pub returns-in_err-add_line : goal.returns-in_err-add_line
returns-in_err-add_line c =
    let p = err_from_is_err_and c.from_residual-in_err-add_line.result c.from_residual-in_err-add_line.ensures.1 in
    rw (p.1, p.2)
    (read_fault c.args.plan.now c.args.nodes c.lines.number c.lines.lines.items c.add_line.new.lines.items c.in-Some.line.now (lines c.lines.rest.now) (lines c.in-Some.more.now)
    (script_of c.args.plan.now c.args.nodes c.args.bytes.now) c.in_err-add_line.field-0.0 c.in-Some.ensures.exact c.in_err-add_line.ensures.exact c.lines.invariant.told)

pub returns : goal.returns
returns c =
    read_end c.args.plan.now c.args.nodes c.lines.number c.lines.lines.items (lines c.lines.rest.now) (script_of c.args.plan.now c.args.nodes c.args.bytes.now) c.in_default.ensures.exact c.lines.invariant.told
    ∙ ap (λ l. Ok l) (sym c.from_vec.ensures)

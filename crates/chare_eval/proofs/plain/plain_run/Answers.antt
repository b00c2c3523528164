use Rattle.std.proofs.Common.{◌≡◌, ◌∙◌, List, [], length, rules, subst, sym}
use Rattle.chare_base.specs.declared.cells.Cells.{Cells}
use Rattle.chare_base.specs.Shape.{Shaped}
use Rattle.chare_eval.specs.Opening.{opening}
use Rattle.chare_eval.specs.Tables.{tables_of}
use Rattle.chare_eval.proofs.Sorting.{plain_told, written_back}
use Rattle.chare_eval.proofs.Starts.{opening_len}
use Rattle.chare_eval.proofs.plain.plain_run.Goals as goal

pub run_rounds-requires : goal.run_rounds-requires
run_rounds-requires c = search (rules, opening_len)

pub returns-clause-states : goal.returns-clause-states
returns-clause-states c =
    let opened : c.as_mut_slice.result.now ≡ opening c.args.plan.now = search rules in
    let count : length c.run_rounds.new.all ≡ c.in_ok-all.all.len = search rules in
    c.from_vec.ensures ∙ written_back c.in_ok-all.all.len c.run_rounds.new.all c.in_ok-all.all.items count
    ∙ plain_told c.args.plan.now c.as_mut_slice.result.now c.run_rounds.new.all (tables_of c.in_ok-mail.mail) (tables_of c.run_rounds.new.mail) opened c.in_ok-mail.ensures c.in_ok-run_rounds.ensures

pub returns-clause-shape : goal.returns-clause-shape
returns-clause-shape c =
    let P : List Cells → Type 0 = λ all. Shaped c.args.plan.now all in
    let opened : c.as_mut_slice.result.now ≡ opening c.args.plan.now = search rules in
    let count : length c.run_rounds.new.all ≡ c.in_ok-all.all.len = search rules in
    subst P
    (sym (c.from_vec.ensures ∙ written_back c.in_ok-all.all.len c.run_rounds.new.all c.in_ok-all.all.items count
    ∙ plain_told c.args.plan.now c.as_mut_slice.result.now c.run_rounds.new.all (tables_of c.in_ok-mail.mail) (tables_of c.run_rounds.new.mail) opened c.in_ok-mail.ensures c.in_ok-run_rounds.ensures))
    (c.fold_is_shaped.ensures c.args.plan.now [] c.args.plan.now.iterations)

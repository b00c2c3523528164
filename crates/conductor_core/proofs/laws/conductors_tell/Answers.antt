use Rattle.conductor_core.proofs.Hearing.{hears_tell, starts_tell}
use Rattle.conductor_core.proofs.Settling.{Grounds}
use Rattle.conductor_core.proofs.Telling.{did_tell, ends_tell}
use Rattle.conductor_core.proofs.laws.conductors_tell.Goals as goal

pub returns-clause-starts : goal.returns-clause-starts
returns-clause-starts c = starts_tell c.ledgers_stay_tidy.ensures.tidy c.ledgers_stay_tidy.ensures.faults

pub returns-clause-hears : goal.returns-clause-hears
returns-clause-hears c = hears_tell

pub returns-clause-did : goal.returns-clause-did
returns-clause-did c =
    let grounds : Grounds = record {
      earlier = c.earlier_flips_decide.ensures;
      shaped = c.fold_is_shaped.ensures;
      equal = c.verdicts_tell.ensures.equal;
      least = c.verdicts_tell.ensures.differ;
      make = c.pieces_make_the_checkpoint.ensures;
      folds = c.equal_checkpoints_are_of_equal_folds.ensures;
      sets = c.lineages_follow.ensures.sets;
      differs = c.lineages_follow.ensures.differs;
      accepts = c.lineages_follow.ensures.accepts;
      made = c.lineages_follow.ensures.made;
      tidies = c.ledgers_stay_tidy.ensures.tidy;
      faults = c.ledgers_stay_tidy.ensures.faults;
    } in
    did_tell grounds

pub returns-clause-ends : goal.returns-clause-ends
returns-clause-ends c = ends_tell

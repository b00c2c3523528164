use Rattle.node_core.proofs.Loads.{loads_back, loads_tell, records_load}
use Rattle.node_core.proofs.laws.pieces_load.Goals as goal

pub returns-clause-tells : goal.returns-clause-tells
returns-clause-tells c = loads_tell

pub returns-clause-records : goal.returns-clause-records
returns-clause-records c = records_load

pub returns-clause-back : goal.returns-clause-back
returns-clause-back c = loads_back c.folds_are_lawful.ensures

use Rattle.fault_script.proofs.Fitting as laws
use Rattle.fault_script.proofs.laws.scripts_fit.Goals as goal

pub returns : goal.returns
returns c = laws.scripts_fit

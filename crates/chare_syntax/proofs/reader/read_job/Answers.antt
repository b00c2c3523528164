use Rattle.job_tree.proofs.Texts.{all_found, all_shallow, all_refused, all_faulty}
use Rattle.chare_syntax.proofs.reader.read_job.Goals as goal

pub returns-clause-found : goal.returns-clause-found
returns-clause-found c = all_found c.text_of.result c.args.tokens.now c.text_of.ensures.exact

pub returns-clause-shallow : goal.returns-clause-shallow
returns-clause-shallow c = all_shallow c.text_of.result c.args.tokens.now c.text_of.ensures.exact

pub returns-clause-refused : goal.returns-clause-refused
returns-clause-refused c = all_refused c.text_of.result c.args.tokens.now c.text_of.ensures.exact

pub returns-clause-fault : goal.returns-clause-fault
returns-clause-fault c = all_faulty c.text_of.result c.args.tokens.now c.text_of.ensures.exact

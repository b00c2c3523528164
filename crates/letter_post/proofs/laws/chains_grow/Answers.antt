use Rattle.letter_post.proofs.Chains.{chains_take_all, chains_take_one, mail_follows}
use Rattle.letter_post.proofs.laws.chains_grow.Goals as goal

pub returns-clause-one : goal.returns-clause-one
returns-clause-one c = chains_take_one

pub returns-clause-all : goal.returns-clause-all
returns-clause-all c = chains_take_all

pub returns-clause-mail : goal.returns-clause-mail
returns-clause-mail c = mail_follows

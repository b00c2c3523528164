use Rattle.top_call.proofs.Splitting.{split_by_lines, whole_without}
use Rattle.top_call.proofs.laws.texts_are_split.Goals as goal

pub returns-clause-lines : goal.returns-clause-lines
returns-clause-lines c = split_by_lines

pub returns-clause-whole : goal.returns-clause-whole
returns-clause-whole c = whole_without

use Rattle.std.proofs.Common.{◌≡◌, ◌+◌, ◌++◌, length}
use Rattle.job_tree.specs.Tokens.{tokens, tokens_of}
use Rattle.chare_syntax.proofs.lexer.tokens.Given as goal

abbrev pub invariant-pieces : goal.invariant-pieces
invariant-pieces l = record {
  told : l.all.items ++ tokens_of 0 l.at l.rest ≡ tokens l.text;
  within : l.at + length l.rest ≡ length l.text;
}

abbrev pub decreases-pieces : goal.decreases-pieces
decreases-pieces l = length l.rest

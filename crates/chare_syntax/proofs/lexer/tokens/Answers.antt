use Rattle.std.proofs.Common.{sym, ◌∙◌, ◌++◌, ap, arith, length, ◌+◌}
use Rattle.job_tree.specs.Tokens.{tokens, tokens_of}
use Rattle.chare_syntax.proofs.Skips.{piece_next, piece_last, piece_none, fitting}
use Rattle.chare_syntax.proofs.lexer.tokens.Goals as goal

pub returns-in_default-2 : goal.returns-in_default-2
returns-in_default-2 c =
    piece_last c.pieces.rest.now c.pieces.at c.pieces.all.items c.add.new.all.items (tokens c.args.text.now) c.in-Some.piece (sym c.in-Some.ensures.exact)
    (sym c.in_ok-len.ensures.0 ∙ c.in_default-2.is) c.in_ok-len.ensures.1 c.pieces.invariant.told

pub pieces-preserved : goal.pieces-preserved
pieces-preserved c =
    let len = sym c.in_ok-len.ensures.0 ∙ c.in-Some-2.is in
    let fits = fitting c.in-Some.piece c.in-Some-2.len (length c.pieces.rest.now) len c.in-Some.ensures.within in
    record {
      told = ap (λ r. c.add.new.all.items ++ tokens_of 0 (c.pieces.at + c.in-Some-2.len) r) c.split_at.ensures.back
          ∙ piece_next c.pieces.rest.now c.pieces.at c.in-Some-2.len c.pieces.all.items c.add.new.all.items (tokens c.args.text.now) c.in-Some.piece
          (sym c.in-Some.ensures.exact) len c.in-Some.ensures.within c.in_ok-len.ensures.1 c.pieces.invariant.told;
      within = omega (arith, c.split_at.ensures.back_len, fits.1);
    }

pub returns : goal.returns
returns c =
    c.in_ok-push.ensures.items ∙ piece_none c.pieces.rest.now c.pieces.at c.pieces.all.items (tokens c.args.text.now) (sym c.first_piece.ensures.exact ∙ c.in_default.is) c.pieces.invariant.told

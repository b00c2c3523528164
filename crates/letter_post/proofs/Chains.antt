-- Letters that follow one another.
use Rattle.std.proofs.Common.{[], ◌∷◌, refl, ap, sym, subst}
use Rattle.letter_post.specs.Orders.{Chain, ChainsTakeAll, ChainsTakeOne, FollowsBy, MailFollows, next_by, next_order}

pub chains_take_all : ChainsTakeAll
chains_take_all p script last middle end [] more chain follows = subst (λ l. Chain p script l more end) (sym chain) follows
chains_take_all p script last middle end (x ∷ all) more chain follows = (chain.0, chains_take_all p script (next_order last x) middle end all more chain.1 follows)

pub chains_take_one : ChainsTakeOne
chains_take_one p script last end all letter chain follows = chains_take_all p script last end (next_order end letter) all (letter ∷ []) chain (follows, refl)

pub mail_follows : MailFollows
mail_follows p script last [] all = refl
mail_follows p script last (x ∷ more) all = (
  subst (FollowsBy p script last) (sym all.0) tt,
  subst (λ l. Chain p script l more last) (sym (ap (next_by last) all.0)) (mail_follows p script last more all.1),
)

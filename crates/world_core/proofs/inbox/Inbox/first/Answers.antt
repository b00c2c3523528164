use Rattle.std.proofs.Common.{◌≡◌, ◌∷◌, [], drop, subst, List}
use Rattle.std.specs.Prelude.{MatchOption}
use Rattle.letter_post.specs.declared.letter.Letter.{Letter}
use Rattle.world_core.proofs.Firsts.{first_is}
use Rattle.world_core.proofs.inbox.Inbox.first.Goals as goal

pub returns : goal.returns
returns c =
    let P : List Letter → Type 0 = λ xs. MatchOption c.front.result (xs ≡ []) (λ letter. xs ≡ letter.now ∷ drop 1 xs) in
    subst P c.self.view_is (first_is c.self.inside.letters.items c.front.result c.front.ensures.item)

-- Flips of an iteration and later, and what they decide.
use Rattle.std.specs.Prelude.{◌≡◌, ℕ, ◌≤◌, nat_le, if◌then◌else◌, Bool, List, [], ◌∷◌}
use Rattle.chare_base.specs.declared.message.Port.{Port}
use Rattle.chare_base.specs.declared.plan.Plan.{Plan}
use Rattle.chare_base.specs.Flip.{Flip}
use Rattle.chare_eval.specs.Fold.{fold}
use Rattle.chare_eval.specs.Inside.{cells_inside, message_to}
use Rattle.chare_eval.specs.Laws.{contribution_of}

-- the flips of an iteration and later
abbrev pub flips_from : ℕ → List Flip → List Flip
flips_from k [] = []
flips_from k (f ∷ more) = if nat_le k f.at then f ∷ flips_from k more else flips_from k more

-- from equal states on, equal later flips lead to equal states
abbrev pub LaterFlipsDecide : Type 0
LaterFlipsDecide = (p : Plan) (a b : List Flip) (k n : ℕ) → k ≤ n → flips_from k a ≡ flips_from k b → fold p a k ≡ fold p b k → fold p a n ≡ fold p b n

-- and to equal cells, messages and contributions inside each iteration
pub record SameInside (p : Plan) (a b : List Flip) (n : ℕ) : Type 0 where
  pub cells : (s : ℕ) (done : List Bool) (e : ℕ) → cells_inside p a n s done e ≡ cells_inside p b n s done e
  pub messages : (port : Port) (e : ℕ) → message_to p a n port e ≡ message_to p b n port e
  pub contributions : (r e : ℕ) → contribution_of p a n r e ≡ contribution_of p b n r e

abbrev pub LaterFlipsDecideInside : Type 0
LaterFlipsDecideInside = (p : Plan) (a b : List Flip) (k n : ℕ) → k ≤ n → flips_from k a ≡ flips_from k b → fold p a k ≡ fold p b k → SameInside p a b n

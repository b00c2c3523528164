-- Membership in lists.
use Rattle.std.proofs.Common.{inl, inr, List, [], ◌∷◌, ◌++◌, map, ap}
use Rattle.node_core.specs.Mail.{In}

pub in_left : {A : Type 0} (x : A) (xs ys : List A) → In x xs → In x (xs ++ ys)
in_left x [] ys h = absurd h
in_left x (y ∷ xs) ys (inl h) = inl h
in_left x (y ∷ xs) ys (inr h) = inr (in_left x xs ys h)

pub in_right : {A : Type 0} (x : A) (xs ys : List A) → In x ys → In x (xs ++ ys)
in_right x [] ys h = h
in_right x (y ∷ xs) ys h = inr (in_right x xs ys h)

pub in_mapped : {A B : Type 0} (f : A → B) (x : A) (xs : List A) → In x xs → In (f x) (map f xs)
in_mapped f x [] h = absurd h
in_mapped f x (y ∷ xs) (inl h) = inl (ap f h)
in_mapped f x (y ∷ xs) (inr h) = inr (in_mapped f x xs h)

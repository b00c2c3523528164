-- Texts put one after another.
use Rattle.std.proofs.Common.{◌≡◌, ℕ, List, ◌++◌, ap, ◌∙◌, append_assoc}

pub five_put : (out a b c d e x y z w : List ℕ) → x ≡ out ++ a → y ≡ x ++ b → z ≡ y ++ (c ++ d) → w ≡ z ++ e → w ≡ out ++ (a ++ (b ++ (c ++ (d ++ e))))
five_put out a b c d e x y z w p q r s =
    s
    ∙ ap (λ l. l ++ e) (r ∙ ap (λ l. l ++ (c ++ d)) (q ∙ ap (λ l. l ++ b) p))
    ∙ append_assoc ((out ++ a) ++ b) (c ++ d) e
    ∙ ap (λ l. ((out ++ a) ++ b) ++ l) (append_assoc c d e)
    ∙ append_assoc (out ++ a) b (c ++ (d ++ e))
    ∙ append_assoc out a (b ++ (c ++ (d ++ e)))

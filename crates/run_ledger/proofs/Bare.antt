-- Nodes without a copy, one after another.
use Rattle.std.proofs.Common.{◌≡◌, ℕ, suc, ◌+◌, ◌-◌, ◌<◌, Bool, true, cond, List, Option, Some, ap, sym, ◌∙◌, arith}
use Rattle.run_ledger.specs.Conditions.{bare_from, has_copy}

-- a node that has a copy is passed
pub bare_next : (first second : List Bool) (j n : ℕ) (whole : Option ℕ) → j < n → has_copy first second j ≡ true → bare_from first second j (n - j) ≡ whole → bare_from first second (j + 1) (n - (j + 1)) ≡ whole
bare_next first second j n whole h copied told =
    let left : n - j ≡ suc (n - (j + 1)) = omega (arith, h) in
    let next : suc j ≡ j + 1 = omega arith in
    ap (λ i. bare_from first second i (n - (j + 1))) (sym next)
    ∙ sym (ap (λ b. cond b (bare_from first second (suc j) (n - (j + 1))) (Some j)) copied)
    ∙ ap (bare_from first second j) (sym left)
    ∙ told

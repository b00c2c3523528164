-- Slots that aren't noted, one node after another.
use Rattle.std.proofs.Common.{◌≡◌, ℕ, suc, ◌+◌, ◌-◌, ◌<◌, Bool, true, cond, List, Option, Some, ap, sym, ◌∙◌, arith}
use Rattle.chare_base.specs.declared.slots.SlotId.{SlotId}
use Rattle.conductor_core.specs.Moves.{is_noted, slot_named, unnoted_from}

-- a slot that is noted is passed
pub noted_next : (noted : List Bool) (nodes r j : ℕ) (whole : Option SlotId) → j < nodes → is_noted noted nodes (slot_named r j) ≡ true → unnoted_from noted nodes r j (nodes - j) ≡ whole →
    unnoted_from noted nodes r (j + 1) (nodes - (j + 1)) ≡ whole
noted_next noted nodes r j whole h passed told =
    let left : nodes - j ≡ suc (nodes - (j + 1)) = omega (arith, h) in
    let next : suc j ≡ j + 1 = omega arith in
    ap (λ i. unnoted_from noted nodes r i (nodes - (j + 1))) (sym next)
    ∙ sym (ap (λ b. cond b (unnoted_from noted nodes r (suc j) (nodes - (j + 1))) (Some (slot_named r j))) passed)
    ∙ ap (unnoted_from noted nodes r j) (sym left)
    ∙ told

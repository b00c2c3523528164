-- The initial values of a state's cells, one more.
use Rattle.std.proofs.Common.{◌≡◌, refl, length, ℕ, zero, suc, ◌+◌, ◌-◌, ◌<◌, ℤ, List, [], ◌∷◌, ◌++◌, ap, sym, ◌∙◌, append_assoc, arith}
use Rattle.chare_base.specs.declared.cells.Cells.{Cells}
use Rattle.chare_base.specs.declared.expression.Expr.{Expr}
use Rattle.chare_base.specs.declared.plan.Plan.{Plan}
use Rattle.chare_base.specs.Elements.{elements}
use Rattle.chare_eval.specs.declared.value.Scene.{Scene}
use Rattle.chare_eval.specs.Opening.{cell_starts, opening, start_of, start_value, starts_from}

pub starts_next : (scene : Scene) (start : Expr) (which cells : ℕ) (front : List ℤ) (v : ℤ) → which < cells → v ≡ start_value scene start which →
    (front ++ v ∷ []) ++ cell_starts scene start (which + 1) (cells - (which + 1)) ≡ front ++ cell_starts scene start which (cells - which)
starts_next scene start which cells front v below is =
    let next : suc which ≡ which + 1 = omega arith in
    let left : cells - which ≡ suc (cells - (which + 1)) = omega (arith, below) in
    append_assoc front (v ∷ []) (cell_starts scene start (which + 1) (cells - (which + 1)))
    ∙ ap (λ x. front ++ x ∷ cell_starts scene start (which + 1) (cells - (which + 1))) is
    ∙ ap (λ n. front ++ start_value scene start which ∷ cell_starts scene start n (cells - (which + 1))) (sym next)
    ∙ ap (λ n. front ++ cell_starts scene start which n) (sym left)

-- one more element
pub opened_next : (p : Plan) (e count : ℕ) (front : List Cells) (c : Cells) → e < count → c ≡ start_of p e →
    (front ++ c ∷ []) ++ starts_from p (count - (e + 1)) (e + 1) ≡ front ++ starts_from p (count - e) e
opened_next p e count front c below is =
    let next : suc e ≡ e + 1 = omega arith in
    let left : count - e ≡ suc (count - (e + 1)) = omega (arith, below) in
    append_assoc front (c ∷ []) (starts_from p (count - (e + 1)) (e + 1))
    ∙ ap (λ x. front ++ x ∷ starts_from p (count - (e + 1)) (e + 1)) is
    ∙ ap (λ n. front ++ start_of p e ∷ starts_from p (count - (e + 1)) n) (sym next)
    ∙ ap (λ n. front ++ starts_from p n e) (sym left)

-- the opening has the plan's elements
opened_len : (p : Plan) (n e : ℕ) → length (starts_from p n e) ≡ n
opened_len p zero e = refl
opened_len p (suc n) e = ap suc (opened_len p n (suc e))

pub opening_len : (p : Plan) → length (opening p) ≡ elements p
unfolding opening
opening_len p = opened_len p (elements p) 0

-- A contribution goes to a reduction of the element's own array.
use Rattle.std.proofs.Common.{◌≡◌, ℕ, zero, suc, ◌<◌, Bool, true, false, cond, List, [], ◌∷◌, refl, arith, subst}
use Rattle.std.specs.Prelude.{◌==◌}
use Rattle.std.specs.List.{AllByRecursion}
use Rattle.std.proofs.lemmas.Bool.{eqb-true}
use Rattle.chare_base.specs.declared.plan.Plan.{Plan}
use Rattle.chare_base.specs.declared.plan.Stmt.{Stmt, out-Stmt}
use Rattle.chare_base.specs.declared.plan.Stmt.TheOpen.{Stmt-F}
use Rattle.chare_base.specs.Elements.{block_at, place_of}
use Rattle.chare_base.specs.Laws.{ContributesTo, SendsAreDeclared, SendsDeclared, Sent}
use Rattle.chare_base.specs.Ports.{block_sends, counted, fed_by, stmt_sends, total_port}
use Rattle.node_core.specs.Mail.{Contributes}

module _ (p : Plan) (array r : ℕ) where
  one_if : (b : Bool) → 0 < cond b 1 0 → b ≡ true
  one_if true h = refl
  one_if false h = absurd (omega (arith, h))

  one_declared : (layer : Stmt-F Stmt) → 0 < counted (total_port r) (fed_by layer) → Sent p array layer → ContributesTo p array r
  one_declared (Stmt-F.Set at value) some h = absurd (omega (arith, some))
  one_declared (Stmt-F.SetAt at count place value) some h = absurd (omega (arith, some))
  one_declared (Stmt-F.If test a b) some h = absurd (omega (arith, some))
  one_declared (Stmt-F.For slot low high block) some h = absurd (omega (arith, some))
  one_declared (Stmt-F.Send entry values) some h = absurd (omega (arith, some))
  one_declared (Stmt-F.Contribute reduction value) some h = subst (ContributesTo p array) (eqb-true reduction.0 r (one_if (reduction.0 == r) some)) h

  block_declared : (stmts : List Stmt) → 0 < block_sends (total_port r) stmts → AllByRecursion (SendsDeclared p array) stmts → ContributesTo p array r
  block_declared [] some all = absurd (omega (arith, some))
  block_declared (s ∷ more) some all = by (stmt_sends (total_port r) s) refl (block_declared more)
    where
      by : (n : ℕ) → stmt_sends (total_port r) s ≡ n → (0 < block_sends (total_port r) more → AllByRecursion (SendsDeclared p array) more → ContributesTo p array r) → ContributesTo p array r
      by zero q rest = rest (omega (arith, some, q)) all.1
      by (suc n) q rest = one_declared (out-Stmt s) (omega (arith, q)) all.0.sends

pub contributes_to : SendsAreDeclared → (p : Plan) (r f s q : ℕ) → Contributes p r f s q → ContributesTo p (place_of p f).array r
contributes_to law p r f s q gives = block_declared p (place_of p f).array r (block_at p f s q) gives.some (law p f s q)

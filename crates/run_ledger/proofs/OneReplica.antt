-- Scripts whose flips strike one replica alone.
use Rattle.std.proofs.Common.{◌≡◌, ℕ, zero, suc, ◌/◌, ◌%◌, Bool, true, false, cond, List, [], ◌∷◌, refl, ap, ◌∙◌, arith}
use Rattle.std.specs.Prelude.{◌==◌, ◌||◌}
use Rattle.std.specs.List.{filter, list_any}
use Rattle.chare_eval.specs.Fold.{fold}
use Rattle.pup_state.specs.Spelling.{pack}
use Rattle.fault_script.specs.declared.fault.Fault.{Fault}
use Rattle.fault_script.specs.Lines.{flips_among, selection}
use Rattle.run_ledger.specs.Lines.{is_flip_of}
use Rattle.run_ledger.specs.Apart.{OneReplicaIsApart, flips_on}

neither : (b c : Bool) → (b || c) ≡ false → (b ≡ false) × (c ≡ false)
neither true c h = absurd cc
neither false c h = (refl, h)

-- nothing of the replica is selected
none_selected : (r : ℕ) (script : List Fault) (set : ℕ) → list_any (is_flip_of r) script ≡ false → filter (is_flip_of r) (selection script set) ≡ []
none_selected r [] set h = refl
none_selected r (f ∷ more) set h =
    let parts = neither (is_flip_of r f) (list_any (is_flip_of r) more) h in
    by (set % 2 == 1) parts.0 (none_selected r more (set / 2) parts.1)
  where
    by : (b : Bool) → is_flip_of r f ≡ false → filter (is_flip_of r) (selection more (set / 2)) ≡ [] → filter (is_flip_of r) (cond b (f ∷ selection more (set / 2)) (selection more (set / 2))) ≡ []
    by true clean rest = ap (λ c. cond c (f ∷ filter (is_flip_of r) (selection more (set / 2))) (filter (is_flip_of r) (selection more (set / 2)))) clean ∙ rest
    by false clean rest = rest

none_on : (r : ℕ) (script : List Fault) (set : ℕ) → list_any (is_flip_of r) script ≡ false → flips_on r script set ≡ []
none_on r script set h = ap flips_among (none_selected r script set h)

pub one_replica_is_apart : OneReplicaIsApart
one_replica_is_apart p script zero few h a b k within same = ap (λ fs. pack p k (fold p fs k)) (none_on 0 script a h)
one_replica_is_apart p script (suc zero) few h a b k within same = same ∙ ap (λ fs. pack p k (fold p fs k)) (none_on 1 script b h)
one_replica_is_apart p script (suc (suc n)) few h a b k within same = absurd (omega (arith, few))

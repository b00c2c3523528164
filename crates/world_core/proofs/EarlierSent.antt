-- The shares and totals of all iterations below one, as letters: what counts as sent once it can't be asked any more.
use Rattle.std.proofs.Common.{◌≡◌, ℕ, zero, suc, ◌<◌, ◌≤◌, inl, inr, Bool, true, false, List, [], ◌∷◌, ◌++◌, refl, arith, subst, pos}
use Rattle.std.specs.Prelude.{◌==◌}
use Rattle.std.specs.List.{AllByRecursion}
use Rattle.std.proofs.lemmas.Bool.{eqb-true}
use Rattle.std.proofs.lemmas.Bool.Decides.{nat_tests}
use Rattle.letter_post.specs.declared.letter.Letter.TheVariants as letters
use Rattle.letter_post.specs.declared.letter.Sent.{Sent}
use Rattle.node_core.specs.Mail.{In, reduction_id}
use Rattle.node_core.specs.Nodes.{to_slot}
use Rattle.node_core.proofs.Within.{in_left, in_right}
use Rattle.world_core.specs.Still.{IsOver, plain_stamp}
use Rattle.world_core.proofs.Lists.{all_joined}

-- ---- lists one behind another

abbrev listed : {A : Type 0} → (ℕ → List A) → ℕ → List A
listed each zero = []
listed each (suc n) = listed each n ++ each n

listed_has : {A : Type 0} (each : ℕ → List A) (n i : ℕ) (x : A) → i < n → In x (each i) → In x (listed each n)
listed_has each zero i x less h = absurd (omega (arith, less))
listed_has each (suc n) i x less h = by (i == n) refl (λ before. listed_has each n i x before h)
  where
    by : (b : Bool) → (i == n) ≡ b → (i < n → In x (listed each n)) → In x (listed each n ++ each n)
    by true is rest = in_right x (listed each n) (each n) (subst (λ m. In x (each m)) (eqb-true i n is) h)
    by false is rest = in_left x (listed each n) (each n) (rest (grind (arith, nat_tests, is, less)))

listed_all : {A : Type 0} (P : A → Type 0) (each : ℕ → List A) (n : ℕ) → ((i : ℕ) → i < n → AllByRecursion P (each i)) → AllByRecursion P (listed each n)
listed_all P each zero h = tt
listed_all P each (suc n) h = all_joined P (listed each n) (each n) (listed_all P each n (λ i less. h i (omega (arith, less)))) (h n (omega arith))

-- ---- the letters

-- the share of a node, and the total to it
abbrev pub share_sent : ℕ → ℕ → ℕ → ℕ → Sent
share_sent r x j m = to_slot r 0 (letters.Partial (plain_stamp r) (reduction_id x) j m (pos 0))

abbrev pub total_sent : ℕ → ℕ → ℕ → ℕ → Sent
total_sent r x j m = to_slot r m (letters.Total (plain_stamp r) (reduction_id x) j (pos 0))

abbrev at_node : ℕ → ℕ → ℕ → ℕ → List Sent
at_node r x j m = share_sent r x j m ∷ total_sent r x j m ∷ []

-- of both replicas' nodes, of the reductions, in the iterations below k
abbrev pub over_sent : ℕ → ℕ → ℕ → List Sent
over_sent nodes reductions k = listed (λ r. listed (λ x. listed (λ j. listed (λ m. at_node r x j m) nodes) k) reductions) 2

module _ (nodes reductions k : ℕ) where
  abbrev by_iteration : ℕ → ℕ → List Sent
  by_iteration r x = listed (λ j. listed (λ m. at_node r x j m) nodes) k

  abbrev by_reduction : ℕ → List Sent
  by_reduction r = listed (λ x. by_iteration r x) reductions

  in_over : (r x j m : ℕ) (sent : Sent) → r ≤ 1 → x < reductions → j < k → m < nodes → In sent (at_node r x j m) → In sent (over_sent nodes reductions k)
  in_over r x j m sent hr hx hj hm h =
      listed_has by_reduction 2 r sent (omega (arith, hr))
      (listed_has (λ x. by_iteration r x) reductions x sent hx
      (listed_has (λ j. listed (λ m. at_node r x j m) nodes) k j sent hj
      (listed_has (λ m. at_node r x j m) nodes m sent hm h)))

  pub over_has : (log : List Sent) (r x j m : ℕ) → r ≤ 1 → x < reductions → j < k → m < nodes → IsOver r x j m (log ++ over_sent nodes reductions k)
  over_has log r x j m hr hx hj hm = record {
    share = record { value = pos 0; there = in_right (share_sent r x j m) log (over_sent nodes reductions k) (in_over r x j m (share_sent r x j m) hr hx hj hm (inl refl)) };
    total = record { value = pos 0; there = in_right (total_sent r x j m) log (over_sent nodes reductions k) (in_over r x j m (total_sent r x j m) hr hx hj hm (inr (inl refl))) };
  }

  pub over_all : (P : Sent → Type 0) → ((r x j m : ℕ) → r ≤ 1 → x < reductions → j < k → m < nodes → P (share_sent r x j m) × P (total_sent r x j m)) → AllByRecursion P (over_sent nodes reductions k)
  over_all P each =
      listed_all P by_reduction 2 (λ r hr. listed_all P (λ x. by_iteration r x) reductions (λ x hx. listed_all P (λ j. listed (λ m. at_node r x j m) nodes) k (λ j hj. listed_all P (λ m. at_node r x j m) nodes (λ m hm. both r x j m (omega (arith, hr)) hx hj hm))))
    where
      both : (r x j m : ℕ) → r ≤ 1 → x < reductions → j < k → m < nodes → AllByRecursion P (at_node r x j m)
      both r x j m hr hx hj hm = let q = each r x j m hr hx hj hm in (q.0, (q.1, tt))

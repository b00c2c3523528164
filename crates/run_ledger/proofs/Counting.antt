-- How many flips shape a replica.
use Rattle.std.proofs.Common.{◌≡◌, ℕ, ◌+◌, Bool, true, false, cond, List, ◌∷◌, length, refl, ap, ◌∙◌, arith}
use Rattle.std.specs.Prelude.{◌&&◌, count_by, nat_lt}
use Rattle.std.proofs.lemmas.List.Recursion.{is_count_by}
use Rattle.chare_base.specs.Flip.{Flip}
use Rattle.chare_eval.specs.Laws.{flips_before}
use Rattle.fault_script.specs.declared.fault.Fault.{Fault}
use Rattle.fault_script.specs.declared.fault.Fault.TheVariants as faults
use Rattle.run_ledger.specs.declared.line.LedgerLine.{LedgerLine}
use Rattle.run_ledger.specs.Lines.{flips_where, is_flip_below, shapes}
use Rattle.run_ledger.proofs.Lineages.{put, where_next}

module _ (replica k : ℕ) where
  abbrev count : List LedgerLine → ℕ
  count lines = length (flips_before k (flips_where (shapes replica) lines))

  -- a flip below the iteration counts
  put_count : (f : Fault) (b : Bool) (xs : List Flip) → length (flips_before k (put b f xs)) ≡ cond (b && is_flip_below k f) (1 + length (flips_before k xs)) (length (flips_before k xs))
  put_count (faults.Crash slot at) true xs = refl
  put_count (faults.Crash slot at) false xs = refl
  put_count (faults.Flip r e c m at) false xs = refl
  put_count (faults.Flip r e c m at) true xs = by (nat_lt at k)
    where
      by : (b : Bool) →
          length (cond b (record { element = e.0; cell = c; mask = m; at = at } ∷ flips_before k xs) (flips_before k xs)) ≡ cond b (1 + length (flips_before k xs)) (length (flips_before k xs))
      by true = omega arith
      by false = refl

pub strikes_counted : (replica k : ℕ) (lines : List LedgerLine) →
    length (flips_before k (flips_where (shapes replica) lines)) ≡ count_by (λ line. shapes replica line && is_flip_below k line.fault) lines
strikes_counted replica k lines =
    is_count_by (count replica k) (λ line. shapes replica line && is_flip_below k line.fault) refl
    (λ x xs. ap (λ fs. length (flips_before k fs)) (where_next (shapes replica) x xs) ∙ put_count replica k x.fault (shapes replica x) (flips_where (shapes replica) xs)) lines

-- What a lawful record says of the ledger.
use Rattle.std.proofs.Common.{◌≡◌, ℕ, suc, ◌<◌, ◌≤◌, Bool, true, false, List, ◌∷◌, [], refl, ap, sym, ◌∙◌, None}
use Rattle.std.specs.Prelude.{◌==◌, ◌&&◌, ◌||◌, not, nat_le, nat_lt, is_none}
use Rattle.std.proofs.lemmas.Bool.{eqb-true, leb-true, ltb-true}
use Rattle.chare_base.specs.declared.options.Mode.TheVariants.{Strong}
use Rattle.run_ledger.specs.declared.record.Record.TheVariants.{Accept, Adopt, Done}
use Rattle.run_ledger.specs.Ledgers.{LedgerState, is_down}
use Rattle.run_ledger.specs.Conditions.{both_up, bare_node, crash_free, crash_free_of, due, first_false, is_adoptable, is_next, is_spared, is_strong, is_up, is_weak, other, unlawful}

-- a condition is true where all are
second_true : (i : ℕ) (a b : Bool) (more : List Bool) → first_false i (a ∷ b ∷ more) ≡ None → b ≡ true
second_true i true true more h = refl
second_true i true false more h = absurd cc
second_true i false b more h = absurd cc

third_true : (i : ℕ) (a b c : Bool) (more : List Bool) → first_false i (a ∷ b ∷ c ∷ more) ≡ None → c ≡ true
third_true i true b c more h = second_true (suc i) b c more h
third_true i false b c more h = absurd cc

fourth_true : (i : ℕ) (a b c d : Bool) (more : List Bool) → first_false i (a ∷ b ∷ c ∷ d ∷ more) ≡ None → d ≡ true
fourth_true i true b c d more h = third_true (suc i) b c d more h
fourth_true i false b c d more h = absurd cc

pub both_true : (a b : Bool) → (a && b) ≡ true → (a ≡ true) × (b ≡ true)
both_true true b h = (refl, h)
both_true false b h = absurd cc

pub accept_bounds : (l : LedgerState) (k : ℕ) → unlawful l (Accept k) ≡ None → (l.base < k) × (k ≤ l.iterations)
accept_bounds l k h =
    let next = third_true 1 (not l.ended) (both_up l) (is_next l k) (crash_free l k ∷ []) h in
    let within = both_true (nat_le (due l) k && nat_lt l.base k) (nat_le k l.iterations) next in
    let after = both_true (nat_le (due l) k) (nat_lt l.base k) within.0 in
    (ltb-true l.base k after.1, leb-true k l.iterations within.1)

pub adopt_bounds : (l : LedgerState) (k from : ℕ) → unlawful l (Adopt k from) ≡ None → (l.base ≤ k) × (k ≤ l.iterations)
adopt_bounds l k from h =
    let next =
    fourth_true 1 (not l.ended) (is_up l from && is_down l (other from)) (not (is_strong l.options.mode)) (is_adoptable l k)
    (crash_free_of l from k ∷ is_spared l ∷ is_none (bare_node l) ∷ []) h in
    let weak = both_true (nat_le l.base k && nat_le k l.iterations) (not (is_weak l.options.mode) || nat_le (due l) k) next in
    let within = both_true (nat_le l.base k) (nat_le k l.iterations) weak.0 in
    (leb-true l.base k within.0, leb-true k l.iterations within.1)

-- nothing is adopted in strong mode
pub strong_adopts_none : (l : LedgerState) (k from : ℕ) → l.options.mode ≡ Strong → unlawful l (Adopt k from) ≡ None → ⊥
strong_adopts_none l k from strong h =
    let weak =
    third_true 1 (not l.ended) (is_up l from && is_down l (other from)) (not (is_strong l.options.mode))
    (is_adoptable l k ∷ crash_free_of l from k ∷ is_spared l ∷ is_none (bare_node l) ∷ []) h in
    let q : false ≡ true = ap (λ m. not (is_strong m)) (sym strong) ∙ weak in
    cc

pub done_base : (l : LedgerState) → unlawful l Done ≡ None → l.base ≡ l.iterations
done_base l h = eqb-true l.base l.iterations (second_true 1 (not l.ended) (l.base == l.iterations) (both_up l ∷ []) h)

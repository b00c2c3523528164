-- Turns of a loop.
use Rattle.std.proofs.Common.{◌≡◌, ℕ, suc, ℤ, pos, negsuc, ◌+ℤ◌, ◌-ℤ◌, ◌≤ℤ◌, ◌<ℤ◌, ap, arith}
use Rattle.std.proofs.lemmas.Int.{ints}
use Rattle.chare_base.specs.Costs.{numbers_below}
use Rattle.chare_eval.specs.Block.{Run, Act, turns, with_loop}

-- one number less lies below
below_suc : (z z' : ℤ) → z ≡ z' +ℤ pos 1 → pos 0 ≤ℤ z' → numbers_below z ≡ suc (numbers_below z')
below_suc (pos a) (pos b) e h = omega (arith, ints)
below_suc (pos a) (negsuc b) e h = absurd (omega (arith, ints))
below_suc (negsuc a) (pos b) e h = absurd (omega (arith, ints))
below_suc (negsuc a) (negsuc b) e h = absurd (omega (arith, ints))

below_next : (high i : ℤ) → i <ℤ high → numbers_below (high -ℤ i) ≡ suc (numbers_below (high -ℤ (i +ℤ pos 1)))
below_next high i h = below_suc (high -ℤ i) (high -ℤ (i +ℤ pos 1)) (omega (arith, ints)) (omega (arith, ints))

-- the first turn, and those after it
pub turns_next : (high i : ℤ) (slot : ℕ) (block : Act) (run : Run) → i <ℤ high →
    turns (numbers_below (high -ℤ i)) i slot block run ≡ turns (numbers_below (high -ℤ (i +ℤ pos 1))) (i +ℤ pos 1) slot block (block (with_loop slot i run))
turns_next high i slot block run h = ap (λ n. turns n i slot block run) (below_next high i h)

-- The order in which numbers are joined doesn't matter.
use Rattle.std.proofs.Common.{◌≡◌, ℕ, ◌+◌, ◌%◌, ◌^◌, ◌<◌, ℤ, refl, ap, sym, ◌∙◌, arith, Option, Some, None}
use Rattle.std.proofs.lemmas.Int.{ints, of_z-to_z, int_min_is, int_max_is}
use Rattle.std.specs.Int.{w64, int_wrapping_add, int_min, int_max, cast_signed, cast_unsigned}
use Rattle.chare_base.specs.declared.plan.How.{How}
use Rattle.chare_base.specs.declared.plan.How.TheVariants.{Sum, Min, Max}
use Rattle.chare_base.specs.Total.{JoinedIsLawful, both, joined}

sum_swapped : (x y : ℤ) → int_wrapping_add w64 x y ≡ int_wrapping_add w64 y x
sum_swapped x y = ap (λ n. cast_signed w64 (n % 2 ^ 64)) (let e : cast_unsigned w64 x + cast_unsigned w64 y ≡ cast_unsigned w64 y + cast_unsigned w64 x = omega arith in e)

mods : (a b c : ℕ) → ((a + b) % 2 ^ 64 + c) % 2 ^ 64 ≡ (a + (b + c) % 2 ^ 64) % 2 ^ 64
mods a b c = omega arith

mod_less : (a : ℕ) → a % 2 ^ 64 < 2 ^ 64
mod_less a = omega arith

back : (a : ℕ) → cast_unsigned w64 (cast_signed w64 (a % 2 ^ 64)) ≡ a % 2 ^ 64
back a = of_z-to_z w64 (a % 2 ^ 64) (mod_less a)

sum_nested : (x y z : ℤ) → int_wrapping_add w64 (int_wrapping_add w64 x y) z ≡ int_wrapping_add w64 x (int_wrapping_add w64 y z)
sum_nested x y z =
    let a = cast_unsigned w64 x in
    let b = cast_unsigned w64 y in
    let c = cast_unsigned w64 z in
    ap (λ n. cast_signed w64 ((n + c) % 2 ^ 64)) (back (a + b)) ∙ ap (cast_signed w64) (mods a b c) ∙ sym (ap (λ n. cast_signed w64 ((a + n) % 2 ^ 64)) (back (b + c)))

least_swapped : (x y : ℤ) → int_min x y ≡ int_min y x
least_swapped x y = omega (arith, ints, int_min_is x y, int_min_is y x)

least_nested : (x y z : ℤ) → int_min (int_min x y) z ≡ int_min x (int_min y z)
least_nested x y z = omega (arith, ints, int_min_is x y, int_min_is (int_min x y) z, int_min_is y z, int_min_is x (int_min y z))

greatest_swapped : (x y : ℤ) → int_max x y ≡ int_max y x
greatest_swapped x y = omega (arith, ints, int_max_is x y, int_max_is y x)

greatest_nested : (x y z : ℤ) → int_max (int_max x y) z ≡ int_max x (int_max y z)
greatest_nested x y z = omega (arith, ints, int_max_is x y, int_max_is (int_max x y) z, int_max_is y z, int_max_is x (int_max y z))

pub swapped : (how : How) (x y : ℤ) → joined how x y ≡ joined how y x
swapped Sum = sum_swapped
swapped Min = least_swapped
swapped Max = greatest_swapped

pub nested : (how : How) (x y z : ℤ) → joined how (joined how x y) z ≡ joined how x (joined how y z)
nested Sum = sum_nested
nested Min = least_nested
nested Max = greatest_nested

pub joined_is_lawful : JoinedIsLawful
joined_is_lawful = record { swapped = swapped; nested = nested }

-- ---- numbers that may be missing

pub both_none : (how : How) (a : Option ℤ) → both how a None ≡ a
both_none how None = refl
both_none how (Some x) = refl

pub both_swapped : (how : How) (a b : Option ℤ) → both how a b ≡ both how b a
both_swapped how None b = sym (both_none how b)
both_swapped how (Some x) None = refl
both_swapped how (Some x) (Some y) = ap (λ z. Some z) (swapped how x y)

pub both_nested : (how : How) (a b c : Option ℤ) → both how (both how a b) c ≡ both how a (both how b c)
both_nested how None b c = refl
both_nested how (Some x) None c = refl
both_nested how (Some x) (Some y) None = refl
both_nested how (Some x) (Some y) (Some z) = ap (λ w. Some w) (nested how x y z)

-- Sizes fit.
use Rattle.std.proofs.Common.{ℕ, ◌*◌, ◌<◌, ◌≤◌, ◌^◌, Fits, w64, arith}
use Rattle.std.proofs.Math.Nat.{mul-le-mul}

pub product_fits : (x y : ℕ) → x < 2 ^ 32 → y < 2 ^ 32 → Fits w64 (x * y)
product_fits x y h k =
    let left : x ≤ 4294967295 = omega (arith, h) in
    let right : y ≤ 4294967295 = omega (arith, k) in
    let small : x * y ≤ 18446744065119617025 = mul-le-mul left right in
    omega (arith, small)

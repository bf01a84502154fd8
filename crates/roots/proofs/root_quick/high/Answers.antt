-- `roots::root_quick::high` meets its contract: with each number in two halves, the four products of halves make up u * v, and what is left out
-- is below 3 * 2 ^ 64. Assumes nothing.
use mathlib.Core.Path.{◌≡◌}
use Prim.Native.Nat.{ℕ, ◌+◌, ◌-◌, ◌*◌, ◌/◌, ◌%◌, ◌^◌, ◌≤◌, ◌<◌}
use native.Mathlib.Nat.{div-add-mod', mul-le-mul, lt_of_mul-lt-mul_right, lt_of_le_of_lt, le_trans}
use native.Mathlib.Omega.{arith}
use lib.Dec.{lit<}
use Rattle.roots.specs.Quick.{High}
use Rattle.roots.proofs.root_quick.QuickLaws.{upper_low, upper_up}
use Rattle.roots.proofs.root_quick.high.Goals as goal

abbrev half : ℕ
half = 2 ^ 32

abbrev upper_of : ℕ → ℕ → ℕ
upper_of u v = u / half * (v / half) + u / half * (v % half) / half + u % half * (v / half) / half

is_high : (u v : ℕ) → High u v (upper_of u v)
is_high u v =
    let halves : (u / half * half + u % half) * (v / half * half + v % half) ≡ u * v = rw (div-add-mod' u half, div-add-mod' v half) in
    let x = u / half * (v % half) in
    let y = u % half * (v / half) in
    record {
      low =
          rw halves at
          (upper_low half (u / half) (u % half) (v / half) (v % half) (omega arith) (omega arith) (x / half) (y / half) (x % half) (y % half)
          (div-add-mod' x half) (div-add-mod' y half) (omega arith) (omega arith));
      up =
          rw halves at
          (upper_up half (u / half) (u % half) (v / half) (v % half) (omega arith) (omega arith) (x / half) (y / half) (x % half) (y % half)
          (div-add-mod' x half) (div-add-mod' y half) (omega arith) (omega arith));
    }

-- a product of numbers of 64 bits has 128, so its upper part has 64
upper_fits : (u v : ℕ) → u < 2 ^ 64 → v < 2 ^ 64 → upper_of u v < 2 ^ 64
upper_fits u v hu hv =
    let most = 2 ^ 64 - 1 in
    let product : u * v ≤ most * most = mul-le-mul {n₂ = most} {m₂ = most} (omega arith) (omega arith) in
    lt_of_mul-lt-mul_right (2 ^ 64) (lt_of_le_of_lt (le_trans (is_high u v).low product) (lit< tt))

product_fits : (x y : ℕ) → x < half → y < half → x * y < 2 ^ 64
product_fits x y hx hy = lt_of_le_of_lt (mul-le-mul {n₂ = 4294967295} {m₂ = 4294967295} (omega arith) (omega arith)) (lit< tt)

-- the upper half is below 2 ^ 32
upper_half : (u : ℕ) → u < 2 ^ 64 → u / half < half
upper_half u h = omega arith

pub overflow_mul-result : goal.overflow_mul-result
overflow_mul-result c = record { fits = product_fits _ _ (upper_half c.args.u c.ranges.u.fits) (upper_half c.args.v c.ranges.v.fits) }

pub overflow_mul-result-2 : goal.overflow_mul-result-2
overflow_mul-result-2 c = record { fits = product_fits _ (c.args.v % half) (upper_half c.args.u c.ranges.u.fits) (omega arith) }

pub overflow_mul-result-3 : goal.overflow_mul-result-3
overflow_mul-result-3 c = record { fits = product_fits (c.args.u % half) _ (omega arith) (upper_half c.args.v c.ranges.v.fits) }

pub overflow_add-result : goal.overflow_add-result
overflow_add-result c = record { fits = omega (arith, upper_fits c.args.u c.args.v c.ranges.u.fits c.ranges.v.fits) }

pub returns : goal.returns
returns c = is_high c.args.u c.args.v

-- Where the quick test is sure it gives the root: the pattern that it names passes the exact test, and the next one fails it.
use mathlib.Core.Path.{◌≡◌, sym}
use mathlib.Core.Bool.{true, false}
use Prim.Native.Nat.{ℕ, ◌+◌, ◌-◌, ◌*◌, ◌^◌, ◌≤◌, ◌<◌}
use native.Mathlib.Nat.{le_of_eq, le_trans, lt_of_lt_of_le, mul-le-mul_right, mul-lt-mul_of_pos_right, one-le-pow, pow-le-pow_left}
use native.Mathlib.Omega.{arith}
use lib.Dec.{lit<}
use lib.Pow.{pow_pos}
use Rattle.roots.specs.Roots.{infinity_bits, edge}
use Rattle.roots.proofs.laws.RootLaws.{reaches_intro, fails_above, rounded_is}
use Rattle.roots.specs.Scaled.{Scaled, Asked, reaches_root, nearest_root}
use Rattle.roots.proofs.Scaling.{tested_is, edge_over, edge_after, edge_under}
use Rattle.roots.specs.Quick.{Near, LimitIs}
use Rattle.roots.proofs.root_quick.QuickLaws.{within, beyond, next_grows, last_shrinks, next_over, last_under, next_beyond, last_within}

-- ten places more for each of the k factors, and eleven for n
factors_up : (m k n : ℕ) → (m * 2 ^ 10) ^ k * (n * 2 ^ 11) ≡ m ^ k * n * 2 ^ (10 * k + 11)
factors_up m k n = tested_is k m 10 n 11

module _ (k b m q n g p h v : ℕ) (r : Scaled b m q) (asked : Asked k n g) (finite : b + 1 < infinity_bits) where
  module _
      (limit : LimitIs k q g p)
      (near : Near (((2 * m + 1) * 2 ^ 10) ^ k * (n * 2 ^ 11)) k h)
      (reach : v * (2 * m + 1 + 2 * k) ≤ p)
    where
      low : h * (2 ^ 64) ^ k ≤ (2 * m + 1) ^ k * n * 2 ^ (10 * k + 11)
      low = rw (factors_up (2 * m + 1) k n) at near.low

      up : (2 * m + 1) ^ k * n * 2 ^ (10 * k + 11) ≤ (h + 3 * k) * (2 ^ 64) ^ k
      up = rw (factors_up (2 * m + 1) k n) at near.up

      -- a pattern whose edge has the digits d passes, or fails, by its upper part
      passes : (a d : ℕ) → a ≤ infinity_bits → edge a ≡ d * 2 ^ q → d ^ k * n * 2 ^ (10 * k + 11) ≤ p * (2 ^ 64) ^ k → reaches_root k n g a ≡ true
      passes a d below is h' =
          reaches_intro k (n * 2 ^ g) (2 ^ (1075 * k + 1074)) a below
          (rw (is, tested_is k d q n g)
          (within (2 ^ (1075 * k + 1074)) (2 ^ (10 * k + 11)) (2 ^ (q * k + g)) ((2 ^ 64) ^ k) p limit (d ^ k * n) (pow_pos (10 * k + 11)) h'))

      fails : (a d : ℕ) → d * 2 ^ q ≤ edge a → p * (2 ^ 64) ^ k < d ^ k * n * 2 ^ (10 * k + 11) → reaches_root k n g a ≡ false
      fails a d at_least_lem h' =
          fails_above k (n * 2 ^ g) (2 ^ (1075 * k + 1074)) a
          (lt_of_lt_of_le
          (rw (tested_is k d q n g)
          (beyond (2 ^ (1075 * k + 1074)) (2 ^ (10 * k + 11)) (2 ^ (q * k + g)) ((2 ^ 64) ^ k) p limit (d ^ k * n) (pow_pos (q * k + g)) h'))
          (mul-le-mul_right (n * 2 ^ g) (pow-le-pow_left at_least_lem k)))

      positive : 0 < (2 ^ 64) ^ k
      positive = one-le-pow k (2 ^ 64) (lit< tt)

      some : 0 < 2 * m + 1
      some = omega arith

      pub root_above : h + 3 * k ≤ p → p < h + 2 * k * v → b + 1 ≡ nearest_root k n g
      root_above above close =
          let d = 2 * m + 1 in
          let next : d ^ k * n * (d + 2 * k) ≤ (d + 2) ^ k * n * d = omega (arith, mul-le-mul_right n (next_grows d k)) in
          sym
          (rounded_is k (n * 2 ^ g) (2 ^ (1075 * k + 1074)) (b + 1)
          (passes (b + 1) d (omega arith) (edge_over b m q r) (le_trans up (mul-le-mul_right ((2 ^ 64) ^ k) above)))
          (fails (b + 1 + 1) (d + 2) (edge_after b m q r finite)
          (next_beyond ((2 ^ 64) ^ k) p h d (2 * k) (2 ^ (10 * k + 11)) (d ^ k * n) ((d + 2) ^ k * n) positive some low next (next_over p h d (2 * k) v reach some close))))

      pub root_below : 2 ^ 52 < m → p < h → h + 3 * k ≤ p + 2 * k * v → b ≡ nearest_root k n g
      root_below inner over close =
          let d = 2 * m + 1 in
          let l = 2 * m - 1 in
          let two-less : l + 2 ≡ d = omega arith in
          let last : l ^ k * n * (d + 2 * k) ≤ d ^ k * n * d = omega (arith, mul-le-mul_right n (rw two-less at (last_shrinks l k))) in
          sym
          (rounded_is k (n * 2 ^ g) (2 ^ (1075 * k + 1074)) b
          (passes b l (omega arith) (edge_under b m q r inner)
          (last_within ((2 ^ 64) ^ k) p (h + 3 * k) d (2 * k) (2 ^ (10 * k + 11)) (d ^ k * n) (l ^ k * n) some up last (last_under p (h + 3 * k) d (2 * k) v reach close)))
          (fails (b + 1) d (le_of_eq (sym (edge_over b m q r))) (lt_of_lt_of_le (mul-lt-mul_of_pos_right over positive) low)))

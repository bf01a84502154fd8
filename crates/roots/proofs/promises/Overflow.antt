-- Where the inverse root of a finite double above 0 is infinite: exactly where the true root lies at or beyond the middle above the largest
-- finite double. That is met for k = 1 alone, at the numbers up to 2 ^ -1024: a larger one's root is below that middle, and for a k from 2 on
-- the root of the smallest double is at most 2 ^ 537.
use Rattle.std.specs.Prelude.{◌≡◌, refl, true, false, ℕ, zero, suc, ◌+◌, ◌-◌, ◌*◌, ◌^◌, ◌≤◌, ◌<◌, Float}
use Rattle.std.proofs.Common.{sym, ap, ◌∙◌, zero-le, le_refl, le_of_lt, le_of_suc-le-suc, le_trans, lt_irrefl, lt_of_not-le, lt_of_le_of_lt, lt_of_lt_of_le, not-le_of_lt, mul-le-mul_left, mul-lt-mul_of_pos_right, le-mul_of_pos_right, pow-suc, arith, lit<, lit≤, pow-add, pow_pos}
use Rattle.std.specs.Float.{nan, inf, fin, binary64}
use Rattle.std.specs.Float.Ieee.{of_bits}
use Rattle.loops.specs.Choice.{when◌then◌else◌}
use Rattle.roots.specs.Roots.{units_of, val, infinity_bits, inverse_root}
use Rattle.roots.proofs.laws.Patterns.{val_mono, val_only}
use Rattle.roots.proofs.laws.PatternRoots.{inverse_bits, inverse_is, inverse_in_range, inverse_overflows, inverse_overflowed}
use Rattle.roots.proofs.laws.Units.{SignClear, UpToInfinity, Positive, positive_pattern, infinity_is}
use Rattle.roots.proofs.promises.Meaning.{inverse_nearest}

-- the middle above the largest finite double, 2 ^ 1024 - 2 ^ 970, in half units: that between it and +infinity as `units_of` counts it
abbrev pub last_middle : ℕ
last_middle = (2 ^ 54 - 1) * 2 ^ 2045

pub last_middle_is : units_of (of_bits binary64 0x7fef_ffff_ffff_ffff) + units_of (inf false) ≡ last_middle
unfolding of_bits units_of
last_middle_is = refl

-- the true root lies at or beyond it: in half units the root t of X units has t ^ k * X = 2 ^ (1075 k + 1074)
abbrev pub Overflows : ℕ → Float → Type 0
Overflows k x = last_middle ^ k * units_of x ≤ 2 ^ (1075 * k + 1074)

-- there it is infinite
pub inverse_infinite : (k : ℕ) (x : Float) → 0 < k → Positive x → Overflows k x → inverse_root k x ≡ inf false
unfolding val
inverse_infinite k x hk p h =
    let (b, above, below, is) = positive_pattern x p in
    ap (inverse_root k) is ∙ inverse_is k b above below ∙ ap (of_bits binary64) (inverse_overflows k b hk (rw is at h)) ∙ infinity_is

-- and nowhere else
pub inverse_infinite_only : (k : ℕ) (x : Float) → 0 < k → Positive x → inverse_root k x ≡ inf false → Overflows k x
unfolding val
inverse_infinite_only k x hk p e =
    let (b, above, below, is) = positive_pattern x p in
    let same : val (inverse_bits k b) ≡ val infinity_bits = ap units_of (sym (ap (inverse_root k) is ∙ inverse_is k b above below) ∙ e ∙ sym infinity_is) in
    rw is (inverse_overflowed k b hk (val_only (inverse_bits k b) infinity_bits (inverse_in_range k b hk) (le_refl infinity_bits) same))

pub inverse_finite : (k : ℕ) (x : Float) → 0 < k → Positive x → (Overflows k x → ⊥) → SignClear (inverse_root k x)
inverse_finite k x hk p below =
    not_infinite (inverse_root k x) (inverse_nearest k x hk p).in_range (λ e. below (inverse_infinite_only k x hk p e))
  where
    not_infinite : (r : Float) → UpToInfinity r → (r ≡ inf false → ⊥) → SignClear r
    not_infinite nan q n = absurd q
    not_infinite (inf true) q n = absurd q
    not_infinite (inf false) q n = n refl
    not_infinite (fin true m e) q n = absurd q
    not_infinite (fin false m e) q n = q

-- ---- for which k and x that is

-- from k = 2 on the middle's power alone is too great
too_great : (k : ℕ) → 2 ^ (1075 * (k + 2) + 1074) < last_middle ^ (k + 2)
too_great zero = lit< tt
too_great (suc k) =
    let places : 1075 * (suc k + 2) + 1074 ≡ 1075 * (k + 2) + 1074 + 1075 = omega arith in
    let once : suc k + 2 ≡ suc (k + 2) = omega arith in
    rw (places, pow-add 2 (1075 * (k + 2) + 1074) 1075, once, pow-suc last_middle (k + 2))
    (lt_of_lt_of_le (mul-lt-mul_of_pos_right (too_great k) (pow_pos 1075)) (mul-le-mul_left (last_middle ^ (k + 2)) (lit≤ tt)))

units_positive : (x : Float) → Positive x → 0 < units_of x
unfolding val
units_positive x p =
    let (b, above, below, is) = positive_pattern x p in
    rw is (lt_of_le_of_lt zero-le (val_mono 0 b above (le_of_lt below)))

-- so k is 1, and x is at most 2 ^ -1024, which is 2 ^ 50 units
pub overflows_only : (k : ℕ) (x : Float) → 0 < k → Positive x → Overflows k x → (k ≡ 1) × (units_of x ≤ 2 ^ 50)
overflows_only zero x hk p h = absurd (lt_irrefl 0 hk)
overflows_only (suc zero) x hk p h =
    let beyond : 2 ^ (1075 * 1 + 1074) < last_middle ^ 1 * suc (2 ^ 50) = lit< tt in
    (refl, le_of_suc-le-suc (lt_of_not-le (λ (l : 2 ^ 50 < units_of x). not-le_of_lt beyond (le_trans (mul-le-mul_left (last_middle ^ 1) l) h))))
overflows_only (suc (suc k)) x hk p h =
    let two : suc (suc k) ≡ k + 2 = omega arith in
    absurd (not-le_of_lt (too_great k) (le_trans (le-mul_of_pos_right (last_middle ^ (k + 2)) (units_positive x p)) (rw two at h)))

-- and at each of those it is met
pub overflows_there : (x : Float) → units_of x ≤ 2 ^ 50 → Overflows 1 x
overflows_there x h = le_trans (mul-le-mul_left (last_middle ^ 1) h) (lit≤ tt)

-- ---- k = 1 of numbers below the normal ones and around them, as the definition computes it

abbrev FirstInverse : ℕ → ℕ → Type 0
FirstInverse x r = inverse_root 1 (of_bits binary64 x) ≡ of_bits binary64 r

pub record Subnormals : Type 0 where
  -- 2 ^ -1074, the smallest, and 2 ^ -1024 have +infinity
  pub smallest : FirstInverse 1 0x7ff0_0000_0000_0000
  pub last_infinite : FirstInverse 0x0004_0000_0000_0000 0x7ff0_0000_0000_0000
  -- the next above 2 ^ -1024 has the largest double less seven of its steps: one step of x is eight of the root's there
  pub first_finite : FirstInverse 0x0004_0000_0000_0001 0x7fef_ffff_ffff_fff8
  -- the largest below the normal ones has the next above 2 ^ 1022, and 2 ^ -1022, the smallest normal one, has 2 ^ 1022
  pub largest : FirstInverse 0x000f_ffff_ffff_ffff 0x7fd0_0000_0000_0001
  pub first_normal : FirstInverse 0x0010_0000_0000_0000 0x7fd0_0000_0000_0000
  -- the largest double has 2 ^ -1024
  pub of_the_largest : FirstInverse 0x7fef_ffff_ffff_ffff 0x0004_0000_0000_0000

pub subnormals : Subnormals
unfolding when◌then◌else◌ of_bits inverse_root
subnormals = record { smallest = refl; last_infinite = refl; first_finite = refl; largest = refl; first_normal = refl; of_the_largest = refl }

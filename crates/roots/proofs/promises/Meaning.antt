-- What the two roots mean, with no search in them. Doubles are counted in units of 2 ^ -1074 (`Units` says that this loses nothing), so that
-- every statement is one of whole numbers: nothing is rounded, and no real number is wanted.
use Rattle.std.specs.Prelude.{◌≡◌, refl, Bool, false, ℤ, pos, T, Float}
use Rattle.std.proofs.Common.{sym, lt_irrefl, lt_trans, le_of_suc-le-suc, lt_of_not-le, lt_of_le_of_lt, le_of_lt, ne_of_lt, add_comm, le_antisymm}
use Prim.Native.Nat.{ℕ, zero, suc, ◌+◌, ◌*◌, ◌^◌, ◌<◌, zero-le}
use Rattle.std.specs.Float.{nan, inf, fin}
use Rattle.std.specs.Float.Ieee.{lt}
use Rattle.roots.specs.Roots.{units_of, val, sqrt_of, inverse_root}
use Rattle.roots.proofs.laws.Patterns.{val_mono}
use Rattle.roots.proofs.laws.PatternRoots.{sqrt_bits, sqrt_is, sqrt_below, sqrt_nearer_than_above, sqrt_nearer_than_below, sqrt_above_zero, inverse_bits, inverse_is, inverse_in_range, inverse_nearer_than_above, inverse_nearer_than_below, inverse_above_zero}
use Rattle.roots.proofs.laws.Units.{SignClear, UpToInfinity, Positive, Negative, negative_is, positive_pattern, clear_pattern, pattern_clear, pattern_above, pattern_in_range, range_pattern, range_only, units_only}

-- Of R and S the first is strictly the nearer to a root: their middle lies on S's side of it. Root and middle are given by a power of
-- each, times the same number, so that both are whole.
pub record Nearer (root middle R S : ℕ) : Type 0 where
  pub above : R < S → root < middle
  pub below : S < R → middle < root

-- ---- the square root

-- r is the finite double nearest to √x, every other one from +0 on being strictly farther. Where x is u units, √x is √(u * 2 ^ 1074) units. The root
-- and the middle (R + S) / 2 are squared and times 4.
pub record NearestRoot (x r : Float) : Type 0 where
  pub finite : SignClear r
  pub nearest : (s : Float) → SignClear s → Nearer (4 * (units_of x * 2 ^ 1074)) ((units_of r + units_of s) ^ 2) (units_of r) (units_of s)

-- the square root of a finite double above 0 is the finite double nearest to the true root, and no tie occurs
pub sqrt_nearest : (x : Float) → Positive x → NearestRoot x (sqrt_of x)
unfolding val
sqrt_nearest x p =
    let (b, above, below, is) = positive_pattern x p in
    rw (is, sqrt_is b above below)
    (record {
      finite = pattern_clear (sqrt_bits b) (sqrt_below b below);
      nearest = λ s q.
          let (t, finite, same) = clear_pattern s q in
          rw same (record { above = sqrt_nearer_than_above b t (le_of_lt finite); below = sqrt_nearer_than_below b t below (le_of_lt finite) });
    })

-- it is above 0
pub sqrt_positive : (x : Float) → Positive x → Positive (sqrt_of x)
sqrt_positive x p =
    let (b, above, below, is) = positive_pattern x p in
    rw (is, sqrt_is b above below) (pattern_above (sqrt_bits b) (sqrt_above_zero b above below) (sqrt_below b below))

-- and no other double is nearest
nearer_both : (c m R S : ℕ) → Nearer c m R S → Nearer c m S R → R ≡ S
nearer_both c m R S a b =
    le_antisymm
    (le_of_suc-le-suc (lt_of_not-le (λ (l : S < R). lt_irrefl c (lt_trans (b.above l) (a.below l)))))
    (le_of_suc-le-suc (lt_of_not-le (λ (l : R < S). lt_irrefl c (lt_trans (a.above l) (b.below l)))))

pub sqrt_only : (x r : Float) → Positive x → NearestRoot x r → r ≡ sqrt_of x
sqrt_only x r p n =
    let m = sqrt_nearest x p in
    let R = units_of r in
    let S = units_of (sqrt_of x) in
    units_only r (sqrt_of x) n.finite m.finite
    (nearer_both (4 * (units_of x * 2 ^ 1074)) ((R + S) ^ 2) R S (n.nearest (sqrt_of x) m.finite) (rw (add_comm R S) (m.nearest r n.finite)))

-- elsewhere it is as IEEE 754 has it: a zero keeps its sign, below 0 there is no root
pub sqrt_of_nan : sqrt_of nan ≡ nan
unfolding sqrt_of
sqrt_of_nan = refl

pub sqrt_of_infinity : sqrt_of (inf false) ≡ inf false
unfolding sqrt_of
sqrt_of_infinity = refl

pub sqrt_of_zero : (s : Bool) (e : ℤ) → sqrt_of (fin s 0 e) ≡ fin s 0 e
unfolding sqrt_of
sqrt_of_zero s e = refl

pub sqrt_below_zero : (x : Float) → T (lt x (fin false 0 (pos 0))) → sqrt_of x ≡ nan
sqrt_below_zero x h = of_negative x (negative_is x h)
  where
    of_negative : (x : Float) → Negative x → sqrt_of x ≡ nan
    of_negative nan p = absurd p
    of_negative (inf s) p = unfold sqrt_of in rw p
    of_negative (fin s zero e) p = absurd p
    of_negative (fin s (suc m) e) p = unfold sqrt_of in rw p

-- ---- the inverse root

-- r is the double nearest to x to the power -1 / k, every other one from +0 to +infinity being strictly farther (and what lies below 0 is farther
-- than +0); +infinity counts as 2 ^ 1024, the value that would follow the largest finite one. With X units the true root is t units,
-- t ^ k * X being 2 ^ (1074 k + 1074). The root and the middle (R + S) / 2 are taken to the power k and multiplied by 2 ^ k * X.
pub record NearestInverse (k : ℕ) (x r : Float) : Type 0 where
  pub in_range : UpToInfinity r
  pub nearest : (s : Float) → UpToInfinity s → Nearer (2 ^ (1075 * k + 1074)) ((units_of r + units_of s) ^ k * units_of x) (units_of r) (units_of s)

-- for every k from 1 on, the inverse root of a finite double above 0 is that one
pub inverse_nearest : (k : ℕ) (x : Float) → 0 < k → Positive x → NearestInverse k x (inverse_root k x)
unfolding val
inverse_nearest k x hk p =
    let (b, above, below, is) = positive_pattern x p in
    rw (is, inverse_is k b above below)
    (record {
      in_range = pattern_in_range (inverse_bits k b) (inverse_in_range k b hk);
      nearest = λ s q.
          let (t, in_range, same) = range_pattern s q in
          rw same (record { above = inverse_nearer_than_above k b hk t in_range; below = inverse_nearer_than_below k b hk t below in_range });
    })

-- no other double is
pub inverse_only : (k : ℕ) (x r : Float) → 0 < k → Positive x → NearestInverse k x r → r ≡ inverse_root k x
inverse_only k x r hk p n =
    let m = inverse_nearest k x hk p in
    let i = inverse_root k x in
    let R = units_of r in
    let S = units_of i in
    range_only r i n.in_range m.in_range
    (nearer_both (2 ^ (1075 * k + 1074)) ((R + S) ^ k * units_of x) R S (n.nearest i m.in_range) (rw (add_comm R S) (m.nearest r n.in_range)))

-- no tie occurs: the true root is not the middle between the result and any other double
pub inverse_no_tie : (k : ℕ) (x s : Float) → 0 < k → Positive x → UpToInfinity s → (s ≡ inverse_root k x → ⊥)
    → (units_of (inverse_root k x) + units_of s) ^ k * units_of x ≡ 2 ^ (1075 * k + 1074) → ⊥
inverse_no_tie k x s hk p q other tie =
    let m = inverse_nearest k x hk p in
    let i = inverse_root k x in
    let n = m.nearest s q in
    other
    (range_only s i q m.in_range
    (le_antisymm
    (le_of_suc-le-suc (lt_of_not-le (λ (l : units_of i < units_of s). ne_of_lt (n.above l) (sym tie))))
    (le_of_suc-le-suc (lt_of_not-le (λ (l : units_of s < units_of i). ne_of_lt (n.below l) tie)))))

-- it is above 0
pub inverse_positive : (k : ℕ) (x : Float) → 0 < k → Positive x → 0 < units_of (inverse_root k x)
unfolding val
inverse_positive k x hk p =
    let (b, above, below, is) = positive_pattern x p in
    rw (is, inverse_is k b above below)
    (lt_of_le_of_lt zero-le (val_mono 0 (inverse_bits k b) (inverse_above_zero k b hk below) (inverse_in_range k b hk)))

-- where it is infinite for a finite double above 0 is said in `Overflow`; for the others: a zero of either sign has an infinite inverse, below 0
-- there is no root
pub inverse_of_nan : (k : ℕ) → inverse_root k nan ≡ nan
unfolding inverse_root
inverse_of_nan k = refl

pub inverse_of_infinity : (k : ℕ) → inverse_root k (inf false) ≡ fin false 0 (pos 0)
unfolding inverse_root
inverse_of_infinity k = refl

pub inverse_of_zero : (k : ℕ) (s : Bool) (e : ℤ) → inverse_root k (fin s 0 e) ≡ inf false
unfolding inverse_root
inverse_of_zero k s e = refl

pub inverse_below_zero : (k : ℕ) (x : Float) → T (lt x (fin false 0 (pos 0))) → inverse_root k x ≡ nan
inverse_below_zero k x h = of_negative x (negative_is x h)
  where
    of_negative : (x : Float) → Negative x → inverse_root k x ≡ nan
    of_negative nan p = absurd p
    of_negative (inf s) p = unfold inverse_root in rw p
    of_negative (fin s zero e) p = absurd p
    of_negative (fin s (suc m) e) p = unfold inverse_root in rw p

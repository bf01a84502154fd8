-- What the search for a root finds. `reaches` passes at every pattern below one at which it passes, since edges rise with
-- the patterns; so the search by bits ends at the last pattern that passes, and whoever has one that passes next to one that fails has the root.
use Rattle.std.specs.Prelude.{◌≡◌, refl, Bool, true, false, ℕ, zero, suc, ◌+◌, ◌*◌, ◌^◌, ◌≤◌, ◌<◌, leb}
use Rattle.std.proofs.Common.{sym, ap, ◌∙◌, true≢false, zero-le, le_of_suc-le-suc, lt_irrefl, lt_of_not-le, lt_of_lt_of_le, lt_of_le_of_lt, le_trans, mul-le-mul_right, pow-suc, mul-zero, zero-mul, add-one-le, arith, lit<}
use Rattle.std.proofs.Math.Nat.{pow-le-pow_left, two-pow-succ}
use Rattle.std.proofs.Math.Arith.{lt_of_le-ne}
use Rattle.std.specs.Float.{binary64}
use Rattle.std.specs.Float.Ieee.{of_bits}
use borrow.Author.Tests.{le-leb, lt-leb}
use Rattle.loops.specs.laws.ChoiceLaws.{either, and_fails, and_passes}
use Rattle.roots.specs.Roots.{val, infinity_bits, edge, greatest, reaches, rounded, sqrt_of, inverse_root}
use Rattle.roots.proofs.laws.Patterns.{middle_below, middle_above, edge_mono, edge_zero, pattern_positive}

-- ---- the search, for any test that passes at all numbers below one at which it passes

abbrev Descends : (ℕ → Bool) → Type 0
Descends p = (b d : ℕ) → d ≤ b → p b ≡ true → p d ≡ true

clash : {x : Bool} → x ≡ true → x ≡ false → ⊥
clash t f = true≢false (sym t ∙ f)

is_false : {x : Bool} → (x ≡ true → ⊥) → x ≡ false
is_false {x = true} h = absurd (h refl)
is_false {x = false} h = refl

-- what passes is below what fails
passes_below : (p : ℕ → Bool) → Descends p → (b d : ℕ) → p b ≡ true → p d ≡ false → b < d
passes_below p down b d t f = lt_of_not-le (λ (h : d ≤ b). clash (down b d h t) f)

greatest_passes : (p : ℕ → Bool) (n b : ℕ) → p b ≡ true → p (greatest p n b) ≡ true
unfolding greatest
greatest_passes p zero b t = t
greatest_passes p (suc n) b t = either (λ (d : ℕ). p (greatest p n d) ≡ true) (p (b + 2 ^ n)) (λ here. greatest_passes p n (b + 2 ^ n) here) (λ _. greatest_passes p n b t)

greatest_stops : (p : ℕ → Bool) (n b : ℕ) → p (b + 2 ^ n) ≡ false → p (greatest p n b + 1) ≡ false
unfolding greatest
greatest_stops p zero b f = f
greatest_stops p (suc n) b f =
    let twice : b + 2 ^ n + 2 ^ n ≡ b + 2 ^ suc n = omega (arith, two-pow-succ n) in
    either (λ (d : ℕ). p (greatest p n d + 1) ≡ false) (p (b + 2 ^ n)) (λ _. greatest_stops p n (b + 2 ^ n) (ap p twice ∙ f)) (λ here. greatest_stops p n b here)

-- ---- the test

module _ (k a c : ℕ) where
  pub reaches_intro : (b : ℕ) → b ≤ infinity_bits → edge b ^ k * a ≤ c → reaches k a c b ≡ true
  unfolding reaches
  reaches_intro b h l = and_passes (le-leb b infinity_bits h) (le-leb (edge b ^ k * a) c l)

  pub fails_above : (b : ℕ) → c < edge b ^ k * a → reaches k a c b ≡ false
  unfolding reaches
  fails_above b h = and_fails (leb b infinity_bits) (λ _. lt-leb (edge b ^ k * a) c h)

  pub fails_past_infinity : (b : ℕ) → infinity_bits < b → reaches k a c b ≡ false
  unfolding reaches
  fails_past_infinity b h = and_fails (leb b infinity_bits) (λ t. absurd (clash t (lt-leb b infinity_bits h)))

  pub reaches_in_range : (b : ℕ) → reaches k a c b ≡ true → b ≤ infinity_bits
  reaches_in_range b t = le_of_suc-le-suc (lt_of_not-le (λ (h : infinity_bits < b). clash t (fails_past_infinity b h)))

  pub reaches_at_most : (b : ℕ) → reaches k a c b ≡ true → edge b ^ k * a ≤ c
  reaches_at_most b t = le_of_suc-le-suc (lt_of_not-le (λ (h : c < edge b ^ k * a). clash t (fails_above b h)))

  pub fails_beyond : (b : ℕ) → b ≤ infinity_bits → reaches k a c b ≡ false → c < edge b ^ k * a
  fails_beyond b h f = lt_of_not-le (λ (l : edge b ^ k * a ≤ c). clash (reaches_intro b h l) f)

  pub reaches_down : (b d : ℕ) → d ≤ b → reaches k a c b ≡ true → reaches k a c d ≡ true
  reaches_down b d h t =
      let in_range : b ≤ infinity_bits = reaches_in_range b t in
      reaches_intro d (omega arith) (le_trans (mul-le-mul_right a (pow-le-pow_left (edge_mono d b h in_range) k)) (reaches_at_most b t))

  pub reaches_before : (b d : ℕ) → reaches k a c b ≡ true → reaches k a c d ≡ false → b < d
  reaches_before = passes_below (reaches k a c) reaches_down

  -- every pattern above the root fails: 63 bits are enough, infinity's pattern being below 2 ^ 63
  rounded_stops : reaches k a c (rounded k a c + 1) ≡ false
  unfolding rounded
  rounded_stops = greatest_stops (reaches k a c) 63 0 (fails_past_infinity (0 + 2 ^ 63) (lit< tt))

  pub rounded_next_fails : (b : ℕ) → rounded k a c < b → reaches k a c b ≡ false
  rounded_next_fails b h = is_false (λ (t : reaches k a c b ≡ true). clash (reaches_down b (rounded k a c + 1) (add-one-le h) t) rounded_stops)

  -- and it passes where any pattern does, 0 being below all
  pub rounded_reaches : reaches k a c 0 ≡ true → reaches k a c (rounded k a c) ≡ true
  unfolding rounded
  rounded_reaches t = greatest_passes (reaches k a c) 63 0 t

  pub reaches_at_or_below : (b : ℕ) → reaches k a c b ≡ true → b ≤ rounded k a c
  reaches_at_or_below b t = let below : b < rounded k a c + 1 = reaches_before b (rounded k a c + 1) t rounded_stops in omega arith

  -- so a pattern that passes, with the next one failing, is the root
  pub rounded_is : (b : ℕ) → reaches k a c b ≡ true → reaches k a c (b + 1) ≡ false → rounded k a c ≡ b
  rounded_is b t f =
      let r = rounded k a c in
      let passes : reaches k a c r ≡ true = rounded_reaches (reaches_down b 0 zero-le t) in
      let not-above : r < b + 1 = reaches_before r (b + 1) passes f in
      let not-below : b ≤ r = reaches_at_or_below b t in
      omega arith

-- 0 is below every root
pub zero_reaches : (k a c : ℕ) → 0 < k → reaches k a c 0 ≡ true
zero_reaches zero a c hk = absurd (lt_irrefl 0 hk)
zero_reaches (suc k) a c hk = reaches_intro (suc k) a c 0 zero-le (rw (edge_zero, pow-suc, mul-zero, zero-mul) zero-le)

-- ---- what that says of the values, for every k from 1 on, every a and c

module _ (k a c : ℕ) (hk : 0 < k) where
  pub rounded_in_range : rounded k a c ≤ infinity_bits
  rounded_in_range = reaches_in_range k a c (rounded k a c) (rounded_reaches k a c (zero_reaches k a c hk))

  pub rounded_at_most : edge (rounded k a c) ^ k * a ≤ c
  rounded_at_most = reaches_at_most k a c (rounded k a c) (rounded_reaches k a c (zero_reaches k a c hk))

  -- The middle between the root and any value below it is not above the true root, and is no tie where the root's edge is none; the middle
  -- between it and any value above it is above. A middle of two values is half of their sum, and the sums are in half units.
  pub near_below : (edge (rounded k a c) ^ k * a ≡ c → ⊥) → (s : ℕ) → s < rounded k a c → (val s + val (rounded k a c)) ^ k * a < c
  near_below no_tie s h =
      lt_of_le_of_lt (mul-le-mul_right a (pow-le-pow_left (middle_below s (rounded k a c) h rounded_in_range) k)) (lt_of_le-ne rounded_at_most no_tie)

  pub near_above : (s : ℕ) → rounded k a c < s → s ≤ infinity_bits → c < (val (rounded k a c) + val s) ^ k * a
  near_above s h hs =
      let r = rounded k a c in
      let beyond : c < edge (r + 1) ^ k * a = fails_beyond k a c (r + 1) (omega arith) (rounded_next_fails k a c (r + 1) (omega arith)) in
      lt_of_lt_of_le beyond (mul-le-mul_right a (pow-le-pow_left (middle_above r s h hs) k))

-- ---- the two roots of a value above 0, by its pattern

pub sqrt_of_pattern : (b : ℕ) → 0 < b → b < infinity_bits → sqrt_of (of_bits binary64 b) ≡ of_bits binary64 (rounded 2 1 (4 * val b * 2 ^ 1074))
unfolding sqrt_of val
sqrt_of_pattern b hb h = let x = pattern_positive b hb h in rw x.2

pub inverse_root_of_pattern : (k b : ℕ) → 0 < b → b < infinity_bits → inverse_root k (of_bits binary64 b) ≡ of_bits binary64 (rounded k (val b) (2 ^ (1075 * k + 1074)))
unfolding inverse_root val
inverse_root_of_pattern k b hb h = let x = pattern_positive b hb h in rw x.2

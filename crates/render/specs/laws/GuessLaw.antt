-- The first k from x on, and the first past it, by arithmetic: x * 48000, rounded and cut to a whole number (`guess`), is within 1 of the one
-- (`guess_near`) and at most 2 below the other (`guess_past`). For all three lie beside the whole number below the exact product, no
-- rounding passing a double.
use Rattle.std.specs.Prelude.{◌≡◌, ℕ, zero, suc, ◌+◌, ◌-◌, ◌*◌, ◌/◌, ◌^◌, ◌≤◌, ◌<◌, ℤ, pos, ltb, Float}
use Rattle.std.proofs.Math.Path.{refl, ap}
use Rattle.std.proofs.Common.{sym, ◌∙◌, inl, inr, zero-le, le_of_eq, lt_of_lt_of_le, lt_of_le_of_lt, le_of_lt, mul-le-mul_right, mul-pos, add-zero, le-div_iff_mul-le, div-lt_iff_lt-mul, le_of_mul-le-mul_right, arith, add-one, lt-ltb, le-ltb, lit≤, lit<, pow_pos}
use Rattle.std.proofs.Math.Bool.{true, false}
use Rattle.std.proofs.lemmas.Bool.{false≢true, not-true, not-false}
use Rattle.std.proofs.Math.Nat.{le_trans, mul_assoc, div-mul-le_self, min-eq_left}
use Rattle.std.specs.Float.Ieee
use Rattle.std.specs.Float.{nan, inf}
use Rattle.std.specs.Float.Ieee.{fin, up, down}
use Rattle.std.specs.Float.Ieee.Fits.{down_pos}
use Rattle.std.specs.Float.Ieee.Nearest.{div_same}
use Rattle.loops.specs.Choice.{when◌then◌else◌}
use Rattle.loops.specs.Arithmetic.{◌⊗◌, +0}
use Rattle.loops.specs.laws.ChoiceLaws.{either}
use Rattle.roots.specs.Roots.{units_of}
use Rattle.roots.proofs.laws.Patterns.{units_zero}
use Rattle.roots.proofs.laws.Units.{SignClear, units_exact}
use Rattle.floats.specs.Units.{Finite, grid_of, Counts, over, under}
use Rattle.floats.specs.laws.Rounding.{grid_mono, grid_fixed, grid_same}
use Rattle.floats.specs.laws.Products.{counts_within, within_clear, counts_units, clear_finite, clear_sign, mul_counts}
use Rattle.floats.specs.laws.Sums.{clear_over}
use Rattle.floats.specs.laws.Whole.{whole_grid, whole_bound}
use Rattle.floats.specs.laws.Equal.{is_lt}
use Rattle.render.specs.Times.{rate, time_of, past, short, first_from, first_past}
use Rattle.render.specs.laws.Clock.{Good}
use Rattle.render.specs.laws.FirstLaws.{le_or_lt, clash, first_from_lem, from_first}
use Rattle.render.specs.laws.TimeLaws.{ticks, ticks_is, past_ticks, short_ticks, good_finite, good_most, clock, rate_is, rate_finite, rate_units}
use Rattle.render.specs.laws.StrictLaws.{ticks_next, ticks_strict, time_near}
use Rattle.render.specs.laws.EdgeLaws.{upto_is}
use Rattle.render.specs.laws.PastLaws.{from_past, before_past}

-- `(x * 48000.0) as u64`
unfoldable pub guess : Float → ℕ
guess x = Ieee.to_unsigned 64 (x ⊗ rate)

one_more : (n : ℕ) → n < n + 1
one_more n = omega arith

nearby : (b g f : ℕ) → b ≤ g → g ≤ b + 1 → b ≤ f → f ≤ b + 1 → (g ≤ f + 1) × (f ≤ g + 1)
nearby b g f p q r s = (omega arith, omega arith)

pub nearby_past : (b g f : ℕ) → b ≤ g → g ≤ b + 1 → b < f → f ≤ b + 2 → (g ≤ f) × (f ≤ g + 2)
nearby_past b g f p q r s = (omega arith, omega arith)

-- the whole number below the exact product
module _ (u : ℕ) (most : u ≤ 80000 * 2 ^ 1074) where
  pub base : ℕ
  base = u * 48000 / 2 ^ 1074

  pub base_under : base * 2 ^ 1074 ≤ u * 48000
  unfolding base
  base_under = div-mul-le_self (u * 48000) (2 ^ 1074)

  pub base_over : u * 48000 < (base + 1) * 2 ^ 1074
  unfolding base
  base_over = (div-lt_iff_lt-mul (pow_pos 1074)).0 (one_more (u * 48000 / 2 ^ 1074))

  pub base_most : base ≤ 3840000000
  base_most = le_of_mul-le-mul_right {k = 2 ^ 1074} (le_trans base_under (le_trans (mul-le-mul_right 48000 most) (lit≤ tt))) (pow_pos 1074)

  -- the product, rounded
  pub product : ℕ
  product = grid_of (u * 48000) (2 ^ 1074)

  pub product_under : base * 2 ^ 1074 ≤ product
  unfolding product
  product_under =
      let w = 2 ^ 1074 in
      le_trans (le_of_eq (sym (whole_grid base (le_trans base_most (lit≤ tt)))))
      (grid_mono (base * w) w (u * 48000) w (pow_pos 1074) (pow_pos 1074) (mul-le-mul_right w base_under))

  pub base_small : base + 1 ≤ 2 ^ 53
  base_small = le_trans (let e : base + 1 ≤ 3840000001 = omega (arith, base_most) in e) (lit≤ tt)

  pub product_over : product ≤ (base + 1) * 2 ^ 1074
  unfolding product
  product_over =
      let w = 2 ^ 1074 in
      le_trans (grid_mono (u * 48000) w ((base + 1) * w) w (pow_pos 1074) (pow_pos 1074) (mul-le-mul_right w (le_of_lt base_over)))
      (le_of_eq (whole_grid (base + 1) base_small))

  -- its whole part
  whole_under : base ≤ product / 2 ^ 1074
  whole_under = (le-div_iff_mul-le (pow_pos 1074)).1 product_under

  whole_over : product / 2 ^ 1074 ≤ base + 1
  whole_over =
      le_of_mul-le-mul_right {k = 2 ^ 1074} (le_trans (div-mul-le_self product (2 ^ 1074)) product_over) (pow_pos 1074)

-- a finite double with its sign clear, cut
cut_is : (p : Float) → SignClear p → units_of p / 2 ^ 1074 ≤ 2 ^ 64 - 1 → Ieee.to_unsigned 64 p ≡ units_of p / 2 ^ 1074
unfolding Ieee.to_unsigned
cut_is nan c h = absurd c
cut_is (inf t) c h = absurd c
cut_is (fin true m e) c h = absurd c
cut_is (fin false m e) c h =
    let u = units_of (fin false m e) in
    let same : m * up e / down e ≡ u / 2 ^ 1074 = div_same (m * up e) (down e) u (2 ^ 1074) (down_pos e) (pow_pos 1074) (units_exact false m e c) in
    rw same (min-eq_left h)

module _ (x : Float) (g : Good x) (c : SignClear x) where
  pub at_most : units_of x ≤ 80000 * 2 ^ 1074
  at_most =
      let o = clear_over x c in
      let none : 80000 * 2 ^ 1074 + under x ≡ 80000 * 2 ^ 1074 = ap (λ (n : ℕ). 80000 * 2 ^ 1074 + n) o.1 ∙ add-zero (80000 * 2 ^ 1074) in
      le_trans (le_of_eq (sym o.0)) (le_trans (good_most x g) (le_of_eq none))

  pub product_counts : Counts (x ⊗ rate) false (product (units_of x) at_most)
  unfolding product
  product_counts =
      let w = 2 ^ 1074 in
      let k = mul_counts x (fin false 375 (pos 7)) (clear_finite x c) rate_finite in
      let same : grid_of (units_of x * (48000 * w)) (w * w) ≡ grid_of (units_of x * 48000) w =
      grid_same (units_of x * (48000 * w)) (w * w) (units_of x * 48000) w (mul-pos (pow_pos 1074) (pow_pos 1074)) (pow_pos 1074)
      (ap (λ (n : ℕ). n * w) (sym (mul_assoc (units_of x) 48000 w)) ∙ mul_assoc (units_of x * 48000) w w) in
      rw rate_is (rw (clear_sign x c, rate_units, same) at k)

  guess_is : guess x ≡ product (units_of x) at_most / 2 ^ 1074
  unfolding guess
  guess_is =
      let b = base (units_of x) at_most in
      let P = product (units_of x) at_most in
      let bound = whole_bound (b + 1) (base_small (units_of x) at_most) in
      let w = counts_within (x ⊗ rate) false P ((b + 1) * 2 ^ 1074) product_counts (product_over (units_of x) at_most) bound in
      let is = counts_units (x ⊗ rate) false P product_counts w.finite in
      let small : units_of (x ⊗ rate) / 2 ^ 1074 ≤ 2 ^ 64 - 1 =
      rw is (le_trans (whole_over (units_of x) at_most) (le_trans (base_small (units_of x) at_most) (lit≤ tt))) in
      cut_is (x ⊗ rate) (within_clear (x ⊗ rate) ((b + 1) * 2 ^ 1074) w) small ∙ ap (λ (n : ℕ). n / 2 ^ 1074) is

  guess_under : base (units_of x) at_most ≤ guess x
  guess_under = rw guess_is (whole_under (units_of x) at_most)

  guess_over : guess x ≤ base (units_of x) at_most + 1
  guess_over = rw guess_is (whole_over (units_of x) at_most)

  -- ---- and the first k lies between the same two

  short_is : (k : ℕ) → k < 2 ^ 32 → short x k ≡ ltb (ticks k) (units_of x)
  short_is k h =
      let n = time_near k h in
      let o = clear_over x c in
      short_ticks x (clear_finite x c) k n.0 n.1 ∙ rw (o.0, o.1, add-zero (ticks k))

  past_is : (k : ℕ) → k < 2 ^ 32 → past x k ≡ ltb (units_of x) (ticks k)
  past_is k h =
      let n = time_near k h in
      let o = clear_over x c in
      past_ticks x (clear_finite x c) k n.0 n.1 ∙ rw (o.0, o.1, add-zero (ticks k))

  below_32 : base (units_of x) at_most + 2 < 2 ^ 32
  below_32 = let b : base (units_of x) at_most ≤ 3840000000 = base_most (units_of x) at_most in omega arith

  base_ticks : ticks (base (units_of x) at_most) ≤ units_of x
  base_ticks =
      let b = base (units_of x) at_most in
      rw (ticks_is b (le_trans (base_most (units_of x) at_most) (lit≤ tt)))
      (le_trans (grid_mono b 48000 (units_of x) (2 ^ 1074) (lit< tt) (pow_pos 1074) (base_under (units_of x) at_most))
      (le_of_eq (grid_fixed x (clear_finite x c))))

  next_ticks : units_of x ≤ ticks (base (units_of x) at_most + 1)
  next_ticks =
      let b = base (units_of x) at_most in
      rw (ticks_is (b + 1) (base_small (units_of x) at_most))
      (le_trans (le_of_eq (sym (grid_fixed x (clear_finite x c))))
      (grid_mono (units_of x) (2 ^ 1074) (b + 1) 48000 (pow_pos 1074) (lit< tt) (le_of_lt (base_over (units_of x) at_most))))

  first_over : first_from x ≤ base (units_of x) at_most + 1
  first_over =
      let b = base (units_of x) at_most in
      from_first clock x (b + 1) g (short_is (b + 1) (omega (arith, below_32)) ∙ le-ltb (ticks (b + 1)) (units_of x) next_ticks)

  first_under : (b : ℕ) → b < 2 ^ 32 → ticks b ≤ units_of x → b ≤ first_from x
  first_under zero s h = zero-le
  first_under (suc b) s h =
      let before : b < 2 ^ 32 = omega arith in
      let less : ticks b < units_of x = lt_of_lt_of_le (ticks_next b before) (rw add-one h) in
      elim (le_or_lt (first_from x) b) [
        | inl l ↦ clash (short_is b before ∙ lt-ltb (ticks b) (units_of x) less) (first_from_lem clock x b g l)
        | inr h ↦ h
      ]

  clear_near : (guess x ≤ first_from x + 1) × (first_from x ≤ guess x + 1)
  clear_near =
      let b = base (units_of x) at_most in
      nearby b (guess x) (first_from x) guess_under guess_over (first_under b (omega (arith, below_32)) base_ticks) first_over

  -- ---- the first past x is one of the next two

  pub past_under : base (units_of x) at_most < first_past x
  past_under =
      let b = base (units_of x) at_most in
      before_past x b g (past_is b (omega (arith, below_32)) ∙ le-ltb (units_of x) (ticks b) base_ticks)

  pub past_over : first_past x ≤ base (units_of x) at_most + 2
  past_over =
      let b = base (units_of x) at_most in
      let less : units_of x < ticks (b + 2) = lt_of_le_of_lt next_ticks (ticks_strict (b + 1) (b + 2) (omega arith) (omega (arith, below_32))) in
      from_past x (b + 2) g (past_is (b + 2) below_32 ∙ lt-ltb (units_of x) (ticks (b + 2)) less)

  clear_past : (guess x ≤ first_past x) × (first_past x ≤ guess x + 2)
  clear_past = nearby_past (base (units_of x) at_most) (guess x) (first_past x) guess_under guess_over past_under past_over

-- ---- with the sign set the guess and the first from x on are 0, and the first past x is 0 or, where x is -0, 1

cut_set : (p : Float) (g : ℕ) → Counts p true g → Ieee.to_unsigned 64 p ≡ 0
unfolding Ieee.to_unsigned
cut_set nan g c = absurd c
cut_set (inf true) g c = refl
cut_set (inf false) g c = absurd (false≢true c.0)
cut_set (fin true m e) g c = refl
cut_set (fin false m e) g c = absurd (false≢true c.0)

module _ (m : ℕ) (e : ℤ) (g : Good (fin true m e)) where
  set_guess : guess (fin true m e) ≡ 0
  unfolding guess
  set_guess =
      ap (λ (r : Float). Ieee.to_unsigned 64 (fin true m e ⊗ r)) rate_is
      ∙ cut_set (fin true m e ⊗ fin false 375 (pos 7)) _ (mul_counts (fin true m e) (fin false 375 (pos 7)) g.fitting rate_finite)

  set_first : first_from (fin true m e) ≤ 0
  set_first =
      let n = time_near 0 (lit< tt) in
      let x = fin true m e in
      from_first clock x 0 g (short_ticks x g.fitting 0 n.0 n.1 ∙ le-ltb (ticks 0 + under x) 0 zero-le)

  pub set_past : first_past (fin true m e) ≤ 1
  set_past =
      let n = time_near 1 (lit< tt) in
      let x = fin true m e in
      from_past x 1 g (past_ticks x g.fitting 1 n.0 n.1 ∙ lt-ltb 0 (ticks 1 + under x) (omega (arith, ticks_next 0 (lit< tt))))

-- ---- so for every x in range

pub guess_near : (x : Float) → Good x → (guess x ≤ first_from x + 1) × (first_from x ≤ guess x + 1)
guess_near nan g = absurd (good_finite nan g)
guess_near (inf s) g = absurd (good_finite (inf s) g)
guess_near (fin true m e) g = rw (set_guess m e g) (zero-le, le_trans (set_first m e g) zero-le)
guess_near (fin false m e) g = clear_near (fin false m e) g g.fitting

pub guess_past : (x : Float) → Good x → (guess x ≤ first_past x) × (first_past x ≤ guess x + 2)
guess_past nan g = absurd (good_finite nan g)
guess_past (inf s) g = absurd (good_finite (inf s) g)
guess_past (fin true m e) g = rw (set_guess m e g) (zero-le, le_trans (set_past m e g) (lit≤ tt))
guess_past (fin false m e) g = clear_past (fin false m e) g g.fitting

-- and two comparisons settle which
pub past_found : (x : Float) → Good x
    → first_past x ≡ (when Ieee.le (time_of (guess x + 1)) x then guess x + 2 else when Ieee.le (time_of (guess x)) x then guess x + 1 else guess x)
past_found x g =
    let n = guess x in
    let r = guess_past x g in
    let before : (k : ℕ) → Ieee.le (time_of k) x ≡ true → k < first_past x = λ k e. before_past x k g (not-true (past x k) (sym (upto_is x k g) ∙ e)) in
    let from : (k : ℕ) → Ieee.le (time_of k) x ≡ false → first_past x ≤ k = λ k e. from_past x k g (not-false (past x k) (sym (upto_is x k g) ∙ e)) in
    either (λ (k : ℕ). first_past x ≡ k) (Ieee.le (time_of (n + 1)) x)
    (λ a. omega (arith, before (n + 1) a))
    (λ a. either (λ (k : ℕ). first_past x ≡ k) (Ieee.le (time_of n) x)
    (λ b. omega (arith, from (n + 1) a, before n b))
    (λ b. omega (arith, from n b)))

-- below 0 every k lies past x
pub zero_is : +0 ≡ fin false 0 (pos 0)
zero_is = unfold Ieee.of_bits in refl

pub zero_finite : Finite (fin false 0 (pos 0))
unfolding Ieee.fits
zero_finite = tt

pub negative_past : (x : Float) → Good x → Ieee.lt x +0 ≡ true → first_past x ≡ 0
negative_past x g e =
    let n = time_near 0 (lit< tt) in
    let f = good_finite x g in
    let less = is_lt x (fin false 0 (pos 0)) f zero_finite (rw zero_is at e) in
    let above : over x < ticks 0 + under x = omega (arith, units_zero false (pos 0)) in
    let least = from_past x 0 g (past_ticks x f 0 n.0 n.1 ∙ lt-ltb (over x) (ticks 0 + under x) above) in
    omega arith

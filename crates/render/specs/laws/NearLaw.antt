-- The first k past x by arithmetic, as the code computes it: to x * 48000, rounded, 2 ^ 52 is added, whose sums are whole numbers, and taken off
-- again. That is the whole number below the exact product or the next one, and the first past x is at most 2 above it (`near`).
use Rattle.std.specs.Prelude.{◌≡◌, refl, Bool, true, false, ℕ, ◌+◌, ◌-◌, ◌*◌, ◌/◌, ◌%◌, ◌^◌, ◌≤◌, ◌<◌, ℤ, pos, T, ltb, leb, Float}
use Rattle.std.proofs.Common.{sym, ap, ◌∙◌, subst, le_trans, le_of_eq, lt_of_le_of_lt, lt_of_not-le, not-le_of_lt, mul_assoc, mul_right_comm, mul-le-mul_right, le_of_mul-le-mul_right, mul-div_cancel, mul-pos, zero-add, zero-mul, add-mul, arith, lt-ltb, lit≤, lit<, le-leb, pow-add, pow_pos, pow_mono}
use Rattle.std.proofs.Math.Nat.{min-eq_left, eq_of_mul-eq-mul_right, mul-mod_left}
use Rattle.std.proofs.lemmas.Bool.{false≢true}
use Rattle.std.specs.Float.Ieee
use Rattle.std.specs.Float.{nan, inf, fin, binary64}
use Rattle.std.specs.Float.Ieee.{up, down}
use Rattle.std.specs.Float.Ieee.Digits.{size-lt}
use Rattle.std.specs.Float.Ieee.Fits.{down_pos}
use Rattle.std.specs.Float.Ieee.Order.{drop, kept}
use Rattle.loops.specs.Arithmetic.{◌⊕◌, ◌⊗◌, +0}
use Rattle.roots.specs.Roots.{units_of}
use Rattle.roots.proofs.laws.Units.{SignClear, units_exact}
use Rattle.floats.specs.Units.{Finite, grid_of, Counts, Apart, Rounded, over, under}
use Rattle.floats.specs.laws.Rounding.{grid_mono, grid_same}
use Rattle.floats.specs.laws.Products.{counts_within, within_clear, counts_units, mul_counts}
use Rattle.floats.specs.laws.Sums.{add_rounded, clear_over}
use Rattle.floats.specs.laws.Whole.{whole_grid, whole_bound}
use Rattle.floats.specs.laws.Equal.{not_lt}
use Rattle.render.specs.Times.{rate, first_past}
use Rattle.render.specs.laws.Clock.{Good}
use Rattle.render.specs.laws.TimeLaws.{ticks, past_ticks, good_finite, rate_is, rate_finite, rate_some}
use Rattle.render.specs.laws.StrictLaws.{time_near}
use Rattle.render.specs.laws.PastLaws.{before_past}
use Rattle.render.specs.laws.GuessLaw.{base, base_most, product, product_under, product_over, base_small, at_most, product_counts, past_under, past_over, set_past, zero_is, zero_finite}

-- 2 ^ 52
abbrev pub whole : Float
whole = Ieee.of_bits binary64 0x4330_0000_0000_0000

whole_is : whole ≡ fin false 1 (pos 52)
whole_is = unfold Ieee.of_bits in refl

whole_finite : Finite (fin false 1 (pos 52))
unfolding Ieee.fits
whole_finite = tt

whole_units : units_of (fin false 1 (pos 52)) ≡ 2 ^ 52 * 2 ^ 1074
whole_units = unfold units_of in refl

-- ---- from 2 ^ 52 on what is rounded is a whole number

many : (n : ℕ) → 2 ^ 1126 ≤ n → 1126 < Ieee.size n
many n h = lt_of_not-le (λ (s : Ieee.size n ≤ 1126). not-le_of_lt (size-lt n) (le_trans (pow_mono s) h))

dropped : (s k : ℕ) → 1126 < s → k ≡ s - 53 → k ≡ k - 1074 + 1074
dropped s k h e = omega arith

grid_whole : (n : ℕ) → 2 ^ 1126 ≤ n → (q : ℕ) × (grid_of n (2 ^ 1074) ≡ q * 2 ^ 1074)
unfolding grid_of
grid_whole n h =
    let w = 2 ^ 1074 in
    let k = drop 53 (n * w) w in
    let q = kept 53 (n * w) w in
    let some : 1126 < Ieee.size (n * w / w) = rw (mul-div_cancel n (pow_pos 1074)) (many n h) in
    let e : k ≡ k - 1074 + 1074 = dropped (Ieee.size (n * w / w)) k some refl in
    (q * 2 ^ (k - 1074), ap (λ (j : ℕ). q * 2 ^ j) e ∙ ap (λ (j : ℕ). q * j) (pow-add 2 (k - 1074) 1074) ∙ sym (mul_assoc q (2 ^ (k - 1074)) w))

-- what has so many units casts to them
module _ (q : ℕ) (few : q ≤ 2 ^ 53) where
  cast_of : (m : ℕ) (e : ℤ) → m * up e ≡ q * down e →
      T (Ieee.in_unsigned binary64 64 (fin false m e)) × (Ieee.to_unsigned 64 (fin false m e) ≡ q)
  unfolding Ieee.in_unsigned Ieee.whole Ieee.to_unsigned
  cast_of m e h =
      let none : m * up e % down e ≡ 0 = rw h (mul-mod_left q (down e)) in
      let is : m * up e / down e ≡ q = rw h (mul-div_cancel q (down_pos e)) in
      let below : ltb q (2 ^ 64) ≡ true = lt-ltb q (2 ^ 64) (lt_of_le_of_lt few (lit< tt)) in
      let upto : leb q (2 ^ 53) ≡ true = le-leb q (2 ^ 53) few in
      (rw (none, is, upto, below) tt, rw is (min-eq_left (le_trans few (lit≤ tt))))

  counts_cast : (z : Float) → Counts z false (q * 2 ^ 1074) → T (Ieee.in_unsigned binary64 64 z) × (Ieee.to_unsigned 64 z ≡ q)
  counts_cast nan c = absurd c
  counts_cast (inf t) c = absurd (not-le_of_lt (whole_bound q few) c.1)
  counts_cast (fin true m e) c = absurd (false≢true (sym c.0))
  counts_cast (fin false m e) c =
      let w = 2 ^ 1074 in
      let same : m * up e * w ≡ q * down e * w = units_exact false m e c.1 ∙ ap (λ (u : ℕ). u * down e) c.2 ∙ mul_right_comm q w (down e) in
      cast_of m e (eq_of_mul-eq-mul_right w (pow_pos 1074) _ _ same)

-- ---- the sum: P units and 2 ^ 52, rounded once

no_sum : (P W D : ℕ) → 0 < W → P + W + D ≡ 0 → ⊥
no_sum P W D h e = omega arith

beside : (a b c : ℕ) → a ≤ b → a + c ≤ b + c
beside a b c h = omega arith

behind : (a b c : ℕ) → a ≤ c → a ≤ b + c
behind a b c h = omega arith

apart_is : (z : Float) (P W : ℕ) → 0 < W → Rounded z (P + W) 0 → Counts z false (grid_of (P + W) (2 ^ 1074))
apart_is z P W some r = go r.sign r.size r.counts r.apart
  where
    go : (s : Bool) (D : ℕ) → Counts z s (grid_of D (2 ^ 1074)) → Apart s (P + W) 0 D → Counts z false (grid_of (P + W) (2 ^ 1074))
    go true D c a = absurd (no_sum P W D some a)
    go false D c a = subst (λ (n : ℕ). Counts z false (grid_of n (2 ^ 1074))) (sym (zero-add D) ∙ a) c

sum_of : (p : Float) (P : ℕ) → Finite p → over p ≡ P → under p ≡ 0 → Rounded (p ⊕ whole) (P + 2 ^ 52 * 2 ^ 1074) 0
sum_of p P f o u = rw whole_is (rw (o, u, whole_units) at (add_rounded p (fin false 1 (pos 52)) f whole_finite))

-- what the cast of a sum gives: 2 ^ 52 and b, or one more
pub record Cast (z : Float) (b : ℕ) : Type 0 where
  pub fits : T (Ieee.in_unsigned binary64 64 z)
  pub least : b + 2 ^ 52 ≤ Ieee.to_unsigned 64 z
  pub most : Ieee.to_unsigned 64 z ≤ b + 1 + 2 ^ 52

module _ (z : Float) (b P : ℕ) (few : b ≤ 3840000000) (r : Rounded z (P + 2 ^ 52 * 2 ^ 1074) 0) (low : b * 2 ^ 1074 ≤ P) (high : P ≤ (b + 1) * 2 ^ 1074) where
  counts : Counts z false (grid_of (P + 2 ^ 52 * 2 ^ 1074) (2 ^ 1074))
  counts = apart_is z P (2 ^ 52 * 2 ^ 1074) (lit< tt) r

  small : b + 2 ^ 52 ≤ 2 ^ 53
  small = omega (arith, few)

  small_next : b + 1 + 2 ^ 52 ≤ 2 ^ 53
  small_next = omega (arith, few)

  sum_under : (b + 2 ^ 52) * 2 ^ 1074 ≤ grid_of (P + 2 ^ 52 * 2 ^ 1074) (2 ^ 1074)
  sum_under =
      let w = 2 ^ 1074 in
      le_trans (le_of_eq (sym (whole_grid (b + 2 ^ 52) small)))
      (grid_mono ((b + 2 ^ 52) * w) w (P + 2 ^ 52 * w) w (pow_pos 1074) (pow_pos 1074)
      (mul-le-mul_right w (le_trans (le_of_eq (add-mul b (2 ^ 52) w)) (beside (b * w) P (2 ^ 52 * w) low))))

  sum_over : grid_of (P + 2 ^ 52 * 2 ^ 1074) (2 ^ 1074) ≤ (b + 1 + 2 ^ 52) * 2 ^ 1074
  sum_over =
      let w = 2 ^ 1074 in
      le_trans
      (grid_mono (P + 2 ^ 52 * w) w ((b + 1 + 2 ^ 52) * w) w (pow_pos 1074) (pow_pos 1074)
      (mul-le-mul_right w (le_trans (beside P ((b + 1) * w) (2 ^ 52 * w) high) (le_of_eq (sym (add-mul (b + 1) (2 ^ 52) w))))))
      (le_of_eq (whole_grid (b + 1 + 2 ^ 52) small_next))

  cast : Cast z b
  cast =
      let w = 2 ^ 1074 in
      let q = grid_whole (P + 2 ^ 52 * w) (behind (2 ^ 1126) P (2 ^ 52 * w) (lit≤ tt)) in
      let low_q : b + 2 ^ 52 ≤ q.0 = le_of_mul-le-mul_right {k = w} (le_trans sum_under (le_of_eq q.1)) (pow_pos 1074) in
      let high_q : q.0 ≤ b + 1 + 2 ^ 52 = le_of_mul-le-mul_right {k = w} (le_trans (le_of_eq (sym q.1)) sum_over) (pow_pos 1074) in
      let k = counts_cast q.0 (le_trans high_q small_next) z (subst (λ (n : ℕ). Counts z false n) q.1 counts) in
      record { fits = k.0; least = rw k.1 low_q; most = rw k.1 high_q }

-- ---- and so for every x in range that is not below 0

abbrev pub rounded : Float → Float
rounded x = x ⊗ rate ⊕ whole

pub record Near (x : Float) : Type 0 where
  pub fits : T (Ieee.in_unsigned binary64 64 (rounded x))
  pub least : 2 ^ 52 ≤ Ieee.to_unsigned 64 (rounded x)
  pub under : Ieee.to_unsigned 64 (rounded x) - 2 ^ 52 ≤ first_past x
  pub over : first_past x ≤ Ieee.to_unsigned 64 (rounded x) - 2 ^ 52 + 2

between : (t b f : ℕ) → b + 2 ^ 52 ≤ t → t ≤ b + 1 + 2 ^ 52 → b < f → f ≤ b + 2 → (2 ^ 52 ≤ t) × (t - 2 ^ 52 ≤ f) × (f ≤ t - 2 ^ 52 + 2)
between t b f p q r s = (omega arith, omega arith, omega arith)

cast_near : (x : Float) (b : ℕ) → Cast (rounded x) b → b < first_past x → first_past x ≤ b + 2 → Near x
cast_near x b k h l =
    let f = between (Ieee.to_unsigned 64 (rounded x)) b (first_past x) k.least k.most h l in
    record { fits = k.fits; least = f.0; under = f.1; over = f.2 }

clear_near : (x : Float) → Good x → SignClear x → Near x
clear_near x g c =
    let u = units_of x in
    let m = at_most x g c in
    let b = base u m in
    let P = product u m in
    let p = x ⊗ rate in
    let counted = product_counts x g c in
    let w = counts_within p false P ((b + 1) * 2 ^ 1074) counted (product_over u m) (whole_bound (b + 1) (base_small u m)) in
    let o = clear_over p (within_clear p ((b + 1) * 2 ^ 1074) w) in
    let r = sum_of p P w.finite (o.0 ∙ counts_units p false P counted w.finite) o.1 in
    cast_near x b (cast (rounded x) b P (base_most u m) r (product_under u m) (product_over u m)) (past_under x g c) (past_over x g c)

-- -0 counts as 0
grid_none : (c : ℕ) → 0 < c → grid_of 0 c ≡ 0
grid_none c h = grid_same 0 c 0 (2 ^ 1074) h (pow_pos 1074) (sym (zero-mul c)) ∙ whole_grid 0 (lit≤ tt)

no_ticks : ticks 0 ≡ 0
unfolding ticks
no_ticks = rw (grid_none 1 (lit< tt)) (grid_none (48000 * 2 ^ 1074) rate_some)

set_parts : (p : Float) → Counts p true 0 → Finite p × (over p ≡ 0) × (under p ≡ 0)
set_parts nan c = absurd c
set_parts (inf t) c = absurd (not-le_of_lt (pow_pos 2098) c.1)
set_parts (fin true m e) c = (c.1, refl, c.2)
set_parts (fin false m e) c = absurd (false≢true c.0)

module _ (m : ℕ) (e : ℤ) (g : Good (fin true m e)) (none : units_of (fin true m e) ≡ 0) where
  set_product : Counts (fin true m e ⊗ rate) true 0
  set_product =
      let w = 2 ^ 1074 in
      let k = mul_counts (fin true m e) (fin false 375 (pos 7)) g.fitting rate_finite in
      rw rate_is (rw (none, zero-mul (units_of (fin false 375 (pos 7))), grid_none (w * w) (mul-pos (pow_pos 1074) (pow_pos 1074))) at k)

  set_past_some : 0 < first_past (fin true m e)
  set_past_some =
      let x = fin true m e in
      let n = time_near 0 (lit< tt) in
      before_past x 0 g (past_ticks x g.fitting 0 n.0 n.1 ∙ rw (no_ticks, none) refl)

  set_near : Near (fin true m e)
  set_near =
      let x = fin true m e in
      let p = set_parts (x ⊗ rate) set_product in
      let r = sum_of (x ⊗ rate) 0 p.0 p.1 p.2 in
      cast_near x 0 (cast (rounded x) 0 0 (lit≤ tt) r (lit≤ tt) (lit≤ tt)) set_past_some (le_trans (set_past m e g) (lit≤ tt))

no_units : (a b c d : ℕ) → a + b ≤ c + d → c ≡ 0 → d ≡ 0 → b ≡ 0
no_units a b c d h p q = omega arith

pub near : (x : Float) → Good x → Ieee.lt x +0 ≡ false → Near x
near nan g e = absurd (good_finite nan g)
near (inf s) g e = absurd (good_finite (inf s) g)
near (fin true m e) g l =
    let h = not_lt (fin true m e) (fin false 0 (pos 0)) g.fitting zero_finite (rw zero_is at l) in
    set_near m e g (no_units _ _ _ _ h refl refl)
near (fin false m e) g l = clear_near (fin false m e) g g.fitting

-- The times k / 48000 rise with k and are the clock that is asked for: k and the quotient are each rounded once, and rounding keeps the
-- order. From some k on the times are infinite, so no law bounds k.
use Rattle.std.specs.Prelude.{◌≡◌, Bool, true, false, ◌⊎◌, ℕ, ◌+◌, ◌-◌, ◌*◌, ◌^◌, ◌≤◌, ◌<◌, ℤ, pos, ltb, Float}
use Rattle.std.proofs.Math.Path.{refl}
use Rattle.std.proofs.Common.{sym, ap, ◌∙◌, true≢false, inl, inr, le_trans, le_of_eq, not-le_of_lt, mul-le-mul_right, mul-one, mul_assoc, mul_comm, add-zero, mul-pos, arith, lit≤, lit<, pow_pos, ltb-true, lt-ltb, le-ltb}
use Rattle.std.proofs.lemmas.Bool.{false≢true}
use Rattle.std.specs.Float.Ieee
use Rattle.std.specs.Float.{nan, inf, fin}
use Rattle.std.specs.Float.Ieee.{div, lt, le, eq, fits, of_bits}
use Rattle.loops.specs.laws.ChoiceLaws.{and_second}
use Rattle.loops.specs.Arithmetic.{◌⊘◌, float}
use Rattle.roots.specs.Roots.{units_of}
use Rattle.roots.proofs.laws.Units.{SignClear}
use Rattle.floats.specs.Units.{Finite, grid_of, Counts, over, under}
use Rattle.floats.specs.laws.Rounding.{round_counts, grid_mono, units_bound, grid_same}
use Rattle.floats.specs.laws.Products.{clear_finite, div_counts}
use Rattle.floats.specs.laws.Sums.{lt_signed, clear_over}
use Rattle.floats.specs.laws.Whole.{whole_grid}
use Rattle.floats.specs.laws.Equal.{none_above, not_lt, equal_units, le_units}
use Rattle.render.specs.Times.{rate, 80000·0, -80000·0, time_of, past, short}
use Rattle.render.specs.laws.Clock.{Good, Clock}

-- ---- the constants

pub rate_is : rate ≡ fin false 375 (pos 7)
rate_is = unfold of_bits in refl

most_is : 80000·0 ≡ fin false 625 (pos 7)
most_is = unfold of_bits in refl

pub rate_finite : Finite (fin false 375 (pos 7))
unfolding fits
rate_finite = tt

pub rate_units : units_of (fin false 375 (pos 7)) ≡ 48000 * 2 ^ 1074
rate_units = unfold units_of in refl

most_finite : Finite (fin false 625 (pos 7))
unfolding fits
most_finite = tt

most_units : units_of (fin false 625 (pos 7)) ≡ 80000 * 2 ^ 1074
most_units = unfold units_of in refl

-- ---- an x in range is finite, and at most 80000

pub good_finite : (x : Float) → Good x → Finite x
unfolding le lt eq of_bits
good_finite nan g = absurd (false≢true g.inside)
good_finite (inf true) g = absurd (false≢true g.inside)
good_finite (inf false) g = absurd (false≢true g.inside)
good_finite (fin s m e) g = g.fitting

pub good_most : (x : Float) → Good x → over x ≤ 80000 * 2 ^ 1074 + under x
good_most x g =
    let h : le x (fin false 625 (pos 7)) ≡ true = rw most_is at (and_second (le -80000·0 x) (le x 80000·0) g.inside) in
    let k = le_units x (fin false 625 (pos 7)) (good_finite x g) most_finite h in
    rw (← most_units) (le_trans (le_of_eq (sym (add-zero (over x)))) k)

-- ---- a time in units of 2 ^ -1074; the times of k too large for a double are infinite

unfoldable pub ticks : ℕ → ℕ
ticks k = grid_of (grid_of k 1) (48000 * 2 ^ 1074)

pub data Tick (k : ℕ) : Type 0 where
  far : time_of k ≡ inf false → (2 ^ 2098 ≤ grid_of k 1) ⊎ (2 ^ 2098 ≤ ticks k) → Tick k
  near : SignClear (time_of k) → units_of (time_of k) ≡ ticks k → grid_of k 1 < 2 ^ 2098 → Tick k

float_counts : (k : ℕ) → Counts (float k) false (grid_of k 1)
unfolding Ieee.of_int
float_counts k = round_counts false k 1

quotient_tick : (k : ℕ) (t : Float) → time_of k ≡ t → Counts t false (ticks k) → grid_of k 1 < 2 ^ 2098 → Tick k
quotient_tick k nan e c b = absurd c
quotient_tick k (inf true) e c b = absurd (true≢false c.0)
quotient_tick k (inf false) e c b = far e (inr c.1)
quotient_tick k (fin true m d) e c b = absurd (true≢false c.0)
quotient_tick k (fin false m d) e c b = near (rw e c.1) (rw e c.2) b

inf_over : inf false ⊘ fin false 375 (pos 7) ≡ inf false
unfolding div
inf_over = refl

pub rate_some : 0 < 48000 * 2 ^ 1074
rate_some = mul-pos {m = 48000} (lit< tt) (pow_pos 1074)

finite_tick : (k m : ℕ) (d : ℤ) → float k ≡ fin false m d → Counts (fin false m d) false (grid_of k 1) → Tick k
unfolding time_of ticks
finite_tick k m d e c =
    let q = div_counts (fin false m d) (fin false 375 (pos 7)) c.1 rate_finite (rw rate_units rate_some) in
    let r : Counts (float k ⊘ rate) false (grid_of (grid_of k 1) (48000 * 2 ^ 1074)) = rw (e, rate_is) (rw (c.2, rate_units) at q) in
    quotient_tick k (float k ⊘ rate) refl r (rw (← c.2) (units_bound (fin false m d) c.1))

pub tick : (k : ℕ) → Tick k
unfolding time_of
tick k = go (float k) refl (float_counts k)
  where
    go : (x : Float) → float k ≡ x → Counts x false (grid_of k 1) → Tick k
    go nan e c = absurd c
    go (inf true) e c = absurd (true≢false c.0)
    go (inf false) e c = far (rw (e, rate_is) inf_over) (inl c.1)
    go (fin true m d) e c = absurd (true≢false c.0)
    go (fin false m d) e c = finite_tick k m d e c

pub ticks_mono : (j k : ℕ) → j ≤ k → ticks j ≤ ticks k
unfolding ticks
ticks_mono j k h =
    grid_mono (grid_of j 1) (48000 * 2 ^ 1074) (grid_of k 1) (48000 * 2 ^ 1074) rate_some rate_some
    (mul-le-mul_right (48000 * 2 ^ 1074) (grid_mono j 1 k 1 (lit< tt) (lit< tt) (mul-le-mul_right 1 h)))

-- no finite time comes after an infinite one
no_far : {A : Type 0} (j k : ℕ) → j ≤ k → (2 ^ 2098 ≤ grid_of j 1) ⊎ (2 ^ 2098 ≤ ticks j)
    → SignClear (time_of k) → units_of (time_of k) ≡ ticks k → grid_of k 1 < 2 ^ 2098 → A
no_far j k h (inl a) c u b = absurd (not-le_of_lt b (le_trans a (grid_mono j 1 k 1 (lit< tt) (lit< tt) (mul-le-mul_right 1 h))))
no_far j k h (inr a) c u b = absurd (not-le_of_lt (units_bound (time_of k) (clear_finite (time_of k) c)) (rw u (le_trans a (ticks_mono j k h))))

-- ---- where a time lies beside x

module _ (x : Float) (f : Finite x) (k : ℕ) (c : SignClear (time_of k)) (u : units_of (time_of k) ≡ ticks k) where
  pub past_ticks : past x k ≡ ltb (over x) (ticks k + under x)
  past_ticks =
      let o = clear_over (time_of k) c in
      lt_signed x (time_of k) f (clear_finite (time_of k) c) ∙ rw (o.1, o.0, u, add-zero (over x))

  pub short_ticks : short x k ≡ ltb (ticks k + under x) (over x)
  short_ticks =
      let o = clear_over (time_of k) c in
      lt_signed (time_of k) x (clear_finite (time_of k) c) f ∙ rw (o.1, o.0, u, add-zero (over x))

below_inf : (x : Float) → Finite x → lt x (inf false) ≡ true
unfolding lt
below_inf nan f = absurd f
below_inf (inf s) f = absurd f
below_inf (fin s m e) f = refl

rises : (x : Float) (j k : ℕ) → Finite x → j ≤ k → past x j ≡ true → past x k ≡ true
rises x j k f h e = go (tick j) (tick k)
  where
    go : Tick j → Tick k → past x k ≡ true
    go s (far is l) = rw is (below_inf x f)
    go (far is l) (near c u b) = no_far j k h l c u b
    go (near d v b) (near c u b') =
        let a = ltb-true (over x) (ticks j + under x) (sym (past_ticks x f j d v) ∙ e) in
        let m = ticks_mono j k h in
        past_ticks x f k c u ∙ lt-ltb (over x) (ticks k + under x) (omega arith)

falls : (x : Float) (j k : ℕ) → Finite x → j ≤ k → short x k ≡ true → short x j ≡ true
falls x j k f h e = go (tick j) (tick k)
  where
    go : Tick j → Tick k → short x j ≡ true
    go s (far is l) = absurd (false≢true (sym (none_above x) ∙ (rw is at e)))
    go (far is l) (near c u b) = no_far j k h l c u b
    go (near d v b) (near c u b') =
        let a = ltb-true (ticks k + under x) (over x) (sym (short_ticks x f k c u) ∙ e) in
        let m = ticks_mono j k h in
        short_ticks x f j d v ∙ lt-ltb (ticks j + under x) (over x) (omega arith)

-- ---- x at or below y: what lies past y lies past x

before_units : (x y : Float) (k : ℕ) → Finite x → Finite y → over x + under y ≤ over y + under x → past y k ≡ true → past x k ≡ true
before_units x y k p q h e = go (tick k)
  where
    go : Tick k → past x k ≡ true
    go (far is l) = rw is (below_inf x p)
    go (near c u b) =
        let a = ltb-true (over y) (ticks k + under y) (sym (past_ticks y q k c u) ∙ e) in
        past_ticks x p k c u ∙ lt-ltb (over x) (ticks k + under x) (omega arith)

before : (x y : Float) (k : ℕ) → Finite x → Finite y → lt y x ≡ false → past y k ≡ true → past x k ≡ true
before x y k p q h e = before_units x y k p q (not_lt y x q p h) e

both : (a b : Bool) → (a ≡ true → b ≡ true) → (b ≡ true → a ≡ true) → a ≡ b
both true b f g = sym (f refl)
both false true f g = g refl
both false false f g = refl

same : (x y : Float) (k : ℕ) → Finite x → Finite y → eq x y ≡ true → past x k ≡ past y k
same x y k p q e =
    let u = equal_units x y p q e in
    both (past x k) (past y k) (before_units y x k q p (omega arith)) (before_units x y k p q (omega arith))

-- ---- the last k of 32 bits is not short of 80000

pub whole_ticks : (k : ℕ) → k ≤ 2 ^ 53 → grid_of k 1 ≡ k * 2 ^ 1074
whole_ticks k h = grid_same k 1 (k * 2 ^ 1074) (2 ^ 1074) (lit< tt) (pow_pos 1074) (sym (mul-one (k * 2 ^ 1074))) ∙ whole_grid k h

-- rounded once, from k / 48000
pub ticks_is : (k : ℕ) → k ≤ 2 ^ 53 → ticks k ≡ grid_of k 48000
unfolding ticks
ticks_is k h =
    let same : k * 2 ^ 1074 * 48000 ≡ k * (48000 * 2 ^ 1074) = mul_assoc k (2 ^ 1074) 48000 ∙ ap (λ (n : ℕ). k * n) (mul_comm (2 ^ 1074) 48000) in
    rw (whole_ticks k h) (grid_same (k * 2 ^ 1074) (48000 * 2 ^ 1074) k 48000 rate_some (lit< tt) same)

last_ticks : 80000 * 2 ^ 1074 ≤ ticks (2 ^ 32 - 1)
last_ticks = rw (ticks_is (2 ^ 32 - 1) (lit≤ tt))
    (le_trans (le_of_eq (sym (whole_grid 80000 (lit≤ tt))))
    (grid_mono (80000 * 2 ^ 1074) (2 ^ 1074) (2 ^ 32 - 1) 48000 (pow_pos 1074) (lit< tt) (lit≤ tt)))

reaches : (x : Float) → Good x → short x (2 ^ 32 - 1) ≡ false
reaches x g = go (tick (2 ^ 32 - 1))
  where
    go : Tick (2 ^ 32 - 1) → short x (2 ^ 32 - 1) ≡ false
    go (far is l) = rw is (none_above x)
    go (near c u b) =
        let t = ticks (2 ^ 32 - 1) in
        let most : over x ≤ t + under x = le_trans (good_most x g) (lifted (80000 * 2 ^ 1074) t (under x) last_ticks) in
        short_ticks x (good_finite x g) (2 ^ 32 - 1) c u ∙ le-ltb (t + under x) (over x) most
      where
        lifted : (a b n : ℕ) → a ≤ b → a + n ≤ b + n
        lifted a b n h = omega arith

pub clock : Clock
clock = record {
  rises = λ x j k g. rises x j k (good_finite x g);
  falls = λ x j k g. falls x j k (good_finite x g);
  same = λ x y k g h. same x y k (good_finite x g) (good_finite y h);
  before = λ x y k g h. before x y k (good_finite x g) (good_finite y h);
  reaches = reaches;
}

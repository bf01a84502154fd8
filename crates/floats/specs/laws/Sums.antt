-- The order and the sums of finite doubles with signs, in units: by `over` and `under` both are linear arithmetic (`lt_signed`,
-- `add_rounded`). Where a rounded sum lies above a double, so does the exact one, since rounding passes no double (`sum_above`, `sum_below`).
use Rattle.std.specs.Prelude.{◌≡◌, refl, Bool, true, false, not, cond, ℕ, ◌+◌, ◌-◌, ◌*◌, ◌^◌, ◌≤◌, ◌<◌, ℤ, T, ltb, Float}
use Rattle.std.proofs.Common.{sym, ap, ◌∙◌, subst, zero-le, le_refl, le_trans, le_of_eq, lt_of_lt_of_le, lt_of_not-le, not-le_of_lt, add-zero, zero-add, add_comm, add-mul, zero-mul, mul_comm, mul_assoc, mul_right_comm, mul-le-mul_right, mul-lt-mul_of_pos_right, lt_of_mul-lt-mul_right, le_of_mul-le-mul_right, mul-pos, arith, ltb→lt, pow_pos, ltb-true, ltb-false, lt-ltb, le-ltb}
use Rattle.std.proofs.Math.Nat.{mul-sub}
use Rattle.std.specs.Float.{nan, inf, fin}
use Rattle.std.specs.Float.Ieee.{binary64, up, down, round, neg, sum, add, lt, fits}
use Rattle.std.specs.Float.Ieee.Fits.{down_pos, neg-fits}
use Rattle.std.specs.Float.Ieee.Scale.{round_same}
use Rattle.loops.specs.Arithmetic.{◌⊕◌}
use Rattle.roots.specs.Roots.{units_of}
use Rattle.roots.proofs.laws.Units.{SignClear, units_exact}
use Rattle.floats.specs.Units.{Finite, grid_of, Counts, over, under, Apart, Rounded}
use Rattle.floats.specs.laws.Rounding.{round_counts, grid_mono, grid_fixed, units_bound}

-- ---- the order

-- two fractions A / z and B / z are in the order of R / w and S / w that they equal
same_order : (A B R S w z : ℕ) → 0 < w → 0 < z → A * w ≡ R * z → B * w ≡ S * z → ltb A B ≡ ltb R S
same_order A B R S w z hw hz p q = pick (ltb R S) refl
  where
    pick : (t : Bool) → ltb R S ≡ t → ltb A B ≡ t
    pick true e =
        let less : A * w < B * w = rw (p, q) (mul-lt-mul_of_pos_right (ltb-true R S e) hz) in
        lt-ltb A B (lt_of_mul-lt-mul_right w less)
    pick false e =
        let no_less : B * w ≤ A * w = rw (p, q) (mul-le-mul_right z (ltb-false R S e)) in
        le-ltb A B (le_of_mul-le-mul_right no_less hw)

-- m * up e / down e over the denominator of both
common : (s : Bool) (m : ℕ) (e d : ℤ) → T (fits binary64 (fin s m e)) → m * up e * down d * 2 ^ 1074 ≡ units_of (fin s m e) * (down e * down d)
common s m e d f =
    mul_right_comm (m * up e) (down d) (2 ^ 1074) ∙ ap (λ (k : ℕ). k * down d) (units_exact s m e f)
    ∙ mul_assoc (units_of (fin s m e)) (down e) (down d)

same_denominator : (A B R S : ℕ) (e d : ℤ) → A * 2 ^ 1074 ≡ R * (down e * down d) → B * 2 ^ 1074 ≡ S * (down e * down d) → ltb A B ≡ ltb R S
same_denominator A B R S e d p q = same_order A B R S (2 ^ 1074) (down e * down d) (pow_pos 1074) (mul-pos (down_pos e) (down_pos d)) p q

common_second : (t : Bool) (n : ℕ) (d e : ℤ) → T (fits binary64 (fin t n d)) → n * up d * down e * 2 ^ 1074 ≡ units_of (fin t n d) * (down e * down d)
common_second t n d e f = common t n d e f ∙ ap (λ (k : ℕ). units_of (fin t n d) * k) (mul_comm (down d) (down e))

pub lt_signed : (x y : Float) → Finite x → Finite y → lt x y ≡ ltb (over x + under y) (over y + under x)
unfolding lt
lt_signed nan y p q = absurd p
lt_signed (inf s) y p q = absurd p
lt_signed (fin s m e) nan p q = absurd q
lt_signed (fin s m e) (inf t) p q = absurd q
lt_signed (fin false m e) (fin false n d) p q =
    rw (add-zero (units_of (fin false m e)), add-zero (units_of (fin false n d)))
    (same_denominator _ _ _ _ e d (common false m e d p) (common_second false n d e q))
lt_signed (fin false m e) (fin true n d) p q = sym (le-ltb (units_of (fin false m e) + units_of (fin true n d)) 0 zero-le)
lt_signed (fin true m e) (fin false n d) p q =
    let u = units_of (fin true m e) in
    let v = units_of (fin false n d) in
    same_denominator 0 (m * up e * down d + n * up d * down e) 0 (v + u) e d
    (zero-mul (2 ^ 1074) ∙ sym (zero-mul (down e * down d)))
    (add-mul (m * up e * down d) (n * up d * down e) (2 ^ 1074)
    ∙ rw (common true m e d p, common_second false n d e q, ← add-mul) (ap (λ (k : ℕ). k * (down e * down d)) (add_comm u v)))
lt_signed (fin true m e) (fin true n d) p q =
    rw (zero-add (units_of (fin true n d)), zero-add (units_of (fin true m e)))
    (same_denominator _ _ _ _ e d (common_second true n d e q) (common true m e d p))

-- ---- a sum

sub_mul : (a b k : ℕ) → (a - b) * k ≡ a * k - b * k
sub_mul a b k = mul_comm (a - b) k ∙ mul-sub k a b ∙ rw (mul_comm k a, mul_comm k b)

round_units : (s : Bool) (a c u : ℕ) → 0 < c → a * 2 ^ 1074 ≡ u * c → Counts (round binary64 s a c) s (grid_of u (2 ^ 1074))
round_units s a c u C h =
    subst (λ (z : Float). Counts z s (grid_of u (2 ^ 1074)))
    (sym (round_same binary64 s a c u (2 ^ 1074) C (pow_pos 1074) h)) (round_counts s u (2 ^ 1074))

-- u and v units, as a / c and b / c
module _ (a b c u v : ℕ) (C : 0 < c) (p : a * 2 ^ 1074 ≡ u * c) (q : b * 2 ^ 1074 ≡ v * c) where
  of_sum : (s : Bool) → Counts (round binary64 s (a + b) c) s (grid_of (u + v) (2 ^ 1074))
  of_sum s = round_units s (a + b) c (u + v) C (rw (add-mul a b (2 ^ 1074), p, q, add-mul u v c))

  of_difference : (s : Bool) → Counts (round binary64 s (a - b) c) s (grid_of (u - v) (2 ^ 1074))
  of_difference s = round_units s (a - b) c (u - v) C (rw (sub_mul a b (2 ^ 1074), p, q, sub_mul u v c))

  in_order : ltb a b ≡ ltb u v
  in_order = same_order a b u v (2 ^ 1074) c (pow_pos 1074) C p q

sum_rounded : (s : Bool) (a : ℕ) (t : Bool) (b c u v : ℕ) → 0 < c → a * 2 ^ 1074 ≡ u * c → b * 2 ^ 1074 ≡ v * c
    → Rounded (sum binary64 s a t b c) (cond s 0 u + cond t 0 v) (cond s u 0 + cond t v 0)
unfolding sum
sum_rounded false a false b c u v C p q = record { sign = false; size = u + v; counts = of_sum a b c u v C p q false; apart = zero-add (u + v) }
sum_rounded true a true b c u v C p q = record { sign = true; size = u + v; counts = of_sum a b c u v C p q true; apart = zero-add (u + v) }
sum_rounded false a true b c u v C p q = rw (in_order a b c u v C p q) (pick (ltb u v) refl)
  where
    pick : (r : Bool) → ltb u v ≡ r → Rounded (cond r (round binary64 true (b - a) c) (round binary64 false (a - b) c)) (u + 0) (0 + v)
    pick true e = record { sign = true; size = v - u; counts = of_difference b a c v u C q p true; apart = omega (arith, ltb-true u v e) }
    pick false e = record { sign = false; size = u - v; counts = of_difference a b c u v C p q false; apart = omega (arith, ltb-false u v e) }
sum_rounded true a false b c u v C p q = rw (in_order a b c u v C p q, in_order b a c v u C q p) (pick (ltb u v) (ltb v u) refl refl)
  where
    pick : (r l : Bool) → ltb u v ≡ r → ltb v u ≡ l → Rounded (cond r (round binary64 false (b - a) c) (round binary64 l (a - b) c)) (0 + v) (u + 0)
    pick true l e f = record { sign = false; size = v - u; counts = of_difference b a c v u C q p false; apart = omega (arith, ltb-true u v e) }
    pick false true e f = record { sign = true; size = u - v; counts = of_difference a b c u v C p q true; apart = omega (arith, ltb-true v u f) }
    pick false false e f =
        record { sign = false; size = u - v; counts = of_difference a b c u v C p q false; apart = omega (arith, ltb-false u v e, ltb-false v u f) }

over_is : (s : Bool) (m : ℕ) (e : ℤ) → over (fin s m e) ≡ cond s 0 (units_of (fin s m e))
over_is true m e = refl
over_is false m e = refl

under_is : (s : Bool) (m : ℕ) (e : ℤ) → under (fin s m e) ≡ cond s (units_of (fin s m e)) 0
under_is true m e = refl
under_is false m e = refl

pub add_rounded : (x y : Float) → Finite x → Finite y → Rounded (x ⊕ y) (over x + over y) (under x + under y)
unfolding add
add_rounded nan y p q = absurd p
add_rounded (inf s) y p q = absurd p
add_rounded (fin s m e) nan p q = absurd q
add_rounded (fin s m e) (inf t) p q = absurd q
add_rounded (fin s m e) (fin t n d) p q =
    rw (over_is s m e, over_is t n d, under_is s m e, under_is t n d)
    (sum_rounded s (m * up e * down d) t (n * up d * down e) (down e * down d) (units_of (fin s m e)) (units_of (fin t n d))
    (mul-pos (down_pos e) (down_pos d)) (common s m e d p) (common_second t n d e q))

-- ---- what is rounded beyond a double is beyond it exactly

grid_rises : (a b : ℕ) → a ≤ b → grid_of a (2 ^ 1074) ≤ grid_of b (2 ^ 1074)
grid_rises a b h = grid_mono a (2 ^ 1074) b (2 ^ 1074) (pow_pos 1074) (pow_pos 1074) (mul-le-mul_right (2 ^ 1074) h)

grid_above : (n : ℕ) (z : Float) → Finite z → units_of z < grid_of n (2 ^ 1074) → units_of z < n
grid_above n z f h = lt_of_not-le (λ (l : n ≤ units_of z). not-le_of_lt h (le_trans (grid_rises n (units_of z) l) (le_of_eq (grid_fixed z f))))

grid_below : (n : ℕ) (z : Float) → Finite z → grid_of n (2 ^ 1074) < units_of z → n < units_of z
grid_below n z f h = lt_of_not-le (λ (l : units_of z ≤ n). not-le_of_lt h (le_trans (le_of_eq (sym (grid_fixed z f))) (grid_rises (units_of z) n l)))

grid_some : (n : ℕ) (z : Float) → Finite z → 0 < grid_of n (2 ^ 1074) + units_of z → 0 < n + units_of z
grid_some n z f h = lt_of_not-le (λ (l : n + units_of z ≤ 0).
    let none : units_of z ≡ 0 = omega arith in
    let some : units_of z < grid_of n (2 ^ 1074) = omega arith in
    not-le_of_lt (grid_above n z f some) (omega arith))

-- over the ways of a sign: the rounded size G, and the exact D
above_positive : (D : ℕ) (z : Float) → Finite z → over z < grid_of D (2 ^ 1074) + under z → over z < D + under z
above_positive D nan f h = absurd f
above_positive D (inf s) f h = absurd f
above_positive D (fin true m e) f h = grid_some D (fin true m e) f h
above_positive D (fin false m e) f h = rw add-zero (grid_above D (fin false m e) f (rw add-zero at h))

above_negative : (D : ℕ) (z : Float) → Finite z → over z + grid_of D (2 ^ 1074) < under z → over z + D < under z
above_negative D nan f h = absurd f
above_negative D (inf s) f h = absurd f
above_negative D (fin true m e) f h = rw zero-add (grid_below D (fin true m e) f (rw zero-add at h))
above_negative D (fin false m e) f h = absurd (not-le_of_lt h zero-le)

below_infinity : (z : Float) (t : Bool) → Finite z → T (lt z (inf t)) → t ≡ false
unfolding lt
below_infinity nan t f h = absurd f
below_infinity (inf s) t f h = absurd f
below_infinity (fin s m e) true f h = absurd h
below_infinity (fin s m e) false f h = refl

over_le : (z : Float) → Finite z → over z ≤ units_of z
over_le nan f = absurd f
over_le (inf s) f = absurd f
over_le (fin true m e) f = zero-le
over_le (fin false m e) f = le_refl _

above_by : (v z : Float) (s : Bool) (P N D : ℕ) → Counts v s (grid_of D (2 ^ 1074)) → Apart s P N D → Finite z → T (lt z v) → over z + N < P + under z
above_by nan z s P N D c a f h = absurd c
above_by (inf t) z true P N D c a f h = absurd (let g : ◌≡◌ {A = ℕ} 0 1 = cc (c.0, below_infinity z t f h) in omega arith)
above_by (inf t) z false P N D c a f h =
    let far : units_of z < D = grid_above D z f (lt_of_lt_of_le (units_bound z f) c.1) in
    omega (arith, over_le z f)
above_by (fin true m e) z false P N D c a f h = absurd (let g : ◌≡◌ {A = ℕ} 0 1 = cc c.0 in omega arith)
above_by (fin false m e) z true P N D c a f h = absurd (let g : ◌≡◌ {A = ℕ} 0 1 = cc c.0 in omega arith)
above_by (fin false m e) z false P N D c a f h =
    let v = fin false m e in
    let order : over z + 0 < units_of v + under z = ltb→lt _ _ (subst T (lt_signed z v f c.1) h) in
    omega (arith, above_positive D z f (rw (add-zero (over z), c.2) at order))
above_by (fin true m e) z true P N D c a f h =
    let v = fin true m e in
    let order : over z + units_of v < 0 + under z = ltb→lt _ _ (subst T (lt_signed z v f c.1) h) in
    omega (arith, above_negative D z f (rw (zero-add (under z), c.2) at order))

pub rounded_above : (v z : Float) (P N : ℕ) → Rounded v P N → Finite z → T (lt z v) → over z + N < P + under z
rounded_above v z P N r f h = above_by v z r.sign P N r.size r.counts r.apart f h

pub sum_above : (x y z : Float) → Finite x → Finite y → Finite z → T (lt z (x ⊕ y)) → over z + (under x + under y) < over x + over y + under z
sum_above x y z p q f h = rounded_above (x ⊕ y) z _ _ (add_rounded x y p q) f h

-- ---- the same from the other side, by the signs turned

pub neg_finite : (x : Float) → Finite x → Finite (neg x)
unfolding neg
neg_finite nan f = f
neg_finite (inf s) f = f
neg_finite (fin s m e) f = subst (λ (z : Float). T (fits binary64 z)) (unfold neg in refl) (neg-fits binary64 (fin s m e) f)

units_neg : (s t : Bool) (m : ℕ) (e : ℤ) → units_of (fin s m e) ≡ units_of (fin t m e)
unfolding units_of
units_neg s t m e = refl

pub over_neg : (x : Float) → over (neg x) ≡ under x
unfolding neg
over_neg nan = refl
over_neg (inf s) = refl
over_neg (fin true m e) = units_neg false true m e
over_neg (fin false m e) = refl

pub under_neg : (x : Float) → under (neg x) ≡ over x
unfolding neg
under_neg nan = refl
under_neg (inf s) = refl
under_neg (fin true m e) = refl
under_neg (fin false m e) = units_neg true false m e

pub counts_neg : (x : Float) (s : Bool) (g : ℕ) → Counts x s g → Counts (neg x) (not s) g
unfolding neg
counts_neg nan s g c = c
counts_neg (inf t) s g c = (ap not c.0, c.1)
counts_neg (fin t m e) s g c = (ap not c.0, neg_finite (fin t m e) c.1, units_neg (not t) t m e ∙ c.2)

apart_neg : (s : Bool) (P N D : ℕ) → Apart s P N D → Apart (not s) N P D
apart_neg true P N D a = a
apart_neg false P N D a = a

pub rounded_neg : (v : Float) (P N : ℕ) → Rounded v P N → Rounded (neg v) N P
rounded_neg v P N r =
    let s = r.sign in
    record { sign = not s; size = r.size; counts = counts_neg v s _ r.counts; apart = apart_neg s P N r.size r.apart }

pub lt_neg : (x y : Float) → lt (neg y) (neg x) ≡ lt x y
unfolding lt neg
lt_neg nan nan = refl
lt_neg nan (inf t) = refl
lt_neg nan (fin t n d) = refl
lt_neg (inf s) nan = refl
lt_neg (inf true) (inf true) = refl
lt_neg (inf true) (inf false) = refl
lt_neg (inf false) (inf true) = refl
lt_neg (inf false) (inf false) = refl
lt_neg (inf true) (fin t n d) = refl
lt_neg (inf false) (fin t n d) = refl
lt_neg (fin s m e) nan = refl
lt_neg (fin s m e) (inf true) = refl
lt_neg (fin s m e) (inf false) = refl
lt_neg (fin true m e) (fin true n d) = refl
lt_neg (fin true m e) (fin false n d) = ap (ltb 0) (add_comm (n * up d * down e) (m * up e * down d))
lt_neg (fin false m e) (fin true n d) = refl
lt_neg (fin false m e) (fin false n d) = refl

pub rounded_below : (v z : Float) (P N : ℕ) → Rounded v P N → Finite z → T (lt v z) → P + under z < over z + N
rounded_below v z P N r f h =
    let x = rounded_above (neg v) (neg z) N P (rounded_neg v P N r) (neg_finite z f) (rw lt_neg h) in
    omega (arith, rw (over_neg z, under_neg z) at x)

pub sum_below : (x y z : Float) → Finite x → Finite y → Finite z → T (lt (x ⊕ y) z) → over x + over y + under z < over z + (under x + under y)
sum_below x y z p q f h = rounded_below (x ⊕ y) z _ _ (add_rounded x y p q) f h

pub clear_over : (h : Float) → SignClear h → (over h ≡ units_of h) × (under h ≡ 0)
clear_over nan p = absurd p
clear_over (inf t) p = absurd p
clear_over (fin true m e) p = absurd p
clear_over (fin false m e) p = (refl, refl)

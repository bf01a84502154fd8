-- That whole numbers can speak of doubles: a finite double with its sign clear is exactly `units_of` of it times 2 ^ -1074
-- (`units_exact`), those numbers and +infinity's are in the doubles' order (`range_order`), and no two of these have the same (`range_only`).
use Rattle.std.specs.Prelude.{◌≡◌, refl, ◌⊎◌, Bool, true, false, ◌&&◌, ℕ, zero, suc, ◌+◌, ◌-◌, ◌*◌, ◌/◌, ◌%◌, ◌^◌, ◌≤◌, ◌<◌, ℤ, pos, negsuc, T, eqb, leb, ltb, Float}
use Rattle.std.proofs.Common.{sym, ap, ◌∙◌, subst, inl, inr, div-one, mul-one, zero-mul, zero-add, not-suc-le-zero, mul-le-mul_right, le_of_mul-le-mul_right, mul_assoc, mul_comm, mul_right_comm, mul-div_cancel, mul-pos, mul-lt-mul_of_pos_right, lt_of_mul-lt-mul_right, le_of_suc-le-suc, lt_of_not-le, lt_irrefl, zero-lt-suc, lt_of_lt_of_le, le_of_lt, le_refl, eq-or-lt_of_le, arith, leb→le, ltb→lt, pow-add, pow_pos, ltb-true, ltb-false, lt-ltb, le-ltb}
use Rattle.std.proofs.Math.Nat.{zero-div}
use Rattle.std.proofs.Math.Pow.{pow-lt}
use Rattle.std.specs.Float.{nan, inf, fin, binary64}
use Rattle.std.specs.Float.Ieee.{up, down, lt, fits, of_bits, to_bits}
use Rattle.std.specs.Float.Ieee.Bits.{of_bits-to_bits, of_bits-fits}
use Rattle.std.specs.Float.Ieee.Fits.{down_pos, and_l, and_r}
use Rattle.roots.specs.Roots.{units_of, val, infinity_bits}
use Rattle.roots.proofs.laws.Patterns.{val_only, units_below, bits_below, pattern_finite, pattern_positive}

-- a finite double with its sign clear: +0, or a value above 0
abbrev pub SignClear : Float → Type 0
SignClear nan = ⊥
SignClear (inf s) = ⊥
SignClear (fin true m e) = ⊥
SignClear (fin false m e) = T (fits binary64 (fin false m e))

-- what a value from 0 on is rounded to: such a double, or +infinity
abbrev pub UpToInfinity : Float → Type 0
UpToInfinity nan = ⊥
UpToInfinity (inf true) = ⊥
UpToInfinity (inf false) = Unit
UpToInfinity (fin true m e) = ⊥
UpToInfinity (fin false m e) = T (fits binary64 (fin false m e))

clear_in_range : (x : Float) → SignClear x → UpToInfinity x
clear_in_range nan p = absurd p
clear_in_range (inf s) p = absurd p
clear_in_range (fin true m e) p = absurd p
clear_in_range (fin false m e) p = p

-- a finite double above 0
abbrev pub Positive : Float → Type 0
Positive nan = ⊥
Positive (inf s) = ⊥
Positive (fin true m e) = ⊥
Positive (fin false zero e) = ⊥
Positive (fin false (suc m) e) = T (fits binary64 (fin false (suc m) e))

-- ---- nothing is lost

pow_le_back : (i l : ℕ) → 2 ^ i ≤ 2 ^ l → i ≤ l
pow_le_back i l h = le_of_suc-le-suc (lt_of_not-le (λ (g : l < i). lt_irrefl (2 ^ l) (lt_of_lt_of_le (pow-lt g) h)))

-- 2 ^ l is a multiple of a smaller power
divides : (a l : ℕ) (e : ℤ) → down e ≤ 2 ^ l → a * 2 ^ l ≡ a * 2 ^ l / down e * down e
divides a l (pos i) h = sym (mul-one (a * 2 ^ l / 1) ∙ div-one (a * 2 ^ l))
divides a l (negsuc i) h =
    let inside : suc i ≤ l = pow_le_back (suc i) l h in
    let split : l ≡ l - suc i + suc i = omega arith in
    let is : a * 2 ^ l ≡ a * 2 ^ (l - suc i) * 2 ^ suc i = ap (λ (n : ℕ). a * 2 ^ n) split ∙ rw (pow-add 2 (l - suc i) (suc i), ← mul_assoc) in
    is ∙ ap (λ (n : ℕ). n * 2 ^ suc i) (sym (ap (λ (n : ℕ). n / 2 ^ suc i) is ∙ mul-div_cancel (a * 2 ^ (l - suc i)) (pow_pos (suc i))))

-- the number m * 2 ^ e is units_of / 2 ^ 1074: the fraction up e / down e being 2 ^ e
pub units_exact : (s : Bool) (m : ℕ) (e : ℤ) → T (fits binary64 (fin s m e)) → m * up e * 2 ^ 1074 ≡ units_of (fin s m e) * down e
unfolding units_of fits
units_exact s zero e f = simp (zero-mul, zero-div)
units_exact s (suc m) e f =
    let digits = eqb (suc m % 2) 1 && ltb (suc m) (2 ^ 53) in
    let least = leb (down e) (2 ^ 1074) in
    divides (suc m * up e) 1074 e (leb→le (down e) (2 ^ 1074) (and_r digits least (and_l (digits && least) (ltb (suc m * up e) (2 ^ 1024 * down e)) f)))

-- ---- the order

-- two fractions A / z and B / z are in the order of R / w and S / w that they equal
same_order : (A B R S w z : ℕ) → 0 < w → 0 < z → A * w ≡ R * z → B * w ≡ S * z → ltb A B ≡ ltb R S
same_order A B R S w z hw hz p q = pick (ltb R S) refl
  where
    pick : (t : Bool) → ltb R S ≡ t → ltb A B ≡ t
    pick true e =
        let less : A * w < B * w = rw (p, q) (mul-lt-mul_of_pos_right (ltb-true R S e) hz) in
        lt-ltb A B (lt_of_mul-lt-mul_right w less)
    pick false e =
        let no_less : B * w ≤ A * w = rw (p, q) (mul-le-mul_right z (ltb-false R S e)) in
        le-ltb A B (le_of_mul-le-mul_right no_less hw)

-- as comparison has it, a double is below another where its number of units is
pub range_order : (r s : Float) → UpToInfinity r → UpToInfinity s → lt r s ≡ ltb (units_of r) (units_of s)
unfolding lt units_of
range_order nan s p q = absurd p
range_order (inf true) s p q = absurd p
range_order (fin true m e) s p q = absurd p
range_order (inf false) nan p q = absurd q
range_order (inf false) (inf true) p q = absurd q
range_order (inf false) (inf false) p q = refl
range_order (inf false) (fin true n d) p q = absurd q
range_order (inf false) (fin false n d) p q = sym (le-ltb (2 ^ 2098) (units_of (fin false n d)) (le_of_lt (units_below false n d q)))
range_order (fin false m e) nan p q = absurd q
range_order (fin false m e) (inf true) p q = absurd q
range_order (fin false m e) (inf false) p q = sym (lt-ltb (units_of (fin false m e)) (2 ^ 2098) (units_below false m e p))
range_order (fin false m e) (fin true n d) p q = absurd q
range_order (fin false m e) (fin false n d) p q =
    let R = units_of (fin false m e) in
    let S = units_of (fin false n d) in
    same_order (m * up e * down d) (n * up d * down e) R S (2 ^ 1074) (down e * down d) (pow_pos 1074) (mul-pos (down_pos e) (down_pos d))
    (mul_right_comm (m * up e) (down d) (2 ^ 1074) ∙ ap (λ (n : ℕ). n * down d) (units_exact false m e p) ∙ mul_assoc R (down e) (down d))
    (mul_right_comm (n * up d) (down e) (2 ^ 1074) ∙ ap (λ (n : ℕ). n * down e) (units_exact false n d q) ∙ mul_assoc S (down d) (down e) ∙ ap (λ (n : ℕ). S * n) (mul_comm (down d) (down e)))

-- what lies below 0
abbrev pub Negative : Float → Type 0
Negative nan = ⊥
Negative (inf s) = s ≡ true
Negative (fin s zero e) = ⊥
Negative (fin s (suc m) e) = s ≡ true

pub negative_is : (x : Float) → T (lt x (fin false 0 (pos 0))) → Negative x
unfolding lt
negative_is nan h = absurd h
negative_is (inf true) h = refl
negative_is (inf false) h = absurd h
negative_is (fin true zero e) h =
    let none : 0 * up e * 1 + 0 * 1 * down e ≡ 0 = simp (zero-mul, zero-add) in
    absurd (not-suc-le-zero (rw none at (ltb→lt 0 (0 * up e * 1 + 0 * 1 * down e) h)))
negative_is (fin true (suc m) e) h = refl
negative_is (fin false m e) h =
    let none : 0 * 1 * down e ≡ 0 = simp zero-mul in
    absurd (not-suc-le-zero (rw none at (ltb→lt (m * up e * 1) (0 * 1 * down e) h)))

-- ---- by patterns

pub pattern_clear : (b : ℕ) → b < infinity_bits → SignClear (of_bits binary64 b)
pattern_clear b h =
    let x = pattern_finite b h in
    rw x.2 (subst (λ (v : Float). T (fits binary64 v)) x.2 (of_bits-fits binary64 b))

pub pattern_above : (b : ℕ) → 0 < b → b < infinity_bits → Positive (of_bits binary64 b)
pattern_above b hb h =
    let x = pattern_positive b hb h in
    rw x.2 (subst (λ (v : Float). T (fits binary64 v)) x.2 (of_bits-fits binary64 b))

-- every finite double with its sign clear is one of those
pub clear_pattern : (x : Float) → SignClear x → (b : ℕ) × (b < infinity_bits) × (x ≡ of_bits binary64 b)
clear_pattern nan p = absurd p
clear_pattern (inf s) p = absurd p
clear_pattern (fin true m e) p = absurd p
clear_pattern (fin false m e) p = (to_bits binary64 (fin false m e), bits_below m e p, sym (of_bits-to_bits binary64 (fin false m e) p))

-- and +infinity is the last pattern's
pub infinity_is : of_bits binary64 infinity_bits ≡ inf false
unfolding of_bits
infinity_is = refl

pub pattern_in_range : (b : ℕ) → b ≤ infinity_bits → UpToInfinity (of_bits binary64 b)
pattern_in_range b h = pick (eq-or-lt_of_le h)
  where
    pick : (b ≡ infinity_bits) ⊎ (b < infinity_bits) → UpToInfinity (of_bits binary64 b)
    pick (inl e) = rw (e, infinity_is) tt
    pick (inr l) = clear_in_range (of_bits binary64 b) (pattern_clear b l)

pub range_pattern : (x : Float) → UpToInfinity x → (b : ℕ) × (b ≤ infinity_bits) × (x ≡ of_bits binary64 b)
range_pattern nan p = absurd p
range_pattern (inf true) p = absurd p
range_pattern (inf false) p = (infinity_bits, le_refl infinity_bits, sym infinity_is)
range_pattern (fin true m e) p = absurd p
range_pattern (fin false m e) p = (to_bits binary64 (fin false m e), le_of_lt (bits_below m e p), sym (of_bits-to_bits binary64 (fin false m e) p))

positive_clear : (x : Float) → Positive x → SignClear x
positive_clear nan p = absurd p
positive_clear (inf s) p = absurd p
positive_clear (fin true m e) p = absurd p
positive_clear (fin false zero e) p = absurd p
positive_clear (fin false (suc m) e) p = p

zero_is_none : Positive (of_bits binary64 0) → ⊥
unfolding of_bits
zero_is_none p = p

pub positive_pattern : (x : Float) → Positive x → (b : ℕ) × (0 < b) × (b < infinity_bits) × (x ≡ of_bits binary64 b)
positive_pattern x p = not_zero (clear_pattern x (positive_clear x p))
  where
    not_zero : ((b : ℕ) × (b < infinity_bits) × (x ≡ of_bits binary64 b)) → (b : ℕ) × (0 < b) × (b < infinity_bits) × (x ≡ of_bits binary64 b)
    not_zero (zero, h, is) = absurd (zero_is_none (subst Positive is p))
    not_zero (suc b, h, is) = (suc b, zero-lt-suc b, h, is)

-- ---- no two doubles have the same number of units

pub range_only : (r s : Float) → UpToInfinity r → UpToInfinity s → units_of r ≡ units_of s → r ≡ s
unfolding val
range_only r s p q e =
    let x = range_pattern r p in
    let y = range_pattern s q in
    let same : val x.0 ≡ val y.0 = sym (ap units_of x.2) ∙ e ∙ ap units_of y.2 in
    let patterns : x.0 ≡ y.0 = val_only x.0 y.0 x.1 y.1 same in
    x.2 ∙ ap (of_bits binary64) patterns ∙ sym y.2

pub units_only : (r s : Float) → SignClear r → SignClear s → units_of r ≡ units_of s → r ≡ s
units_only r s p q e = range_only r s (clear_in_range r p) (clear_in_range s q) e

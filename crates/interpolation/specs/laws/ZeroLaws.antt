-- Zeros in f64's operations, of either sign: a finite number times a zero is a zero, a zero added leaves a number what it was
-- in value, and the difference of two numbers that are equal in value is a zero.
use Rattle.std.specs.Prelude.{◌≡◌, refl, Bool, true, false, not, ◌&&◌, cond, ℕ, zero, suc, ◌+◌, ◌-◌, ◌*◌, ◌<◌, ℤ, pos, T, ltb, Float}
use Rattle.std.proofs.Common.{sym, ap, ◌∙◌, subst, zero-mul, mul-zero, mul-pos, mul_assoc, mul_comm, add-zero, zero-lt-suc, lt_irrefl, arith, lt-ltb, le-ltb, pow_pos}
use Rattle.std.specs.Bool.{beq}
use Rattle.std.proofs.Math.Bool.{or-true}
use Rattle.std.proofs.Math.Nat.{sub-zero}
use Rattle.std.proofs.Math.Dec.{eqb-suc-zero}
use Rattle.std.specs.Float.Ieee
use Rattle.std.specs.Float.{nan, inf, fin, Format}
use Rattle.std.specs.Float.Ieee.{up, down, round, fits, sum, unlike}
use Rattle.std.specs.Float.Ieee.Exact.{HasValue, round_exact}
use Rattle.std.specs.Float.Ieee.Fits.{up_pos, down_pos}
use Rattle.std.specs.Float.Ieee.Scale.{finite, round_same}
use Rattle.interpolation.specs.laws.ExactLaws.{rounds_to_itself}

-- +0 and -0
pub data Zero : Float → Type 0 where
  signed : (s : Bool) (e : ℤ) → Zero (fin s 0 e)

-- of the size 0 / c
value_zero : (x : Float) (s : Bool) (c : ℕ) → 0 < c → HasValue x s 0 c → Zero x
value_zero nan s c p v = absurd v
value_zero (inf t) s c p v = absurd v
value_zero (fin t zero e) s c p v = signed t e
value_zero (fin t (suc m) e) s c p v =
    absurd (lt_irrefl 0 (subst (λ (z : ℕ). 0 < z) (v.1 ∙ zero-mul (down e)) (mul-pos (mul-pos (zero-lt-suc m) (up_pos e)) p)))

-- 0 / c rounds to a zero
round_zero : (f : Format) (s : Bool) (c : ℕ) → 0 < c → Zero (round f s 0 c)
round_zero f s c p = value_zero (round f s 0 c) s c p (round_exact f s 0 c 0 0 p (pow_pos _) (pow_pos _) (simp zero-mul))

rounds_to_zero : (f : Format) (s : Bool) (a c : ℕ) → a ≡ 0 → 0 < c → Zero (round f s a c)
rounds_to_zero f s a c e p = rw e (round_zero f s c p)

pub zero_finite : {z : Float} → Zero z → T (finite z)
zero_finite (signed s e) = tt

pub neg_zero : {z : Float} → Zero z → Zero (Ieee.neg z)
unfolding Ieee.neg
neg_zero (signed s e) = signed (not s) e

-- two zeros are equal
pub zeros_equal : {y z : Float} → Zero y → Zero z → Ieee.eq y z ≡ true
unfolding Ieee.eq
zeros_equal (signed s e) (signed t d) = simp (zero-mul, or-true)

-- a finite number times a zero, on either side
pub times_zero : (f : Format) (x : Float) {z : Float} → T (finite x) → Zero z → Zero (Ieee.mul f x z)
unfolding Ieee.mul
times_zero f nan h z = absurd h
times_zero f (inf s) h z = absurd h
times_zero f (fin s m e) h (signed t d) = rounds_to_zero f (unlike s t) (m * up e * (0 * up d)) (down e * down d) (simp (zero-mul, mul-zero)) (mul-pos (down_pos e) (down_pos d))

pub zero_times : (f : Format) {z : Float} (x : Float) → Zero z → T (finite x) → Zero (Ieee.mul f z x)
unfolding Ieee.mul
zero_times f nan z h = absurd h
zero_times f (inf s) z h = absurd h
zero_times f (fin t n d) (signed s e) h = rounds_to_zero f (unlike s t) (0 * up e * (n * up d)) (down e * down d) (simp zero-mul) (mul-pos (down_pos e) (down_pos d))

-- a zero divided, where the quotient is finite
pub zero_over : (f : Format) {z : Float} (y : Float) → Zero z → T (finite (Ieee.div f z y)) → Zero (Ieee.div f z y)
unfolding Ieee.div
zero_over f nan (signed s e) h = absurd h
zero_over f (inf t) (signed s e) h = signed (unlike s t) (pos 0)
zero_over f (fin t zero d) (signed s e) h = absurd h
zero_over f (fin t (suc n) d) (signed s e) h = rw eqb-suc-zero (rounds_to_zero f (unlike s t) (0 * up e * down d) (suc n * up d * down e) (simp zero-mul) (mul-pos (mul-pos (zero-lt-suc n) (up_pos d)) (down_pos e)))

-- ---- sums

-- the definitions of a sum and a difference of finite numbers, a step at a time
pub sum_is : (f : Format) (s : Bool) (a : ℕ) (t : Bool) (b c : ℕ)
    → sum f s a t b c ≡ cond (beq s t) (round f s (a + b) c) (cond (ltb a b) (round f t (b - a) c) (round f (s && ltb b a) (a - b) c))
unfolding sum
sum_is f s a t b c = refl

add_is : (f : Format) (s : Bool) (m : ℕ) (e : ℤ) (t : Bool) (n : ℕ) (d : ℤ)
    → Ieee.add f (fin s m e) (fin t n d) ≡ sum f s (m * up e * down d) t (n * up d * down e) (down e * down d)
unfolding Ieee.add
add_is f s m e t n d = refl

cond_zero : (b : Bool) {x y : Float} → Zero x → Zero y → Zero (cond b x y)
cond_zero true p q = p
cond_zero false p q = q

-- ±a and ∓a cancel
pub cancels : (f : Format) (s t u : Bool) (a b c : ℕ) → a ≡ b → 0 < c → Zero (cond (ltb a b) (round f t (b - a) c) (round f u (a - b) c))
cancels f s t u a b c e p = cond_zero (ltb a b) (rounds_to_zero f t (b - a) c (omega arith) p) (rounds_to_zero f u (a - b) c (omega arith) p)

-- 0 and 0, of whatever signs
pub sum_of_zeros : (f : Format) (s t : Bool) (a b c : ℕ) → a ≡ 0 → b ≡ 0 → 0 < c → Zero (sum f s a t b c)
sum_of_zeros f s t a b c p q r =
    rw sum_is (cond_zero (beq s t) (rounds_to_zero f s (a + b) c (omega arith) r) (cancels f s t (s && ltb b a) a b c (p ∙ sym q) r))

-- a / c and 0, of whatever signs
sum_with_zero : (f : Format) (s t : Bool) (a b c : ℕ) → 0 < a → b ≡ 0 → sum f s a t b c ≡ round f s a c
sum_with_zero f s t a b c p q = sum_is f s a t b c ∙ rw (q, add-zero, sub-zero, le-ltb a 0 (omega arith), lt-ltb 0 a p) (by s t)
  where
    by : (s t : Bool) → cond (beq s t) (round f s a c) (cond false (round f t (0 - a) c) (round f (s && true) a c)) ≡ round f s a c
    by true true = refl
    by true false = refl
    by false true = refl
    by false false = refl

-- zeros add to a zero
pub zero_plus_zero : (f : Format) {y z : Float} → Zero y → Zero z → Zero (Ieee.add f y z)
zero_plus_zero f (signed s e) (signed t d) =
    rw add_is (sum_of_zeros f s t (0 * up e * down d) (0 * up d * down e) (down e * down d) (simp zero-mul) (simp zero-mul) (mul-pos (down_pos e) (down_pos d)))

-- a zero added to any other value of the format leaves it as it is
pub plus_zero : (f : Format) (s : Bool) (m : ℕ) (e : ℤ) {z : Float} → T (fits f (fin s (suc m) e)) → Zero z → Ieee.add f (fin s (suc m) e) z ≡ fin s (suc m) e
plus_zero f s m e h (signed t d) =
    add_is f s (suc m) e t 0 d
    ∙ sum_with_zero f s t (suc m * up e * down d) (0 * up d * down e) (down e * down d) (mul-pos (mul-pos (zero-lt-suc m) (up_pos e)) (down_pos d)) (simp zero-mul)
    ∙ round_same f s (suc m * up e * down d) (down e * down d) (suc m * up e) (down e) (mul-pos (down_pos e) (down_pos d)) (down_pos e)
    (mul_assoc (suc m * up e) (down d) (down e) ∙ ap (λ (w : ℕ). suc m * up e * w) (mul_comm (down d) (down e)))
    ∙ rounds_to_itself f s m e h

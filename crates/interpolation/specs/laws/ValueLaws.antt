-- Equality in value, `==` of f64: adding zeros keeps it, and numbers that are equal in value differ by a zero.
use Rattle.std.specs.Prelude.{◌≡◌, refl, Bool, true, false, not, ◌&&◌, ◌||◌, ◌⊎◌, ℕ, zero, suc, ◌*◌, ◌<◌, ℤ, T, ltb, eqb, Float}
use Rattle.std.proofs.Common.{sym, ◌∙◌, subst, inl, inr, zero-mul, mul-pos, zero-lt-suc, lt_irrefl, eq-eqb, eqb-true}
use Rattle.std.proofs.lemmas.Bool.{false≢true}
use Rattle.std.specs.Float.Ieee
use Rattle.std.specs.Float.{nan, inf, fin, Format}
use Rattle.std.specs.Float.Ieee.{up, down, fits, sum, level}
use Rattle.std.specs.Float.Ieee.Fits.{up_pos, down_pos}
use Rattle.std.specs.Float.Ieee.Scale.{finite}
use Rattle.interpolation.specs.laws.ZeroLaws.{Zero, signed, zeros_equal, zero_plus_zero, plus_zero, sum_is, sum_of_zeros, cancels}

-- a finite number equals itself
pub equals_itself : (x : Float) → T (finite x) → Ieee.eq x x ≡ true
unfolding Ieee.eq
equals_itself nan h = absurd h
equals_itself (inf s) h = absurd h
equals_itself (fin true m e) h = rw (eq-eqb (m * up e * down e) (m * up e * down e) refl)
equals_itself (fin false m e) h = rw (eq-eqb (m * up e * down e) (m * up e * down e) refl)

-- t is x, or both are zeros
unfoldable pub Kept : Float → Float → Type 0
Kept x t = (t ≡ x) ⊎ (Zero x × Zero t)

pub kept_equal : (x t : Float) → T (finite x) → Kept x t → Ieee.eq t x ≡ true
unfolding Kept
kept_equal x t h (inl e) = rw e (equals_itself x h)
kept_equal x t h (inr z) = zeros_equal z.1 z.0

-- a value of the format is kept where a zero is added
kept_once : (f : Format) (x : Float) {z : Float} → T (fits f x) → T (finite x) → Zero z → Kept x (Ieee.add f x z)
unfolding Kept
kept_once f nan fx h z = absurd h
kept_once f (inf s) fx h z = absurd h
kept_once f (fin s zero e) fx h z = inr (signed s e, zero_plus_zero f (signed s e) z)
kept_once f (fin s (suc m) e) fx h z = inl (plus_zero f s m e fx z)

-- and again
pub kept_more : (f : Format) (x t : Float) {z : Float} → T (fits f x) → T (finite x) → Kept x t → Zero z → Kept x (Ieee.add f t z)
unfolding Kept
kept_more f x t fx h (inl e) z = rw e (kept_once f x fx h z)
kept_more f x t fx h (inr k) z = inr (k.0, zero_plus_zero f k.1 z)

-- ---- differences

both_true : (a b : Bool) → (a && b) ≡ true → (a ≡ true) × (b ≡ true)
both_true true true h = (refl, refl)
both_true true false h = (refl, h)
both_true false b h = absurd (false≢true h)

-- a / c and b / c, of the signs s and t, that are level: their difference is 0
difference : (f : Format) (s t : Bool) (a b c : ℕ) → level s a t b ≡ true → 0 < c → Zero (sum f s a (not t) b c)
difference f true true a b c h p =
    rw sum_is (cancels f true false (true && ltb b a) a b c (eqb-true a b (both_true (eqb a b) (true || eqb a 0) h).0) p)
difference f false false a b c h p =
    rw sum_is (cancels f false true (false && ltb b a) a b c (eqb-true a b (both_true (eqb a b) (true || eqb a 0) h).0) p)
difference f true false a b c h p =
    let k = both_true (eqb a b) (false || eqb a 0) h in
    sum_of_zeros f true true a b c (eqb-true a 0 k.1) (sym (eqb-true a b k.0) ∙ eqb-true a 0 k.1) p
difference f false true a b c h p =
    let k = both_true (eqb a b) (false || eqb a 0) h in
    sum_of_zeros f false false a b c (eqb-true a 0 k.1) (sym (eqb-true a b k.0) ∙ eqb-true a 0 k.1) p

sub_is : (f : Format) (s : Bool) (m : ℕ) (e : ℤ) (t : Bool) (n : ℕ) (d : ℤ)
    → Ieee.sub f (fin s m e) (fin t n d) ≡ sum f s (m * up e * down d) (not t) (n * up d * down e) (down e * down d)
unfolding Ieee.sub
sub_is f s m e t n d = refl

eq_is : (s : Bool) (m : ℕ) (e : ℤ) (t : Bool) (n : ℕ) (d : ℤ) → Ieee.eq (fin s m e) (fin t n d) ≡ level s (m * up e * down d) t (n * up d * down e)
unfolding Ieee.eq
eq_is s m e t n d = refl

-- finite numbers that are equal in value differ by a zero
pub equals_differ_by_zero : (f : Format) (x y : Float) → T (finite x) → T (finite y) → Ieee.eq x y ≡ true → Zero (Ieee.sub f x y)
equals_differ_by_zero f nan y hx hy h = absurd hx
equals_differ_by_zero f (inf s) y hx hy h = absurd hx
equals_differ_by_zero f (fin s m e) nan hx hy h = absurd hy
equals_differ_by_zero f (fin s m e) (inf t) hx hy h = absurd hy
equals_differ_by_zero f (fin s m e) (fin t n d) hx hy h =
    rw sub_is (difference f s t (m * up e * down d) (n * up d * down e) (down e * down d) (sym (eq_is s m e t n d) ∙ h) (mul-pos (down_pos e) (down_pos d)))

-- what equals a zero is a zero
pub equals_zero : (x : Float) {z : Float} → T (finite x) → Zero z → Ieee.eq x z ≡ true → Zero x
equals_zero nan hx z h = absurd hx
equals_zero (inf s) hx z h = absurd hx
equals_zero (fin s zero e) hx z h = signed s e
equals_zero (fin s (suc m) e) hx (signed t d) h =
    let k = both_true (eqb (suc m * up e * down d) (0 * up d * down e)) _ (sym (eq_is s (suc m) e t 0 d) ∙ h) in
    let z : suc m * up e * down d ≡ 0 = eqb-true (suc m * up e * down d) (0 * up d * down e) k.0 ∙ simp zero-mul in
    absurd (lt_irrefl 0 (subst (λ (w : ℕ). 0 < w) z (mul-pos (mul-pos (zero-lt-suc m) (up_pos e)) (down_pos d))))

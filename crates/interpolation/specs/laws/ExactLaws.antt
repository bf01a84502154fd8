-- A value that the format holds is its own rounding: what an operation with an exact result gives is that result, as data.
use Rattle.std.specs.Prelude.{◌≡◌, Bool, ◌&&◌, ℕ, suc, ◌+◌, ◌-◌, ◌*◌, ◌/◌, ◌%◌, ◌^◌, ◌≤◌, ◌<◌, ℤ, pos, negsuc, T, leb, ltb, eqb, Float}
use Rattle.std.proofs.Common.{sym, ap, ◌∙◌, subst, mul_right_comm, mul_assoc, mul-one, add_comm, zero-lt-suc, not-le_of_lt, lt_of_not-le, le_of_suc-le-suc, arith, leb→le, ltb→lt, pow-add, pow_pos, shl_lt}
use Rattle.std.proofs.Math.Pow.{pow-lt}
use Rattle.std.specs.Float.{nan, inf, fin, Format}
use Rattle.std.specs.Float.Ieee.{prec, emax, low, up, down, round, fits, to_bits, of_bits}
use Rattle.std.specs.Float.Ieee.Bits.{of_bits-to_bits}
use Rattle.std.specs.Float.Ieee.Exact.{HasValue, round_exact}
use Rattle.std.specs.Float.Ieee.Fits.{and_l, and_r, down_pos, round-fits}
use Rattle.std.specs.Float.Ieee.Nearest.{div_same}

-- the bits of a finite value follow from its sign and its size
same_bits : (f : Format) (t s : Bool) (n m : ℕ) (d e : ℤ) → t ≡ s → n * up d * 2 ^ low f / down d ≡ m * up e * 2 ^ low f / down e
    → to_bits f (fin t n d) ≡ to_bits f (fin s m e)
unfolding to_bits
same_bits f t s n m d e p q = rw (p, q)

-- so of the values that the format holds only one has a given sign and size
pub value_is : (f : Format) (x : Float) (s : Bool) (m : ℕ) (e : ℤ) → T (fits f x) → T (fits f (fin s m e))
    → HasValue x s (m * up e) (down e) → x ≡ fin s m e
value_is f nan s m e fx fy v = absurd v
value_is f (inf t) s m e fx fy v = absurd v
value_is f (fin t n d) s m e fx fy v =
    let l = 2 ^ low f in
    let q : n * up d * l / down d ≡ m * up e * l / down e =
    div_same (n * up d * l) (down d) (m * up e * l) (down e) (down_pos d) (down_pos e)
    (mul_right_comm (n * up d) l (down e) ∙ ap (λ (z : ℕ). z * l) v.1 ∙ mul_right_comm (m * up e) (down d) l) in
    sym (of_bits-to_bits f (fin t n d) fx) ∙ ap (of_bits f) (same_bits f t s n m d e v.0 q) ∙ of_bits-to_bits f (fin s m e) fy

-- what fitting says of a value other than 0: few digits, not too fine, not too large
record Held (f : Format) (m : ℕ) (e : ℤ) : Type 0 where
  short : m < 2 ^ prec f
  coarse : down e ≤ 2 ^ low f
  small : m * up e < 2 ^ suc (emax f) * down e

held : (f : Format) (s : Bool) (m : ℕ) (e : ℤ) → T (fits f (fin s (suc m) e)) → Held f (suc m) e
unfolding fits
held f s m e h =
    let A = eqb (suc m % 2) 1 in
    let B = ltb (suc m) (2 ^ prec f) in
    let C = leb (down e) (2 ^ low f) in
    let D = ltb (suc m * up e) (2 ^ suc (emax f) * down e) in
    record {
      short = ltb→lt (suc m) (2 ^ prec f) (and_r A B (and_l (A && B) C (and_l (A && B && C) D h)));
      coarse = leb→le (down e) (2 ^ low f) (and_r (A && B) C (and_l (A && B && C) D h));
      small = ltb→lt (suc m * up e) (2 ^ suc (emax f) * down e) (and_r (A && B && C) D h);
    }

-- a power that is at most another has at most its exponent
pow_back : (k l : ℕ) → 2 ^ k ≤ 2 ^ l → k ≤ l
pow_back k l h = le_of_suc-le-suc (lt_of_not-le (λ below. not-le_of_lt (pow-lt below) h))

-- such a value is a whole number of the format's smallest one, with few digits, m * 2 ^ j of them: so nothing is rounded off
nothing_lost : (f : Format) (s : Bool) (m : ℕ) (e : ℤ) → Held f m e → HasValue (round f s (m * up e) (down e)) s (m * up e) (down e)
nothing_lost f s m (pos k) h =
    let l = low f in
    let t = suc (emax f) in
    let shift : m * 2 ^ (k + l) ≡ m * 2 ^ k * 2 ^ l = ap (λ (z : ℕ). m * z) (pow-add 2 k l) ∙ sym (mul_assoc m (2 ^ k) (2 ^ l)) in
    let under : m * 2 ^ k * 2 ^ l < 2 ^ (t + l) = shl_lt t l (subst (λ (z : ℕ). m * 2 ^ k < z) (mul-one (2 ^ t)) h.small) in
    round_exact f s (m * 2 ^ k) 1 m (k + l) (zero-lt-suc 0) h.short
    (rw (shift, add_comm l t) under)
    (rw (mul-one, shift))
nothing_lost f s m (negsuc k) h =
    let l = low f in
    let t = suc (emax f) in
    let j = l - suc k in
    let room : suc k ≤ l = pow_back (suc k) l h.coarse in
    let whole : 2 ^ l ≡ 2 ^ j * 2 ^ suc k = ap (λ (z : ℕ). 2 ^ z) (let e : l ≡ j + suc k = omega arith in e) ∙ pow-add 2 j (suc k) in
    let few : m < 2 ^ (t + suc k) = rw (mul-one, ← pow-add 2 t (suc k)) at h.small in
    let under : m * 2 ^ j < 2 ^ (t + suc k + j) = shl_lt (t + suc k) j few in
    let sums : t + suc k + j ≡ l + t = omega arith in
    round_exact f s (m * 1) (2 ^ suc k) m j (pow_pos (suc k)) h.short
    (rw sums at under)
    (rw (mul-one, whole, mul_assoc))

-- a value that the format holds is its own rounding
pub rounds_to_itself : (f : Format) (s : Bool) (m : ℕ) (e : ℤ) → T (fits f (fin s (suc m) e)) → round f s (suc m * up e) (down e) ≡ fin s (suc m) e
rounds_to_itself f s m e h =
    value_is f (round f s (suc m * up e) (down e)) s (suc m) e (round-fits f s (suc m * up e) (down e)) h (nothing_lost f s (suc m) e (held f s m e h))

-- What rounding a fraction to a double gives, in units (`grid_of`): the result has that many, or is an infinity from 2 ^ 2098 on
-- (`round_counts`). Rounding keeps the order (`grid_mono`) and leaves what has 53 digits as it is (`grid_fixed`, `grid_exact`).
use Rattle.std.specs.Prelude.{◌≡◌, refl, Bool, true, false, ◌&&◌, ℤ, pos, negsuc, T, ltb, eqb, leb}
use Rattle.std.proofs.Common.{sym, ap, ◌∙◌, subst, inl, inr, le_trans, le_of_eq, le_antisymm, lt_of_le_of_lt, eq-or-lt_of_le, mul_assoc, mul_right_comm, mul-one, mul-le-mul_right, le-div_iff_mul-le, mul-div_cancel, mul-pos, le_of_suc-le-suc, lt_of_not-le, not-le_of_lt, arith, leb→le, ltb→lt, pow-add, pow_pos, pow_mono, ltb-true, ltb-false}
use Prim.Native.Nat.{ℕ, zero, suc, ◌+◌, ◌-◌, ◌*◌, ◌/◌, ◌%◌, ◌^◌, ◌≤◌, ◌<◌, zero-le, compare}
use Rattle.std.proofs.Math.Nat.{div-div-eq-div-mul, eq_of_mul-eq-mul_right}
use Rattle.std.proofs.Math.Pow.{pow-lt}
use lib.Ieee.{Float, nan, inf, fin, binary64, up, down, size, units, round, fits}
use Rattle.std.specs.Float.Ieee.Digits.{size-lt, size-le, size_reaches}
use Rattle.std.specs.Float.Ieee.Fits.{kept-lt, nearest-le, round_is, round-fits, down_pos, and_l, and_r}
use Rattle.std.specs.Float.Ieee.Exact.{HasValue, units_val, round_exact}
use Rattle.std.specs.Float.Ieee.Nearest.{closest, closest_mono, nearest-ge, div_mono}
use Rattle.std.specs.Float.Ieee.Order.{drop, kept}
use Rattle.std.specs.Float.Ieee.Scale.{grid, round_val, round_under, finite}
use Rattle.roots.specs.Roots.{units_of}
use Rattle.roots.proofs.laws.Patterns.{units_below, units_zero}
use Rattle.roots.proofs.laws.Units.{units_exact}
use Rattle.floats.specs.Units.{Finite, grid_of, Counts}

-- a finite value that is a / 2 ^ 1074 has a units
counts_of : (x : Float) (s : Bool) (a : ℕ) → T (fits binary64 x) → HasValue x s a (2 ^ 1074) → Counts x s a
unfolding units_of
counts_of nan s a f h = absurd h
counts_of (inf t) s a f h = absurd h
counts_of (fin t m e) s a f h = (h.0, f, ap (λ (n : ℕ). n / down e) h.1 ∙ mul-div_cancel a (down_pos e))

units_past : (s : Bool) (q k : ℕ) → ltb (q * 2 ^ k) (2 ^ 2098) ≡ false → units binary64 s q k ≡ inf s
unfolding units
units_past s q k e = rw e

pub round_counts : (s : Bool) (a c : ℕ) → Counts (round binary64 s a c) s (grid_of a c)
unfolding grid_of
round_counts s a c = go (ltb g (2 ^ 2098)) refl
  where
    q : ℕ
    q = kept 53 (a * 2 ^ 1074) c

    k : ℕ
    k = drop 53 (a * 2 ^ 1074) c

    g : ℕ
    g = q * 2 ^ k

    go : (b : Bool) → ltb g (2 ^ 2098) ≡ b → Counts (round binary64 s a c) s g
    go true e =
        let value = units_val binary64 s q k (ltb-true g (2 ^ 2098) e) in
        counts_of (round binary64 s a c) s g (round-fits binary64 s a c)
        (subst (λ (z : Float). HasValue z s g (2 ^ 1074)) (sym (round_is binary64 s a c)) value)
    go false e = subst (λ (z : Float). Counts z s g) (sym (round_is binary64 s a c ∙ units_past s q k e)) (refl, ltb-false g (2 ^ 2098) e)

-- ---- the order: as `lib.Ieee.Order` has it inside `round_mono`

size_mono : (a b : ℕ) → a ≤ b → size a ≤ size b
size_mono a b h = size-le a (size b) (lt_of_le_of_lt h (size-lt b))

same_drop : (k a b c d : ℕ) → 0 < b → 0 < d → a * d ≤ c * b → closest a (b * 2 ^ k) * 2 ^ k ≤ closest c (d * 2 ^ k) * 2 ^ k
same_drop k a b c d B D h =
    mul-le-mul_right (2 ^ k)
    (closest_mono a (b * 2 ^ k) c (d * 2 ^ k) (mul-pos B (pow_pos k)) (mul-pos D (pow_pos k))
    (le_trans (le_of_eq (sym (mul_assoc a d (2 ^ k)))) (le_trans (mul-le-mul_right (2 ^ k) h) (le_of_eq (mul_assoc c b (2 ^ k))))))

kept_le : (n den : ℕ) → kept 53 n den ≤ 2 ^ 53
kept_le n den =
    let k = drop 53 n den in
    let u = den * 2 ^ k in
    le_trans (nearest-le (n / u) (compare (n % u * 2) u)) (subst (λ (x : ℕ). x < 2 ^ 53) (div-div-eq-div-mul n den (2 ^ k)) (kept-lt 53 (n / den)))

in_use : (z : ℕ) → 0 < z - 53 → 52 + (z - 53) < z
in_use z h = omega arith

-- where digits are dropped, the number has at least 53
whole_ge : (n den : ℕ) → 0 < drop 53 n den → 2 ^ 52 * 2 ^ drop 53 n den ≤ n / den
whole_ge n den K = le_trans (le_of_eq (sym (pow-add 2 52 (drop 53 n den)))) (size_reaches (n / den) (52 + drop 53 n den) (in_use (size (n / den)) K))

kept_ge : (n den : ℕ) → 0 < drop 53 n den → 2 ^ 52 ≤ kept 53 n den
kept_ge n den K =
    let k = drop 53 n den in
    let u = den * 2 ^ k in
    le_trans (subst (λ (x : ℕ). 2 ^ 52 ≤ x) (div-div-eq-div-mul n den (2 ^ k)) ((le-div_iff_mul-le (pow_pos k)).1 (whole_ge n den K)))
    (nearest-ge (n / u) (compare (n % u * 2) u))

fewer : (x y : ℕ) → x ≤ y → x - 53 ≤ y - 53
fewer x y h = omega arith

room : (j k : ℕ) → j < k → 53 + j ≤ 52 + k
room j k h = omega arith

pub grid_mono : (a b c d : ℕ) → 0 < b → 0 < d → a * d ≤ c * b → grid_of a b ≤ grid_of c d
unfolding grid_of
grid_mono a b c d B D h =
    let w = 2 ^ 1074 in
    let x : a * w * d ≤ c * w * b = le_trans (le_of_eq (mul_right_comm a w d)) (le_trans (mul-le-mul_right w h) (le_of_eq (mul_right_comm c b w))) in
    of_whole (a * w) b (c * w) d B D x
  where
    of_whole : (a b c d : ℕ) → 0 < b → 0 < d → a * d ≤ c * b → kept 53 a b * 2 ^ drop 53 a b ≤ kept 53 c d * 2 ^ drop 53 c d
    of_whole a b c d B D h =
        let j = drop 53 a b in
        let k = drop 53 c d in
        elim (eq-or-lt_of_le (fewer (size (a / b)) (size (c / d)) (size_mono (a / b) (c / d) (div_mono a b c d B D h)))) [
          | inl e ↦ subst (λ (x : ℕ). closest a (b * 2 ^ x) * 2 ^ x ≤ kept 53 c d * 2 ^ k) (sym e) (same_drop k a b c d B D h)
          | inr l ↦
              le_trans (mul-le-mul_right (2 ^ j) (kept_le a b))
              (le_trans (le_of_eq (sym (pow-add 2 53 j)))
              (le_trans (pow_mono (room j k l))
              (le_trans (le_of_eq (pow-add 2 52 k)) (mul-le-mul_right (2 ^ k) (kept_ge c d (lt_of_le_of_lt zero-le l))))))
        ]

-- equal fractions are rounded alike
pub grid_same : (a b c d : ℕ) → 0 < b → 0 < d → a * d ≡ c * b → grid_of a b ≡ grid_of c d
grid_same a b c d B D e = le_antisymm (grid_mono a b c d B D (le_of_eq e)) (grid_mono c d a b D B (le_of_eq (sym e)))

-- ---- a double stays as it is

pow_le_back : (i l : ℕ) → 2 ^ i ≤ 2 ^ l → i ≤ l
pow_le_back i l h = le_of_suc-le-suc (lt_of_not-le (λ (g : l < i). not-le_of_lt (pow-lt g) h))

-- its units are its digits, some places up
places : (s : Bool) (m : ℕ) (e : ℤ) → T (fits binary64 (fin s m e)) → (q : ℕ) × (j : ℕ) × (q < 2 ^ 53) × (units_of (fin s m e) ≡ q * 2 ^ j)
unfolding fits
places s zero e f = (0, 0, pow_pos 53, units_zero s e)
places s (suc m) e f =
    let odd = eqb (suc m % 2) 1 in
    let short = ltb (suc m) (2 ^ 53) in
    let least = leb (down e) (2 ^ 1074) in
    let head : T (odd && short && least) = and_l (odd && short && least) (ltb (suc m * up e) (2 ^ 1024 * down e)) f in
    let small : down e ≤ 2 ^ 1074 = leb→le (down e) (2 ^ 1074) (and_r (odd && short) least head) in
    let x = by_exponent (suc m) e (units_of (fin s (suc m) e)) (units_exact s (suc m) e f) small in
    (suc m, x.0, ltb→lt (suc m) (2 ^ 53) (and_r odd short (and_l (odd && short) least head)), x.1)
  where
    by_exponent : (m : ℕ) (e : ℤ) (u : ℕ) → m * up e * 2 ^ 1074 ≡ u * down e → down e ≤ 2 ^ 1074 → (j : ℕ) × (u ≡ m * 2 ^ j)
    by_exponent m (pos k) u is h = (k + 1074, sym (mul-one u) ∙ sym is ∙ rw (mul_assoc, pow-add 2 k 1074))
    by_exponent m (negsuc k) u is h = (1074 - suc k, scaled_back m (suc k) 1074 u (pow_le_back (suc k) 1074 h) is)
      where
        scaled_back : (m i l u : ℕ) → i ≤ l → m * 1 * 2 ^ l ≡ u * 2 ^ i → u ≡ m * 2 ^ (l - i)
        scaled_back m i l u h is =
            let split : l ≡ l - i + i = omega arith in
            eq_of_mul-eq-mul_right (2 ^ i) (pow_pos i) u (m * 2 ^ (l - i))
            (sym is ∙ ap (λ (n : ℕ). m * 1 * 2 ^ n) split ∙ rw (mul-one m, pow-add 2 (l - i) i, ← mul_assoc))

round_finite : (x : Float) (s : Bool) (a c : ℕ) → HasValue x s a c → T (finite x)
round_finite nan s a c h = h
round_finite (inf t) s a c h = h
round_finite (fin t m e) s a c h = tt

same_value : (x : Float) (s : Bool) (a c b d : ℕ) → HasValue x s a c → HasValue x s b d → a * d ≡ b * c
same_value nan s a c b d h k = absurd h
same_value (inf t) s a c b d h k = absurd h
same_value (fin t m e) s a c b d h k =
    eq_of_mul-eq-mul_right (down e) (down_pos e) (a * d) (b * c)
    (mul_right_comm a d (down e)
    ∙ ap (λ (n : ℕ). n * d) (sym h.1)
    ∙ mul_right_comm (m * up e) c d
    ∙ ap (λ (n : ℕ). n * c) k.1
    ∙ mul_right_comm b (down e) c)

pub units_bound : (x : Float) → Finite x → units_of x < 2 ^ 2098
units_bound nan f = absurd f
units_bound (inf s) f = absurd f
units_bound (fin s m e) f = units_below s m e f

-- a number of units with few digits is its own rounding
pub grid_exact : (q j : ℕ) → q < 2 ^ 53 → q * 2 ^ j < 2 ^ 2098 → grid_of (q * 2 ^ j) (2 ^ 1074) ≡ q * 2 ^ j
unfolding grid_of
grid_exact q j short small =
    let u = q * 2 ^ j in
    let w = 2 ^ 1074 in
    let v = round_exact binary64 false u w q j (pow_pos 1074) short small refl in
    let under = round_under binary64 u w (round_finite (round binary64 false u w) false u w v) in
    let is : u * w ≡ grid binary64 u w * w = same_value (round binary64 false u w) false u w (grid binary64 u w) w v (round_val binary64 u w under) in
    sym (eq_of_mul-eq-mul_right w (pow_pos 1074) u (grid binary64 u w) is)

pub grid_fixed : (x : Float) → Finite x → grid_of (units_of x) (2 ^ 1074) ≡ units_of x
grid_fixed nan f = absurd f
grid_fixed (inf s) f = absurd f
grid_fixed (fin s m e) f = let x = places s m e f in rw x.3 (grid_exact x.0 x.1 x.2 (rw x.3 at (units_below s m e f)))

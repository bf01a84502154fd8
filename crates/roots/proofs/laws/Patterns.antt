-- The value of a bit pattern, in units of 2 ^ -1074, by its exponent's field and its digits; and so the shape of an edge.
-- From one pattern to the next the value grows by one step, 2 ^ q at the field q + 1 and 1 at the field 0 (`val_step`): the order and the middles follow.
use Rattle.std.specs.Prelude.{◌≡◌, refl, ◌⊎◌, Bool, false, ◌&&◌, ℕ, zero, suc, ◌+◌, ◌-◌, ◌*◌, ◌/◌, ◌%◌, ◌^◌, ◌≤◌, ◌<◌, T, eqb, leb, ltb, ℤ, Float}
use Rattle.std.proofs.Common.{sym, ap, ◌∙◌, subst, inl, inr, zero-le, lt_irrefl, lt_of_le_of_lt, mul-div_cancel, mod-eq_of_lt, zero-add, add_assoc, mul-one, div-add-mod', eq-or-lt_of_le, mod-lt, lt_trans, le_of_lt, le_of_eq, le_of_suc-le-suc, le_antisymm, ne_of_lt, le_refl, lt_of_not-le, not-le_of_lt, zero-mul, div-lt_iff_lt-mul, mul-lt-mul_of_pos_right, mul_right_comm, add-le-add, add-one, arith, ltb→lt, lit<, pow-add, pow_pos, ne_eqb}
use Rattle.std.proofs.Math.Nat.{zero-div}
use Rattle.std.proofs.Math.Decide.{le_ind}
use Rattle.std.proofs.Math.Arith.{digits_div, digits_mod}
use Rattle.std.specs.Float.{nan, inf, fin, binary64}
use Rattle.std.specs.Float.Ieee.{up, down, size, odd, fits, of_fields, of_bits, to_bits}
use Rattle.std.specs.Float.Ieee.Digits.{Equals, odd_val, size-le}
use Rattle.std.specs.Float.Ieee.Bits.{of_bits-to_bits, of_bits-fits}
use Rattle.std.specs.Float.Ieee.Fits.{down_pos, kept-lt, and_r}
use Rattle.std.proofs.lemmas.Bool.{lt-leb}
use Rattle.roots.specs.Roots.{units_of, val, infinity_bits, edge}

-- ---- what a pattern is worth

-- a finite value that is a / 2 ^ 1074 has a units
units_of_lem : (x : Float) (a : ℕ) → Equals x a (2 ^ 1074) → units_of x ≡ a
unfolding units_of
units_of_lem nan a h = absurd h
units_of_lem (inf s) a h = absurd h
units_of_lem (fin s m e) a h = ap (λ (n : ℕ). n / down e) h ∙ mul-div_cancel a (down_pos e)

-- a pattern with the sign clear is read as its two fields
reads_fields : (x t : ℕ) → x < 2048 → t < 2 ^ 52 → of_bits binary64 (x * 2 ^ 52 + t) ≡ of_fields binary64 false x t
unfolding of_bits
reads_fields x t hx ht =
    let below : x * 2 ^ 52 + t < 2 ^ 63 = omega arith in
    rw (lt-leb (2 ^ 63) (x * 2 ^ 52 + t) below, mod-eq_of_lt below, digits_div x ht, digits_mod x ht)

reads_small : (t : ℕ) → t < 2 ^ 52 → of_bits binary64 t ≡ odd 53 false t 0 1074
unfolding of_fields
reads_small t h = ap (of_bits binary64) (sym (zero-add t)) ∙ reads_fields 0 t (omega arith) h

reads_normal : (q t : ℕ) → q < 2046 → t < 2 ^ 52 → of_bits binary64 ((q + 1) * 2 ^ 52 + t) ≡ odd 53 false (2 ^ 52 + t) q 1074
unfolding of_fields
reads_normal q t hq ht =
    let finite : eqb (suc q) 2047 ≡ false = ne_eqb (suc q) 2047 (λ e. omega arith) in
    let fields : of_fields binary64 false (suc q) t ≡ odd 53 false (2 ^ 52 + t) q 1074 = rw finite in
    reads_fields (q + 1) t (omega arith) ht ∙ ap (λ (x : ℕ). of_fields binary64 false x t) (add-one q) ∙ fields

-- where the exponent's field is 0, a pattern is its own value
pub val_small : (t : ℕ) → t < 2 ^ 52 → val t ≡ t
unfolding val
val_small t h = ap units_of (reads_small t h) ∙ units_of_lem (odd 53 false t 0 1074) (t * 2 ^ 0) (odd_val 53 false t 0 1074) ∙ mul-one t

-- where it is q + 1, the value is the leading digit and those below it, q places up
pub val_normal : (q t : ℕ) → q < 2046 → t < 2 ^ 52 → val ((q + 1) * 2 ^ 52 + t) ≡ (2 ^ 52 + t) * 2 ^ q
unfolding val
val_normal q t hq ht =
    ap units_of (reads_normal q t hq ht) ∙ units_of_lem (odd 53 false (2 ^ 52 + t) q 1074) ((2 ^ 52 + t) * 2 ^ q) (odd_val 53 false (2 ^ 52 + t) q 1074)

-- ---- from a pattern to the next

-- a pattern's field and digits
fields_of : (b : ℕ) → b / 2 ^ 52 * 2 ^ 52 + b % 2 ^ 52 ≡ b
fields_of b = div-add-mod' b (2 ^ 52)

small_step : (t : ℕ) → t < 2 ^ 52 → val (t + 1) ≡ t + 1
small_step t h = pick (eq-or-lt_of_le h)
  where
    pick : (suc t ≡ 2 ^ 52) ⊎ (suc t < 2 ^ 52) → val (t + 1) ≡ t + 1
    pick (inl e) =
        let end : t + 1 ≡ (0 + 1) * 2 ^ 52 + 0 = omega arith in
        ap val end ∙ val_normal 0 0 (omega arith) (omega arith) ∙ omega arith
    pick (inr l) = val_small (t + 1) (omega arith)

-- the last value, infinity's
val_infinity : val infinity_bits ≡ 2 ^ 2098
unfolding val units_of of_bits
val_infinity = refl

first_of_field : (q : ℕ) → q < 2046 → val ((q + 1 + 1) * 2 ^ 52 + 0) ≡ 2 ^ 53 * 2 ^ q
first_of_field q hq = pick (eq-or-lt_of_le hq)
  where
    pick : (suc q ≡ 2046) ⊎ (suc q < 2046) → val ((q + 1 + 1) * 2 ^ 52 + 0) ≡ 2 ^ 53 * 2 ^ q
    pick (inl e) =
        let end : (q + 1 + 1) * 2 ^ 52 + 0 ≡ infinity_bits = omega arith in
        let last : q ≡ 2045 = omega arith in
        rw (end, last) val_infinity
    pick (inr l) = val_normal (q + 1) 0 (omega arith) (omega arith) ∙ rw (pow-add 2 q 1) (omega arith)

normal_step : (q t : ℕ) → q < 2046 → t < 2 ^ 52 → val ((q + 1) * 2 ^ 52 + t + 1) ≡ (2 ^ 52 + t + 1) * 2 ^ q
normal_step q t hq ht = pick (eq-or-lt_of_le ht)
  where
    pick : (suc t ≡ 2 ^ 52) ⊎ (suc t < 2 ^ 52) → val ((q + 1) * 2 ^ 52 + t + 1) ≡ (2 ^ 52 + t + 1) * 2 ^ q
    pick (inl e) =
        let end : (q + 1) * 2 ^ 52 + t + 1 ≡ (q + 1 + 1) * 2 ^ 52 + 0 = omega arith in
        let digits : 2 ^ 52 + t + 1 ≡ 2 ^ 53 = omega arith in
        ap val end ∙ first_of_field q hq ∙ rw digits
    pick (inr l) = ap val (add_assoc ((q + 1) * 2 ^ 52) t 1) ∙ val_normal q (t + 1) hq (omega arith) ∙ rw add_assoc

-- the next pattern's value is one step more: 1 unit where the field is 0 or 1, and twice as much with each field above
pub val_step : (b : ℕ) → b < infinity_bits → val (b + 1) ≡ val b + 2 ^ (b / 2 ^ 52 - 1)
val_step b h = by_field (b / 2 ^ 52) (b % 2 ^ 52) (fields_of b) (mod-lt b (pow_pos 52))
  where
    by_field : (x t : ℕ) → x * 2 ^ 52 + t ≡ b → t < 2 ^ 52 → val (b + 1) ≡ val b + 2 ^ (x - 1)
    by_field zero t e ht =
        let is : b ≡ t = omega arith in
        rw is (small_step t ht ∙ ap (λ (v : ℕ). v + 1) (sym (val_small t ht)))
    by_field (suc q) t e ht =
        let is : b ≡ (q + 1) * 2 ^ 52 + t = omega arith in
        let field : suc q - 1 ≡ q = omega arith in
        let here : val b ≡ (2 ^ 52 + t) * 2 ^ q = ap val is ∙ val_normal q t (omega arith) ht in
        let next : val (b + 1) ≡ (2 ^ 52 + t + 1) * 2 ^ q = ap (λ (n : ℕ). val (n + 1)) is ∙ normal_step q t (omega arith) ht in
        rw field (omega (arith, here, next))

-- a greater pattern is a greater value
pub val_mono : (b c : ℕ) → b < c → c ≤ infinity_bits → val b < val c
val_mono b c h = le_ind (λ (m : ℕ). m ≤ infinity_bits → val b < val m) (step b) (λ m _ below hm. lt_trans (below (omega arith)) (step m hm)) c h
  where
    step : (m : ℕ) → suc m ≤ infinity_bits → val m < val (suc m)
    step m hm = rw (← add-one m) (omega (arith, val_step m (omega arith), pow_pos (m / 2 ^ 52 - 1)))

pub val_le : (b c : ℕ) → b ≤ c → c ≤ infinity_bits → val b ≤ val c
val_le b c h hc = pick (eq-or-lt_of_le h)
  where
    pick : (b ≡ c) ⊎ (b < c) → val b ≤ val c
    pick (inl e) = le_of_eq (ap val e)
    pick (inr l) = le_of_lt (val_mono b c l hc)

-- and a greater value is that of a greater pattern
pub val_less : (b c : ℕ) → b ≤ infinity_bits → val b < val c → b < c
val_less b c hb h = lt_of_not-le (λ (l : c ≤ b). not-le_of_lt h (val_le c b l hb))

pub val_only : (b c : ℕ) → b ≤ infinity_bits → c ≤ infinity_bits → val b ≡ val c → b ≡ c
val_only b c hb hc e =
    let not-above : b ≤ c = le_of_suc-le-suc (lt_of_not-le (λ (l : c < b). ne_of_lt (val_mono c b l hb) (sym e))) in
    let not-below : c ≤ b = le_of_suc-le-suc (lt_of_not-le (λ (l : b < c). ne_of_lt (val_mono b c l hc) e)) in
    le_antisymm not-above not-below

-- ---- the values that fit, as patterns

odd_is_finite : (q k : ℕ) → (m : ℕ) × (e : ℤ) × (odd 53 false q k 1074 ≡ fin false m e)
unfolding odd
odd_is_finite zero k = (_, _, refl)
odd_is_finite (suc q) k = (_, _, refl)

-- a pattern below infinity's is a finite value with the sign clear
pub pattern_finite : (b : ℕ) → b < infinity_bits → (m : ℕ) × (e : ℤ) × (of_bits binary64 b ≡ fin false m e)
pattern_finite b h = by_field (b / 2 ^ 52) (b % 2 ^ 52) (fields_of b) (mod-lt b (pow_pos 52))
  where
    by_field : (x t : ℕ) → x * 2 ^ 52 + t ≡ b → t < 2 ^ 52 → (m : ℕ) × (e : ℤ) × (of_bits binary64 b ≡ fin false m e)
    by_field zero t e ht =
        let is : b ≡ t = omega arith in
        rw (is, reads_small t ht) (odd_is_finite t 0)
    by_field (suc q) t e ht =
        let is : b ≡ (q + 1) * 2 ^ 52 + t = omega arith in
        rw (is, reads_normal q t (omega arith) ht) (odd_is_finite (2 ^ 52 + t) q)

-- and above 0, unless the pattern is 0's
pub units_zero : (s : Bool) (e : ℤ) → units_of (fin s 0 e) ≡ 0
unfolding units_of
units_zero s e = rw (zero-mul, zero-mul, zero-div)

pub pattern_positive : (b : ℕ) → 0 < b → b < infinity_bits → (m : ℕ) × (e : ℤ) × (of_bits binary64 b ≡ fin false (suc m) e)
unfolding val
pattern_positive b hb h = by_digits (pattern_finite b h) (val_mono 0 b hb (le_of_lt h))
  where
    by_digits : ((m : ℕ) × (e : ℤ) × (of_bits binary64 b ≡ fin false m e)) → val 0 < val b → (m : ℕ) × (e : ℤ) × (of_bits binary64 b ≡ fin false (suc m) e)
    by_digits (zero, e, is) above = absurd (lt_irrefl 0 (lt_of_le_of_lt zero-le (rw (is, units_zero) at above)))
    by_digits (suc m, e, is) above = (m, e, is)

-- a / d < v gives (a * w) / d < v * w, for the sizes 2 ^ 1024 and 2 ^ 1074 at which `omega` gives up
scaled_below : (a d v w : ℕ) → 0 < d → 0 < w → a < v * d → a * w / d < v * w
scaled_below a d v w hd hw h = (div-lt_iff_lt-mul hd).1 (rw (mul_right_comm v w d) (mul-lt-mul_of_pos_right h hw))

-- a finite value lies below 2 ^ 1024
pub units_below : (s : Bool) (m : ℕ) (e : ℤ) → T (fits binary64 (fin s m e)) → units_of (fin s m e) < 2 ^ 2098
unfolding units_of fits
units_below s zero e f = rw units_zero (pow_pos 2098)
units_below s (suc m) e f =
    scaled_below (suc m * up e) (down e) (2 ^ 1024) (2 ^ 1074) (down_pos e) (pow_pos 1074)
    (ltb→lt (suc m * up e) (2 ^ 1024 * down e)
    (and_r (eqb (suc m % 2) 1 && ltb (suc m) (2 ^ 53) && leb (down e) (2 ^ 1074)) (ltb (suc m * up e) (2 ^ 1024 * down e)) f))

pub val_below : (b : ℕ) → b < infinity_bits → val b < 2 ^ 2098
unfolding val
val_below b h =
    let x = pattern_finite b h in
    rw x.2 (units_below false x.0 x.1 (subst (λ (v : Float). T (fits binary64 v)) x.2 (of_bits-fits binary64 b)))

-- a value that fits is its pattern's
pub units_bits : (s : Bool) (m : ℕ) (e : ℤ) → T (fits binary64 (fin s m e)) → units_of (fin s m e) ≡ val (to_bits binary64 (fin s m e))
unfolding val
units_bits s m e f = ap units_of (sym (of_bits-to_bits binary64 (fin s m e) f))

-- the field and the digits that are written for a number of z binary digits, r being those kept
written_below : (z r : ℕ) → z ≤ 2098 → r < 2 ^ 53 → 0 + (z - 53) * 2 ^ 52 + r < infinity_bits
written_below z r hz hr = omega arith

-- with the sign clear that pattern is a finite one
pub bits_below : (m : ℕ) (e : ℤ) → T (fits binary64 (fin false m e)) → to_bits binary64 (fin false m e) < infinity_bits
unfolding to_bits units_of
bits_below m e f =
    let n = units_of (fin false m e) in
    written_below (size n) (n / 2 ^ (size n - 53)) (size-le n 2098 (units_below false m e f)) (kept-lt 53 n)

-- ---- edges

-- the edge of the next pattern is half a step above the value; at a normal one
pub edge_next : (q t : ℕ) → q < 2046 → t < 2 ^ 52 → edge ((q + 1) * 2 ^ 52 + t + 1) ≡ (2 * (2 ^ 52 + t) + 1) * 2 ^ q
unfolding edge
edge_next q t hq ht =
    let b = (q + 1) * 2 ^ 52 + t in
    let below : b + 1 - 1 ≡ b = omega arith in
    rw (below, val_normal q t hq ht, normal_step q t hq ht) (omega arith)

-- and the edge of the pattern itself is half a step below it, but at the first of an exponent, where the step below is half as wide
pub edge_here : (q t : ℕ) → q < 2046 → t < 2 ^ 52 → 0 < t → edge ((q + 1) * 2 ^ 52 + t) ≡ (2 * (2 ^ 52 + t) - 1) * 2 ^ q
edge_here q t hq ht above =
    let is : (q + 1) * 2 ^ 52 + t ≡ (q + 1) * 2 ^ 52 + (t - 1) + 1 = omega arith in
    let digits : 2 * (2 ^ 52 + (t - 1)) + 1 ≡ 2 * (2 ^ 52 + t) - 1 = omega arith in
    ap edge is ∙ edge_next q (t - 1) hq (omega arith) ∙ ap (λ (n : ℕ). n * 2 ^ q) digits

-- the edges of the patterns whose field is 0
pub edge_next_small : (t : ℕ) → t < 2 ^ 52 → edge (t + 1) ≡ 2 * t + 1
unfolding edge
edge_next_small t h =
    let below : t + 1 - 1 ≡ t = omega arith in
    rw (below, val_small t h, small_step t h) (omega arith)

pub edge_zero : edge 0 ≡ 0
unfolding edge
edge_zero = rw (val_small 0 (omega arith))

-- infinity's: 2 ^ 1024 - 2 ^ 970, the middle between the largest finite value and 2 ^ 1024
pub edge_infinity : edge infinity_bits ≡ (2 ^ 54 - 1) * 2 ^ 2045
edge_infinity = edge_next 2045 (2 ^ 52 - 1) (lit< tt) (lit< tt)

-- edges rise with the patterns
pub edge_mono : (b c : ℕ) → b ≤ c → c ≤ infinity_bits → edge b ≤ edge c
unfolding edge
edge_mono b c h hc = add-le-add (val_le (b - 1) (c - 1) (omega arith) (omega arith)) (val_le b c h hc)

-- the edge lies at or above the middle between the value and any below it, and the next pattern's edge at or below the middle with any above it
pub middle_below : (s r : ℕ) → s < r → r ≤ infinity_bits → val s + val r ≤ edge r
unfolding edge
middle_below s r h hr = add-le-add (val_le s (r - 1) (omega arith) (omega arith)) (le_refl (val r))

pub middle_above : (r s : ℕ) → r < s → s ≤ infinity_bits → edge (r + 1) ≤ val r + val s
unfolding edge
middle_above r s h hs =
    let here : r + 1 - 1 ≡ r = omega arith in
    rw here (add-le-add (le_refl (val r)) (val_le (r + 1) s (omega arith) hs))

-- What holds of numbers written in digits: storing a digit, comparing by the highest digits first, and multiplying digit by digit with a carry.
-- The base and its powers are variables, so that no law computes with numbers of hundreds of bits.
use mathlib.Core.Path.{◌≡◌, refl, ap, ◌∙◌}
use mathlib.Core.Bool.{Bool, true, false}
use mathlib.Core.List.{List, [], ◌∷◌}
use mathlib.Core.Logic.{⊎_elim}
use Prim.Native.Nat.{ℕ, zero, suc, ◌+◌, ◌*◌, ◌/◌, ◌%◌, ◌^◌, ◌≤◌, ◌<◌}
use native.Mathlib.Nat.{eq-or-lt_of_le, le_of_suc-le-suc, not-suc-le-zero, mul-le-mul_right, le-mul_of_pos_right, pow-suc, pow-zero, zero-mul, zero-lt-suc, div-add-mod', lt_irrefl, lt_of_lt_of_le}
use native.Mathlib.Omega.{arith}
use lib.Dec.{leb, ltb}
use lib.ListN.{length, get_or, set, replicate}
use lib.Seq.{get_or-set_same, get_or-set_other}
use borrow.Author.Tests.{ltb-true, ltb-false, leb-true, leb-false, le-leb, lt-leb}
use Rattle.loops.specs.Choice.{when◌then◌else◌}
use Rattle.loops.specs.laws.ChoiceLaws.{either}
use Rattle.roots.specs.Numeral.{numeral, Digits}

-- ---- storing a digit

pub digits_set : {base : ℕ} (l : List ℕ) (i v : ℕ) → Digits base l → v < base → Digits base (set l i v)
digits_set [] i v all h j = all j
digits_set (d ∷ l) zero v all h zero = h
digits_set (d ∷ l) zero v all h (suc j) = all (suc j)
digits_set (d ∷ l) (suc i) v all h zero = all zero
digits_set (d ∷ l) (suc i) v all h (suc j) = digits_set l i v (λ n. all (suc n)) h j

pub numeral_below_set : (base : ℕ) (l : List ℕ) (i v j : ℕ) → j ≤ i → numeral base (set l i v) j ≡ numeral base l j
unfolding numeral
numeral_below_set base l i v zero h = refl
numeral_below_set base l i v (suc j) h =
    let other : get_or (set l i v) j 0 ≡ get_or l j 0 = get_or-set_other l i j v 0 (λ e. omega arith) in
    rw (numeral_below_set base l i v j (omega arith), other)

here : (base : ℕ) (l : List ℕ) (i v n : ℕ) → i < length l → i ≡ n → numeral base (set l i v) (suc n) + get_or l i 0 * base ^ i ≡ numeral base l (suc n) + v * base ^ i
unfolding numeral
here base l i v n hl e =
    rw (← e, numeral_below_set base l i v i (omega arith), get_or-set_same l i v 0 hl) (omega arith)

above : (base : ℕ) (l : List ℕ) (i v n : ℕ) → i < n
    → numeral base (set l i v) n + get_or l i 0 * base ^ i ≡ numeral base l n + v * base ^ i
    → numeral base (set l i v) (suc n) + get_or l i 0 * base ^ i ≡ numeral base l (suc n) + v * base ^ i
unfolding numeral
above base l i v n g e =
    let other : get_or (set l i v) n 0 ≡ get_or l n 0 = get_or-set_other l i n v 0 (λ q. omega arith) in
    rw other (omega arith)

-- the number grows by what the new digit is more than the old
pub numeral_set : (base : ℕ) (l : List ℕ) (i v n : ℕ) → i < length l → i < n → numeral base (set l i v) n + get_or l i 0 * base ^ i ≡ numeral base l n + v * base ^ i
numeral_set base l i v zero hl h = absurd (not-suc-le-zero h)
numeral_set base l i v (suc n) hl h =
    ⊎_elim (λ e. here base l i v n hl e) (λ g. above base l i v n g (numeral_set base l i v n hl g)) (eq-or-lt_of_le (le_of_suc-le-suc h))

pub zeros_are_zero : (k i : ℕ) → ◌≡◌ {A = ℕ} (get_or (replicate k 0) i 0) 0
zeros_are_zero zero i = refl
zeros_are_zero (suc k) zero = refl
zeros_are_zero (suc k) (suc i) = zeros_are_zero k i

pub digits_zeros : {base : ℕ} (k : ℕ) → 0 < base → Digits base (replicate k 0)
digits_zeros k h i = rw (zeros_are_zero k i) h

pub numeral_zeros : (base k n : ℕ) → numeral base (replicate k 0) n ≡ 0
unfolding numeral
numeral_zeros base k zero = refl
numeral_zeros base k (suc n) = rw (numeral_zeros base k n, zeros_are_zero k n, zero-mul)

-- ---- comparing

next_power : (v d p base : ℕ) → v < p → d < base → v + d * p < p * base
next_power v d p base hv hd =
    let h : (d + 1) * p ≤ base * p = mul-le-mul_right p (omega arith) in
    omega arith

pub numeral_small : {base : ℕ} (l : List ℕ) (i : ℕ) → Digits base l → numeral base l i < base ^ i
unfolding numeral
numeral_small {base} l zero all = rw (pow-zero base) (omega arith)
numeral_small {base} l (suc i) all = rw (pow-suc base i) (next_power (numeral base l i) (get_or l i 0) (base ^ i) base (numeral_small l i all) (all i))

same_digits : (p x y a b : ℕ) → a ≡ b → leb (x + a * p) (y + b * p) ≡ leb x y
same_digits p x y a b e =
    let same : y + b * p ≡ y + a * p = rw e in
    rw same (by_lower (leb x y) refl)
  where
    by_lower : (t : Bool) → leb x y ≡ t → leb (x + a * p) (y + a * p) ≡ t
    by_lower true h = le-leb (x + a * p) (y + a * p) (omega (arith, leb-true x y h))
    by_lower false h = lt-leb (x + a * p) (y + a * p) (omega (arith, leb-false x y h))

-- the highest digit decides, and where it is the same those below it
pub compare_digits : (p x y a b : ℕ) → x < p → y < p → leb (x + a * p) (y + b * p) ≡ (when ltb a b then true else when ltb b a then false else leb x y)
compare_digits p x y a b hx hy =
    either (λ (t : Bool). leb (x + a * p) (y + b * p) ≡ t) (ltb a b)
    (λ less.
    let d : a < b = ltb-true a b less in
    let h : (a + 1) * p ≤ b * p = mul-le-mul_right p (omega arith) in
    le-leb (x + a * p) (y + b * p) (omega arith))
    (λ notless. either (λ (t : Bool). leb (x + a * p) (y + b * p) ≡ t) (ltb b a)
    (λ more.
    let d : b < a = ltb-true b a more in
    let h : (b + 1) * p ≤ a * p = mul-le-mul_right p (omega arith) in
    lt-leb (x + a * p) (y + b * p) (omega arith))
    (λ notmore.
    let g : b ≤ a = ltb-false a b notless in
    let d : a ≤ b = ltb-false b a notmore in
    same_digits p x y a b (omega arith)))

-- ---- multiplying

-- A row times low + high * base: v of it is written in the first digits, whose weights reach up to p, last is the digit read
-- before, and what is still owed is the carry and last * high. One more digit d is read, and sum is written and carried.
pub times_digit : (base low high v w p last carry d sum : ℕ) → v + p * (carry + last * high) ≡ w * (low + high * base)
    → sum ≡ d * low + last * high + carry
    → v + (sum % base) * p + p * base * (sum / base + d * high) ≡ (w + d * p) * (low + high * base)
times_digit base low high v w p last carry d sum owed is =
    let parts : p * (sum / base * base + sum % base) ≡ p * (d * low + last * high + carry) = ap (λ (n : ℕ). p * n) (div-add-mod' sum base ∙ is) in
    omega arith

-- at the end nothing is owed, since the product has room
pub nothing_owed : (v p owed w : ℕ) → v + p * owed ≡ w → w < p → v ≡ w
nothing_owed v p zero w e h = omega arith
nothing_owed v p (suc owed) w e h = absurd (lt_irrefl w (lt_of_lt_of_le h (omega (arith, le-mul_of_pos_right p (zero-lt-suc owed)))))

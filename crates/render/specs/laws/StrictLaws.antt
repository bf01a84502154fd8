-- Below 2 ^ 32 no two k have the same time: between k / 48000 and (k + 1) / 48000 lie two multiples of 2 ^ -17, which are doubles.
use Rattle.std.specs.Prelude.{◌≡◌, ℕ, ◌+◌, ◌*◌, ◌/◌, ◌^◌, ◌≤◌, ◌<◌, T}
use Rattle.std.proofs.Common.{sym, ◌∙◌, subst, inl, inr, add-zero, le_trans, le_of_eq, not-le_of_lt, mul-le-mul_right, mul_assoc, mul_right_comm, lt_of_le_of_lt, lt_of_lt_of_le, mul-lt-mul_of_pos_right, div-mul-le_self, arith, lt-ltb, lit≤, lit<, pow_pos}
use Rattle.std.specs.Float.Ieee.{lt}
use Rattle.roots.specs.Roots.{units_of}
use Rattle.roots.proofs.laws.Units.{SignClear}
use Rattle.floats.specs.Units.{over, under}
use Rattle.floats.specs.laws.Rounding.{grid_mono, grid_exact}
use Rattle.floats.specs.laws.Products.{clear_finite}
use Rattle.floats.specs.laws.Sums.{clear_over}
use Rattle.floats.specs.laws.Whole.{whole_bound}
use Rattle.render.specs.Times.{time_of}
use Rattle.render.specs.laws.TimeLaws.{ticks, Tick, far, near, tick, ticks_mono, ticks_is, whole_ticks, past_ticks}

-- how many multiples of 2 ^ -17 lie at or below j / 48000
abbrev pub marks : ℕ → ℕ
marks j = j * 2 ^ 17 / 48000

mark_facts : (a : ℕ) → (a / 48000 * 48000 ≤ a) × (a < a / 48000 * 48000 + 48000)
mark_facts a = (div-mul-le_self a 48000, omega arith)

small : (q : ℕ) → q < 2 ^ 53 → q * 2 ^ 1057 < 2 ^ 2098
small q h = lt_of_lt_of_le (mul-lt-mul_of_pos_right h (pow_pos 1057)) (lit≤ tt)

-- a multiple of 2 ^ -17 at or above j / 48000 is at or above its time, and so below
mark_above : (j q : ℕ) → j ≤ 2 ^ 53 → q < 2 ^ 53 → j * 2 ^ 17 ≤ q * 48000 → ticks j ≤ q * 2 ^ 1057
mark_above j q s b h =
    rw (ticks_is j s)
    (le_trans (grid_mono j 48000 (q * 2 ^ 1057) (2 ^ 1074) (lit< tt) (pow_pos 1074)
    (le_trans (le_of_eq (sym (mul_assoc j (2 ^ 17) (2 ^ 1057))))
    (le_trans (mul-le-mul_right (2 ^ 1057) h) (le_of_eq (mul_right_comm q 48000 (2 ^ 1057))))))
    (le_of_eq (grid_exact q 1057 b (small q b))))

mark_below : (j q : ℕ) → j ≤ 2 ^ 53 → q < 2 ^ 53 → q * 48000 ≤ j * 2 ^ 17 → q * 2 ^ 1057 ≤ ticks j
mark_below j q s b h =
    rw (ticks_is j s)
    (le_trans (le_of_eq (sym (grid_exact q 1057 b (small q b))))
    (grid_mono (q * 2 ^ 1057) (2 ^ 1074) j 48000 (pow_pos 1074) (lit< tt)
    (le_trans (le_of_eq (mul_right_comm q (2 ^ 1057) 48000))
    (le_trans (mul-le-mul_right (2 ^ 1057) h) (le_of_eq (mul_assoc j (2 ^ 17) (2 ^ 1057)))))))

pub ticks_next : (j : ℕ) → j < 2 ^ 32 → ticks j < ticks (j + 1)
ticks_next j h =
    let f = mark_facts (j * 2 ^ 17) in
    let q = marks j in
    let a = mark_above j (q + 1) (omega arith) (omega arith) (omega arith) in
    let b = mark_below (j + 1) (q + 2) (omega arith) (omega arith) (omega arith) in
    lt_of_le_of_lt a (lt_of_lt_of_le (mul-lt-mul_of_pos_right (let l : q + 1 < q + 2 = omega arith in l) (pow_pos 1057)) b)

pub ticks_strict : (j k : ℕ) → j < k → k ≤ 2 ^ 32 → ticks j < ticks k
ticks_strict j k h s = lt_of_lt_of_le (ticks_next j (omega arith)) (ticks_mono (j + 1) k (omega arith))

-- the times below 2 ^ 32 are finite
pub time_near : (k : ℕ) → k < 2 ^ 32 → SignClear (time_of k) × (units_of (time_of k) ≡ ticks k)
time_near k h = go (tick k)
  where
    go : Tick k → SignClear (time_of k) × (units_of (time_of k) ≡ ticks k)
    go (near c u b) = (c, u)
    go (far is (inl l)) =
        let short : k ≤ 2 ^ 53 = le_trans (let e : k ≤ 2 ^ 32 = omega arith in e) (lit≤ tt) in
        absurd (not-le_of_lt (whole_bound k short) (rw (whole_ticks k short) at l))
    go (far is (inr l)) =
        let f = mark_facts (k * 2 ^ 17) in
        let a = mark_above k (marks k + 1) (omega arith) (omega arith) (omega arith) in
        absurd (not-le_of_lt (lt_of_le_of_lt a (small (marks k + 1) (omega arith))) l)

pub times_rise : (j k : ℕ) → j < k → k < 2 ^ 32 → T (lt (time_of j) (time_of k))
times_rise j k h s =
    let a = time_near j (omega arith) in
    let b = time_near k s in
    let o = clear_over (time_of j) a.0 in
    let less : over (time_of j) < ticks k + under (time_of j) = rw (o.0, o.1, a.1, add-zero (ticks k)) (ticks_strict j k h (omega arith)) in
    let is = past_ticks (time_of j) (clear_finite (time_of j) a.0) k b.0 b.1 in
    subst T (sym (is ∙ lt-ltb (over (time_of j)) (ticks k + under (time_of j)) less)) tt

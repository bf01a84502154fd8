-- The fields of a head are digits of several widths: each is found again in the number that they make, and a number of 40 bits whose
-- last six are zero is made of its fields.
use Rattle.std.specs.Prelude.{◌≡◌, refl, Bool, true, false, not, ℕ, zero, suc, ◌+◌, ◌*◌, ◌%◌, ◌^◌, ◌<◌, eqb}
use Rattle.std.proofs.Common.{arith, div-one}
use Rattle.std.proofs.Math.Pow.{recompose}
use Rattle.std.proofs.lemmas.Nat.{mod-pow-add}
use Rattle.job.specs.Packed.{field}
use Rattle.job.specs.Writing.{bit}

-- ---- a flag as a bit, and back

pub bit_small : (b : Bool) → bit b < 2
bit_small true = omega arith
bit_small false = omega arith

pub bit_back : (k : ℕ) → k < 2 → bit (not (eqb k 0)) ≡ k
bit_back zero h = refl
bit_back (suc zero) h = refl
bit_back (suc (suc k)) h = absurd (omega arith)

pub bit_again : (b : Bool) → not (eqb (bit b) 0) ≡ b
bit_again true = refl
bit_again false = refl

pub bit_unset : (b : Bool) → eqb (bit b) 0 ≡ not b
bit_unset true = refl
bit_unset false = refl

-- ---- the fields in one number

pub head_fields : (n m k b : ℕ) → n < 64 → m < 2 ^ 20 → k < 2 ^ 7 → b < 2
    → (field ((((n * 2 ^ 20 + m) * 2 ^ 7 + k) * 2 ^ 1 + b) * 2 ^ 6) 34 6 ≡ n)
    × (field ((((n * 2 ^ 20 + m) * 2 ^ 7 + k) * 2 ^ 1 + b) * 2 ^ 6) 14 20 ≡ m)
    × (field ((((n * 2 ^ 20 + m) * 2 ^ 7 + k) * 2 ^ 1 + b) * 2 ^ 6) 7 7 ≡ k)
    × (field ((((n * 2 ^ 20 + m) * 2 ^ 7 + k) * 2 ^ 1 + b) * 2 ^ 6) 6 1 ≡ b)
    × (field ((((n * 2 ^ 20 + m) * 2 ^ 7 + k) * 2 ^ 1 + b) * 2 ^ 6) 0 6 ≡ 0)
head_fields n m k b p q r t = (omega arith, omega arith, omega arith, omega arith, omega arith)

-- back, over plain variables: with the quotients themselves there are too many inequalities
digits_joined : (w n r m q k p b z : ℕ) → n * 2 ^ 34 + r ≡ w → r ≡ m * 2 ^ 14 + q → q ≡ k * 2 ^ 7 + p → p ≡ b * 2 ^ 6 + z → z ≡ 0
    → (((n * 2 ^ 20 + m) * 2 ^ 7 + k) * 2 ^ 1 + b) * 2 ^ 6 ≡ w
digits_joined w n r m q k p b z d e f g h = omega arith

pub head_joined : (w : ℕ) → w < 2 ^ 40 → field w 0 6 ≡ 0
    → (((field w 34 6 * 2 ^ 20 + field w 14 20) * 2 ^ 7 + field w 7 7) * 2 ^ 1 + field w 6 1) * 2 ^ 6 ≡ w
head_joined w h z =
    digits_joined w _ (w % 2 ^ 34) _ (w % 2 ^ 14) _ (w % 2 ^ 7) _ (w % 2 ^ 6) (recompose 6 34 h) (mod-pow-add w 20 14) (mod-pow-add w 7 7) (mod-pow-add w 1 6)
    (rw (div-one) at z)

-- How long numbers are as text, for those who must know that a line has room.
use Rattle.std.specs.Prelude.{◌≡◌, refl, ℕ, zero, suc, ◌+◌, ◌/◌, ◌≤◌, ltb, length}
use Rattle.std.proofs.Common.{arith, length-append}
use Rattle.loops.specs.laws.ChoiceLaws.{either}
use Rattle.text.specs.Digits.{spelled, places_within, places_of}

pub length_spelled : (base k n : ℕ) → length (spelled base k n) ≡ k
unfolding spelled
length_spelled base zero n = refl
length_spelled base (suc k) n =
    let h : length (spelled base k (n / base)) ≡ k = length_spelled base k (n / base) in
    simp length-append (omega arith)

places_within_lem : (more n : ℕ) → places_within more n ≤ more + 1
unfolding places_within
places_within_lem zero n = omega arith
places_within_lem (suc more) n =
    let rest : places_within more (n / 10) ≤ more + 1 = places_within_lem more (n / 10) in
    either (λ (k : ℕ). k ≤ suc more + 1) (ltb n 10) (λ _. omega arith) (λ _. omega arith)

-- a count is never longer than a 64-bit word can make it
pub places_at_most_20 : (n : ℕ) → places_of n ≤ 20
places_at_most_20 n = places_within_lem 19 n

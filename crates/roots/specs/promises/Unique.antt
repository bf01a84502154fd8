-- The contracts of the two roots leave no choice: two answers that meet one of them, for the same numbers, are the same.
-- A NaN is one value here: the contract says that an answer is NaN, and not which of its bit patterns stands for it.
use Rattle.std.specs.Prelude.{◌≡◌, refl, Result, Ok, Err, ℕ, Float}
use Rattle.std.proofs.Common.{sym, ap, ◌∙◌}
use Rattle.loops.specs.Refusal.{Outcome, gives, refuses}
use Rattle.roots.specs.Roots.{sqrt_of, inverse_root_of, root_said}
use Rattle.roots.specs.declared.KOutside.{KOutside}

-- ---- the contracts, for an answer r

abbrev pub MeetsSqrt : Float → Float → Type 0
MeetsSqrt x r = r ≡ sqrt_of x

abbrev pub MeetsInverseRoot : ℕ → Float → Result Float KOutside → Type 0
MeetsInverseRoot k x r = root_said r ≡ inverse_root_of k x

-- ---- each is met by one answer

pub sqrt_unique : (x : Float) {r s : Float} → MeetsSqrt x r → MeetsSqrt x s → r ≡ s
sqrt_unique x m o = m ∙ sym o

-- the answer that an outcome tells, read back
abbrev told : Outcome Float → Result Float KOutside
told (gives r) = Ok r
told (refuses k) = Err (record {})

root_read : (r : Result Float KOutside) → told (root_said r) ≡ r
unfolding root_said
root_read (Ok v) = refl
root_read (Err e) = refl

pub inverse_root_unique : (k : ℕ) (x : Float) {r s : Result Float KOutside} → MeetsInverseRoot k x r → MeetsInverseRoot k x s → r ≡ s
inverse_root_unique k x {r} {s} m o = sym (root_read r) ∙ ap told (m ∙ sym o) ∙ root_read s

-- The contracts of this crate's functions leave no choice: two answers that meet one of them, for the same numbers, are the same.
-- A NaN is one value here: the contract says that an answer is NaN, and not which of its bit patterns stands for it.
use Rattle.std.specs.Prelude.{◌≡◌, Float}
use Rattle.std.proofs.Common.{sym, ◌∙◌}
use Rattle.number.specs.Helpers.{abs_of, signum_of, min_of, max_of}

-- ---- the contracts, for an answer r

abbrev pub MeetsAbs : Float → Float → Type 0
MeetsAbs x r = r ≡ abs_of x

abbrev pub MeetsSignum : Float → Float → Type 0
MeetsSignum x r = r ≡ signum_of x

abbrev pub MeetsMin : Float → Float → Float → Type 0
MeetsMin x y r = r ≡ min_of x y

abbrev pub MeetsMax : Float → Float → Float → Type 0
MeetsMax x y r = r ≡ max_of x y

-- ---- each is met by one answer

pub abs_unique : (x : Float) {r s : Float} → MeetsAbs x r → MeetsAbs x s → r ≡ s
abs_unique x m o = m ∙ sym o

pub signum_unique : (x : Float) {r s : Float} → MeetsSignum x r → MeetsSignum x s → r ≡ s
signum_unique x m o = m ∙ sym o

pub min_unique : (x y : Float) {r s : Float} → MeetsMin x y r → MeetsMin x y s → r ≡ s
min_unique x y m o = m ∙ sym o

pub max_unique : (x y : Float) {r s : Float} → MeetsMax x y r → MeetsMax x y s → r ≡ s
max_unique x y m o = m ∙ sym o

-- What the definitions give at some numbers that are easily got wrong, by computation.
use Rattle.std.specs.Prelude.{◌≡◌, refl, true, [], ◌∷◌, pos, negsuc}
use Rattle.std.specs.Float.{nan, fin}
use Rattle.std.specs.Float.Ieee.{to_bits}
use Rattle.loops.specs.Choice.{when◌then◌else◌}
use Rattle.text.specs.Digits.{digit, spelled, places_within, decimal, hexadecimal}
use Rattle.text.specs.Words.{word_from}

pub zero_has_one_digit : decimal 0 ≡ 48 ∷ []
unfolding spelled places_within digit when◌then◌else◌
zero_has_one_digit = refl

pub hundred : decimal 100 ≡ 49 ∷ 48 ∷ 48 ∷ []
unfolding spelled places_within digit when◌then◌else◌
hundred = refl

-- 3FE8000000000000 is 0.75, and its sign makes it B
pub minus_three_quarters : hexadecimal (fin true 3 (negsuc 1)) ≡ 66 ∷ 70 ∷ 69 ∷ 56 ∷ 48 ∷ 48 ∷ 48 ∷ 48 ∷ 48 ∷ 48 ∷ 48 ∷ 48 ∷ 48 ∷ 48 ∷ 48 ∷ 48 ∷ []
unfolding spelled digit when◌then◌else◌ to_bits
minus_three_quarters = refl

pub minus_zero : hexadecimal (fin true 0 (pos 0)) ≡ 56 ∷ 48 ∷ 48 ∷ 48 ∷ 48 ∷ 48 ∷ 48 ∷ 48 ∷ 48 ∷ 48 ∷ 48 ∷ 48 ∷ 48 ∷ 48 ∷ 48 ∷ 48 ∷ []
unfolding spelled digit when◌then◌else◌ to_bits
minus_zero = refl

pub not_a_number : hexadecimal nan ≡ 55 ∷ 70 ∷ 70 ∷ 56 ∷ 48 ∷ 48 ∷ 48 ∷ 48 ∷ 48 ∷ 48 ∷ 48 ∷ 48 ∷ 48 ∷ 48 ∷ 48 ∷ 48 ∷ []
unfolding spelled digit when◌then◌else◌ to_bits
not_a_number = refl

pub first_byte_weighs_most : word_from (1 ∷ 2 ∷ 3 ∷ 4 ∷ 5 ∷ 6 ∷ 7 ∷ 8 ∷ []) 0 ≡ 0x0102_0304_0506_0708
unfolding word_from
first_byte_weighs_most = refl

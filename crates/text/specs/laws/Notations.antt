-- What makes a notation: its rows of digits grow by the last one, which is the remainder.
use Rattle.std.specs.Prelude.{◌≡◌, refl, List, [], ◌∷◌, ◌++◌, ℕ, suc, ◌/◌, ◌%◌, ◌<◌}
use Rattle.std.proofs.Common.{arith}
use Rattle.text.specs.Digits.{digit, spelled}
use Rattle.text.specs.Words.{bytes_of}

pub record NotationLaws (base : ℕ) (code : ℕ → ℕ) (row : ℕ → ℕ → List ℕ) : Type 0 where
  pub positive : 0 < base
  pub none : (n : ℕ) → row 0 n ≡ []
  pub more : (k n : ℕ) → row (suc k) n ≡ row k (n / base) ++ (code (n % base) ∷ [])

-- a byte stands for itself
abbrev pub code_of_byte : ℕ → ℕ
code_of_byte b = b

pub decimal_laws : NotationLaws 10 digit (spelled 10)
unfolding spelled
decimal_laws = record { positive = omega arith; none = λ n. refl; more = λ k n. refl }

pub hexadecimal_laws : NotationLaws 16 digit (spelled 16)
unfolding spelled
hexadecimal_laws = record { positive = omega arith; none = λ n. refl; more = λ k n. refl }

pub bytes_laws : NotationLaws 256 code_of_byte bytes_of
unfolding bytes_of
bytes_laws = record { positive = omega arith; none = λ n. refl; more = λ k n. refl }

-- A 64-bit word out of bytes, and a number into bytes: digits in base 256, the most significant first.
use Rattle.std.specs.Prelude.{List, [], ◌∷◌, ◌++◌, ℕ, zero, suc, ◌+◌, ◌*◌, ◌/◌, ◌%◌, ◌<◌, leb, length, get_or, Option, None, Some}
use Rattle.loops.specs.Choice.{when◌then◌else◌}
use Rattle.loops.specs.Loop.{loop}

abbrev pub word_turn : List ℕ → ℕ → ℕ → ℕ → ℕ
word_turn s at i w = w * 256 + get_or s (at + i) 0

-- the word of the eight bytes from `at` on
unfoldable pub word_from : List ℕ → ℕ → ℕ
unfolding loop
word_from s at = loop 0 8 (word_turn s at) 0

-- the same, or none where fewer than eight bytes stand there
unfoldable pub word_at : List ℕ → ℕ → Option ℕ
unfolding word_from
word_at s at = when leb (at + 8) (length s) then Some (word_from s at) else None

-- the last k bytes of w: eight are the whole of a 64-bit word
unfoldable pub bytes_of : ℕ → ℕ → List ℕ
bytes_of zero w = []
bytes_of (suc k) w = bytes_of k (w / 256) ++ (w % 256 ∷ [])

-- every number of a list is below b: 256 where it is a list of bytes, 2^64 where it is one of words
abbrev pub Below : ℕ → List ℕ → Type 0
Below b s = (i : ℕ) → i < length s → get_or s i 0 < b

-- A job as it is packed, field by field: a head of 40 bits, then 64-bit words, the most significant bit first throughout.
-- Each field is a plain function of the bytes.
use Rattle.std.specs.Prelude.{not, eqb, List, [], ◌∷◌, ◌++◌, map, ℕ, zero, suc, ◌+◌, ◌*◌, ◌/◌, ◌%◌, ◌^◌, Float}
use Rattle.std.specs.Float.{binary64}
use Rattle.std.specs.Float.Ieee.{of_bits}
use Rattle.loops.specs.Loop.{loop}
use Rattle.text.specs.Words.{word_turn, word_from}
use Rattle.job.specs.declared.packed.Head.{Head}

-- ---- the head

-- its bytes
abbrev pub head_length : ℕ
head_length = 5

-- its bits as one number: five digits in base 256
unfoldable pub head_bits : List ℕ → ℕ
head_bits s = loop 0 head_length (word_turn s 0) 0

-- the `width` bits that have `behind` bits behind them
abbrev pub field : ℕ → ℕ → ℕ → ℕ
field bits behind width = bits / 2 ^ behind % 2 ^ width

-- 6 + 20 + 7 + 1 + 6 = 40 bits
abbrev pub head_of : ℕ → Head
head_of bits =
    record {
      n = field bits 34 6;
      max_steps = field bits 14 20;
      newton_maxiter = field bits 7 7;
      automatic = not (eqb (field bits 6 1) 0);
      padding = field bits 0 6;
    }

-- ---- the doubles: x0, xend, first_step, rtol, atol, then y0, then A by rows

-- the byte at which the i-th stands
abbrev pub place : ℕ → ℕ
place i = head_length + 8 * i

-- the bits of the i-th, and of `count` of them from the i-th on
abbrev pub word_of : List ℕ → ℕ → ℕ
word_of s i = word_from s (place i)

unfoldable pub words_of : List ℕ → ℕ → ℕ → List ℕ
words_of s i zero = []
words_of s i (suc count) = words_of s i count ++ (word_of s (i + count) ∷ [])

-- the value that bits have
abbrev pub value_of : ℕ → Float
value_of w = of_bits binary64 w

-- the same doubles by their values
abbrev pub double_of : List ℕ → ℕ → Float
double_of s i = value_of (word_of s i)

abbrev pub doubles_of : List ℕ → ℕ → ℕ → List Float
doubles_of s i count = map value_of (words_of s i count)

-- how many bytes a job of n components has
abbrev pub length_for : ℕ → ℕ
length_for n = place (5 + n + n * n)

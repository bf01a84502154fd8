-- The eight bytes of a word are read as that word, and eight bytes that are read as a word are its bytes.
use Rattle.std.specs.Prelude.{◌≡◌, List, ℕ, ◌+◌, ◌^◌, ◌≤◌, ◌<◌, length, take, drop, Some}
use Rattle.std.proofs.Common.{ap, ◌∙◌, arith, le-leb}
use Rattle.loops.specs.laws.ChoiceLaws.{when_true}
use Rattle.text.specs.Words.{word_from, word_at, bytes_of, Below}
use Rattle.text.proofs.laws.WordLaws.{word_number, length_bytes, number_of_bytes, bytes_of_number}

pub word_of_its_bytes : (w : ℕ) → w < 2 ^ 64 → word_at (bytes_of 8 w) 0 ≡ Some w
unfolding word_at
word_of_its_bytes w small =
    when_true _ _ (le-leb (0 + 8) (length (bytes_of 8 w)) (omega (arith, length_bytes 8 w))) ∙ ap Some (word_number (bytes_of 8 w) 0 ∙ number_of_bytes 8 w small)

pub bytes_of_its_word : (s : List ℕ) (at : ℕ) → Below 256 s → at + 8 ≤ length s → bytes_of 8 (word_from s at) ≡ take 8 (drop at s)
bytes_of_its_word s at bytes room = rw word_number (bytes_of_number s at 8 bytes room)

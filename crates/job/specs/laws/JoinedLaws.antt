-- Words one after another as bytes behind a head: the words that are written are the words that are read, and the bytes that are read
-- as words are the bytes that are written. Word by word, by what holds of numbers as bytes.
use Rattle.std.specs.Prelude.{◌≡◌, List, [], ◌∷◌, ◌++◌, take, drop, get_or}
use Rattle.std.proofs.Math.Path.{refl}
use Rattle.std.proofs.Common.{◌∙◌, append_assoc, append-nil, add-zero, arith, length-append, get_or-drop, get_or-append-add, drop-drop, take-add}
use Prim.Native.Nat.{ℕ, zero, suc, ◌+◌, ◌*◌, ◌^◌, ◌≤◌, ◌<◌}
use Rattle.std.proofs.Math.ListN.{length, length-drop, get_or-append}
use Rattle.std.proofs.Math.Seq.{take-suc}
use Rattle.text.specs.Words.{bytes_of, Below}
use Rattle.text.proofs.laws.WordLaws.{number, word_number, length_bytes, number_same, number_of_bytes, bytes_of_number, number_small, below_append, below_one, bytes_small}
use Rattle.job.specs.Packed.{head_length, place, word_of, words_of}
use Rattle.job.specs.Writing.{joined}

-- ---- how long they are, and rows put together

pub length_joined : (ws : List ℕ) → length (joined ws) ≡ 8 * length ws
unfolding joined
length_joined [] = refl
length_joined (w ∷ ws) =
    let one : length (bytes_of 8 w) ≡ 8 = length_bytes 8 w in
    let rest = length_joined ws in
    simp length-append (omega arith)

pub joined_append : (u v : List ℕ) → joined (u ++ v) ≡ joined u ++ joined v
unfolding joined
joined_append [] v = refl
joined_append (w ∷ u) v = rw (joined_append u v, append_assoc)

pub words_add : (s : List ℕ) (i m k : ℕ) → words_of s i (m + k) ≡ words_of s i m ++ words_of s (i + m) k
unfolding words_of
words_add s i m zero = rw (add-zero, append-nil)
words_add s i m (suc k) =
    let e : m + suc k ≡ suc (m + k) = omega arith in
    let g : i + (m + k) ≡ i + m + k = omega arith in
    rw (e, words_of, words_add s i m k, g, append_assoc)

-- ---- words that are written are the words that are read

-- what stands before does not matter
number_behind : (p s : List ℕ) (n at k : ℕ) → length p ≡ n → number (p ++ s) (n + at) k ≡ number s at k
number_behind p s n at k e =
    number_same (p ++ s) s (n + at) at k
    (λ i below. let g : n + at + i ≡ length p + (at + i) = omega arith in rw g (get_or-append-add p s (at + i) 0))

number_joined : (ws : List ℕ) (i : ℕ) → Below (2 ^ 64) ws → i < length ws → number (joined ws) (8 * i) 8 ≡ get_or ws i 0
unfolding joined
number_joined [] i small in_range = absurd (omega arith)
number_joined (w ∷ ws) zero small in_range =
    let one : length (bytes_of 8 w) ≡ 8 = length_bytes 8 w in
    number_same (bytes_of 8 w ++ joined ws) (bytes_of 8 w) (8 * 0) 0 8 (λ i below. get_or-append (bytes_of 8 w) (joined ws) 0 (0 + i) (omega arith))
    ∙ number_of_bytes 8 w (small 0 (omega arith))
number_joined (w ∷ ws) (suc i) small in_range =
    let e : 8 * suc i ≡ 8 + 8 * i = omega arith in
    rw e (number_behind (bytes_of 8 w) (joined ws) 8 (8 * i) 8 (length_bytes 8 w) ∙ number_joined ws i (λ j below. small (suc j) (omega arith)) (omega arith))

module _ (head ws : List ℕ) (five : length head ≡ head_length) (small : Below (2 ^ 64) ws) where
  pub word_joined : (i : ℕ) → i < length ws → word_of (head ++ joined ws) i ≡ get_or ws i 0
  word_joined i below = word_number (head ++ joined ws) (place i) ∙ number_behind head (joined ws) 5 (8 * i) 8 five ∙ number_joined ws i small below

  pub words_joined : (i count : ℕ) → i + count ≤ length ws → words_of (head ++ joined ws) i count ≡ take count (drop i ws)
  unfolding words_of
  words_joined i zero room = refl
  words_joined i (suc count) room =
      let long : count < length (drop i ws) = rw length-drop (omega arith) in
      rw (words_joined i count (omega arith), word_joined (i + count) (omega arith), take-suc (drop i ws) count 0, get_or-drop)

-- ---- bytes that are read as words are the bytes that are written

pub joined_words : (s : List ℕ) (i count : ℕ) → Below 256 s → place (i + count) ≤ length s → joined (words_of s i count) ≡ take (8 * count) (drop (place i) s)
unfolding words_of joined
joined_words s i zero small room = refl
joined_words s i (suc count) small room =
    let e : 8 * suc count ≡ 8 * count + 8 = omega arith in
    let g : place i + 8 * count ≡ place (i + count) = omega arith in
    let one : bytes_of 8 (word_of s (i + count)) ≡ take 8 (drop (place (i + count)) s) =
    rw word_number (bytes_of_number s (place (i + count)) 8 small (omega arith)) in
    rw (joined_append, joined, append-nil, joined_words s i count small (omega arith), one, e, take-add, drop-drop, g)

-- words that were read are words
pub words_small : (s : List ℕ) (i count : ℕ) → Below 256 s → place (i + count) ≤ length s → Below (2 ^ 64) (words_of s i count)
unfolding words_of
words_small s i zero small room = λ j below. absurd (omega arith)
words_small s i (suc count) small room =
    let one : word_of s (i + count) < 2 ^ 64 = rw word_number (number_small s (place (i + count)) 8 small (omega arith)) in
    below_append (2 ^ 64) (words_of s i count) (word_of s (i + count) ∷ []) (words_small s i count small (omega arith)) (below_one (2 ^ 64) (word_of s (i + count)) one)

pub joined_small : (ws : List ℕ) → Below 256 (joined ws)
unfolding joined
joined_small [] = λ i below. absurd (omega arith)
joined_small (w ∷ ws) = below_append 256 (bytes_of 8 w) (joined ws) (bytes_small 8 w) (joined_small ws)

-- What holds of numbers as bytes: a number of k bytes that is written is the number that is read, and bytes that are read as a number
-- are the bytes that are written. By induction on how many there are, over the last one.
use Rattle.std.specs.Prelude.{◌≡◌, refl, List, [], ◌∷◌, ◌++◌, ℕ, zero, suc, ◌+◌, ◌*◌, ◌/◌, ◌%◌, ◌^◌, ◌≤◌, ◌<◌, length, take, drop, get_or}
use Rattle.std.proofs.Common.{◌∙◌, zero-add, pow-suc, arith, length-append, length-drop, take-suc, get_or-drop}
use Rattle.std.proofs.Math.ListN.{get_or-append}
use Rattle.std.proofs.lemmas.List.{get_or_at}
use Rattle.loops.specs.Loop.{turns, loop}
use Rattle.text.specs.Words.{word_turn, word_from, bytes_of, Below}

-- ---- numbers of k bytes

-- the number of k bytes from `at` on
unfoldable pub number : List ℕ → ℕ → ℕ → ℕ
unfolding turns
number s at k = turns 0 (word_turn s at) k 0

number_none : (s : List ℕ) (at : ℕ) → number s at 0 ≡ 0
unfolding number
number_none s at = refl

number_more : (s : List ℕ) (at k : ℕ) → number s at (suc k) ≡ number s at k * 256 + get_or s (at + k) 0
unfolding number
number_more s at k = rw (zero-add k)

-- a word is the number of its eight bytes
pub word_number : (s : List ℕ) (at : ℕ) → word_from s at ≡ number s at 8
unfolding word_from loop number
word_number s at = refl

pub length_bytes : (k w : ℕ) → length (bytes_of k w) ≡ k
unfolding bytes_of
length_bytes zero w = refl
length_bytes (suc k) w =
    let h : length (bytes_of k (w / 256)) ≡ k = length_bytes k (w / 256) in
    simp length-append (omega arith)

-- the number depends on its own bytes only
pub number_same : (s t : List ℕ) (at bt k : ℕ) → ((i : ℕ) → i < k → get_or s (at + i) 0 ≡ get_or t (bt + i) 0) → number s at k ≡ number t bt k
number_same s t at bt zero e = rw (number_none s at, number_none t bt)
number_same s t at bt (suc k) e =
    rw (number_more s at k, number_more t bt k, number_same s t at bt k (λ i below. e i (omega arith)), e k (omega arith))

-- ---- a number that is written is the number that is read

pub number_of_bytes : (k w : ℕ) → w < 256 ^ k → number (bytes_of k w) 0 k ≡ w
unfolding bytes_of
number_of_bytes zero w small = rw number_none (omega arith)
number_of_bytes (suc k) w small =
    let fewer : w < 256 ^ k * 256 = rw pow-suc at small in
    let above : w / 256 < 256 ^ k = omega arith in
    let h : number (bytes_of k (w / 256)) 0 k ≡ w / 256 = number_of_bytes k (w / 256) above in
    let long : length (bytes_of k (w / 256)) ≡ k = length_bytes k (w / 256) in
    let front : number (bytes_of k (w / 256) ++ (w % 256 ∷ [])) 0 k ≡ w / 256 =
    number_same _ (bytes_of k (w / 256)) 0 0 k (λ i below. get_or-append (bytes_of k (w / 256)) (w % 256 ∷ []) 0 (0 + i) (omega arith)) ∙ h in
    let last : get_or (bytes_of k (w / 256) ++ (w % 256 ∷ [])) (0 + k) 0 ≡ w % 256 = get_or_at (bytes_of k (w / 256)) (w % 256) [] 0 (0 + k) (omega arith) in
    let all = number_more (bytes_of k (w / 256) ++ (w % 256 ∷ [])) 0 k in
    omega arith

-- ---- bytes that are read as a number are the bytes that are written

pub bytes_of_number : (s : List ℕ) (at k : ℕ) → Below 256 s → at + k ≤ length s → bytes_of k (number s at k) ≡ take k (drop at s)
unfolding bytes_of
bytes_of_number s at zero small room = refl
bytes_of_number s at (suc k) small room =
    let less : get_or s (at + k) 0 < 256 = small (at + k) (omega arith) in
    let high : number s at (suc k) / 256 ≡ number s at k = rw number_more (omega arith) in
    let low : number s at (suc k) % 256 ≡ get_or s (at + k) 0 = rw number_more (omega arith) in
    let long : k < length (drop at s) = rw length-drop (omega arith) in
    rw (high, low, bytes_of_number s at k small (omega arith), take-suc (drop at s) k 0, get_or-drop)

-- k bytes make a number of k digits
pub number_small : (s : List ℕ) (at k : ℕ) → Below 256 s → at + k ≤ length s → number s at k < 256 ^ k
number_small s at zero small room = rw number_none (omega arith)
number_small s at (suc k) small room =
    let before : number s at k < 256 ^ k = number_small s at k small (omega arith) in
    let last : get_or s (at + k) 0 < 256 = small (at + k) (omega arith) in
    rw (number_more, pow-suc) (omega arith)

-- ---- lists of bytes

pub below_append : (b : ℕ) (u v : List ℕ) → Below b u → Below b v → Below b (u ++ v)
below_append b [] v p q i below = q i below
below_append b (x ∷ u) v p q zero below = p 0 (omega arith)
below_append b (x ∷ u) v p q (suc i) below = below_append b u v (λ j k. p (suc j) (omega arith)) q i (omega arith)

pub below_one : (b x : ℕ) → x < b → Below b (x ∷ [])
below_one b x h zero below = h
below_one b x h (suc i) below = absurd (omega arith)

pub bytes_small : (k w : ℕ) → Below 256 (bytes_of k w)
unfolding bytes_of
bytes_small zero w = λ i below. absurd (omega arith)
bytes_small (suc k) w = below_append 256 (bytes_of k (w / 256)) (w % 256 ∷ []) (bytes_small k (w / 256)) (below_one 256 (w % 256) (omega arith))

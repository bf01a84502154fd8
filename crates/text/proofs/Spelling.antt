-- Digits that are written from the last to the first are the row of digits that stands from the first to the last, in any notation.
-- By induction on how many there are: the first one written is the last of the row, and no later one touches it.
use Rattle.std.proofs.Common.{◌≡◌, refl, ◌∙◌, List, ◌∷◌, ◌++◌, ℕ, zero, suc, ◌+◌, ◌-◌, ◌/◌, ◌%◌, ◌≤◌, ◌<◌, length, length-append, length-drop, take, drop, drop-drop, arith, append-nil, le_refl}
use lib.ListN.{set, length-set, drop_of_length-le}
use lib.Seq.{append_snoc, drop-cons, get_or-set_same, drop-set-lt}
use Rattle.text.specs.Words.{bytes_of}
use Rattle.text.specs.laws.Notations.{NotationLaws, code_of_byte, bytes_laws}

-- the last k digits of n written in front, the last one first, each by its code: how the code goes
unfoldable pub written_into : (ℕ → ℕ) → ℕ → ℕ → ℕ → List ℕ → List ℕ
written_into code base zero n room = room
written_into code base (suc k) n room = written_into code base k (n / base) (set room k (code (n % base)))

-- the digit that is written first, at the end, and what it leaves to be written
pub written_into_more : (code : ℕ → ℕ) (base left rest : ℕ) (room : List ℕ) → 0 < left →
    written_into code base left rest room ≡ written_into code base (left - 1) (rest / base) (set room (left - 1) (code (rest % base)))
unfolding written_into
written_into_more code base zero rest room h = absurd (omega arith)
written_into_more code base (suc k) rest room h =
    let e : suc k - 1 ≡ k = omega arith in
    rw e

-- with no digit left, nothing is written
pub none_left : (code : ℕ → ℕ) (base left rest : ℕ) (room : List ℕ) {after : List ℕ} → left ≤ 0 → written_into code base left rest room ≡ after → room ≡ after
unfolding written_into
none_left code base left rest room h e = let z : left ≡ 0 = omega arith in rw z at e

-- a store at j, seen from j on
drop_set_here : (l : List ℕ) (j v : ℕ) → j < length l → drop j (set l j v) ≡ v ∷ drop (suc j) l
drop_set_here l j v h =
    let there : j < length (set l j v) = simp length-set h in
    drop-cons (set l j v) j 0 there
    ∙ rw (get_or-set_same l j v 0 h, drop-set-lt (suc j) l j v (omega arith))

module _ (code : ℕ → ℕ) (base : ℕ) (row : ℕ → ℕ → List ℕ) (laws : NotationLaws base code row) where
  pub length_row : (k n : ℕ) → length (row k n) ≡ k
  length_row zero n = rw (laws.none n) refl
  length_row (suc k) n =
      let h : length (row k (n / base)) ≡ k = length_row k (n / base) in
      rw (laws.more k n) (simp length-append (omega arith))

  row_stands : (k n : ℕ) (room : List ℕ) → k ≤ length room → written_into code base k n room ≡ row k n ++ drop k room
  unfolding written_into
  row_stands zero n room h = rw (laws.none n) refl
  row_stands (suc k) n room h =
      let inside : k < length room = omega arith in
      let fits : k ≤ length (set room k (code (n % base))) = simp length-set (omega arith) in
      row_stands k (n / base) (set room k (code (n % base))) fits
      ∙ rw (laws.more k n, drop_set_here room k (code (n % base)) inside, append_snoc)

  -- over the whole of the room
  pub row_is_whole : (n : ℕ) (room : List ℕ) → written_into code base (length room) n room ≡ row (length room) n
  row_is_whole n room =
      row_stands (length room) n room (le_refl (length room))
      ∙ rw (drop_of_length-le room (le_refl (length room))) (append-nil (row (length room) n))

-- bytes written from `at` on
pub bytes_into_are_bytes : (at k w : ℕ) (out : List ℕ) → at + k ≤ length out →
    take at out ++ written_into code_of_byte 256 k w (drop at out) ≡ take at out ++ (bytes_of k w ++ drop (at + k) out)
bytes_into_are_bytes at k w out h =
    let room : k ≤ length (drop at out) = rw length-drop (omega arith) in
    rw (row_stands code_of_byte 256 bytes_of bytes_laws k w (drop at out) room, drop-drop) refl

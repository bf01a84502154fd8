-- What loading the places of another list makes of a list, said by parts of the two: the places that were loaded are the
-- other list's, and the others stay.
use Rattle.std.specs.Prelude.{◌≡◌, refl, List, [], ℕ, zero, suc, ◌+◌, ◌≤◌, ◌<◌, length, take, drop, set, Float}
use Rattle.std.proofs.Common.{◌∙◌, append_assoc, append-nil, zero-add, add-one, arith, length-drop, drop_of_length-le, get_or-drop, drop-drop, take_all}
use Rattle.std.proofs.Math.Seq.{paste, paste-zero, paste-suc}
use Rattle.std.specs.Float.{nan}
use Rattle.loops.specs.Loop.{loop}
use Rattle.loops.specs.Cell.{at}
use Rattle.loops.specs.laws.Turned.{loop_none, loop_more}
use Rattle.loops.specs.laws.Order.{loop_same}
use Rattle.loops.specs.Part.{part, over}
use Rattle.rules.specs.Moves.{load_turn, loaded}

-- k turns paste the other list's k places
pub load_pastes :
    (values : List Float) (from to k : ℕ) (l : List Float) → from + k ≤ length values → to + k ≤ length l →
    loop 0 k (load_turn values from to) l ≡ paste l to (drop from values) k
unfolding load_turn
load_pastes values from to zero l hv hl = loop_none 0 0 (load_turn values from to) l (omega arith) ∙ paste-zero l to (drop from values)
load_pastes values from to (suc k) l hv hl =
    let shorter : loop 0 k (load_turn values from to) l ≡ paste l to (drop from values) k =
    load_pastes values from to k l (omega arith) (omega arith) in
    let there : to + k < length l = omega arith in
    let here : k < length (drop from values) = simp length-drop (omega arith) in
    rw add-one at (loop_more 0 k (load_turn values from to) l (omega arith))
    ∙ rw (shorter, ← get_or-drop from values k nan) (paste-suc l to (drop from values) k nan there here)

-- n places loaded: they are the other list's part, and the others stay
pub loaded_over :
    (values : List Float) (from to n : ℕ) (l : List Float) → from + n ≤ length values → to + n ≤ length l →
    loaded values from to n l ≡ over to n (λ _. part from n values) l
unfolding loaded
loaded_over values from to n l hv hl =
    rw (load_pastes values from to n l hv hl, append_assoc, drop-drop)

-- a list loaded whole is the other list's part
pub loaded_whole :
    (values : List Float) (from n : ℕ) (l : List Float) → from + n ≤ length values → length l ≡ n → loaded values from 0 n l ≡ part from n values
loaded_whole values from n l hv hl =
    let none : drop n l ≡ [] = drop_of_length-le l {i = n} (omega arith) in
    rw (loaded_over values from 0 n l hv (omega arith), none, append-nil)

-- a part loaded from a whole list is that list
pub loaded_part :
    (values : List Float) (to n : ℕ) (l : List Float) → length values ≡ n → to + n ≤ length l → loaded values 0 to n l ≡ over to n (λ _. values) l
loaded_part values to n l hv hl =
    let whole : take n values ≡ values = take_all n values (omega arith) in
    rw (loaded_over values 0 to n l (omega arith) hl, whole)

-- from first place to first place, it is each place stored in turn
pub loaded_front : (values : List Float) (n : ℕ) (l : List Float) → loaded values 0 0 n l ≡ loop 0 n (λ i t. set t i (at values i)) l
unfolding loaded load_turn
loaded_front values n l =
    (loop_same (λ _. Unit) 0 n (load_turn values 0 0) (λ i t. set t i (at values i)) l (λ i t _ _ _. (rw (zero-add i) refl, tt)) tt).0

-- Adding multiples of a column to the right side: the element that gives the multiple is none of those that change, so it may be read once, before
-- the rows are gone through, where the definitions read it at each row.
use Rattle.std.specs.Prelude.{◌≡◌, refl, List, ℕ, ◌+◌, ◌≤◌, ◌<◌, Float}
use Rattle.std.specs.Float.{nan}
use Rattle.std.proofs.Common.{sym, ◌∙◌, ap, arith, get_or-set_other}
use Rattle.std.specs.Float.Ieee
use Rattle.loops.specs.Loop.{loop}
use Rattle.loops.specs.Cell.{at}
use Rattle.loops.specs.laws.Order.{loop_same}
use Rattle.matrix.specs.Linear.{added_turn, lower_turn, upper_turn}

module _ (n : ℕ) (a : List Float) (k lo hi : ℕ) (apart : (i : ℕ) → lo ≤ i → i < hi → k ≡ i → ⊥) (g : Float → Float) (b : List Float) where
  read_once :
      (turn : ℕ → List Float → List Float) → ((i : ℕ) (s : List Float) → turn i s ≡ added_turn n a k (g (at s k)) i s)
      → loop lo hi (added_turn n a k (g (at b k))) b ≡ loop lo hi turn b
  unfolding added_turn
  read_once turn e =
      (loop_same (λ s. at s k ≡ at b k) lo hi (added_turn n a k (g (at b k))) turn b
      (λ i s from below held. (sym (e i s ∙ ap (λ x. added_turn n a k (g x) i s) held), get_or-set_other s i k _ nan (apart i from below) ∙ held)) refl).0

pub lower_read_once : (n : ℕ) (a : List Float) (k : ℕ) (b : List Float) → loop (k + 1) n (added_turn n a k (at b k)) b ≡ loop (k + 1) n (lower_turn n a k) b
unfolding lower_turn added_turn
lower_read_once n a k b = read_once n a k (k + 1) n (λ i from below e. omega arith) (λ x. x) b (lower_turn n a k) (λ i s. refl)

pub upper_read_once : (n : ℕ) (a : List Float) (k : ℕ) (b : List Float) → loop 0 k (added_turn n a k (Ieee.neg (at b k))) b ≡ loop 0 k (upper_turn n a k) b
unfolding upper_turn added_turn
upper_read_once n a k b = read_once n a k 0 k (λ i from below e. omega arith) Ieee.neg b (upper_turn n a k) (λ i s. refl)

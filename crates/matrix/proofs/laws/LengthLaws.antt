-- Factoring and solving change numbers in place: what they hand back is as long as what they were given.
use Rattle.std.specs.Prelude.{◌≡◌, refl, ◌&&◌, List, eqb, set, Float}
use Prim.Native.Nat.{ℕ, zero, suc, ◌+◌, ◌-◌}
use Rattle.std.proofs.Math.ListN.{length, length-set}
use Rattle.std.specs.Float.Ieee
use Rattle.loops.specs.laws.ChoiceLaws.{either}
use Rattle.loops.specs.Cell.{cell}
use Rattle.loops.specs.laws.Order.{loop_keeps}
use Rattle.loops.specs.Arithmetic.{+0}
use Rattle.matrix.specs.Size.{sized_of}
use Rattle.matrix.specs.Lu.{LuOutcome, pivot_of, exchanged_of, scale_turn, eliminate_turn, column_turn, stage_of, last_of, stages_of, single_of, lu_decomp_of}
use Rattle.matrix.specs.Linear.{SolveOutcome, inside_of, lower_turn, forward_turn, divided_of, upper_turn, back_turn, solved_of, lin_solve_of}

module _ (l : ℕ) where
  -- lists of l numbers
  abbrev Long : List Float → Type 0
  Long a = length a ≡ l

  pub exchanged_long : (n m k j : ℕ) (a : List Float) → Long a → Long (exchanged_of n m k j a)
  unfolding exchanged_of
  exchanged_long n m k j a s = either Long (eqb m k) (λ t. s) (λ f. simp length-set s)

  column_long : (n m k j : ℕ) (a : List Float) → Long a → Long (column_turn n m k j a)
  unfolding column_turn eliminate_turn
  column_long n m k j a s =
      let b = exchanged_long n m k j a s in
      either Long (Ieee.ne (cell n a m j) +0)
      (λ t. loop_keeps Long (k + 1) n (eliminate_turn n k j (cell n a m j)) _ (λ i a from below q. simp length-set q) b) (λ f. b)

  pub stage_long : (n m k : ℕ) (a : List Float) → Long a → Long (stage_of n m k a)
  unfolding stage_of scale_turn
  stage_long n m k a s =
      loop_keeps Long (k + 1) n (column_turn n m k) _ (λ j a from below q. column_long n m k j a q)
      (loop_keeps Long (k + 1) n (scale_turn n k _) _ (λ i a from below q. simp length-set q) (exchanged_long n m k k a s))

  module _ (d : ℕ) where
    -- l numbers and d pivots
    abbrev Both : LuOutcome → Type 0
    Both x = Long x.1 × (length x.2 ≡ d)

    stages_long : (n left k : ℕ) (a : List Float) (ip : List ℕ) → Long a → length ip ≡ d → Both (stages_of n left k a ip)
    unfolding stages_of last_of
    stages_long n zero k a ip s p = either Both (Ieee.eq (cell n a (n - 1) (n - 1)) +0) (λ t. (s, p)) (λ f. (s, p))
    stages_long n (suc left) k a ip s p =
        let m = pivot_of n a k in
        let q : length (set ip k m) ≡ d = simp length-set p in
        either Both (Ieee.eq (cell n a m k) +0) (λ t. (s, q))
        (λ f. stages_long n left (k + 1) (stage_of n m k a) (set ip k m) (stage_long n m k a s) q)

pub factors_long : (a : List Float) (ip : List ℕ) → (length (lu_decomp_of a ip).1 ≡ length a) × (length (lu_decomp_of a ip).2 ≡ length ip)
unfolding lu_decomp_of single_of
factors_long a ip =
    let Kept = Both (length a) (length ip) in
    let n = length ip in
    either Kept (sized_of n (length a))
    (λ t. either Kept (eqb n 1)
    (λ t. either Kept (Ieee.eq (cell 1 a 0 0) +0) (λ t. (refl, refl)) (λ f. (refl, simp length-set)))
    (λ f. stages_long (length a) n n (n - 1) 0 a ip refl refl))
    (λ f. (refl, refl))

module _ (l n : ℕ) (a : List Float) where
  divided_long : (k : ℕ) (b : List Float) → Long l b → Long l (divided_of n a k b)
  unfolding divided_of
  divided_long k b s = simp length-set s

  forward_long : (ip : List ℕ) (k : ℕ) (b : List Float) → Long l b → Long l (forward_turn n a ip k b)
  unfolding forward_turn lower_turn
  forward_long ip k b s = loop_keeps (Long l) (k + 1) n (lower_turn n a k) _ (λ i b from below q. simp length-set q) (simp length-set s)

  back_long : (kb : ℕ) (b : List Float) → Long l b → Long l (back_turn n a kb b)
  unfolding back_turn upper_turn
  back_long kb b s = loop_keeps (Long l) 0 (n - kb) (upper_turn n a (n - kb)) _ (λ i b from below q. simp length-set q) (divided_long (n - kb) b s)

  pub solved_long : (ip : List ℕ) (b : List Float) → Long l b → Long l (solved_of n a ip b)
  unfolding solved_of
  solved_long ip b s =
      divided_long 0 _
      (loop_keeps (Long l) 1 n (back_turn n a) _ (λ kb b from below q. back_long kb b q)
      (loop_keeps (Long l) 0 (n - 1) (forward_turn n a ip) b (λ k b from below q. forward_long ip k b q) s))

pub solution_long : (a b : List Float) (ip : List ℕ) → length (lin_solve_of a b ip).1 ≡ length b
unfolding lin_solve_of
solution_long a b ip =
    let n = length ip in
    let Kept : SolveOutcome → Type 0 = λ x. length x.1 ≡ length b in
    either Kept (sized_of n (length a) && eqb (length b) n)
    (λ t. either Kept (inside_of n ip) (λ t. solved_long (length b) n a ip b refl) (λ f. refl))
    (λ f. refl)

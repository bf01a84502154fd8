-- What holds of the pivots that `lin_solve` reads, the first n - 1: the test passes just where each names a row. Those that
-- `lu_decomp` writes do, so what it has factored is never refused, and pivots that name rows still do after it, whatever it answers.
use Rattle.std.specs.Prelude.{◌≡◌, refl, List, Bool, true, false, eqb, ltb, length, set, Float}
use Prim.Native.Nat.{ℕ, zero, suc, ◌+◌, ◌-◌, ◌≤◌, ◌<◌}
use Rattle.std.proofs.Common.{zero-add, arith, below_none, below_more, ltb-true, lt-ltb, eqb-true, get_or-set_same, get_or-set_other}
use Rattle.std.proofs.Math.Nat.{sub-zero}
use Rattle.std.proofs.lemmas.Bool.{eqb-false}
use Rattle.std.proofs.Math.ListN.{length-set}
use Rattle.std.specs.Float.Ieee
use Rattle.loops.specs.Cell.{cell}
use Rattle.loops.specs.laws.ChoiceLaws.{either, and_first, and_second, false_unless}
use Rattle.loops.specs.laws.Order.{loop_keeps}
use Rattle.loops.specs.Refusal.{Outcome, gives, refuses}
use Rattle.loops.specs.Loop.{turns, loop}
use Rattle.loops.specs.Arithmetic.{+0}
use Rattle.number.specs.Helpers.{abs_of}
use Rattle.matrix.specs.Size.{sized_of}
use Rattle.matrix.specs.Lu.{LuOutcome, pivot_turn, pivot_of, stage_of, last_of, stages_of, single_of, lu_decomp_of}
use Rattle.matrix.specs.Linear.{row, inside_turn, inside_of, Inside}

within : (n : ℕ) (ip : List ℕ) (m : ℕ) → turns 0 (inside_turn n ip) m true ≡ true → (k : ℕ) → k < m → row ip k < n
unfolding turns inside_turn
within n ip zero t k h = below_none (λ k. row ip k < n) k h
within n ip (suc m) t k h =
    let before = turns 0 (inside_turn n ip) m true in
    let here : ltb (row ip m) n ≡ true = rw zero-add at (and_second before _ t) in
    below_more (λ k. row ip k < n) m (within n ip m (and_first before _ t)) (ltb-true _ _ here) k (omega arith)

-- where the test passes, each pivot that is read names a row
pub each_inside : (n : ℕ) (ip : List ℕ) → inside_of n ip ≡ true → Inside n ip
unfolding inside_of loop
each_inside n ip t k h = within n ip (n - 1) (rw sub-zero at t) k h

-- one that does not is enough for the test to fail
pub one_outside : (n : ℕ) (ip : List ℕ) (k : ℕ) → k < n - 1 → n ≤ row ip k → inside_of n ip ≡ false
one_outside n ip k h o = false_unless (inside_of n ip) (λ t. omega (arith, each_inside n ip t k h))

-- where each names a row, the test passes
pub means_inside : (n : ℕ) (ip : List ℕ) → Inside n ip → inside_of n ip ≡ true
unfolding inside_of inside_turn
means_inside n ip p =
    loop_keeps (λ (b : Bool). b ≡ true) 0 (n - 1) (inside_turn n ip) true (λ k b from below q. rw (q, lt-ltb (row ip k) n (p k below))) refl

-- ---- the pivots of LU

pivot_is_row : (n k : ℕ) (a : List Float) → k < n → pivot_of n a k < n
unfolding pivot_of pivot_turn
pivot_is_row n k a h =
    let Named : ℕ × Float → Type 0 = λ best. best.0 < n in
    loop_keeps Named (k + 1) n (pivot_turn n a k) (k, abs_of (cell n a k k))
    (λ i best from below q. either Named (Ieee.lt best.1 (abs_of (cell n a i k))) (λ t. below) (λ f. q)) h

-- a row's number put among others that name rows
set_row : (ip : List ℕ) (k m j n : ℕ) → m < n → k < length ip → ((j ≡ k → ⊥) → row ip j < n) → row (set ip k m) j < n
set_row ip k m j n h l old = by_test (eqb j k) refl
  where
    by_test : (b : Bool) → eqb j k ≡ b → row (set ip k m) j < n
    by_test true t = rw (eqb-true j k t, get_or-set_same ip k m 0 l) h
    by_test false t = rw (get_or-set_other ip k j m 0 (eqb-false j k t)) (old (eqb-false j k t))

refused : (x : ℕ) → ◌≡◌ {A = Outcome Unit} (refuses x) (gives tt) → ⊥
refused x e = let z : ◌≡◌ {A = ℕ} 0 1 = cc in omega arith

-- the pivots of an outcome that gives name rows
abbrev Made : ℕ → LuOutcome → Type 0
Made n x = x.0 ≡ gives tt → Inside n x.2

module _ (n : ℕ) where
  stages_stay : (left k : ℕ) (a : List Float) (ip : List ℕ) → k + left ≤ n - 1 → length ip ≡ n → Inside n ip → Inside n (stages_of n left k a ip).2
  unfolding stages_of last_of
  stages_stay zero k a ip h l p = either (λ (x : LuOutcome). Inside n x.2) (Ieee.eq (cell n a (n - 1) (n - 1)) +0) (λ t. p) (λ f. p)
  stages_stay (suc left) k a ip h l p =
      let m = pivot_of n a k in
      let q : Inside n (set ip k m) = λ j o. set_row ip k m j n (pivot_is_row n k a (omega arith)) (omega arith) (λ e. p j o) in
      either (λ (x : LuOutcome). Inside n x.2) (Ieee.eq (cell n a m k) +0) (λ t. q)
      (λ f. stages_stay left (k + 1) (stage_of n m k a) (set ip k m) (omega arith) (simp length-set l) q)

  -- while the pivots below k name rows, and none is zero, all do in the end
  stages_made : (left k : ℕ) (a : List Float) (ip : List ℕ) → k + left ≡ n - 1 → length ip ≡ n → ((j : ℕ) → j < k → row ip j < n)
      → (stages_of n left k a ip).0 ≡ gives tt → Inside n (stages_of n left k a ip).2
  unfolding stages_of last_of
  stages_made zero k a ip h l p =
      either (Made n) (Ieee.eq (cell n a (n - 1) (n - 1)) +0) (λ t e. absurd (refused 15 e)) (λ f e j o. p j (omega arith))
  stages_made (suc left) k a ip h l p =
      let m = pivot_of n a k in
      let q : (j : ℕ) → j < k + 1 → row (set ip k m) j < n =
      λ j o. set_row ip k m j n (pivot_is_row n k a (omega arith)) (omega arith) (λ e. p j (omega arith)) in
      either (Made n) (Ieee.eq (cell n a m k) +0) (λ t e. absurd (refused 15 e))
      (λ f. stages_made left (k + 1) (stage_of n m k a) (set ip k m) (omega arith) (simp length-set l) q)

-- pivots that name rows still do after a factoring, whatever it answers
pub pivots_stay : (a : List Float) (ip : List ℕ) → Inside (length ip) ip → Inside (length ip) (lu_decomp_of a ip).2
unfolding lu_decomp_of single_of
pivots_stay a ip p =
    let n = length ip in
    let Stays : LuOutcome → Type 0 = λ x. Inside n x.2 in
    either Stays (sized_of n (length a))
    (λ t. either Stays (eqb n 1)
    (λ t. let e = eqb-true n 1 t in either Stays (Ieee.eq (cell 1 a 0 0) +0) (λ t. p) (λ f k o. absurd (omega arith)))
    (λ f. stages_stay n (n - 1) 0 a ip (omega arith) refl p))
    (λ f. p)

-- what was factored can be solved with
pub pivots_made : (a : List Float) (ip : List ℕ) → (lu_decomp_of a ip).0 ≡ gives tt → Inside (length ip) (lu_decomp_of a ip).2
unfolding lu_decomp_of single_of
pivots_made a ip =
    let n = length ip in
    either (Made n) (sized_of n (length a))
    (λ t. either (Made n) (eqb n 1)
    (λ t. let e = eqb-true n 1 t in either (Made n) (Ieee.eq (cell 1 a 0 0) +0) (λ t g. absurd (refused 15 g)) (λ f g k o. absurd (omega arith)))
    (λ f. stages_made n (n - 1) 0 a ip (omega arith) refl (λ j o. absurd (omega arith))))
    (λ f g. absurd (refused 14 g))

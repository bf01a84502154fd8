-- What holds of replies: A y does not depend on what stood where it is written, and a state of more components than are served is
-- refused, whatever is replied.
use Rattle.std.specs.Prelude.{◌≡◌, refl, ℕ, zero, suc, ◌*◌, ◌≤◌, ◌<◌, set, Float}
use Rattle.std.proofs.Math.Path.{sym}
use Rattle.std.proofs.Common.{ap, ◌∙◌, add-one, arith, take-suc-set}
use mathlib.Core.List.{List, [], ◌∷◌, ◌++◌}
use Rattle.std.proofs.Math.ListN.{length, take, replicate, length-replicate}
use Rattle.std.proofs.Math.Seq.{take_all}
use borrow.Author.Tests.{le-leb, lt-ltb, eq-eqb}
use Rattle.loops.specs.Arithmetic.{+0}
use Rattle.loops.specs.Choice.{when◌then◌else◌}
use Rattle.loops.specs.Loop.{loop}
use Rattle.loops.specs.laws.LoopLaws.{stored_length}
use Rattle.loops.specs.laws.Turned.{loop_more}
use Rattle.matrix.specs.Size.{max_n}
use Rattle.rules.specs.State.{after}
use Rattle.rules.specs.GoOn.{damaged, go_checked, go_on_of}
use Rattle.job.specs.Right.{row_sum, right_turn, right_of, sized_of, right_side_of}
use Rattle.listing.specs.Types.{Reply, Refused, Damaged, Run}
use Rattle.listing.specs.Replies.{times_of}

-- ---- A y

-- one more place stored
stored_more :
    (g : ℕ → Float) (l : List Float) (k : ℕ) → k < length l →
    take (suc k) (loop 0 (suc k) (λ i t. set t i (g i)) l) ≡ take k (loop 0 k (λ i t. set t i (g i)) l) ++ (g k ∷ [])
stored_more g l k h =
    rw (sym (add-one k)) (rw (loop_more 0 k (λ i t. set t i (g i)) l (omega arith)) (rw (add-one k) (take-suc-set _ k (g k) (omega (arith, stored_length k g l)))))

-- once k places were stored, they are the same over any two lists that are long enough
stored_front :
    (g : ℕ → Float) (l m : List Float) (k : ℕ) → k ≤ length l → k ≤ length m →
    take k (loop 0 k (λ i t. set t i (g i)) l) ≡ take k (loop 0 k (λ i t. set t i (g i)) m)
stored_front g l m zero h h' = refl
stored_front g l m (suc k) h h' =
    stored_more g l k (omega arith)
    ∙ ap (λ (t : List Float). t ++ (g k ∷ [])) (stored_front g l m k (omega arith) (omega arith))
    ∙ sym (stored_more g m k (omega arith))

module _ (a y dy : List Float) (same : length dy ≡ length y) where
  right_is_times : right_of a y dy ≡ times_of a y
  unfolding right_of right_turn
  right_is_times =
      let n = length y in
      let none = replicate n +0 in
      let long : length none ≡ n = length-replicate n +0 in
      let whole : (v : List Float) → length v ≡ n → take n (loop 0 n (right_turn a y) v) ≡ loop 0 n (right_turn a y) v =
      λ v e. take_all n (loop 0 n (right_turn a y) v) (omega (arith, stored_length n (row_sum a y) v)) in
      sym (whole dy same) ∙ stored_front (row_sum a y) dy none n (omega arith) (omega arith) ∙ whole none long

  -- what is written where the sizes agree
  pub right_side_writes : length y ≤ max_n → length a ≡ length y * length y → (right_side_of a y dy).1 ≡ times_of a y
  unfolding right_side_of sized_of when◌then◌else◌
  right_side_writes few square =
      rw (le-leb (length y) max_n few, eq-eqb (length a) (length y * length y) square, eq-eqb (length dy) (length y) same) right_is_times

-- ---- a state that is refused

pub too_many_refused :
    (run : Run) (r : Reply) (values ws q : List Float) → max_n < run.at.n →
    go_on_of run r values ws q ≡ after (record { answer = Refused Damaged; run = run }) ws q
unfolding go_on_of go_checked damaged when◌then◌else◌
too_many_refused run r values ws q many = rw (lt-ltb max_n run.at.n many)

-- The run's pivots: the first n - 1 of them name rows of n at the beginning, and a factoring keeps that, whether it succeeds or not.
use Rattle.std.specs.Prelude.{◌≡◌, refl, List, Bool, false, ℕ, ◌-◌, ◌*◌, ◌≤◌, length, take, drop, get_or, replicate, Float}
use Rattle.std.proofs.Common.{◌∙◌, arith, length-append, length-drop, length-take-le, get_or-take}
use Rattle.std.proofs.lemmas.Bool.{lt-leb}
use Rattle.std.proofs.lemmas.List.{get_or-replicate}
use Rattle.std.proofs.Math.ListN.{get_or-append}
use Rattle.loops.specs.laws.Order.{loop_keeps}
use Rattle.loops.specs.Part.{part}
use Rattle.matrix.specs.Size.{max_n}
use Rattle.matrix.specs.Lu.{lu_decomp_of}
use Rattle.matrix.specs.Linear.{Inside}
use Rattle.matrix.proofs.laws.LengthLaws.{factors_long}
use Rattle.matrix.proofs.laws.PivotLaws.{pivots_stay}
use Rattle.rules.specs.Factor.{matrix, factored}
use Rattle.rules.specs.GoOn.{pivot_turn, pivot_outside}
use Rattle.rules.specs.laws.Moved.{Repivoted, as_before, anew}

-- the array holds n pivots, and those that are read name rows of n
pub record Named (n : ℕ) (pivot : List ℕ) : Type 0 where
  pub long : n ≤ length pivot
  pub inside : Inside n pivot

pub nothing_named : {n : ℕ} → 1 ≤ n → n ≤ max_n → Named n (replicate max_n 0)
nothing_named {n} some few = record { long = few; inside = λ k below. rw (get_or-replicate {A = ℕ} max_n k 0 0 (omega arith)) some }

factored_named : {n : ℕ} (c : Float) (pivot : List ℕ) (ws : List Float) → Named n pivot → Named n (factored n c pivot ws).is.pivot
unfolding factored
factored_named {n} c pivot ws named =
    let a = part (n * n) (n * n) (matrix n c ws) in
    let ip = take n pivot in
    let exact : length ip ≡ n = length-take-le n pivot named.long in
    let before : Inside n ip = λ k below. rw (get_or-take n pivot k 0 (omega arith)) (named.inside k below) in
    let f = (lu_decomp_of a ip).2 in
    let as_long : length f ≡ n = (factors_long a ip).1 ∙ exact in
    let after : Inside n f = rw exact at (pivots_stay a ip (rw exact before)) in
    record {
      long = omega (arith, length-append f (drop n pivot), length-drop n pivot, named.long);
      inside = λ k below. rw (get_or-append f (drop n pivot) 0 k (omega arith)) (after k below);
    }

pub repivoted_named : {n : ℕ} {old new : List ℕ} → Named n old → Repivoted n old new → Named n new
repivoted_named named as_before = named
repivoted_named named (anew c ws r) = factored_named c _ ws (repivoted_named named r)

-- so the test on pivots finds nothing
pub named_inside : {n : ℕ} (pivot : List ℕ) → Named n pivot → pivot_outside n pivot ≡ false
unfolding pivot_outside pivot_turn
named_inside {n} pivot named =
    loop_keeps (λ (b : Bool). b ≡ false) 0 (n - 1) (pivot_turn n pivot) false
    (λ k b from below e. rw (e, lt-leb n (get_or pivot k 0) (named.inside k below))) refl

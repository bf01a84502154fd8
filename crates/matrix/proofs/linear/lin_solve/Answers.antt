-- `linear::lin_solve` meets its contract: each refusal is the definition's, in the same order, and past them `solve` is called.
-- Assumes nothing.
use mathlib.Core.Path.{◌≡◌, sym, ◌∙◌}
use mathlib.Core.Bool.{Bool, true, false, ◌&&◌}
use mathlib.Core.List.{List}
use Rattle.std.proofs.Common.{inl, inr}
use Prim.Native.Nat.{ℕ}
use native.Mathlib.Omega.{arith}
use lib.ListN.{length}
use lib.Dec.{eqb}
use lib.Ieee.{Float}
use borrow.Author.Tests.{eq-eqb, ne_eqb}
use Rattle.loops.specs.laws.ChoiceLaws.{when_true, when_false, and_fails, and_passes}
use Rattle.loops.specs.Refusal.{gives, refuses}
use Rattle.matrix.specs.Size.{sized_of}
use Rattle.matrix.specs.Linear.{SolveOutcome, inside_of, solved_of, lin_solve_of}
use Rattle.matrix.proofs.Size.{sized_means}
use Rattle.matrix.proofs.laws.PivotLaws.{each_inside}
use Rattle.matrix.proofs.linear.lin_solve.Goals as goal

module _ (a b : List Float) (ip : List ℕ) where
  -- the two answers of the tests
  abbrev sized : Bool
  sized = sized_of (length ip) (length a)

  wrong_matrix : {r : Bool} → r ≡ sized → r ≡ false → ◌≡◌ {A = SolveOutcome} (refuses 14, b) (lin_solve_of a b ip)
  unfolding lin_solve_of
  wrong_matrix {r} e t = let f : sized ≡ false = sym e ∙ t in sym (when_false _ _ (rw f))

  wrong_side : (length b ≡ length ip → ⊥) → ◌≡◌ {A = SolveOutcome} (refuses 14, b) (lin_solve_of a b ip)
  unfolding lin_solve_of
  wrong_side h = sym (when_false _ _ (and_fails sized (λ _. ne_eqb _ _ h)))

  module _ {r : Bool} (e : r ≡ sized) (t : r ≡ true) (h : length b ≡ length ip) where
    right_sizes : (sized && eqb (length b) (length ip)) ≡ true
    right_sizes = and_passes (sym e ∙ t) (eq-eqb _ _ h)

    pivot_outside_lem : {s : Bool} → s ≡ inside_of (length ip) ip → s ≡ false → ◌≡◌ {A = SolveOutcome} (refuses 16, b) (lin_solve_of a b ip)
    unfolding lin_solve_of
    pivot_outside_lem {s} f u = sym (when_true _ _ right_sizes ∙ when_false _ _ (sym f ∙ u))

    solved : {s : Bool} {d : List Float} → s ≡ inside_of (length ip) ip → s ≡ true → d ≡ solved_of (length ip) a ip b
        → ◌≡◌ {A = SolveOutcome} (gives tt, d) (lin_solve_of a b ip)
    unfolding lin_solve_of
    solved {s} f u g = rw g (sym (when_true _ _ right_sizes ∙ when_true _ _ (sym f ∙ u)))

pub returns-then-not-sized : goal.returns-then-not-sized
returns-then-not-sized c =
    elim c.then-not-sized.either [
      | inl matrix ↦ wrong_matrix _ _ _ c.sized.ensures matrix
      | inr side ↦ wrong_side _ _ _ side.1
    ]

pub pivots_inside-requires : goal.pivots_inside-requires
pivots_inside-requires c = let s = sized_means _ _ (sym c.sized.ensures ∙ c.if-not-sized.false) in omega arith

pub returns-then-not-pivots_inside : goal.returns-then-not-pivots_inside
returns-then-not-pivots_inside c = let the-sized = c.sized in
    let first-test = c.if-not-sized in
    pivot_outside_lem _ _ _ the-sized.ensures first-test.false c.if-b-n.false c.pivots_inside.ensures c.if-not-pivots_inside.true

pub invariant_of-square : goal.invariant_of-square
invariant_of-square c = record { whole = (sized_means _ _ (sym c.sized.ensures ∙ c.if-not-sized.false)).square }

pub solve-requires : goal.solve-requires
solve-requires c = let the-sized = c.sized in
    let first-test = c.if-not-sized in
    let s = sized_means _ _ (sym the-sized.ensures ∙ first-test.false) in
    (omega arith, omega arith, omega arith, each_inside _ _ (sym c.pivots_inside.ensures ∙ c.if-not-pivots_inside.false))

pub returns : goal.returns
returns c = let the-sized = c.sized in
    let first-test = c.if-not-sized in
    let second-test = c.if-b-n in
    let the-pivots-inside = c.pivots_inside in
    let third-test = c.if-not-pivots_inside in
    solved _ _ _ the-sized.ensures first-test.false second-test.false the-pivots-inside.ensures third-test.false c.solve.ensures

-- `lu::lu_decomp` meets its contract: the refusal of the size is the definition's, then the case n = 1, then `stages` is called.
-- Assumes nothing.
use mathlib.Core.Path.{◌≡◌, sym, ◌∙◌}
use mathlib.Core.Bool.{Bool, true, false}
use mathlib.Core.List.{List}
use Prim.Native.Nat.{ℕ, ◌-◌, ◌*◌}
use native.Mathlib.Omega.{arith}
use lib.ListN.{length, set}
use lib.Ieee.{Float, eq}
use borrow.Author.Tests.{eq-eqb, ne_eqb}
use Rattle.loops.specs.laws.ChoiceLaws.{when_true, when_false}
use Rattle.loops.specs.Cell.{at}
use Rattle.loops.specs.Refusal.{gives, refuses}
use Rattle.loops.specs.Arithmetic.{+0}
use Rattle.matrix.specs.Size.{sized_of}
use Rattle.matrix.specs.Lu.{LuOutcome, single_of, stages_of, lu_decomp_of}
use Rattle.matrix.proofs.Size.{sized_means}
use Rattle.matrix.proofs.lu.lu_decomp.Goals as goal

module _ (a : List Float) (ip : List ℕ) {r : Bool} (e : r ≡ sized_of (length ip) (length a)) where
  wrong_size : r ≡ false → ◌≡◌ {A = LuOutcome} (refuses 14, a, ip) (lu_decomp_of a ip)
  unfolding lu_decomp_of
  wrong_size t = sym (when_false _ _ (sym e ∙ t))

  module _ (t : r ≡ true) where
    right_size : sized_of (length ip) (length a) ≡ true
    right_size = sym e ∙ t

    module _ (h : length ip ≡ 1) where
      alone : lu_decomp_of a ip ≡ single_of a ip
      unfolding lu_decomp_of
      alone = when_true _ _ right_size ∙ when_true _ _ (eq-eqb _ _ h)

      single_zero : eq (at a 0) +0 ≡ true → ◌≡◌ {A = LuOutcome} (refuses 15, a, ip) (lu_decomp_of a ip)
      unfolding single_of
      single_zero z = sym (alone ∙ when_true _ _ z)

      single : eq (at a 0) +0 ≡ false → ◌≡◌ {A = LuOutcome} (gives tt, a, set ip 0 0) (lu_decomp_of a ip)
      unfolding single_of
      single z = sym (alone ∙ when_false _ _ z)

    staged : (length ip ≡ 1 → ⊥) → stages_of (length ip) (length ip - 1) 0 a ip ≡ lu_decomp_of a ip
    unfolding lu_decomp_of
    staged h = sym (when_true _ _ right_size ∙ when_false _ _ (ne_eqb _ _ h))

pub returns-then-not-sized : goal.returns-then-not-sized
returns-then-not-sized c = wrong_size _ _ c.sized.ensures c.if-not-sized.true

pub bounds-a-0 : goal.bounds-a-0
bounds-a-0 c = let given = c.args in
    let the-sized = c.sized in
    let s = sized_means _ _ (sym the-sized.ensures ∙ c.if-not-sized.false) in
    let one : length given.ip.now * length given.ip.now ≡ 1 = rw c.if-n-eq1.true in
    omega arith

pub returns-then-a : goal.returns-then-a
returns-then-a c = let the-sized = c.sized in
    let first-test = c.if-not-sized in
    single_zero _ _ the-sized.ensures first-test.false c.if-n-eq1.true c.if-a.true

pub returns-then-n-eq1 : goal.returns-then-n-eq1
returns-then-n-eq1 c = let the-sized = c.sized in
    let first-test = c.if-not-sized in
    single _ _ the-sized.ensures first-test.false c.if-n-eq1.true c.if-a.false

pub stages-requires : goal.stages-requires
stages-requires c = let the-sized = c.sized in
    let first-test = c.if-not-sized in
    let s = sized_means _ _ (sym the-sized.ensures ∙ first-test.false) in omega arith

pub returns : goal.returns
returns c = let the-sized = c.sized in
    let first-test = c.if-not-sized in
    let second-test = c.if-n-eq1 in
    let the-stages = c.stages in
    the-stages.ensures ∙ staged _ _ the-sized.ensures first-test.false second-test.false

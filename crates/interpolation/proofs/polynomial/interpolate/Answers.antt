-- `polynomial::interpolate` goes by the tests of its definition, one answer a way; past them its callees compute the values.
-- Assumes nothing.
use Rattle.std.proofs.Common.{inl, inr}
use borrow.Author.Tests.{lt-ltb, le-ltb, eq-eqb, ne_eqb}
use Rattle.loops.specs.Choice.{when◌then◌else◌}
use Rattle.interpolation.specs.Interpolate.{interpolation, values_at}
use Rattle.interpolation.specs.laws.InterpolateLaws.{order_at_most_5}
use Rattle.interpolation.proofs.polynomial.interpolate.Goals as goal

pub returns-then-n-gt-MAX_N : goal.returns-then-n-gt-MAX_N
unfolding interpolation when◌then◌else◌
returns-then-n-gt-MAX_N c = rw (lt-ltb _ _ c.if-n-gt-MAX_N.true)

pub returns-then-cont-n : goal.returns-then-cont-n
unfolding interpolation when◌then◌else◌
returns-then-cont-n c = rw (le-ltb _ _ c.if-n-gt-MAX_N.false, ne_eqb _ _ c.if-cont-n.true)

pub values_at-requires : goal.values_at-requires
values_at-requires c = (rw c.order_of-order.ensures (order_at_most_5 _), c.if-cont-n.false)

pub returns-then-h : goal.returns-then-h
unfolding interpolation values_at when◌then◌else◌
returns-then-h c =
    let few = le-ltb _ _ c.if-n-gt-MAX_N.false in
    let long = eq-eqb _ _ c.if-cont-n.false in
    elim c.then-h.either [
      | inl still ↦ rw (few, long, still)
      | inr none ↦ rw (few, long, none.0, eq-eqb _ _ none.1)
    ]

pub returns : goal.returns
unfolding interpolation values_at when◌then◌else◌
returns c =
    rw (
      le-ltb _ _ c.if-n-gt-MAX_N.false,
      eq-eqb _ _ c.if-cont-n.false,
      c.if-h.false,
      ne_eqb _ _ c.if-n-eq0.false,
      c.values_at.ensures,
      c.order_of-order.ensures,
    )

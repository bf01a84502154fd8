-- `beginning::begin` goes by the checks of its definition, one answer a way; past them there is room for the run. Assumes nothing.
use Rattle.std.proofs.Common.{sym, ◌∙◌, arith, lt-ltb, le-ltb, eq-eqb, ne_eqb}
use Rattle.loops.specs.Choice.{when◌then◌else◌}
use Rattle.rules.specs.Begin.{begin_of}
use Rattle.rules.proofs.laws.CheckLaws.{cleared}
use Rattle.bdf.proofs.beginning.begin.Goals as goal

pub returns-then-n-gt-MAX_N : goal.returns-then-n-gt-MAX_N
unfolding begin_of when◌then◌else◌
returns-then-n-gt-MAX_N c = rw (lt-ltb _ _ c.if-n-gt-MAX_N.true, c.nothing.ensures)

pub returns-then-n-eq0 : goal.returns-then-n-eq0
unfolding begin_of when◌then◌else◌
returns-then-n-eq0 c = rw (le-ltb _ _ c.if-n-gt-MAX_N.false, eq-eqb _ _ c.if-n-eq0.true, c.nothing-then-n-eq0.ensures)

pub begin_run-requires : goal.begin_run-requires
begin_run-requires c =
    let k = cleared _ _ _ _ _ _ _ _ _ (sym c.checked.ensures ∙ c.in-Ok.is) in
    (omega (arith, c.if-n-eq0.false), c.if-n-gt-MAX_N.false, k.works, k.asks, k.relative, k.absolute)

pub returns-in-Err : goal.returns-in-Err
unfolding begin_of when◌then◌else◌
returns-in-Err c =
    rw (le-ltb _ _ c.if-n-gt-MAX_N.false, ne_eqb _ _ c.if-n-eq0.false, ← c.signum-direction.ensures, ← c.checked.ensures, c.in-Err.is, c.nothing-in-Err.ensures)

pub returns-in-Ok : goal.returns-in-Ok
unfolding begin_of when◌then◌else◌
returns-in-Ok c =
    rw (le-ltb _ _ c.if-n-gt-MAX_N.false, ne_eqb _ _ c.if-n-eq0.false, ← c.signum-direction.ensures, ← c.checked.ensures, c.in-Ok.is) c.begin_run.ensures

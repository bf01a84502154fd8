-- `bdf::checks::negative`: the invariant of its loop.
use Rattle.std.proofs.Common.{◌≡◌, ◌-◌}
use Rattle.rules.specs.Checks.{negative}
use Rattle.bdf.proofs.checks.negative.Given as goal

abbrev pub invariant-loop-i : goal.invariant-loop-i
invariant-loop-i l = negative l.t.relative.by l.t.relative.values.now l.t.absolute.by l.t.absolute.values.now (l.n - l.i) l.i ≡ negative l.t.relative.by l.t.relative.values.now l.t.absolute.by l.t.absolute.values.now l.n 0

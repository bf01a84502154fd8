-- `bdf::tolerance::Bound::least`: the invariant of its loop.
use Rattle.std.specs.Prelude.{false}
use lib.Ieee.{inf}
use Rattle.loops.specs.laws.Turned.{Turned}
use Rattle.rules.specs.Begin.{least_turn}
use Rattle.bdf.proofs.tolerance.Bound.least.Given as goal

abbrev pub invariant-loop-i : goal.invariant-loop-i
invariant-loop-i l = Turned 0 l.n (least_turn l.self.by l.self.values.now) (inf false) l.i l.m

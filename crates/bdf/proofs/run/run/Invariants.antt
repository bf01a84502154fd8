-- `bdf::run::run`: the invariant and the measure of its loop.
use Rattle.std.proofs.Common.{◌≡◌, length}
use Rattle.rules.proofs.laws.MainLoopLaws.{attempts_in}
use Rattle.bdf.specs.Said.{tried, left_over, Prepared}
use Rattle.bdf.proofs.run.run.Given as goal

abbrev pub invariant-loop-came : goal.invariant-loop-came
invariant-loop-came l =
    (length l.ws ≡ length l.initial.ws) × (length l.q ≡ length l.initial.q) × Prepared l.came l.p l.ws l.q ×
    (left_over l.came l.p l.ws l.q ≡ left_over l.initial.came l.initial.p l.initial.ws l.initial.q)

abbrev pub decreases-loop-came : goal.decreases-loop-came
decreases-loop-came l = attempts_in (tried l.came l.p)

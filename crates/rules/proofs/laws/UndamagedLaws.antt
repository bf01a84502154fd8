-- When a state is not damaged: the converse of `DamageLaws`, each test false where its fact on numbers holds.
use Rattle.std.specs.Prelude.{◌≡◌, false, ◌+◌, ◌*◌, ◌≤◌}
use Rattle.std.proofs.Common.{arith, le-leb, le-ltb, ne_eqb}
use Rattle.std.proofs.lemmas.Bool.{lt-leb}
use Rattle.loops.specs.Choice.{when◌then◌else◌}
use Rattle.loops.specs.laws.ChoiceLaws.{and_fails}
use Rattle.rules.specs.Types.{Awaited, Progress}
use Rattle.matrix.specs.Size.{max_n}
use Rattle.rules.specs.Replies.{awaits_newton}
use Rattle.rules.specs.GoOn.{pivot_outside, limits_damaged, steps_damaged, counters_damaged, damaged_above0, damaged}
use Rattle.rules.proofs.laws.DamageLaws.{Limited, Stepped, Bounds, Sound}

limits_undamaged : (p : Progress) → Limited p → limits_damaged p ≡ false
unfolding limits_damaged
limits_undamaged p l =
    rw (
      le-leb 1 p.limits.steps l.some,
      le-leb p.limits.steps 1000000 l.patient,
      le-leb 1 p.limits.newton l.turns,
      le-leb p.limits.newton 64 l.patience,
    )

steps_undamaged : (p : Progress) → Stepped p → steps_damaged p ≡ false
unfolding steps_damaged
steps_undamaged p s =
    rw (le-ltb p.limits.steps p.steps.total s.counted, le-ltb p.steps.total (p.steps.accepted + p.steps.rejected) s.parted)

counters_undamaged : (p : Progress) → Bounds p → counters_damaged p ≡ false
unfolding counters_damaged
counters_undamaged p s =
    rw (
      steps_undamaged p s.steps,
      le-ltb p.steps.accepted p.pace.equal_steps s.equals,
      le-ltb p.steps.total p.evals.lu s.factors,
      le-ltb (2 + p.steps.total) p.evals.jac s.derived,
      le-ltb (2 + p.limits.newton * p.steps.total + p.steps.accepted) p.evals.ode s.evaluated,
      le-ltb 1 p.evals.start s.start_once,
    )

pub sound_undamaged : (w : Awaited) (p : Progress) → 1 ≤ p.n → p.n ≤ max_n → pivot_outside p.n p.pivot ≡ false → Sound w p → damaged w p ≡ false
unfolding damaged damaged_above0 when◌then◌else◌
sound_undamaged w p some few inside s =
    rw (
      le-ltb max_n p.n few,
      ne_eqb p.n 0 (λ e. omega arith),
      le-leb 1 p.order s.first,
      le-leb p.order 5 s.fifth,
      limits_undamaged p s.limits,
      inside,
      counters_undamaged p s.counters,
    )
    (and_fails (awaits_newton w) (λ t. lt-leb p.limits.newton p.newton.iters (s.iterates t)))

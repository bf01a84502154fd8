-- `going_on::counters_damaged`: past the bounds of the limits and the steps no product or sum wraps. Assumes nothing.
use Rattle.std.proofs.Common.{sym, ◌∙◌, arith}
use Rattle.std.proofs.lemmas.Bool.Decides.{nat_tests}
use Rattle.rules.specs.GoOn.{counters_damaged}
use Rattle.rules.proofs.laws.DamageLaws.{derivatives_bounded}
use Rattle.bdf.proofs.going_on.counters_damaged.Goals as goal

pub returns-then-steps_damaged : goal.returns-then-steps_damaged
unfolding counters_damaged
returns-then-steps_damaged c = rw (← c.steps_damaged.ensures, c.if-steps_damaged.true)

pub overflow_add-jacobians : goal.overflow_add-jacobians
unfolding counters_damaged
overflow_add-jacobians c = omega (arith, (derivatives_bounded c.args.p.now c.requires (sym c.steps_damaged.ensures ∙ c.if-steps_damaged.false)).0)

pub overflow_mul-derivatives : goal.overflow_mul-derivatives
unfolding counters_damaged
overflow_mul-derivatives c = omega (arith, (derivatives_bounded c.args.p.now c.requires (sym c.steps_damaged.ensures ∙ c.if-steps_damaged.false)).1)

pub overflow_add-derivatives : goal.overflow_add-derivatives
unfolding counters_damaged
overflow_add-derivatives c = omega (arith, (derivatives_bounded c.args.p.now c.requires (sym c.steps_damaged.ensures ∙ c.if-steps_damaged.false)).1)

pub overflow_add-derivatives-2 : goal.overflow_add-derivatives-2
unfolding counters_damaged
overflow_add-derivatives-2 c = omega (arith, (derivatives_bounded c.args.p.now c.requires (sym c.steps_damaged.ensures ∙ c.if-steps_damaged.false)).1)

pub returns-then-derivatives-p : goal.returns-then-derivatives-p
unfolding counters_damaged
returns-then-derivatives-p c = grind (arith, nat_tests)

pub returns-else-derivatives-p : goal.returns-else-derivatives-p
unfolding counters_damaged
returns-else-derivatives-p c = grind (arith, nat_tests)

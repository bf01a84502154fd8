-- `going_on::go_checked` goes by the tests of its definition, one answer a way. Assumes nothing.
use Rattle.std.proofs.Common.{sym, ◌∙◌}
use Rattle.loops.specs.Choice.{when◌then◌else◌}
use Rattle.rules.specs.GoOn.{go_checked}
use Rattle.rules.proofs.laws.GoOnLaws.{few_undamaged}
use Rattle.bdf.proofs.going_on.go_checked.Goals as goal

pub returns-then-damaged : goal.returns-then-damaged
unfolding go_checked when◌then◌else◌
returns-then-damaged c = rw (← c.damaged.ensures, c.if-damaged.true)

pub returns-then-is_ended : goal.returns-then-is_ended
unfolding go_checked when◌then◌else◌
returns-then-is_ended c = rw (← c.damaged.ensures, c.if-damaged.false, ← c.is_ended.ensures, c.if-is_ended.true)

pub wanted-v-requires : goal.wanted-v-requires
unfolding go_checked when◌then◌else◌
wanted-v-requires c = few_undamaged c.args.w c.args.p.now (sym c.damaged.ensures ∙ c.if-damaged.false)

pub count_checked-requires : goal.count_checked-requires
unfolding go_checked when◌then◌else◌
count_checked-requires c = few_undamaged c.args.w c.args.p.now (sym c.damaged.ensures ∙ c.if-damaged.false)

pub returns : goal.returns
unfolding go_checked when◌then◌else◌
returns c = rw (← c.damaged.ensures, c.if-damaged.false, ← c.is_ended.ensures, c.if-is_ended.false, ← c.wanted-v.ensures) c.count_checked.ensures

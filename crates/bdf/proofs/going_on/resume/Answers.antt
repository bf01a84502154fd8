-- `going_on::resume`: past the checks the state, the slices and the reply are as the run's stages ask. Assumes nothing.
use Rattle.std.proofs.Common.{sym, ◌∙◌}
use Rattle.rules.specs.GoOn.{go_on_of}
use Rattle.rules.proofs.laws.GoOnLaws.{handed}
use Rattle.bdf.proofs.going_on.resume.Goals as goal

pub go_within-said-requires : goal.go_within-said-requires
go_within-said-requires c =
    handed c.args.run.now.awaited c.args.run.now.at c.args.reply c.args.values.now c.args.ws.now c.args.q.now (sym c.go_checked.ensures ∙ c.in-Ok.is)

pub returns-in-Err : goal.returns-in-Err
unfolding go_on_of
returns-in-Err c = rw (← c.go_checked.ensures, c.in-Err.is)

pub returns-in-Ok : goal.returns-in-Ok
unfolding go_on_of
returns-in-Ok c = rw (← c.go_checked.ensures, c.in-Ok.is) c.go_within-said.ensures

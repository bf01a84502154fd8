-- `run::run`: what is left to do after each attempt is what was left after the reply, and a rejected one leaves what
-- the next asks. The measure is how many attempts can still come. Assumes nothing.
use Rattle.std.proofs.Common.{sym, ◌∙◌}
use Rattle.rules.proofs.laws.MainLoopLaws.{rest_after, fewer_after}
use Rattle.bdf.proofs.SaidLaws.{attempt_prepared}
use Rattle.bdf.proofs.run.run.Goals as goal

pub loop-came-smaller : goal.loop-came-smaller
loop-came-smaller c =
    let ready = rw c.in-None.is at c.loop-came.invariant.2 in
    rw c.in-None.is (fewer_after ready c.attempt-came.ensures)

pub loop-came-preserved : goal.loop-came-preserved
loop-came-preserved c =
    let inv = c.loop-came.invariant in
    let ready = rw c.in-None.is at inv.2 in
    let left = rw c.in-None.is at inv.3 in
    let tried = c.attempt-came in (
      tried.auto.ws ∙ inv.0,
      tried.auto.q ∙ inv.1,
      attempt_prepared _ _ ready tried.ensures tried.auto.ws tried.auto.q,
      sym (rest_after ready tried.ensures) ∙ left,
    )

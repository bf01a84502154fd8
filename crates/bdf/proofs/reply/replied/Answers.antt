-- `reply::replied`: by the place. The reply suits it, so it brings the values that the place asked. Assumes nothing.
use Rattle.bdf.proofs.SaidLaws.{newton_prepared, newton_rest}
use Rattle.bdf.proofs.reply.replied.Goals as goal

pub returns-in-NewtonDerivative : goal.returns-in-NewtonDerivative
returns-in-NewtonDerivative c =
    (newton_prepared _ _ _ c.requires.0 c.requires.1 c.newton_replied.ensures c.newton_replied.auto.ws c.newton_replied.auto.q, rw c.in-NewtonDerivative.is (newton_rest _ _ _ _ _ _ c.newton_replied.ensures))

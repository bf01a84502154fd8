-- `reply::first_difference`: the first differences are those of f0. Assumes nothing.
use Rattle.std.proofs.Common.{rules}
use Rattle.loops.specs.Arithmetic.{◌⊗◌}
use Rattle.rules.specs.Places.{f0, get}
use Rattle.rules.specs.Reply.{first_turn, first_difference}
use Rattle.bdf.proofs.reply.first_difference.Goals as goal

pub returns : goal.returns
unfolding first_difference first_turn
returns c =
    c.set_row.ensures (λ w i. get c.args.n w f0 i ⊗ c.args.h ⊗ c.args.direction) (λ w i x says. search rules)

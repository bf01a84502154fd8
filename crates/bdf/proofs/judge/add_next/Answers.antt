-- `judge::add_next`: row k takes its sum with the next. Assumes nothing.
use Rattle.std.proofs.Common.{rules}
use Rattle.std.specs.Prelude.{◌+◌}
use Rattle.loops.specs.Arithmetic.{◌⊕◌}
use Rattle.rules.specs.Places.{get}
use Rattle.rules.specs.Judge.{add_next_turn, add_next}
use Rattle.bdf.proofs.judge.add_next.Goals as goal

pub returns : goal.returns
unfolding add_next add_next_turn
returns c = c.set_row.ensures (λ w i. get c.args.n w c.args.k i ⊕ get c.args.n w (c.args.k + 1) i) (λ w i x says. search rules)

-- `roots::square_root::normal` meets its contract.
-- Assumes nothing.
use mathlib.Core.Path.{sym, ◌∙◌}
use Rattle.roots.proofs.laws.SqrtLaws.{sqrt_normal}
use Rattle.roots.proofs.square_root.normal.Goals as goal

pub returns : goal.returns
returns c =
    c.scaled_root.ensures ∙ sym (sqrt_normal c.args.b c.requires.0 c.requires.1)

-- `roots::root_test::reaches` meets its contract: the edge's digits to the power k, times those of x, against a power of two.
-- Assumes nothing.
use mathlib.Core.Path.{sym, ◌∙◌}
use borrow.Author.Tests.{lt-leb}
use Rattle.roots.proofs.Scaling.{reaches_by_power, too_far}
use Rattle.roots.proofs.root_test.reaches.Goals as goal

pub returns-then-used-limit : goal.returns-then-used-limit
returns-then-used-limit c =
    let pre = c.requires in
    c.at_most_power.ensures ∙ sym (reaches_by_power _ _ _ _ _ _ c.units_of-r.ensures pre.0 pre.1 pre.2 c.if-used-limit.true)

pub returns-else-used-limit : goal.returns-else-used-limit
returns-else-used-limit c =
    let pre = c.requires in
    lt-leb _ _ c.if-used-limit.false ∙ sym (too_far _ _ _ _ _ _ c.units_of-r.ensures pre.0 pre.1 pre.2 c.if-used-limit.false)

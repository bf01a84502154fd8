-- `checks::negative`: what the search finds from index i on is what it finds from 0 on, since none below i is negative.
-- Assumes nothing.
use Rattle.std.proofs.Common.{◌-◌, sym, ◌∙◌}
use Rattle.rules.proofs.laws.CheckLaws.{relative_found, absolute_found, none_negative_here, none_left}
use Rattle.bdf.proofs.checks.negative.Goals as goal

pub returns-then-relative : goal.returns-then-relative
returns-then-relative c = sym (relative_found _ _ _ _ c.loop-i-test.true c.entry-relative.ensures c.if-relative.true) ∙ c.loop-i.invariant

pub returns-then-absolute : goal.returns-then-absolute
returns-then-absolute c =
    sym (absolute_found _ _ _ _ c.loop-i-test.true c.entry-relative.ensures c.if-relative.false c.entry-absolute.ensures c.if-absolute.true) ∙ c.loop-i.invariant

pub loop-i-preserved : goal.loop-i-preserved
loop-i-preserved c =
    sym (none_negative_here _ _ _ _ c.loop-i-test.true c.entry-relative.ensures c.if-relative.false c.entry-absolute.ensures c.if-absolute.false) ∙ c.loop-i.invariant

pub returns : goal.returns
returns c = sym (none_left _ _ _ _ c.loop-i-test.false) ∙ c.loop-i.invariant

-- `output::flush` meets its contract: the page begins anew where the write was done, and is full otherwise.
use Rattle.std.proofs.Common.{ap}
use Rattle.output.proofs.Flushing.{begun_anew, closed}
use Rattle.output.proofs.flush.Goals as goal

pub returns-in-Some-clause-place : goal.returns-in-Some-clause-place
returns-in-Some-clause-place g c = begun_anew c.args.page.now.place c.args.page.now.bytes.now _ c.in-Some.ensures (ap (λ s. s.0) c.clear.ensures.clear)

pub returns-in_default-clause-place : goal.returns-in_default-clause-place
returns-in_default-clause-place g c = closed _ _ (ap (λ s. s.0) c.close.ensures.close)

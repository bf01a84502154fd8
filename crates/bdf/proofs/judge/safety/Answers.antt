-- `judge::safety`: its own formula; the counts are small enough to be floats. Assumes nothing.
use mathlib.Core.Path.{refl}
use Rattle.rules.specs.Judge.{safety_of}
use Rattle.bdf.proofs.judge.safety.Goals as goal

pub returns : goal.returns
unfolding safety_of
returns c = refl

-- `roots::units::units_of` meets its contract: the two ways are the patterns whose exponent's field is 0 and the others. Assumes nothing.
use Rattle.roots.proofs.Scaling.{scaled_small, scaled_normal}
use Rattle.roots.proofs.units.units_of.Goals as goal

pub returns-then-b-lt-HIDDEN : goal.returns-then-b-lt-HIDDEN
returns-then-b-lt-HIDDEN c = scaled_small _ c.if-b-lt-HIDDEN.true

pub returns-else-b-lt-HIDDEN : goal.returns-else-b-lt-HIDDEN
returns-else-b-lt-HIDDEN c = scaled_normal _ c.if-b-lt-HIDDEN.false c.requires

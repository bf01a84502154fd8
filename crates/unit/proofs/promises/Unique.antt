-- The contract of this crate's function leaves no choice: two answers that meet it are the same.
use Rattle.std.specs.Prelude.{◌≡◌, List, Float}
use Rattle.std.proofs.Common.{sym, ◌∙◌}
use Rattle.unit.specs.Unit.{unit_r}

abbrev pub MeetsUnitR : List Float → Type 0
MeetsUnitR r = r ≡ unit_r

pub unit_r_unique : {r s : List Float} → MeetsUnitR r → MeetsUnitR s → r ≡ s
unit_r_unique m o = m ∙ sym o

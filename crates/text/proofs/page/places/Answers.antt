-- `places`
use Rattle.text.proofs.Counting.{places_of_power}
use Rattle.text.proofs.page.places.Goals as goal

pub returns : goal.returns
returns c = places_of_power _ _ _ c.max.ensures c.ilog10.ensures.power_le c.ilog10.ensures.next_power_gt c.ilog10.ensures.bound

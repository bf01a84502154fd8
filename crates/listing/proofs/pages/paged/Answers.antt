-- `pages::paged` meets its contract: the page of the filled sheet. Assumes nothing.
use Rattle.std.proofs.Common.{ap}
use Rattle.listing.specs.Pages.{paged_of}
use Rattle.listing.proofs.pages.paged.Goals as goal

pub returns : goal.returns
returns c = rw c.given.ensures (ap paged_of c.filled.ensures)

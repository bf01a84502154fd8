-- `Page::put_bytes` meets its contract: the bytes are copied to the place.
use Rattle.std.proofs.Common.{refl, ap}
use Rattle.text.proofs.Putting.{row_is_put, refused_is_put}
use Rattle.text.proofs.page.Page.put_bytes.Goals as goal

pub returns-in-Some-clause-put : goal.returns-in-Some-clause-put
returns-in-Some-clause-put c = let h = c.in-Some.ensures in row_is_put _ _ _ _ refl (ap (λ r. r.now) h.bytes) h.some c.copy_from_slice.ensures.after

pub returns-in_default-clause-put : goal.returns-in_default-clause-put
returns-in_default-clause-put c = let h = c.in_default.ensures in refused_is_put _ _ _ _ refl (ap (λ r. r.now) h.bytes) h.none

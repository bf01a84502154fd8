-- `Page::put_byte` meets its contract: a byte that is stored is text of one byte.
use Rattle.std.proofs.Common.{refl, ap}
use Rattle.text.proofs.Putting.{byte_is_put, refused_is_put}
use Rattle.text.proofs.page.Page.put_byte.Goals as goal

pub returns-in-Some-clause-put : goal.returns-in-Some-clause-put
returns-in-Some-clause-put c = let h = c.in-Some.ensures in byte_is_put _ _ _ (ap (λ r. r.now) h.bytes) h.some

pub returns-in_default-clause-put : goal.returns-in_default-clause-put
returns-in_default-clause-put c = let h = c.in_default.ensures in refused_is_put _ _ 1 _ refl (ap (λ r. r.now) h.bytes) h.none

-- `Page::put_number` meets its contract: the digits are spelled over the bytes that are taken.
use Rattle.std.proofs.Common.{refl, ap, ◌∙◌}
use Rattle.text.proofs.Spelling.{length_row}
use Rattle.text.proofs.Putting.{row_is_put, refused_is_put, part_length}
use Rattle.text.proofs.page.Page.put_number.Goals as goal

pub returns-in-Some-clause-put : goal.returns-in-Some-clause-put
returns-in-Some-clause-put g c =
    let h = c.in-Some.ensures in
    let now = ap (λ r. r.now) h.bytes in
    let long = part_length c.reserve.new.self.bytes.now c.in-Some.at c.args.k (rw now h.some.1) in
    row_is_put _ _ _ _ (length_row _ _ _ g.met.N.Notation.laws _ _) now h.some (c.spell.ensures ∙ rw long refl)

pub returns-in_default-clause-put : goal.returns-in_default-clause-put
returns-in_default-clause-put g c =
    let h = c.in_default.ensures in
    refused_is_put _ _ _ _ (length_row _ _ _ g.met.N.Notation.laws _ _) (ap (λ r. r.now) h.bytes) h.none

-- `pages::answered` meets its contract: by the place that the line came to. Assumes nothing.
use Rattle.std.specs.Prelude.{◌≡◌, List, ℕ}
use Rattle.std.proofs.Common.{sym, ap, ◌∙◌, rules}
use Rattle.text.specs.Page.{puts}
use Rattle.rules.specs.State.{After, after}
use Rattle.listing.specs.Printed.{line_of}
use Rattle.listing.specs.Pages.{UnderWay, turn_of}
use Rattle.listing.specs.laws.FilledLaws.{answer_put, answer_not_put}
use Rattle.listing.specs.declared.pages.Sheet.{Sheet}
use Rattle.listing.proofs.pages.answered.Goals as goal

-- the slice is what the page holds
beside : {s : After Sheet} {page out : List ℕ} {u : UnderWay} → ◌≡◌ {A = UnderWay} (s, page) u → out ≡ page → ◌≡◌ {A = UnderWay} (s, out) u
beside e f = rw f e

pub returns-in-Some : goal.returns-in-Some
returns-in-Some c =
    let s = after c.args.s.now c.args.ws.now c.args.q.now in
    let put = c.answer_line.ensures.put ∙ ap (puts (line_of (turn_of s))) c.at-page.ensures.seen in
    let same = c.answer_line.ensures.same ∙ c.at-page.ensures.same in
    beside (answer_put c.args.a.now s c.args.out.now put (sym c.place.ensures ∙ c.in-Some.is) c.onward.ensures) (search rules)

pub returns-in-None : goal.returns-in-None
returns-in-None c =
    let s = after c.args.s.now c.args.ws.now c.args.q.now in
    let put = c.answer_line.ensures.put ∙ ap (puts (line_of (turn_of s))) c.at-page.ensures.seen in
    let same = c.answer_line.ensures.same ∙ c.at-page.ensures.same in
    beside (answer_not_put c.args.a.now s c.args.out.now put (sym c.place.ensures ∙ c.in-None.is)) (search rules)

-- `pages::next_page` meets its contract: by what was said last. Assumes nothing.
use mathlib.Core.Path.{◌≡◌, refl, ap, ◌∙◌}
use mathlib.Core.List.{List}
use Prim.Native.Nat.{ℕ}
use lib.Ieee.{Float}
use Rattle.rules.specs.State.{after}
use Rattle.listing.specs.Pages.{Paged, next_page}
use Rattle.listing.specs.declared.pages.Page.{Page}
use Rattle.listing.proofs.pages.next_page.Goals as goal

-- the slices beside a page on which a refusal was put
beside : (ws q : List Float) {r : Page} {out : List ℕ} {p : Page × List ℕ} → ◌≡◌ {A = Page × List ℕ} (r, out) p → ◌≡◌ {A = Paged} (after r ws q, out) (after p.0 ws q, p.1)
beside ws q e = ap (λ (p : Page × List ℕ). (after p.0 ws q, p.1)) e

pub returns-in-Told : goal.returns-in-Told
unfolding next_page
returns-in-Told c = c.paged.ensures ∙ rw c.in-Told.is refl

pub returns-in-NoJob : goal.returns-in-NoJob
unfolding next_page
returns-in-NoJob c = beside _ _ c.refused.ensures ∙ rw c.in-NoJob.is refl

pub returns-in-Over : goal.returns-in-Over
unfolding next_page
returns-in-Over c = rw (c.page_of.ensures, c.over.ensures, c.in-Over.is)

-- `run_job::print` is safe: a page's text lies within its bytes.
use Rattle.std.proofs.Common.{◌≡◌, ℕ, ◌≤◌, List, length, sym, subst, length-take-le}
use Rattle.std.specs.Prelude.{Float}
use Rattle.rules.specs.State.{After}
use Rattle.listing.specs.Pages.{Paged, next_page}
use Rattle.listing.specs.laws.FilledLaws.{next_page_within}
use Rattle.listing.specs.declared.opening.Listing.{Listing}
use Rattle.run_job.proofs.print.Goals as goal

-- the text of a page that was given
text_within : (a : List Float) (l : After Listing) (out : List ℕ) (p : Paged) → p ≡ next_page a l out → p.0.is.length ≤ length p.1
text_within a l out p e = subst (λ (v : Paged). v.0.is.length ≤ length v.1) (sym e) (next_page_within a l out)

pub slice_bounds-out-end : goal.slice_bounds-out-end
slice_bounds-out-end c = text_within _ _ _ _ c.next_page-page.ensures

pub slice_bounds-text-end : goal.slice_bounds-text-end
slice_bounds-text-end c = sym (length-take-le _ _ (text_within _ _ _ _ c.next_page-page.ensures))

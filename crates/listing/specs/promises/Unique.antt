-- The contracts of this crate leave no choice: two outcomes that meet one of them, from the same call, are the same listing or page,
-- and the same numbers and bytes left in every lent slice. Each `Meets..` is the equation that the code's contract states.
use Rattle.std.specs.Prelude.{◌≡◌, List, ℕ, Float}
use Rattle.std.proofs.Common.{sym, ap, ◌∙◌}
use Rattle.rules.specs.State.{After, after}
use Rattle.listing.specs.Pages.{opened, Paged, next_page}
use Rattle.listing.specs.declared.opening.Listing.{Listing}
use Rattle.listing.specs.declared.pages.Page.{Page}

-- one outcome with what stands beside it: its four parts are one
same_outcome :
    {A B : Type 0} {r r' : A} {ws ws' q q' : List Float} {b b' : B} → ◌≡◌ {A = After A × B} (after r ws q, b) (after r' ws' q', b') →
    (r ≡ r') × (ws ≡ ws') × (q ≡ q') × (b ≡ b')
same_outcome {A} {B} e =
    (ap (λ (g : After A × B). g.0.is) e, ap (λ (g : After A × B). g.0.ws) e, ap (λ (g : After A × B). g.0.q) e, ap (λ (g : After A × B). g.1) e)

-- ---- open

-- r, and what it left in the workspace, the question slice and the array for A
abbrev pub MeetsOpen : List ℕ → List Float → List Float → List Float → Listing → List Float → List Float → List Float → Type 0
MeetsOpen s a₀ ws₀ q₀ r ws q a = ◌≡◌ {A = After Listing × List Float} (after r ws q, a) (opened s a₀ ws₀ q₀)

pub open_unique :
    (s : List ℕ) (a₀ ws₀ q₀ : List Float) {r r' : Listing} {ws ws' q q' a a' : List Float} →
    MeetsOpen s a₀ ws₀ q₀ r ws q a → MeetsOpen s a₀ ws₀ q₀ r' ws' q' a' → (r ≡ r') × (ws ≡ ws') × (q ≡ q') × (a ≡ a')
open_unique s a₀ ws₀ q₀ m o = same_outcome (m ∙ sym o)

-- ---- next_page

-- r, and what it left in the workspace, the question slice and the page
abbrev pub MeetsNextPage : List Float → After Listing → List ℕ → Page → List Float → List Float → List ℕ → Type 0
MeetsNextPage a l out₀ r ws q out = ◌≡◌ {A = Paged} (after r ws q, out) (next_page a l out₀)

pub next_page_unique :
    (a : List Float) (l : After Listing) (out₀ : List ℕ) {r r' : Page} {ws ws' q q' : List Float} {out out' : List ℕ} →
    MeetsNextPage a l out₀ r ws q out → MeetsNextPage a l out₀ r' ws' q' out' → (r ≡ r') × (ws ≡ ws') × (q ≡ q') × (out ≡ out')
next_page_unique a l out₀ m o = same_outcome (m ∙ sym o)

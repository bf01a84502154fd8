-- A page with room for any line gives at least one byte, and leaves a row of answers that fits as the one before it did. It goes past
-- questions, which have no line, and stops at an answer whose line finds no room, so after some other line, or past the last line.
use Rattle.std.specs.Prelude.{◌≡◌, true, false, List, ◌⊎◌, ℕ, ◌+◌, ◌-◌, ◌≤◌, ◌<◌, leb, length, Float, None, Some}
use Rattle.std.proofs.Math.Path.{refl, subst}
use Rattle.std.proofs.Common.{sym, inl, inr, leb-true, leb-false}
use native.Mathlib.Omega.{arith}
use Rattle.loops.specs.laws.ChoiceLaws.{either, when_true, when_false}
use Rattle.text.specs.Page.{Sheet as Put, puts}
use Rattle.text.specs.laws.PageLaws.{length_laid}
use Rattle.lines.specs.Lines.{refusal_line}
use Rattle.rules.specs.Answers.{is_question_or_notice}
use Rattle.rules.specs.State.{After, after}
use Rattle.listing.specs.Types.{Run, Turn}
use Rattle.listing.specs.Replies.{replied}
use Rattle.listing.specs.Printed.{line_of}
use Rattle.listing.specs.Pages.{UnderWay, sheet_of, turn_of, onward, answered_at, answered, goes_on, filled, enough, Paged, stopped_of, paged_of, refused_at, page_from, next_page}
use Rattle.listing.specs.laws.FilledLaws.{filled_stops, filled_more}
use Rattle.listing.specs.laws.ShortLaws.{ample, refusal_short, last_line_short}
use Rattle.listing.specs.laws.FitsLaws.{Fits, fits_last, fits_more, Fitting}
use Rattle.listing.specs.declared.opening.Said.{Said}
use Rattle.listing.specs.declared.opening.Said.TheVariants.{Told, NoJob, Over}
use Rattle.listing.specs.declared.opening.Listing.{Listing}
use Rattle.listing.specs.declared.pages.Stop.{Stop}
use Rattle.listing.specs.declared.pages.Stop.TheVariants.{Not, NoRoom, AtEnd}

-- ---- a text put

-- by how much the place moves; where there was no room, the text goes past the page
abbrev Moves : List ℕ → ℕ → List ℕ → Put → Type 0
Moves t at out (Some next, page) = (next ≡ at + length t) × (length page ≡ length out)
Moves t at out (None, page) = (length out < at + length t) × (length page ≡ length out)

put_moves : (t : List ℕ) (at : ℕ) (out : List ℕ) → Moves t at out (puts t (Some at, out))
unfolding puts
put_moves t at out =
    either (Moves t at out) (leb (at + length t) (length out))
    (λ e. (refl, length_laid t at out (leb-true (at + length t) (length out) e)))
    (λ e. (leb-false (at + length t) (length out) e, refl))

-- ---- what a listing has to give fits

abbrev pub FitsBy : List Float → Said → Run → List Float → List Float → Type 0
FitsBy a (Told answer) run ws q = Fitting a (after (record { answer = answer; run = run }) ws q)
FitsBy a (NoJob number) run ws q = Unit
FitsBy a Over run ws q = Unit

abbrev pub ListingFits : List Float → After Listing → Type 0
ListingFits a l = FitsBy a l.is.said l.is.run l.ws l.q

module _ (a : List Float) where
  -- ---- a page under way

  -- what follows a sheet, by why it stops
  abbrev FollowsBy : Stop → After Turn → Type 0
  FollowsBy Not g = Fitting a g
  FollowsBy NoRoom g = Fitting a g
  FollowsBy AtEnd g = Unit

  record Gives (u : UnderWay) : Type 0 where
    some : 1 ≤ u.0.is.length
    follows : FollowsBy u.0.is.stop (turn_of u.0)

  -- a sheet that stops gives what it has
  stopped_gives : (j : ℕ) (u : UnderWay) → goes_on u.0.is.stop ≡ false → Gives u → Gives (filled j a u)
  stopped_gives j u e g = subst Gives (sym (filled_stops j a u e)) g

  -- the last answer
  last_gives :
      (j : ℕ) (g : After Turn) (at : ℕ) (out : List ℕ) (p : Put) → Fitting a g → is_question_or_notice g.is.answer ≡ false →
      ample ≤ length out → Moves (line_of g) at out p → Gives (filled j a (answered_at a g at p))
  unfolding onward
  last_gives j g at out (Some next, page) fits e room moved =
      let short = last_line_short g e in
      rw (when_false (sheet_of (replied a g) next Not) (sheet_of g next AtEnd) e)
      (stopped_gives j (sheet_of g next AtEnd, page) refl (record { some = omega arith; follows = tt }))
  last_gives j g at out (None, page) fits e room moved =
      let short = last_line_short g e in
      stopped_gives j (sheet_of g at NoRoom, page) refl (record { some = omega arith; follows = fits })

  -- any other: `next-gives` says what comes of the answer to it
  more_gives :
      (j : ℕ) (g : After Turn) (at : ℕ) (out : List ℕ) (p : Put) → Fitting a g → is_question_or_notice g.is.answer ≡ true →
      length (line_of g) ≤ ample → ample ≤ length out → Moves (line_of g) at out p →
      ((next : ℕ) (page : List ℕ) → ample ≤ length page → Gives (filled j a (sheet_of (replied a g) next Not, page))) →
      Gives (filled j a (answered_at a g at p))
  unfolding onward
  more_gives j g at out (Some next, page) fits e short room moved next-gives =
      rw (when_true (sheet_of (replied a g) next Not) (sheet_of g next AtEnd) e) (next-gives next page (omega arith))
  more_gives j g at out (None, page) fits e short room moved next-gives =
      stopped_gives j (sheet_of g at NoRoom, page) refl (record { some = omega arith; follows = fits })

  -- wherever the page has come to
  filled_gives :
      {k : ℕ} {g : After Turn} → Fits a k g → (j at : ℕ) (out : List ℕ) → k ≤ j → j ≤ enough → ample ≤ length out →
      Gives (filled j a (sheet_of g at Not, out))
  unfolding answered
  filled_gives {k} {g} (fits_last e) j at out few most room =
      subst Gives (sym (filled_more j a (sheet_of g at Not, out) (omega arith) refl))
      (last_gives (j - 1) g at out (puts (line_of g) (Some at, out)) (k, omega arith, fits_last e) e room (put_moves _ _ _))
  filled_gives {k} {g} (fits_more e short rest) j at out few most room =
      subst Gives (sym (filled_more j a (sheet_of g at Not, out) (omega arith) refl))
      (more_gives (j - 1) g at out (puts (line_of g) (Some at, out)) (k, omega arith, fits_more e short rest) e short room (put_moves _ _ _)
      (λ next page roomy. filled_gives rest (j - 1) next page (omega arith) (omega arith) roomy))

  -- ---- a page

  pub record Yields (p : Paged) : Type 0 where
    pub some : 1 ≤ p.0.is.length
    pub fits : ListingFits a (after p.0.is.listing p.0.ws p.0.q)

  follows_fits : (s : Stop) (g : After Turn) → FollowsBy s g → ListingFits a (after (stopped_of s g.is) g.ws g.q)
  follows_fits Not g f = f
  follows_fits NoRoom g f = f
  follows_fits AtEnd g f = tt

  paged_yields : (u : UnderWay) → Gives u → Yields (paged_of u)
  paged_yields (s, out) g = record { some = g.some; fits = follows_fits s.is.stop (turn_of s) g.follows }

  refused_yields :
      (number : ℕ) (run : Run) (ws q : List Float) (out : List ℕ) (p : Put) → ample ≤ length out → Moves (refusal_line number) 0 out p →
      Yields (after (refused_at number run p).0 ws q, (refused_at number run p).1)
  refused_yields number run ws q out (Some next, page) room moved =
      let short = refusal_short number in record { some = omega arith; fits = tt }
  refused_yields number run ws q out (None, page) room moved = let short = refusal_short number in absurd (omega arith)

  page_yields :
      (said : Said) (run : Run) (ws q : List Float) (out : List ℕ) → ample ≤ length out → FitsBy a said run ws q →
      (said ≡ Over) ⊎ Yields (page_from a said run ws q out)
  page_yields (Told answer) run ws q out room f = inr (paged_yields _ (filled_gives f.2 enough 0 out f.1 (omega arith) room))
  page_yields (NoJob number) run ws q out room f =
      inr (refused_yields number run ws q out (puts (refusal_line number) (Some 0, out)) room (put_moves _ _ _))
  page_yields Over run ws q out room f = inl refl

  -- a listing is over, or its next page gives at least one byte
  pub next_page_yields : (l : After Listing) (out : List ℕ) → ample ≤ length out → ListingFits a l → (l.is.said ≡ Over) ⊎ Yields (next_page a l out)
  unfolding next_page
  next_page_yields l out room f = page_yields l.is.said l.is.run l.ws l.q out room f

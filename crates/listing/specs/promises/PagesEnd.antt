-- A listing comes to its end: where each page lent has 1,024 bytes, which is room for any line and more, it is over after no more pages than the whole output has
-- bytes, and what they gave, joined, is the whole output. It is so for every file and whatever else the pages lent are: while the
-- listing is not over each page gives at least one byte (`YieldLaws`), and all that they give is the beginning of the whole output
-- (`PagesJoin`).
use Rattle.std.specs.Prelude.{◌≡◌, refl, List, [], ◌++◌, ◌⊎◌, ℕ, zero, suc, ◌*◌, ◌≤◌, length, take, Float}
use Rattle.std.proofs.Common.{sym, subst, inl, inr, arith, length-append, length-take-le}
use Rattle.loops.specs.laws.ChoiceLaws.{either}
use Rattle.loops.specs.Refusal.{Outcome, gives, refuses}
use Rattle.matrix.specs.Size.{max_n}
use Rattle.rules.specs.Answers.{is_question_or_notice}
use Rattle.rules.specs.State.{After}
use Rattle.rules.specs.Calls.{beginning}
use Rattle.job.specs.Reading.{configuration_of}
use Rattle.listing.specs.Types.{Turn, Job}
use Rattle.listing.specs.Printed.{blank_work, blank_question, reading, printed}
use Rattle.listing.specs.Pages.{page_from, next_page, begun_with, opened_from, opened}
use Rattle.listing.specs.laws.FilledLaws.{next_page_within}
use Rattle.listing.specs.laws.FitsLaws.{Fitting, fits_last, beginning_fits}
use Rattle.listing.specs.laws.YieldLaws.{ListingFits, Yields, next_page_yields}
use Rattle.listing.specs.promises.Whole.{reading_sized}
use Rattle.listing.specs.promises.PagesJoin.{text_of, left_of, Pages, none, one_more, opened_in0, pages_begin_it, pages_are_printed}
use Rattle.listing.specs.declared.opening.Said.{Said}
use Rattle.listing.specs.declared.opening.Said.TheVariants.{Over}
use Rattle.listing.specs.declared.opening.Listing.{Listing}
-- how many bytes a page has at least: room for any line
pub use Rattle.listing.specs.laws.ShortLaws.{ample}

-- ---- the statements

-- every line was given
abbrev pub IsOver : After Listing → Type 0
IsOver l = l.is.said ≡ Over

-- the listing after the first k of a row of pages lent
abbrev pub after_pages : List Float → After Listing → (ℕ → List ℕ) → ℕ → After Listing
after_pages a l outs zero = l
after_pages a l outs (suc k) = left_of (next_page a (after_pages a l outs k) (outs k))

-- and what they gave, joined
abbrev pub text_after : List Float → After Listing → (ℕ → List ℕ) → ℕ → List ℕ
text_after a l outs zero = []
text_after a l outs (suc k) = text_after a l outs k ++ text_of (next_page a (after_pages a l outs k) (outs k))

-- they are pages of the listing, one after another
pub are_pages : (a : List Float) (l : After Listing) (outs : ℕ → List ℕ) (k : ℕ) → Pages a l (text_after a l outs k) (after_pages a l outs k)
are_pages a l outs zero = none
are_pages a l outs (suc k) = one_more (are_pages a l outs k) (outs k)

-- ---- page after page

-- a listing that is over stays over
over_stays : (a : List Float) (l : After Listing) (out : List ℕ) → IsOver l → IsOver (left_of (next_page a l out))
unfolding next_page
over_stays a l out e = subst (λ (said : Said). IsOver (left_of (page_from a said l.is.run l.ws l.q out))) (sym e) refl

module _ (a : List Float) (l : After Listing) (outs : ℕ → List ℕ) (room : (k : ℕ) → ample ≤ length (outs k)) where
  -- k pages gave at least k bytes, and what remains fits
  record Going (k : ℕ) : Type 0 where
    many : k ≤ length (text_after a l outs k)
    fits : ListingFits a (after_pages a l outs k)

  -- the next page gives at least one byte more
  yields_more : (k : ℕ) → Going k → Yields a (next_page a (after_pages a l outs k) (outs k)) → Going (suc k)
  yields_more k g y =
      let p = next_page a (after_pages a l outs k) (outs k) in
      let within = next_page_within a (after_pages a l outs k) (outs k) in
      let all : length (text_of p) ≡ p.0.is.length = length-take-le p.0.is.length p.1 within in
      let joined = length-append (text_after a l outs k) (text_of p) in
      record { many = omega (arith, g.many, y.some); fits = y.fits }

  -- unless the listing is over
  goes_further : (k : ℕ) → IsOver (after_pages a l outs k) ⊎ Going k → IsOver (after_pages a l outs k) ⊎ Going (suc k)
  goes_further k (inl over) = inl over
  goes_further k (inr g) = by_page (next_page_yields a (after_pages a l outs k) (outs k) (room k) g.fits)
    where
      by_page :
          IsOver (after_pages a l outs k) ⊎ Yields a (next_page a (after_pages a l outs k) (outs k)) → IsOver (after_pages a l outs k) ⊎ Going (suc k)
      by_page (inl over) = inl over
      by_page (inr y) = inr (yields_more k g y)

  still_over : (k : ℕ) → IsOver (after_pages a l outs k) ⊎ Going (suc k) → IsOver (after_pages a l outs (suc k)) ⊎ Going (suc k)
  still_over k (inl over) = inl (over_stays a (after_pages a l outs k) (outs k) over)
  still_over k (inr g) = inr g

  -- so it is over after k pages, or with the next page they give more than k bytes
  over_or_going : ListingFits a l → (k : ℕ) → IsOver (after_pages a l outs k) ⊎ Going (suc k)
  over_or_going fits zero = goes_further zero (inr (record { many = omega arith; fits = fits }))
  over_or_going fits (suc k) = goes_further (suc k) (still_over k (over_or_going fits k))

-- ---- of a file

-- what a run that was begun has to give fits, whichever matrix stands beside it where nothing is asked
begun_fits : (g : After Turn) (b a : List Float) → Fitting b g → let l = begun_with g b a in ListingFits l.1 l.0
begun_fits g b a f =
    either (λ (m : List Float). Fitting m g) (is_question_or_notice g.is.answer) (λ _. f) (λ e. (1, omega arith, fits_last e))

-- what is opened fits
opened_fits :
    (o : Outcome Job) (y0 b a : List Float) → length b ≡ max_n * max_n → let l = opened_from (o, y0, b) a blank_work blank_question in
    ListingFits l.1 l.0
opened_fits (gives j) y0 b a wide =
    let c = configuration_of j (take j.n y0) in begun_fits (beginning c blank_work blank_question) b a (beginning_fits c b wide)
opened_fits (refuses number) y0 b a wide = tt

module _ (s : List ℕ) (a : List Float) (outs : ℕ → List ℕ) (room : (k : ℕ) → ample ≤ length (outs k)) where
  opened_in_0_fits : ListingFits (opened_in0 s a).1 (opened_in0 s a).0
  unfolding opened
  opened_in_0_fits = let r = reading s in opened_fits r.0 r.1 r.2 a (reading_sized s).1

  -- what pages gave is no longer than the whole output
  no_more : (k : ℕ) → length (text_after (opened_in0 s a).1 (opened_in0 s a).0 outs k) ≤ length (printed s)
  no_more k =
      let t = text_after (opened_in0 s a).1 (opened_in0 s a).0 outs k in
      let begins = pages_begin_it s a (are_pages (opened_in0 s a).1 (opened_in0 s a).0 outs k) in
      rw begins.1 (omega (arith, length-append t begins.0))

  -- as many pages as the whole output has bytes are enough: the listing is over after them, and stays over
  pub pages_end : (k : ℕ) → length (printed s) ≤ k → IsOver (after_pages (opened_in0 s a).1 (opened_in0 s a).0 outs k)
  pages_end k long = by_cases (over_or_going (opened_in0 s a).1 (opened_in0 s a).0 outs room opened_in_0_fits k)
    where
      by_cases :
          IsOver (after_pages (opened_in0 s a).1 (opened_in0 s a).0 outs k) ⊎ Going (opened_in0 s a).1 (opened_in0 s a).0 outs room (suc k) →
          IsOver (after_pages (opened_in0 s a).1 (opened_in0 s a).0 outs k)
      by_cases (inl over) = over
      by_cases (inr g) = absurd (omega (arith, g.many, no_more (suc k)))

  -- and what they gave, joined, is the whole output
  pub pages_give_all : (k : ℕ) → length (printed s) ≤ k → text_after (opened_in0 s a).1 (opened_in0 s a).0 outs k ≡ printed s
  pages_give_all k long = sym (pages_are_printed s a (are_pages (opened_in0 s a).1 (opened_in0 s a).0 outs k) (pages_end k long))

-- The pages of a listing, one after another, are the whole output: whatever bytes are lent for each, what they have given so far is
-- the beginning of `printed`, and once the listing is over it is all of it. The file is opened with a workspace and a question slice of
-- zeros, as the job program does, and each page takes over the listing, A and both slices as the one before left them.
use Rattle.std.specs.Prelude.{◌≡◌, true, length, take, Float, None, Some}
use Rattle.std.proofs.Math.Path.{refl, sym, ap}
use Rattle.std.proofs.Common.{◌∙◌, subst}
use Rattle.std.proofs.lemmas.Bool.{false≢true}
use mathlib.Core.List.{List, [], ◌++◌, append_assoc, append-nil}
use Prim.Native.Nat.{ℕ, zero, suc, ◌*◌}
use Rattle.loops.specs.Refusal.{Outcome, gives, refuses}
use Rattle.matrix.specs.Size.{max_n}
use Rattle.loops.specs.laws.ChoiceLaws.{either, when_true, when_false}
use Rattle.text.specs.Page.{Sheet as Put, puts}
use Rattle.lines.specs.Lines.{refusal_line}
use Rattle.rules.specs.Answers.{is_question_or_notice}
use Rattle.rules.specs.State.{After, after}
use Rattle.rules.specs.Bounds.{most}
use Rattle.job.specs.Reading.{configuration_of}
use Rattle.listing.specs.Types.{Run, Turn, Job}
use Rattle.listing.specs.Replies.{replied}
use Rattle.listing.specs.Printed.{line_of, lines_from, blank_work, blank_question, reading, lines_for, printed}
use Rattle.listing.specs.Telling.{Tells, last, more}
use Rattle.listing.specs.Pages.{UnderWay, sheet_of, turn_of, onward, answered_at, answered, goes_on, filled, enough, Paged, stopped_of, paged_of, refused_at, page_from, next_page, begun_with, opened_from, opened}
use Rattle.listing.specs.promises.Whole.{beginning_of, reading_sized, read_tells}
use Rattle.listing.specs.laws.TellingLaws.{only_line}
use Rattle.listing.specs.laws.PutLaws.{PutAt, put_at}
use Rattle.listing.specs.declared.opening.Said.{Said}
use Rattle.listing.specs.declared.opening.Said.TheVariants.{Told, NoJob, Over}
use Rattle.listing.specs.declared.opening.Listing.{Listing}
use Rattle.listing.specs.declared.pages.Stop.{Stop}
use Rattle.listing.specs.declared.pages.Stop.TheVariants.{Not, NoRoom, AtEnd}

-- ---- the statements

-- what a listing has still to give
abbrev pub RemainsBy : List Float → Said → Run → List Float → List Float → List ℕ → Type 0
RemainsBy a (Told answer) run ws q t = Tells a (after (record { answer = answer; run = run }) ws q) t
RemainsBy a (NoJob number) run ws q t = t ≡ refusal_line number
RemainsBy a Over run ws q t = t ≡ []

abbrev pub Remains : List Float → After Listing → List ℕ → Type 0
Remains a l t = RemainsBy a l.is.said l.is.run l.ws l.q t

-- a page's text, and the listing after it
abbrev pub text_of : Paged → List ℕ
text_of p = take p.0.is.length p.1

abbrev pub left_of : Paged → After Listing
left_of p = after p.0.is.listing p.0.ws p.0.q

-- of t, a page has given its text, and the rest remains
pub record Gave (a : List Float) (t : List ℕ) (p : Paged) : Type 0 where
  pub rest : List ℕ
  pub whole : t ≡ text_of p ++ rest
  pub remains : Remains a (left_of p) rest

-- ---- a page under way

module _ (a : List Float) where
  -- what remains past a sheet, by why it stops
  abbrev StoppedBy : Stop → After Turn → List ℕ → Type 0
  StoppedBy Not g t = Tells a g t
  StoppedBy NoRoom g t = Tells a g t
  StoppedBy AtEnd g t = t ≡ []

  record Has (t : List ℕ) (u : UnderWay) : Type 0 where
    rest : List ℕ
    whole : t ≡ take u.0.is.length u.1 ++ rest
    remains : StoppedBy u.0.is.stop (turn_of u.0) rest

  going_tells : (s : Stop) (g : After Turn) (t : List ℕ) → goes_on s ≡ true → StoppedBy s g t → Tells a g t
  going_tells Not g t e r = r
  going_tells NoRoom g t e r = r
  going_tells AtEnd g t e r = absurd (false≢true e)

  -- past the line of an answer
  onward_has :
      {t rest : List ℕ} (before : List ℕ) (g : After Turn) (next : ℕ) (page : List ℕ) → Tells a g rest →
      take next page ≡ before ++ line_of g → t ≡ before ++ rest → Has t (onward a g next, page)
  unfolding onward
  onward_has before g next page (last e) put whole =
      rw (when_false (sheet_of (replied a g) next Not) (sheet_of g next AtEnd) e)
      (record { rest = []; whole = whole ∙ sym put ∙ sym (append-nil _); remains = refl })
  onward_has before g next page (more {t = u} e r) put whole =
      rw (when_true (sheet_of (replied a g) next Not) (sheet_of g next AtEnd) e)
      (record { rest = u; whole = whole ∙ sym (append_assoc before (line_of g) u) ∙ ap (λ (v : List ℕ). v ++ u) (sym put); remains = r })

  answered_at_has :
      {t rest : List ℕ} (g : After Turn) (at : ℕ) (out : List ℕ) (p : Put) → PutAt (line_of g) at out p → Tells a g rest →
      t ≡ take at out ++ rest → Has t (answered_at a g at p)
  answered_at_has g at out (Some next, page) put r whole = onward_has (take at out) g next page r put.1 whole
  answered_at_has {rest = rest} g at out (None, page) put r whole = record { rest = rest; whole = rw put whole; remains = r }

  answered_has : {t : List ℕ} (u : UnderWay) → goes_on u.0.is.stop ≡ true → Has t u → Has t (answered a u)
  unfolding answered
  answered_has (s, out) going has =
      answered_at_has (turn_of s) s.is.length out (puts (line_of (turn_of s)) (Some s.is.length, out)) (put_at _ _ _)
      (going_tells s.is.stop (turn_of s) has.rest going has.remains) has.whole

  filled_has : {t : List ℕ} (k : ℕ) (u : UnderWay) → Has t u → Has t (filled k a u)
  unfolding filled
  filled_has zero u has = has
  filled_has {t} (suc k) u has =
      either (Has t) (goes_on u.0.is.stop) (λ going. filled_has k (answered a u) (answered_has u going has)) (λ _. has)

  -- ---- a page

  stopped_remains : (s : Stop) (g : After Turn) (t : List ℕ) → StoppedBy s g t → Remains a (after (stopped_of s g.is) g.ws g.q) t
  stopped_remains Not g t r = r
  stopped_remains NoRoom g t r = r
  stopped_remains AtEnd g t r = r

  paged_gave : {t : List ℕ} (u : UnderWay) → Has t u → Gave a t (paged_of u)
  paged_gave (s, out) has =
      record { rest = has.rest; whole = has.whole; remains = stopped_remains s.is.stop (turn_of s) has.rest has.remains }

  refused_gave :
      (number : ℕ) (run : Run) (ws q : List Float) (out : List ℕ) (p : Put) → PutAt (refusal_line number) 0 out p →
      Gave a (refusal_line number) (after (refused_at number run p).0 ws q, (refused_at number run p).1)
  refused_gave number run ws q out (Some next, page) put =
      record { rest = []; whole = sym put.1 ∙ sym (append-nil _); remains = refl }
  refused_gave number run ws q out (None, page) put =
      record { rest = refusal_line number; whole = refl; remains = refl }

  page_gave :
      (said : Said) (run : Run) (ws q : List Float) (out t : List ℕ) → RemainsBy a said run ws q t →
      Gave a t (page_from a said run ws q out)
  page_gave (Told answer) run ws q out t r =
      paged_gave _ (filled_has enough _ (record { rest = t; whole = refl; remains = r }))
  page_gave (NoJob number) run ws q out t r =
      subst (λ (t : List ℕ). Gave a t (page_from a (NoJob number) run ws q out)) (sym r)
      (refused_gave number run ws q out (puts (refusal_line number) (Some 0, out)) (put_at _ _ _))
  page_gave Over run ws q out t r = record { rest = t; whole = refl; remains = r }

  -- whatever is lent for it
  pub next_page_gave : (l : After Listing) (out t : List ℕ) → Remains a l t → Gave a t (next_page a l out)
  unfolding next_page
  next_page_gave l out t r = page_gave l.is.said l.is.run l.ws l.q out t r

-- ---- a row of pages

-- from a listing on, each page lent some bytes: their texts joined, and the listing after them
pub data Pages (a : List Float) (l : After Listing) : List ℕ → After Listing → Type 0 where
  none : Pages a l [] l
  one_more : {t : List ℕ} {m : After Listing} → Pages a l t m → (out : List ℕ) → Pages a l (t ++ text_of (next_page a m out)) (left_of (next_page a m out))

-- what they gave of t, and what remains
record Given (a : List Float) (t given : List ℕ) (m : After Listing) : Type 0 where
  rest : List ℕ
  whole : t ≡ given ++ rest
  remains : Remains a m rest

pages_gave : (a : List Float) (l : After Listing) (t : List ℕ) {given : List ℕ} {m : After Listing} → Remains a l t → Pages a l given m → Given a t given m
pages_gave a l t r none = record { rest = t; whole = refl; remains = r }
pages_gave a l t r (one_more {t = u} {m = m} ps out) =
    let before = pages_gave a l t r ps in
    let page = next_page_gave a m out before.rest before.remains in
    record {
      rest = page.rest;
      whole = before.whole ∙ ap (λ (v : List ℕ). u ++ v) page.whole ∙ sym (append_assoc u (text_of (next_page a m out)) page.rest);
      remains = page.remains;
    }

-- ---- of a file

-- a file opened with a workspace and a question slice of zeros, and whatever stood in the array for A: the listing, and A
abbrev pub opened_in0 : List ℕ → List Float → After Listing × List Float
opened_in0 s a = opened s a blank_work blank_question

-- what a run that was begun has to give, whichever matrix stands beside it where nothing is asked
begun_remains : (g : After Turn) (b a : List Float) (k : ℕ) → Tells b g (lines_from (suc k) b g) → let l = begun_with g b a in Remains l.1 l.0 (lines_from (suc k) b g)
begun_remains g b a k t =
    either (λ (m : List Float). Tells m g (lines_from (suc k) b g)) (is_question_or_notice g.is.answer) (λ _. t)
    (λ e. let only = only_line b k g e in rw only (last e))

-- what is opened has just the whole output to give
opened_remains :
    (o : Outcome Job) (y0 b a : List Float) → length b ≡ max_n * max_n → let l = opened_from (o, y0, b) a blank_work blank_question in
    Remains l.1 l.0 (lines_for (o, y0, b))
opened_remains (gives j) y0 b a wide =
    begun_remains (beginning_of (gives j, y0, b) j) b a (most (configuration_of j (take j.n y0))) (read_tells j y0 b wide)
opened_remains (refuses number) y0 b a wide = refl

module _ (s : List ℕ) (a : List Float) {t : List ℕ} {m : After Listing} (ps : Pages (opened_in0 s a).1 (opened_in0 s a).0 t m) where
  gave : Given (opened_in0 s a).1 (printed s) t m
  unfolding opened printed
  gave =
      let r = reading s in
      pages_gave (opened_in0 s a).1 (opened_in0 s a).0 (printed s) (opened_remains r.0 r.1 r.2 a (reading_sized s).1) ps

  -- at any time the pages are the beginning of the whole output
  pub pages_begin_it : (rest : List ℕ) × (printed s ≡ t ++ rest)
  pages_begin_it = (gave.rest, gave.whole)

  -- and once the listing is over they are all of it
  pub pages_are_printed : m.is.said ≡ Over → printed s ≡ t
  pages_are_printed over =
      let rest = gave.rest in
      let none : rest ≡ [] = subst (λ (said : Said). RemainsBy (opened_in0 s a).1 said m.is.run m.ws m.q rest) over gave.remains in
      gave.whole ∙ rw none (append-nil t)

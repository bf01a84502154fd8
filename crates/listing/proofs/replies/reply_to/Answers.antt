-- `replies::reply_to` meets its contract: the sizes agree, so A y is written whole. Assumes nothing.
use Rattle.std.specs.Prelude.{◌≡◌, List, [], ◌++◌, ℕ, ◌*◌, ◌≤◌, length, take, drop, Float, Result}
use Rattle.std.proofs.Common.{refl, sym, ap, ◌∙◌, arith, take_at}
use Rattle.matrix.specs.Size.{max_n}
use Rattle.text.specs.laws.Fronts.{front, squared}
use Rattle.job.specs.declared.right.WrongLength.{WrongLength}
use Rattle.job.specs.Right.{right_side_of}
use Rattle.listing.specs.Types.{Answer, Derivative, Jacobian, Start, Step, End, Refused, Reply, Values, Continue}
use Rattle.listing.specs.Replies.{reply_to, times_of, values_for}
use Rattle.listing.specs.laws.ReplyLaws.{right_side_writes}
use Rattle.listing.specs.laws.LengthLaws.{times_long}
use Rattle.listing.proofs.replies.reply_to.Goals as goal

module _ (n : ℕ) (a q : List Float) (answer : Answer) where
  abbrev Suits : Reply → List Float → Type 0
  Suits k values = (k ≡ reply_to answer) × (values ≡ values_for (take (n * n) a) (take n q) answer)

  -- A y over the first n places
  times_suit :
      n ≤ max_n → length a ≡ max_n * max_n → length q ≡ 8 * max_n → {x : Float} {r : Result Unit WrongLength} (values : List Float) {dy : List Float} →
      answer ≡ Derivative x → n ≤ length values →
      ◌≡◌ {A = Result Unit WrongLength × List Float} (r, dy) (right_side_of (take (n * n) a) (take n q) (take n values)) →
      Suits Values (take n (dy ++ drop n values))
  times_suit few wide asks values {dy = dy} e room written =
      let square = squared n max_n few in
      let of-a = front (n * n) a (omega arith) in
      let of-y = front n q (omega arith) in
      let of-dy = front n values room in
      let times : dy ≡ times_of (take (n * n) a) (take n q) =
      ap (λ (r : Result Unit WrongLength × List Float). r.1) written
      ∙ right_side_writes (take (n * n) a) (take n q) (take n values) (omega arith) (omega arith) (sym of-a ∙ ap (λ (k : ℕ). k * k) of-y) in
      let long : length dy ≡ n = ap length times ∙ times_long (take (n * n) a) (take n q) ∙ sym of-y in
      rw e (refl, take_at dy (drop n values) n long ∙ times)

  cells_suit : {x : Float} → answer ≡ Jacobian x → Suits Values (take (n * n) a)
  cells_suit e = rw e (refl, refl)

-- any other answer
others :
    (answer : Answer) → ((x : Float) → answer ≡ Derivative x → ⊥) → ((x : Float) → answer ≡ Jacobian x → ⊥) →
    (Continue ≡ reply_to answer) × ((b y : List Float) → [] ≡ values_for b y answer)
others (Derivative x) d j = absurd (d x refl)
others (Jacobian x) d j = absurd (j x refl)
others (Start x) d j = (refl, λ b y. refl)
others (Step old new start h) d j = (refl, λ b y. refl)
others (End status h) d j = (refl, λ b y. refl)
others (Refused why) d j = (refl, λ b y. refl)

pub returns-in-Derivative : goal.returns-in-Derivative
returns-in-Derivative c =
    times_suit c.args.n c.args.a.now c.args.q.now c.args.answer c.requires.0 c.requires.1.0 c.requires.1.1 _ c.in-Derivative.is (omega arith) c.right_side.ensures

pub returns-in-Jacobian : goal.returns-in-Jacobian
returns-in-Jacobian c = cells_suit c.args.n c.args.a.now c.args.q.now c.args.answer c.in-Jacobian.is

pub returns-in_default : goal.returns-in_default
returns-in_default c =
    let other = others c.args.answer c.in_default.not-Derivative c.in_default.not-Jacobian in
    (other.0, other.1 _ _)

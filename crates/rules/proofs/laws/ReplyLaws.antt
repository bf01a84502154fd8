-- What a reply's stages leave to the next: a state that is still ready, and how many values a reply brought.
use Rattle.std.specs.Prelude.{◌≡◌, refl, List, ℕ, ◌+◌, ◌≤◌, length, Float, Some}
use Rattle.std.proofs.Common.{sym, arith}
use Rattle.std.proofs.Math.Path.{ap}
use Rattle.rules.specs.Types.{Progress, Pace, Reply, Awaited, Values, Continue, Interrupt, Modified}
use Rattle.rules.specs.State.{After, with_pace, with_order, after, Left, left}
use Rattle.rules.specs.Replies.{values_want, wants}
use Rattle.rules.specs.laws.Ready.{Ready, Awake, Enough, Answered}
use Rattle.rules.proofs.laws.ReadyLaws.{room_kept}
use Rattle.rules.specs.laws.Moved.{Moved}
use Rattle.rules.proofs.laws.MovedLaws.{moved_on, pace_moves, rejected_moves, jac_moves}
use Rattle.rules.specs.Attempt.{halved, Tried, rejected}
use Rattle.rules.specs.Step.{newton_replied}
use Rattle.rules.proofs.laws.StepLaws.{reply_back}
use Rattle.rules.specs.Reply.{jacobian_stored, outdated}

-- ---- a state that moved within an attempt is ready, where the slices kept their lengths

pub ready_moved :
    {p r : Progress} {ode jac accepted rejected order : ℕ} {ws q v u : List Float} → Ready p ws q →
    Moved p r ode jac 0 0 accepted rejected order → p.steps.rejected + rejected ≤ p.steps.total + 1 → 1 ≤ order → order ≤ 5 →
    length v ≡ length ws → length u ≡ length q → Ready r v u
ready_moved i m few first fifth e f =
    record {
      room = rw m.counts.same_n (room_kept i.room e);
      asks = omega (arith, i.asks, m.counts.same_n);
      sane = omega (arith, i.sane, m.counts);
    }

-- another order, with any pace
pub ordered_ready :
    {p : Progress} {ws q v : List Float} (order : ℕ) (g : Pace) → Ready p ws q → 1 ≤ order → order ≤ 5 → length v ≡ length ws →
    Ready (with_pace (with_order p order) g) v q
ordered_ready order g i first fifth e =
    record { room = room_kept i.room e; asks = i.asks; sane = omega (arith, i.sane) }

module _ {p : Progress} {ws q : List Float} (i : Ready p ws q) where
  -- the factoring out of date
  pub outdated_ready : {r : Progress} → r ≡ outdated p → Ready r ws q
  outdated_ready e = rw e (ready_moved i (pace_moves p (omega arith)) (omega (arith, i.sane)) i.sane.first i.sane.fifth refl refl)

  -- the Jacobian stored
  pub stored_ready :
      (values : List Float) {r : Progress} {v : List Float} → left r v ≡ jacobian_stored p values ws → length v ≡ length ws → Ready r v q
  unfolding jacobian_stored
  stored_ready values e kept =
      let same = ap (λ (l : Left Progress). l.is) e in
      rw same (ready_moved i (jac_moves p) (omega (arith, i.sane)) i.sane.first i.sane.fifth kept refl)

  module _ (w : Awake p) where
    -- and the step halved
    pub halved_ready :
        (values : List Float) {r s : Progress} {v u : List Float} → left r v ≡ jacobian_stored p values ws → left s u ≡ halved r v →
        length u ≡ length ws → Ready s u q
    unfolding jacobian_stored halved
    halved_ready values e h kept =
        let same = ap (λ (l : Left Progress). l.is) e in
        let half = ap (λ (l : Left Progress). l.is) h in
        rw (half, same)
        (ready_moved i (moved_on (moved_on (jac_moves p) (pace_moves _ (omega arith))) (rejected_moves _))
        (omega (arith, w.pending)) i.sane.first i.sane.fifth kept refl)

    -- the attempt rejected for its error
    pub replied_ready :
        (values : List Float) {r : Progress} {v u : List Float} → after (rejected r) v u ≡ newton_replied p values ws q →
        length v ≡ length ws → length u ≡ length q → Ready r v u
    replied_ready values e kept asked =
        let back = reply_back p values ws q (ap (λ (a : After Tried). a.is) (sym e)) in
        ready_moved i back (omega (arith, w.pending)) i.sane.first i.sane.fifth kept asked

-- ---- what a reply brings: the values that a question asked, or those of a modification

asked_for : (k count : ℕ) (r : Reply) → values_want k r ≡ Some count → k ≡ count
asked_for k count Values e = cc
asked_for k count Continue e = cc
asked_for k count Interrupt e = cc
asked_for k count (Modified x) e = cc

pub values_brought :
    {w : Awaited} {p : Progress} {r : Reply} {values : List Float} (k : ℕ) → Answered w p r values → wants p.n w r ≡ values_want k r →
    k ≤ length values
values_brought {r = r} k a e = let same : k ≡ a.count = asked_for k a.count r (rw e at a.suits) in omega (arith, a.enough)

pub state_brought : {p : Progress} {r : Reply} {x : Float} {values : List Float} → Enough p r values → r ≡ Modified x → p.n ≤ length values
state_brought {p} a e = let suits = rw e at a.suits in let same : p.n ≡ a.count = cc in omega (arith, a.enough)

-- How the counters stand after a question or a notice; and that the main loop keeps it, whatever the floats are: the run ends, or
-- one attempt more is under way.
use Rattle.std.specs.Prelude.{◌≡◌, refl, List, ◌∷◌, false, ℕ, ◌+◌, ◌-◌, ◌*◌, ◌≤◌, length, Float}
use Rattle.std.proofs.Common.{sym, ap, ◌∙◌, mul-le-mul, arith}
use Rattle.std.proofs.lemmas.Bool.{false≢true}
use Rattle.rules.specs.Types.{Progress, Awaited, Answer, Turn, Status, Evals, Steps, Pace, Aim, Newton, Derivative, Jacobian, Start, Step, End, StartNotice, NewtonDerivative, StepNotice, Ended}
use Rattle.rules.specs.Replies.{is_ended}
use Rattle.rules.specs.laws.Moved.{Moved, as_before}
use Rattle.rules.proofs.laws.MovedLaws.{repivoted_twice}
use Rattle.rules.specs.laws.Said.{Said, ends, asks}
use Rattle.rules.proofs.laws.MainLoopLaws.{main_loop_says}
use Rattle.rules.specs.Attempt.{main_loop}
use Rattle.rules.specs.Calls.{Configuration}
use Rattle.rules.specs.History.{automatic_start}
use Rattle.rules.proofs.laws.HistoryLaws.{automatic_stays}
use Rattle.rules.specs.laws.Standing.{here, still, Stands, Stays, Next}

-- ---- what stays

pub stays_with :
    (p : Progress) {evals : Evals} {steps : Steps} {order : ℕ} {x : Float} {pace : Pace} {aim : Aim} {c : Float} {newton : Newton} →
    Stays p
    (record {
      n = p.n;
      limits = p.limits;
      span = p.span;
      evals = evals;
      steps = steps;
      order = order;
      x = x;
      pace = pace;
      aim = aim;
      current_c = c;
      newton = newton;
      pivot = p.pivot;
    })
stays_with p = record { same_n = refl; same_steps = refl; same_newton = refl; same_guard = refl; same_span = refl; pivots = as_before }

stays_twice : {p r s : Progress} → Stays p r → Stays r s → Stays p s
stays_twice f g =
    record {
      same_n = g.same_n ∙ f.same_n;
      same_steps = g.same_steps ∙ f.same_steps;
      same_newton = g.same_newton ∙ f.same_newton;
      same_guard = g.same_guard ∙ f.same_guard;
      same_span = g.same_span ∙ f.same_span;
      pivots = repivoted_twice f.pivots (rw f.same_n at g.pivots);
    }

stays_moved : {p r : Progress} {ode jac lu total accepted rejected order : ℕ} → Moved p r ode jac lu total accepted rejected order → Stays p r
stays_moved m =
    record {
      same_n = m.counts.same_n;
      same_steps = m.counts.same_steps;
      same_newton = m.counts.same_newton;
      same_guard = m.same_guard;
      same_span = m.same_span;
      pivots = m.pivots;
    }

module _ (c : Configuration) where
  -- ---- questions and notices from the third answer on, by what stays and how the counters stand afterwards

  module _ {p r : Progress} {h : List Answer} (s : Stays p r) (late : 3 - length h ≡ 0) where
    pub derivative_asked :
        {w : Awaited} {x : Float} → is_ended w ≡ false → (automatic_start c (Derivative x ∷ h) ≡ automatic_start c h → Stands c (here r w) r (Derivative x ∷ h)) →
        Next c p h (Derivative x) w r
    derivative_asked {x = x} e i =
        record { stays = s; stands = i (automatic_stays c (Derivative x) h late); tells = record { ended = sym e; quiet = λ n. absurd (false≢true n) } }

    pub jacobian_asked :
        {w : Awaited} {x : Float} → is_ended w ≡ false → (automatic_start c (Jacobian x ∷ h) ≡ automatic_start c h → Stands c (here r w) r (Jacobian x ∷ h)) →
        Next c p h (Jacobian x) w r
    jacobian_asked {x = x} e i =
        record { stays = s; stands = i (automatic_stays c (Jacobian x) h late); tells = record { ended = sym e; quiet = λ n. absurd (false≢true n) } }

    pub start_told :
        {x : Float} → (automatic_start c (Start x ∷ h) ≡ automatic_start c h → Stands c (here r StartNotice) r (Start x ∷ h)) → Next c p h (Start x) StartNotice r
    start_told {x} i =
        record { stays = s; stands = i (automatic_stays c (Start x) h late); tells = record { ended = refl; quiet = λ _. refl } }

    pub step_told :
        {x y z v : Float} → (automatic_start c (Step x y z v ∷ h) ≡ automatic_start c h → Stands c (here r StepNotice) r (Step x y z v ∷ h)) →
        Next c p h (Step x y z v) StepNotice r
    step_told {x} {y} {z} {v} i =
        record { stays = s; stands = i (automatic_stays c (Step x y z v) h late); tells = record { ended = refl; quiet = λ _. refl } }

    pub end_told :
        {status : Status} {x : Float} → (automatic_start c (End status x ∷ h) ≡ automatic_start c h → Stands c (here r Ended) r (End status x ∷ h)) →
        Next c p h (End status x) Ended r
    end_told {status} {x} i =
        record { stays = s; stands = i (automatic_stays c (End status x) h late); tells = record { ended = refl; quiet = λ _. refl } }

  -- what a later state leads to
  pub next_later : {p r s : Progress} {h : List Answer} {a : Answer} {w : Awaited} → Stays p r → Next c r h a w s → Next c p h a w s
  next_later s n = record { stays = stays_twice s n.stays; stands = n.stands; tells = n.tells }

  -- ---- the main loop

  module _ {p : Progress} {h : List Answer} (i : Stands c (still p) p h) {q : Progress} {k : ℕ} (within : q.steps.total ≤ p.limits.steps) where
    ended_next : (status : Status) (x : Float) → Moved p q 0 0 k k 0 k p.order → Next c p h (End status x) Ended q
    ended_next status x m =
        let product : p.limits.newton * p.steps.total ≤ q.limits.newton * q.steps.total = mul-le-mul (omega arith) (omega arith) in
        end_told (stays_moved m) i.coming (λ decided. omega arith)

    -- an attempt more allows m derivatives more, and a Jacobian
    asked_next : (x : Float) → q.newton.iters ≡ 0 → Moved p q 0 0 (1 + k) (1 + k) 0 k p.order → Next c p h (Derivative x) NewtonDerivative q
    asked_next x fresh m =
        let product : p.limits.newton * (p.steps.total + 1) ≤ q.limits.newton * q.steps.total = mul-le-mul (omega arith) (omega arith) in
        derivative_asked (stays_moved m) i.coming refl (λ decided. omega arith)

  said_next : {p : Progress} {h : List Answer} {t : Turn} → Stands c (still p) p h → Said p t → Next c p h t.answer t.run.awaited t.run.at
  said_next i (ends status e cause within m) =
      rw (ap (λ (t : Turn). t.answer) e, ap (λ (t : Turn). t.run.awaited) e) (ended_next i within status _ m)
  said_next i (asks e fresh within m) =
      rw (ap (λ (t : Turn). t.answer) e, ap (λ (t : Turn). t.run.awaited) e) (asked_next i within _ fresh m)

  pub loop_next :
      {p r : Progress} {h : List Answer} (ws q : List Float) → Stays p r → Stands c (still r) r h →
      let t = (main_loop r ws q).is in Next c p h t.answer t.run.awaited t.run.at
  loop_next {r = r} ws q s i = next_later s (said_next i (main_loop_says r ws q i.within))

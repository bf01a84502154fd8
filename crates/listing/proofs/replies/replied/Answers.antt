-- `replies::replied` meets its contract. A state of more components than are served is refused, whatever is replied. Assumes nothing.
use Rattle.std.specs.Prelude.{◌≡◌, Bool, true, false, List, ℕ, ◌*◌, ◌<◌, min, leb, take, Float}
use Rattle.std.proofs.Common.{refl, sym, ◌∙◌, arith, leb-true, leb-false}
use Rattle.matrix.specs.Size.{max_n}
use Rattle.rules.specs.State.{After, after}
use Rattle.rules.specs.Calls.{size}
use Rattle.rules.specs.GoOn.{go_on_of}
use Rattle.listing.specs.Types.{Reply, Turn}
use Rattle.listing.specs.Replies.{reply_to, values_for, replied}
use Rattle.listing.specs.laws.ReplyLaws.{too_many_refused}
use Rattle.listing.proofs.replies.replied.Goals as goal

-- a reply that is the definition's for as many components as are served
reply_taken :
    (a : List Float) (g : After Turn) (m : ℕ) → m ≡ min (size g) max_n → (k : Reply) (values : List Float) →
    (k ≡ reply_to g.is.answer) × (values ≡ values_for (take (m * m) a) (take m g.q) g.is.answer) → go_on_of g.is.run k values g.ws g.q ≡ replied a g
unfolding replied
reply_taken a g m lesser k values suits = by_test _ refl
  where
    by_test : (b : Bool) → leb (size g) max_n ≡ b → go_on_of g.is.run k values g.ws g.q ≡ replied a g
    by_test true few =
        let same : size g ≡ m = omega (arith, lesser, leb-true (size g) max_n few) in
        rw (suits.0, suits.1, same)
    by_test false many =
        let above : max_n < size g = leb-false (size g) max_n many in
        too_many_refused _ k values _ _ above ∙ sym (too_many_refused _ _ _ _ _ above)

pub reply_to-reply-requires : goal.reply_to-reply-requires
reply_to-reply-requires c = (omega (arith, c.min-n.ensures), c.requires)

pub returns : goal.returns
returns c =
    c.resume-turn.ensures
    ∙ reply_taken c.args.a.now (after c.args.turn.now c.args.ws.now c.args.q.now) c.min-n.result c.min-n.ensures _ _ c.reply_to-reply.ensures

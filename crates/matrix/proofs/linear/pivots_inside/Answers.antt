-- `linear::pivots_inside` meets its contract: where all name a row the test passes, and the first one outside fails it. Assumes nothing.
use Rattle.std.proofs.Common.{◌≡◌, sym, Bool, true, false, List, ℕ, ◌-◌, ◌≤◌, ◌<◌, length, take, zero-le, get_or-take, rules, tests, arith}
use Rattle.std.proofs.lemmas.List.{length-take-le}
use Rattle.std.proofs.lemmas.Iterator.{cases_from_all, YieldsList-from_slice}
use Rattle.std.specs.Bool.{MatchBool}
use Rattle.std.specs.List.{AllWithin, HoldsAt}
use Rattle.matrix.specs.Linear.{inside_of}
use Rattle.matrix.proofs.laws.PivotLaws.{means_inside, one_outside}
use Rattle.matrix.proofs.linear.pivots_inside.Goals as goal

judged :
    (ip : List ℕ) (n : ℕ) (r : Bool) → length ip ≡ n
    → MatchBool r (AllWithin (λ m. m < n) (take (n - 1) ip) 0 (length (take (n - 1) ip)))
    ((k : ℕ) × (k < length (take (n - 1) ip)) × HoldsAt (λ m. n ≤ m) (take (n - 1) ip) k)
    → r ≡ inside_of n ip
judged ip n true l all =
    let long = length-take-le (n - 1) ip (omega arith) in
    sym (means_inside n ip (λ k h. rw (get_or-take (n - 1) ip k 0 h) at (all k 0 zero-le (omega arith))))
judged ip n false l (k, within, beyond) =
    let long = length-take-le (n - 1) ip (omega arith) in
    let h : k < n - 1 = omega arith in
    sym (one_outside n ip k h (rw (get_or-take (n - 1) ip k 0 h) at (beyond 0)))

pub returns : goal.returns
returns c =
    judged c.args.ip.now c.args.n c.all.result c.requires.1
    (cases_from_all _ _ _ (λ m. m < c.args.n) (λ m. c.args.n ≤ m) c.all.ensures.ran (YieldsList-from_slice (take (c.args.n - 1) c.args.ip.now) cc)
    (λ x q k. search (rules, tests)) (λ x q k. search (rules, tests)))

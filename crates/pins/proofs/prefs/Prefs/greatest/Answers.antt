-- The next origin's priority is the greatest, or the one so far stays.
use Rattle.std.proofs.Common.{rules, ◌≡◌, ◌∙◌, ◌+◌, ℤ, ap, get_or, map, sym, subst, take, w32, to_z, of_z}
use Rattle.std.proofs.lemmas.Int.{to_z-of_z}
use Rattle.rules.specs.Priority.{IsGreatest}
use Rattle.pins.specs.Priority.{greater, priority_by}
use Rattle.pins.proofs.GreatestLemmas.{IsGreatest-more}
use Rattle.pins.proofs.prefs.Prefs.greatest.Goals as goal

pub loop-origin-preserved : goal.loop-origin-preserved
loop-origin-preserved c =
    let f = priority_by c.args.self.now c.args.version.now in
    let earlier = c.loop-origin.greatest in
    let origins = c.args.origins.now in
    let i = c.loop-origin.origin-index in
    let item = c.origin-item.result in
    let kept : to_z w32 (of_z w32 c.greater.result) ≡ c.greater.result = to_z-of_z w32 c.greater.result (search rules) in
    let given : to_z w32 (of_z w32 c.priority_in.result) ≡ c.priority_in.result = to_z-of_z w32 c.priority_in.result (search rules) in
    let value : c.greater.result ≡ greater earlier (f (get_or origins i item)) =
    c.greater.ensures ∙ ap (greater earlier) (given ∙ c.priority_in.ensures ∙ ap f c.origin-item.is) in
    rw kept (subst (λ (n : ℤ). IsGreatest n (map f (take (i + 1) origins))) (sym value)
    (IsGreatest-more f earlier origins i item c.loop-origin-test.true c.loop-origin.invariant))

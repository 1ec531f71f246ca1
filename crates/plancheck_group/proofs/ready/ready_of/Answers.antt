-- Each name that is ready is added.
use Rattle.std.proofs.Common.{◌≡◌, ℕ, List, ◌++◌, ◌∷◌, [], rules, true, false, sym, subst, ◌∙◌, take}
use Rattle.plancheck_group.specs.Part.{IsPartWith, IsReady}
use Rattle.plancheck_group.proofs.PartLemmas.{part_pushed, part_skip, up_to_end, up_to_next}
use Rattle.plancheck_group.proofs.ready.ready_of.Goals as goal
use Rattle.plancheck_group.proofs.ready.ready_of.Goals.{then-is_ready+in_ok-try_copy+in_ok-push, else-is_ready}

pub loop-name-preserved : goal.loop-name-preserved
loop-name-preserved c =
    let P : List ℕ → Type 0 = IsReady c.args.db.now in
    let names = c.args.names.now in
    let place = c.loop-name.name-index in
    let name = c.name-item.result in
    up_to_next (λ so_far. IsPartWith P so_far c.if-is_ready.ready.items) names place name c.loop-name-test.true c.name-item.is
    (elim c.if-is_ready.branch [
      | then-is_ready+in_ok-try_copy+in_ok-push w ↦ part_pushed P (take place names) c.loop-name.ready.items c.if-is_ready.ready.items name w.in_ok-try_copy.field-0
          (search rules) w.in_ok-try_copy.ensures (c.is_ready.ensures.0 w.if-is_ready.true) c.loop-name.invariant
      | else-is_ready w ↦ subst (λ items. IsPartWith P (take place names ++ name ∷ []) items) (search rules)
          (part_skip P (take place names) c.loop-name.ready.items name
          (λ has. absurd (let e : true ≡ false = sym (c.is_ready.ensures.1 has) ∙ w.if-is_ready.false in cc)) c.loop-name.invariant)
    ])

pub returns : goal.returns
returns c = up_to_end (λ so_far. IsPartWith (IsReady c.args.db.now) so_far c.loop-name.ready.items) c.args.names.now
    c.loop-name.name-index c.loop-name-test.false c.loop-name.invariant

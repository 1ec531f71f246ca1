-- Each name that is left is added.
use Rattle.std.proofs.Common.{◌≡◌, ℕ, List, ◌++◌, ◌∷◌, [], rules, true, false, sym, subst, ◌∙◌, take}
use Rattle.std.specs.List.{Contains}
use Rattle.plancheck_group.specs.Part.{IsPartWith}
use Rattle.plancheck_group.proofs.PartLemmas.{part_pushed, part_skip, up_to_end, up_to_next}
use Rattle.plancheck_group.proofs.ready.names_left.Goals as goal
use Rattle.plancheck_group.proofs.ready.names_left.Goals.{then-has+in_ok-try_copy+in_ok-push, else-has}

pub loop-name-preserved : goal.loop-name-preserved
loop-name-preserved c =
    let P : List ℕ → Type 0 = Contains c.args.part.now in
    let names = c.args.names.now in
    let place = c.loop-name.name-index in
    let name = c.name-item.result in
    up_to_next (λ so_far. IsPartWith P so_far c.if-has.left.items) names place name c.loop-name-test.true c.name-item.is
    (elim c.if-has.branch [
      | then-has+in_ok-try_copy+in_ok-push w ↦ part_pushed P (take place names) c.loop-name.left.items c.if-has.left.items name w.in_ok-try_copy.field-0
          (search rules) w.in_ok-try_copy.ensures (subst P c.as_bytes.ensures.bytes (c.has.ensures.0 w.if-has.true)) c.loop-name.invariant
      | else-has w ↦ subst (λ items. IsPartWith P (take place names ++ name ∷ []) items) (search rules)
          (part_skip P (take place names) c.loop-name.left.items name
          (λ has. absurd (let e : true ≡ false = sym (c.has.ensures.1 (subst P (sym c.as_bytes.ensures.bytes) has)) ∙ w.if-has.false in cc)) c.loop-name.invariant)
    ])

pub returns : goal.returns
returns c = up_to_end (λ so_far. IsPartWith (Contains c.args.part.now) so_far c.loop-name.left.items) c.args.names.now
    c.loop-name.name-index c.loop-name-test.false c.loop-name.invariant

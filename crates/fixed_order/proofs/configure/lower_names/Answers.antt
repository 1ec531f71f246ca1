-- Each name that may pass is added.
use Rattle.std.proofs.Common.{◌≡◌, ℕ, List, ◌++◌, ◌∷◌, [], rules, true, false, sym, subst, ◌∙◌, take}
use Rattle.std.specs.Option.{option_copied}
use Rattle.plancheck_group.specs.Part.{IsPartWith}
use Rattle.plancheck_group.proofs.PartLemmas.{part_pushed, part_skip, up_to_end, up_to_next}
use Rattle.fixed_order.specs.Alone.{MayPass}
use Rattle.fixed_order.proofs.configure.lower_names.Goals as goal
use Rattle.fixed_order.proofs.configure.lower_names.Goals.{then-may_pass+in_ok-try_copy+in_ok-push, else-may_pass}

pub loop-name-preserved : goal.loop-name-preserved
loop-name-preserved c =
    let P : List ℕ → Type 0 = MayPass c.args.db.now (option_copied c.args.bound) in
    let names = c.args.names.now in
    let place = c.loop-name.name-index in
    let name = c.name-item.result in
    up_to_next (λ so_far. IsPartWith P so_far c.if-may_pass.lower.items) names place name c.loop-name-test.true c.name-item.is
    (elim c.if-may_pass.branch [
      | then-may_pass+in_ok-try_copy+in_ok-push w ↦ part_pushed P (take place names) c.loop-name.lower.items c.if-may_pass.lower.items name w.in_ok-try_copy.field-0
          (search rules) w.in_ok-try_copy.ensures (c.may_pass.ensures.0 w.if-may_pass.true) c.loop-name.invariant
      | else-may_pass w ↦ subst (λ items. IsPartWith P (take place names ++ name ∷ []) items) (search rules)
          (part_skip P (take place names) c.loop-name.lower.items name
          (λ has. absurd (let e : true ≡ false = sym (c.may_pass.ensures.1 has) ∙ w.if-may_pass.false in cc)) c.loop-name.invariant)
    ])

pub returns : goal.returns
returns c = up_to_end (λ so_far. IsPartWith (MayPass c.args.db.now (option_copied c.args.bound)) so_far c.loop-name.lower.items) c.args.names.now
    c.loop-name.name-index c.loop-name-test.false c.loop-name.invariant

-- Each name but for this one is added.
use Rattle.std.proofs.Common.{◌≡◌, ◌≢◌, ℕ, List, ◌++◌, ◌∷◌, [], rules, true, false, sym, subst, ◌∙◌, take}
use Rattle.plancheck_group.specs.Part.{IsPartWith}
use Rattle.plancheck_group.proofs.PartLemmas.{part_pushed, part_skip, up_to_end, up_to_next}
use Rattle.forward_steps.proofs.group.others_of.Goals as goal
use Rattle.forward_steps.proofs.group.others_of.Goals.{then-not-is_same+in_ok-try_copy+in_ok-push, else-not-is_same}

pub loop-other-preserved : goal.loop-other-preserved
loop-other-preserved c =
    let P : List ℕ → Type 0 = λ other. other ≢ c.args.name.now in
    let names = c.args.names.now in
    let place = c.loop-other.other-index in
    let other = c.other-item.result in
    up_to_next (λ so_far. IsPartWith P so_far c.if-not-is_same.others.items) names place other c.loop-other-test.true c.other-item.is
    (elim c.if-not-is_same.branch [
      | then-not-is_same+in_ok-try_copy+in_ok-push w ↦ part_pushed P (take place names) c.loop-other.others.items c.if-not-is_same.others.items other w.in_ok-try_copy.field-0
          (search rules) w.in_ok-try_copy.ensures
          (λ same. absurd (let e : true ≡ false = sym (c.is_same.ensures.1 (c.as_bytes.ensures.bytes ∙ same
          ∙ sym c.as_bytes-in-loop-other.ensures.bytes)) ∙ w.if-not-is_same.true in cc)) c.loop-other.invariant
      | else-not-is_same w ↦ subst (λ items. IsPartWith P (take place names ++ other ∷ []) items) (search rules)
          (part_skip P (take place names) c.loop-other.others.items other
          (λ differs. differs (sym c.as_bytes.ensures.bytes ∙ c.is_same.ensures.0 w.if-not-is_same.false
          ∙ c.as_bytes-in-loop-other.ensures.bytes)) c.loop-other.invariant)
    ])

pub returns : goal.returns
returns c = up_to_end (λ so_far. IsPartWith (λ other. other ≢ c.args.name.now) so_far c.loop-other.others.items) c.args.names.now
    c.loop-other.other-index c.loop-other-test.false c.loop-other.invariant

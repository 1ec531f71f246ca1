-- One more line stands behind the others.
use Rattle.std.proofs.Common.{List, [], ◌∷◌, ℕ, ap, map, subst, sym, take, take_all, ◌++◌, ◌∙◌}
use Rattle.std.proofs.lemmas.List.{map-append, take_more}
use Rattle.outcomes.specs.Survey.{AreJsonLines}
use Rattle.outcomes.proofs.DocumentLemmas.{one_line}
use Rattle.outcomes.proofs.survey_documents.lines_of.Goals as goal
use Rattle.serde_json.specs.Data.{Data}
use Rattle.serde_json.specs.View.{view}
use Rattle.serde_json.specs.declared.value.Value.{Value}

pub loop-object-preserved : goal.loop-object-preserved
loop-object-preserved c =
    let objects = c.args.objects.now in
    let at = c.loop-object.object-index in
    let one = c.object-item.result in
    let old = c.loop-object.text.items in
    let new = c.extend_from_slice.new.self.items in
    subst (λ (values : List Data). AreJsonLines values new)
    (sym (ap (map view) (take_more objects at one c.loop-object-test.true
    ∙ ap (λ (next : Value). take at objects ++ next ∷ []) (sym c.object-item.is)) ∙ map-append view (take at objects) (one ∷ [])))
    (one_line (map view (take at objects)) (view one) old new c.in_ok-line.line.items c.loop-object.invariant c.in_ok-line.ensures
    (c.in_ok-extend_from_slice.ensures.items ∙ ap (λ (more : List ℕ). old ++ more) c.as_slice.ensures.value))

pub returns : goal.returns
returns c = subst (λ (values : List Value). AreJsonLines (map view values) c.loop-object.text.items)
    (take_all c.loop-object.object-index c.args.objects.now c.loop-object-test.false) c.loop-object.invariant

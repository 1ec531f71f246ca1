-- The lines of the objects so far.
use Rattle.std.proofs.Common.{map, take}
use Rattle.outcomes.specs.Survey.{AreJsonLines}
use Rattle.outcomes.proofs.survey_documents.lines_of.Given as goal
use Rattle.serde_json.specs.View.{view}

abbrev pub invariant-loop-object : goal.invariant-loop-object
invariant-loop-object l = AreJsonLines (map view (take l.object-index l.objects)) l.text.items

-- The objects of the packages so far stand behind those before.
use Rattle.std.proofs.Common.{◌≡◌, ◌++◌, map, take}
use Rattle.std.specs.List.{flat_map}
use Rattle.outcomes.specs.Survey.{package_objects}
use Rattle.outcomes.proofs.survey_documents.push_packages.Given as goal
use Rattle.serde_json.specs.View.{view}

abbrev pub invariant-loop-answer : goal.invariant-loop-answer
invariant-loop-answer l =
    map view l.objects.items ≡ map view l.fn.objects.items ++ flat_map (package_objects l.tells) (take l.answer-index l.answers)

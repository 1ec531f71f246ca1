-- The lines of the packages so far stand behind the text.
use Rattle.std.proofs.Common.{◌≡◌, ◌++◌, take}
use Rattle.std.specs.List.{flat_map}
use Rattle.outcomes.specs.Survey.{package_line}
use Rattle.outcomes.proofs.survey.push_packages.Given as goal

abbrev pub invariant-loop-answer : goal.invariant-loop-answer
invariant-loop-answer l = l.text.items ≡ l.fn.text.items ++ flat_map package_line (take l.answer-index l.answers)

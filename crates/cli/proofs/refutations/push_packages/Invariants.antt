-- The files of the packages so far.
use Rattle.std.proofs.Common.{◌≡◌, ◌++◌, take}
use Rattle.std.specs.List.{flat_map}
use Rattle.cli.specs.Packages.{files_of_package}
use Rattle.cli.proofs.refutations.push_packages.Given as goal

abbrev pub invariant-loop-answer : goal.invariant-loop-answer
invariant-loop-answer l = l.files.items ≡ l.fn.files.items ++ flat_map (files_of_package l.folder) (take l.answer-index l.answers)

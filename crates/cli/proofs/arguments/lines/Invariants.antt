use Rattle.std.proofs.Common.{◌≡◌, ◌++◌, drop}
use Rattle.cli.specs.Places.{lines_of}
use Rattle.command_line.specs.Asked.{texts_by}
use Rattle.cli.proofs.arguments.lines.Given as goal

abbrev pub invariant-loop-text : goal.invariant-loop-text
invariant-loop-text l = l.all.items ++ lines_of (texts_by (drop l.text-index l.texts)) ≡ lines_of (texts_by l.texts)

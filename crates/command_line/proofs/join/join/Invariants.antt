use Rattle.std.proofs.Common.{◌≡◌, ◌++◌, None, drop, map}
use Rattle.std.specs.Prelude.{string_bytes}
use Rattle.command_line.specs.Joined.{joined_behind}
use Rattle.command_line.specs.Place.{left}
use Rattle.command_line.proofs.join.join.Given as goal

abbrev pub invariant-loop-word : goal.invariant-loop-word
invariant-loop-word l = map string_bytes l.all.items ++ left l.place (map (λ word. word.now) (drop l.word-index l.words))
    ≡ map string_bytes l.fn.all.items ++ joined_behind None (map (λ word. word.now) l.words)

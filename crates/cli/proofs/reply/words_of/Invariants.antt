-- The words so far, and the names that are left.
use Rattle.std.proofs.Common.{◌≡◌, ◌++◌, drop, map, string_bytes}
use Rattle.cli.proofs.reply.words_of.Given as goal

abbrev pub invariant-loop-name : goal.invariant-loop-name
invariant-loop-name l = map (λ word. word.now) l.words.items ++ map string_bytes (drop l.name-index l.names) ≡ map string_bytes l.names

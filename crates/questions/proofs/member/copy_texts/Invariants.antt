-- The copies so far, and the texts that are left.
use Rattle.std.proofs.Common.{◌≡◌, ◌++◌, drop, map, string_bytes}
use Rattle.questions.proofs.member.copy_texts.Given as goal

abbrev pub invariant-loop-text : goal.invariant-loop-text
invariant-loop-text l = map string_bytes l.copies.items ++ map (λ text. text.now) (drop l.text-index l.texts) ≡ map (λ text. text.now) l.texts

use Rattle.std.proofs.Common.{◌≡◌, ◌++◌, drop, map}
use Rattle.std.specs.List.{All}
use Rattle.std.specs.Prelude.{IsUtf8}
use Rattle.command_line.proofs.texts.texts_of.Given as goal

abbrev pub invariant-loop-word : goal.invariant-loop-word
invariant-loop-word l = record {
  same : map (λ text. text.now) l.texts.items ++ map (λ word. word.items) (drop l.word-index l.words) ≡ map (λ word. word.items) l.words;
  texts : All IsUtf8 (map (λ word. word.items) (drop l.word-index l.words)) → All IsUtf8 (map (λ word. word.items) l.words);
  rest : All IsUtf8 (map (λ word. word.items) l.words) → All IsUtf8 (map (λ word. word.items) (drop l.word-index l.words));
}

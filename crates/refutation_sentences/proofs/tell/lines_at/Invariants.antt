-- The lines so far are among the texts.
use Rattle.std.proofs.Common.{ℕ, List, map}
use Rattle.std.specs.List.{Contains}
use Rattle.refutation_sentences.proofs.tell.lines_at.Given as goal

abbrev pub invariant-loop-place : goal.invariant-loop-place
invariant-loop-place l = (other : List ℕ) → Contains (map (λ key. key.now) l.lines.keys) other → Contains (map (λ text. text.items) l.texts) other

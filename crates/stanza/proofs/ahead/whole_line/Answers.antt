-- The first newline ends the line; where there is none, the whole text is its last line if it is over.
use Rattle.std.proofs.Common.{ℕ, Bool, sym, subst, add-one, length}
use Rattle.stanza.specs.Streamed.{EndsLine}
use Rattle.stanza.proofs.StreamLemmas.{EndsLine-at, EndsLine-last, no-newline}
use Rattle.stanza.proofs.ahead.whole_line.Goals as goal

pub returns-in-Some : goal.returns-in-Some
returns-in-Some c = subst (λ (len : ℕ). EndsLine c.args.is_over c.args.text.now len) (sym (add-one c.in-Some.at)) (EndsLine-at c.args.is_over c.args.text.now c.in-Some.at c.in-Some.ensures)

pub returns-then-is_over : goal.returns-then-is_over
returns-then-is_over c = subst (λ (b : Bool). EndsLine b c.args.text.now (length c.args.text.now)) (sym c.if-is_over.true) (EndsLine-last c.args.text.now c.requires c.in-None.ensures)

pub returns-else-is_over : goal.returns-else-is_over
returns-else-is_over c = (c.if-is_over.false, no-newline c.args.text.now c.in-None.ensures)

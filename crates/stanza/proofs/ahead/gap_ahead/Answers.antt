-- One more line of the gap is passed, and what stops the walk is a line of a stanza, or one that isn't whole.
use Rattle.std.proofs.Common.{ℕ, List, ◌≡◌, ◌||◌, false, true, ◌∙◌, arith, take, sym, ap, subst}
use Rattle.stanza.specs.Line.{is_comment, is_separator}
use Rattle.stanza.specs.Streamed.{BeginsAhead, EndsLine}
use Rattle.stanza.proofs.AheadLemmas.{BeginsAhead-line, BeginsAhead-open, SkipsAhead-more}
use Rattle.stanza.proofs.ahead.gap_ahead.Goals as goal

pub returns-in_default-clause-begins : goal.returns-in_default-clause-begins
returns-in_default-clause-begins c =
    subst (λ (rest : List ℕ). BeginsAhead c.args.is_over c.args.form rest) c.split_at.ensures.back
    (BeginsAhead-open c.args.is_over c.args.form c.split_at.result.1.now c.in_default.ensures.0 c.in_default.ensures.1)

pub returns-then-not-is_gap-clause-begins : goal.returns-then-not-is_gap-clause-begins
returns-then-not-is_gap-clause-begins c =
    subst (λ (rest : List ℕ). BeginsAhead c.args.is_over c.args.form rest) c.split_at.ensures.back
    (BeginsAhead-line c.args.is_over c.args.form c.split_at.result.1.now c.in-Some.len c.in-Some.ensures
    (subst (λ (line : List ℕ). is_comment c.args.form line || is_separator line ≡ false) c.split_at-in-loop-offset.ensures.front (sym c.if-not-is_gap.ensures)))

pub overflow_add-lines : goal.overflow_add-lines
overflow_add-lines c = omega (arith, (c.loop-offset.invariant 0).each, c.loop-offset-test.true, c.loop-offset.auto.offset-fits, c.in-Some.ensures.some)

pub loop-offset-preserved : goal.loop-offset-preserved
loop-offset-preserved c = λ n.
    SkipsAhead-more c.args.is_over c.args.form n c.args.text.now c.loop-offset.offset c.in-Some.len c.loop-offset.lines (c.loop-offset.invariant n)
    (subst (λ (rest : List ℕ). EndsLine c.args.is_over rest c.in-Some.len) c.split_at.ensures.back c.in-Some.ensures)
    (subst (λ (line : List ℕ). is_comment c.args.form line || is_separator line ≡ true)
    (c.split_at-in-loop-offset.ensures.front ∙ ap (take c.in-Some.len) c.split_at.ensures.back) (sym c.if-not-is_gap.ensures))

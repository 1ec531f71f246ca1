-- The lines are walked one by one: the loop ends at a separator, at the text's end, at the first fault, or where more is needed.
use Rattle.std.proofs.Common.{◌≡◌, ◌+◌, ◌∷◌, ◌++◌, [], ℕ, true, List, length, take, drop, sym, ap, subst, ◌∙◌, arith, None, inl, inr}
use Rattle.std.proofs.lemmas.List.{drop_all}
use Rattle.std.proofs.lemmas.Result.{err_from_is_err_and}
use Rattle.stanza.specs.Line.{lines_of, is_separator}
use Rattle.stanza.specs.Field.{names_of}
use Rattle.stanza.specs.Fault.{fault_of}
use Rattle.stanza.specs.Known.{AreKnown}
use Rattle.stanza.specs.Starts.{starts_of}
use Rattle.stanza.specs.Streamed.{EndsLine, has_newline}
use Rattle.stanza.proofs.AheadLemmas.{IsAhead-before, IsAhead-last, Reads-fault, Reads-more, Reads-open, no-comment-first, separator-behind}
use Rattle.stanza.proofs.ahead.stanza_ahead.Goals as goal

pub returns-in_default-clause-ahead : goal.returns-in_default-clause-ahead
returns-in_default-clause-ahead c =
    let w = c.loop-offset in (
      c.in_default.ensures.0,
      Reads-open c.args.is_over c.args.form (c.args.before + 1) c.args.text.now w.offset w.lines w.end w.opened w.known w.starts.items
          w.invariant c.in_default.ensures.0 (ap has_newline (sym c.split_at.ensures.back) ∙ c.in_default.ensures.1),
    )

pub returns-then-is_separator-clause-ahead : goal.returns-then-is_separator-clause-ahead
returns-then-is_separator-clause-ahead c =
    let w = c.loop-offset in
    let text = c.args.text.now in
    let len = c.in-Some.len in
    let ends = subst (λ (rest : List ℕ). EndsLine c.args.is_over rest len) c.split_at.ensures.back c.in-Some.ensures in
    let separator : is_separator (take len (drop w.offset text)) ≡ true =
    ap is_separator (ap (take len) (sym c.split_at.ensures.back) ∙ sym c.split_at-in-loop-offset.ensures.front) ∙ sym c.if-is_separator.ensures in
    IsAhead-before c.args.is_over c.args.form (c.args.before + 1) text w.offset w.lines w.end w.opened w.known w.starts.items len w.invariant
    (separator-behind c.args.is_over c.args.form text w.offset len c.requires.begins ends separator) ends separator

pub returns-in_err-take_line-clause-fault : goal.returns-in_err-take_line-clause-fault
returns-in_err-take_line-clause-fault c =
    let w = c.loop-offset in
    let text = c.args.text.now in
    let len = c.in-Some.len in
    let ends = subst (λ (rest : List ℕ). EndsLine c.args.is_over rest len) c.split_at.ensures.back c.in-Some.ensures in
    let is-line : c.split_at-in-loop-offset.result.0.now ≡ take len (drop w.offset text) = c.split_at-in-loop-offset.ensures.front ∙ ap (take len) c.split_at.ensures.back in
    let number : c.args.before + w.lines + 1 ≡ c.args.before + 1 + w.lines = omega arith in
    let p = err_from_is_err_and c.from_residual.result c.from_residual.ensures.1 in
    rw (p.1, p.2) (elim c.in_err-take_line.ensures.fault [
      | inl memory ↦ inl memory
      | inr f ↦ inr (
        f.0,
        f.1,
        Reads-fault c.args.is_over c.args.form (c.args.before + 1) text w.offset w.lines w.end w.opened w.known w.starts.items len f.0 w.invariant ends
            (ap is_separator (sym is-line) ∙ sym c.if-is_separator.ensures)
            (ap (λ (d : List ℕ). fault_of c.args.form (lines_of d) (c.args.before + 1 + w.lines) (take len (drop w.offset text))) (sym c.split_at.ensures.front)
            ∙ ap (λ (k : ℕ). fault_of c.args.form (lines_of c.split_at.result.0.now) k (take len (drop w.offset text))) (sym number)
            ∙ ap (fault_of c.args.form (lines_of c.split_at.result.0.now) (c.args.before + w.lines + 1)) (sym is-line) ∙ f.2),
      )
    ])

pub loop-offset-preserved : goal.loop-offset-preserved
loop-offset-preserved c =
    let w = c.loop-offset in
    let text = c.args.text.now in
    let len = c.in-Some.len in
    let ends = subst (λ (rest : List ℕ). EndsLine c.args.is_over rest len) c.split_at.ensures.back c.in-Some.ensures in
    let line = take len (drop w.offset text) in
    let is-line : c.split_at-in-loop-offset.result.0.now ≡ line = c.split_at-in-loop-offset.ensures.front ∙ ap (take len) c.split_at.ensures.back in
    let number : c.args.before + w.lines + 1 ≡ c.args.before + 1 + w.lines = omega arith in
    let clean : fault_of c.args.form (lines_of (take w.offset text)) (c.args.before + 1 + w.lines) line ≡ None =
    ap (λ (d : List ℕ). fault_of c.args.form (lines_of d) (c.args.before + 1 + w.lines) line) (sym c.split_at.ensures.front)
    ∙ ap (λ (k : ℕ). fault_of c.args.form (lines_of c.split_at.result.0.now) k line) (sym number)
    ∙ ap (fault_of c.args.form (lines_of c.split_at.result.0.now) (c.args.before + w.lines + 1)) (sym is-line) ∙ c.in_ok-take_line.ensures.clean in
    let known = subst (λ (l : List ℕ). AreKnown c.take_line.new.known (names_of c.args.form (lines_of (take w.offset text) ++ l ∷ []))) is-line
    (subst (λ (d : List ℕ). AreKnown c.take_line.new.known (names_of c.args.form (lines_of d ++ c.split_at-in-loop-offset.result.0.now ∷ []))) c.split_at.ensures.front c.in_ok-take_line.ensures.known) in
    let count : c.args.before + w.lines + 1 ≡ c.args.before + 1 + length (lines_of c.split_at.result.0.now) = number ∙ ap (λ (k : ℕ). c.args.before + 1 + k) (w.invariant.count ∙ ap (λ (d : List ℕ). length (lines_of d)) (sym c.split_at.ensures.front)) in
    let starts = c.in_ok-take_line.ensures.starts (c.args.before + 1) count
    ∙ ap (λ (d : List ℕ). starts_of c.args.form 0 (c.args.before + 1) (lines_of d ++ c.split_at-in-loop-offset.result.0.now ∷ [])) c.split_at.ensures.front
    ∙ ap (λ (l : List ℕ). starts_of c.args.form 0 (c.args.before + 1) (lines_of (take w.offset text) ++ l ∷ [])) is-line in
    rw (c.end_after-end.ensures, c.is_comment-opened.ensures, is-line)
    (Reads-more c.args.is_over c.args.form (c.args.before + 1) text w.offset w.lines w.end w.opened w.known w.starts.items len c.take_line.new.known c.take_line.new.starts.items
    w.invariant ends (ap is_separator (sym is-line) ∙ sym c.if-is_separator.ensures) (no-comment-first c.args.is_over c.args.form text w.offset len c.requires.begins ends) clean known starts)

pub returns-then-is_over-clause-ahead : goal.returns-then-is_over-clause-ahead
returns-then-is_over-clause-ahead c =
    let w = c.loop-offset in
    IsAhead-last c.args.is_over c.args.form (c.args.before + 1) c.args.text.now w.offset w.lines w.end w.opened w.known w.starts.items w.invariant
    (omega (arith, c.requires.some, c.loop-offset-test.false)) (omega (arith, c.loop-offset-test.false)) c.if-is_over.true

pub returns-clause-ahead : goal.returns-clause-ahead
returns-clause-ahead c =
    let w = c.loop-offset in (
      c.if-is_over.false,
      Reads-open c.args.is_over c.args.form (c.args.before + 1) c.args.text.now w.offset w.lines w.end w.opened w.known w.starts.items
          w.invariant c.if-is_over.false (ap has_newline (drop_all w.offset c.args.text.now c.loop-offset-test.false)),
    )

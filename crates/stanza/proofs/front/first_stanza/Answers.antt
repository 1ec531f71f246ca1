-- The lines are walked one by one: the loop ends at a separator, at the end of the text, or at the first fault.
use Rattle.std.proofs.Common.{◌≡◌, ◌+◌, ◌∷◌, ◌++◌, [], ℕ, List, drop, sym, ap, subst, ◌∙◌, arith}
use Rattle.std.proofs.lemmas.List.{drop_all}
use Rattle.std.proofs.lemmas.Result.{err_from_is_err_and}
use Rattle.stanza.specs.Line.{lines_of}
use Rattle.stanza.specs.Field.{names_of}
use Rattle.stanza.specs.Fault.{fault_of}
use Rattle.stanza.specs.Seen.{AreSeen}
use Rattle.stanza.specs.Cut.{CutsLine}
use Rattle.stanza.proofs.FrontLemmas.{Walks-more, Walks-fault, IsFront-made, EndsStanza-separator}
use Rattle.stanza.proofs.StanzaLemmas.{EndsStanza}
use Rattle.stanza.proofs.front.first_stanza.Goals as goal

pub returns-then-is_separator : goal.returns-then-is_separator
returns-then-is_separator c =
    let text = c.args.text.now in
    let w = c.loop-offset in
    let cut = subst (λ (r : List ℕ). CutsLine r c.cut_line.result.0.now c.cut_line.result.1.now) c.split_at.ensures.back c.cut_line.ensures in
    rw (c.split_at-then-is_separator.ensures.front, c.split_at.ensures.back)
    (IsFront-made c.args.form (c.args.before + 1) text w.offset w.lines w.end w.opened w.seen.slots c.requires.begins w.invariant (EndsStanza-separator (drop w.offset text) c.cut_line.result.0.now c.cut_line.result.1.now cut (sym c.if-is_separator.ensures)))

pub returns-in_err-test_line : goal.returns-in_err-test_line
returns-in_err-test_line c =
    let text = c.args.text.now in
    let w = c.loop-offset in
    let line = c.cut_line.result.0.now in
    let after = c.cut_line.result.1.now in
    let cut = subst (λ (r : List ℕ). CutsLine r line after) c.split_at.ensures.back c.cut_line.ensures in
    let number : c.args.before + w.lines + 1 ≡ c.args.before + 1 + w.lines = omega arith in
    let fault = ap (λ (d : List ℕ). fault_of c.args.form (lines_of d) (c.args.before + 1 + w.lines) line) (sym c.split_at.ensures.front)
    ∙ ap (λ (k : ℕ). fault_of c.args.form (lines_of c.split_at.result.0.now) k line) (sym number) ∙ c.in_err-test_line.ensures in
    let p = err_from_is_err_and c.from_residual.result c.from_residual.ensures.1 in
    rw (p.1, p.2)
    (Walks-fault c.args.form (c.args.before + 1) text w.offset w.lines w.end w.opened w.seen.slots w.seen.slots line after c.in_err-test_line.field-0.0 w.invariant cut (sym c.if-is_separator.ensures) fault)

pub loop-offset-preserved : goal.loop-offset-preserved
loop-offset-preserved c =
    let text = c.args.text.now in
    let w = c.loop-offset in
    let line = c.cut_line.result.0.now in
    let after = c.cut_line.result.1.now in
    let cut = subst (λ (r : List ℕ). CutsLine r line after) c.split_at.ensures.back c.cut_line.ensures in
    let number : c.args.before + w.lines + 1 ≡ c.args.before + 1 + w.lines = omega arith in
    let tested = c.in_ok-test_line.ensures in
    let clean = ap (λ (d : List ℕ). fault_of c.args.form (lines_of d) (c.args.before + 1 + w.lines) line) (sym c.split_at.ensures.front)
    ∙ ap (λ (k : ℕ). fault_of c.args.form (lines_of c.split_at.result.0.now) k line) (sym number) ∙ tested.0 in
    let seen = subst (λ (d : List ℕ). AreSeen c.test_line.new.seen.slots (names_of c.args.form (lines_of d ++ line ∷ []))) c.split_at.ensures.front tested.1 in
    rw (c.end_after-end.ensures, c.is_comment-opened.ensures)
    (Walks-more c.args.form (c.args.before + 1) text w.offset w.lines w.end w.opened w.seen.slots c.test_line.new.seen.slots line after w.invariant cut (sym c.if-is_separator.ensures) clean seen)

pub returns : goal.returns
returns c =
    let text = c.args.text.now in
    let w = c.loop-offset in
    let ends : EndsStanza (lines_of (drop w.offset text)) = subst (λ (r : List ℕ). EndsStanza (lines_of r)) (sym (drop_all w.offset text c.loop-offset-test.false)) tt in
    rw (c.split_at-2.ensures.front, c.split_at-3.ensures.back)
    (IsFront-made c.args.form (c.args.before + 1) text w.offset w.lines w.end w.opened w.seen.slots c.requires.begins w.invariant ends)

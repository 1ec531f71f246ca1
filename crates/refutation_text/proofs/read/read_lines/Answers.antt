-- A line is read or refused before what is behind it.
use Rattle.std.proofs.Common.{◌≡◌, ◌∙◌, ◌+◌, ℕ, Ok, length, ap, arith, subst}
use Rattle.std.proofs.lemmas.List.{length_push}
use Rattle.std.proofs.lemmas.Grind.{common_steps}
use Rattle.plantext.specs.Cut.{parts_at}
use Rattle.refutation_text.specs.Error.{IsRefutationFault}
use Rattle.refutation_text.specs.Text.{line_in_text, read_lines}
use Rattle.plantext.specs.declared.cut.TheConstants.{NEWLINE}
use Rattle.refutation_text.proofs.LineLemmas.{lines_read, lines_refused}
use Rattle.refutation_text.proofs.read.read_lines.Goals as goal

pub returns-in_err-line_in_text-clause-err : goal.returns-in_err-line_in_text-clause-err
returns-in_err-line_in_text-clause-err c =
    let e = c.in_err-line_in_text.field-0.0 in
    let line = c.in-Some.text.now in
    let count : c.len.result ≡ length c.loop-text.lines.items = omega arith in
    let here : IsRefutationFault e (line_in_text (length c.loop-text.lines.items + 1) line) =
    subst (λ (n : ℕ). IsRefutationFault e (line_in_text (n + 1) line)) count c.in_err-line_in_text.ensures.err in
    let refused : IsRefutationFault e (read_lines 1 (parts_at NEWLINE c.args.texts.now)) =
    subst (IsRefutationFault e) c.loop-text.invariant.same
    (lines_refused e c.loop-text.lines.items (length c.loop-text.lines.items + 1) c.loop-text.rest.now
    line c.in-Some.after.now c.in-Some.ensures here) in
    grind (arith, common_steps, refused)

pub loop-text-preserved : goal.loop-text-preserved
loop-text-preserved c =
    let line_read = c.in_ok-line_in_text.field-0 in
    let line = c.in-Some.text.now in
    let so_far = length c.loop-text.lines.items in
    let count : c.len.result ≡ so_far = omega arith in
    let here : line_in_text (so_far + 1) line ≡ Ok line_read =
    subst (λ (n : ℕ). line_in_text (n + 1) line ≡ Ok line_read) count c.in_ok-line_in_text.ensures.ok in
    let longer : length c.push.new.self.items ≡ so_far + 1 =
    ap length c.in_ok-push.ensures.items ∙ length_push c.loop-text.lines.items line_read in
    record {
      same = rw (longer, c.in_ok-push.ensures.items)
          (lines_read c.loop-text.lines.items line_read (so_far + 1) c.loop-text.rest.now
          line c.in-Some.after.now c.in-Some.ensures here
          ∙ c.loop-text.invariant.same);
      within = omega (arith, longer, c.in_ok-line_in_text.ensures.within);
    }

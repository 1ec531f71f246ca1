-- The line is marked, and so is what it hints at.
use Rattle.std.proofs.Common.{◌≡◌, true, false, slice_index_or, sym, ◌∙◌}
use Rattle.std.proofs.lemmas.Option.{none-some}
use Rattle.trim.proofs.MarkLemmas.{more_marks, same_marks}
use Rattle.trim.proofs.marks.mark_needed.Goals as goal

pub returns-in-Some : goal.returns-in-Some
returns-in-Some c =
    let marked : slice_index_or c.args.marks.now.items c.args.number false ≡ true =
    cc (c.is_marked.ensures, c.as_slice.ensures.value, c.if-not-is_marked.false) in
    more_marks c.args.lines.now c.args.marks.now.items c.mark_hinted.new.marks.items c.args.number c.in-Some.line.now c.requires.some
    c.requires.within (sym c.in-Some.ensures) marked c.mark_hinted.ensures c.requires.marks

pub returns-in-None : goal.returns-in-None
returns-in-None c = same_marks c.args.lines.now c.args.marks.now.items c.args.number c.requires.some
    (λ hint is has. none-some has.0 (c.in-None.ensures ∙ has.1)) c.requires.marks

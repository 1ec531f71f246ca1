-- One hint more, and in the end all are marked.
use Rattle.std.proofs.Common.{ℕ, ◌<◌, List, length, take, get_or, subst, sym, arith}
use Rattle.std.specs.List.{Contains}
use Rattle.std.proofs.lemmas.List.{take_all, take_more}
use Rattle.trim.specs.Marks.{MarksAlso}
use Rattle.trim.proofs.MarkLemmas.{also_hint}
use Rattle.trim.proofs.marks.mark_hints.Goals as goal

pub loop-hint-preserved : goal.loop-hint-preserved
loop-hint-preserved c =
    let within : c.loop-hint.hint-index < length c.args.hints.now = omega arith in
    let more = take_more c.args.hints.now c.loop-hint.hint-index 0 within in
    let Marked : List ℕ → Type 0 = λ hints. MarksAlso (λ other. (other < c.args.number) × Contains hints other)
    c.args.marks.now.items c.mark_hint.new.marks.items in
    subst Marked (sym more) (also_hint c.args.number (take c.loop-hint.hint-index c.args.hints.now)
    (get_or c.args.hints.now c.loop-hint.hint-index 0) c.args.marks.now.items c.loop-hint.marks.items c.mark_hint.new.marks.items
    c.loop-hint.invariant c.mark_hint.ensures)

pub returns : goal.returns
returns c =
    let all = take_all c.loop-hint.hint-index c.args.hints.now (omega arith) in
    let Marked : List ℕ → Type 0 = λ hints. MarksAlso (λ other. (other < c.args.number) × Contains hints other)
    c.args.marks.now.items c.loop-hint.marks.items in subst Marked all c.loop-hint.invariant

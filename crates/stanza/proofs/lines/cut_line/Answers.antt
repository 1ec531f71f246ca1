-- The first newline ends the line; where there is none, the whole text is one line.
use Rattle.std.proofs.Common.{◌∙◌, add-one, ℕ, take, drop, sym, subst}
use Rattle.stanza.specs.Cut.{CutsLine}
use Rattle.stanza.proofs.LineLemmas.{CutsLine-at, CutsLine-all}
use Rattle.stanza.proofs.lines.cut_line.Goals as goal
use Rattle.stanza.proofs.lines.cut_line.Goals.{in-Some, in-None}

pub returns : goal.returns
returns c =
    let text = c.args.text.now in
    let at : ℕ → Type 0 = λ end. CutsLine text (take end text) (drop end text) in
    rw (c.split_at.ensures.front, c.split_at.ensures.back) (elim c.match-memchr.branch [
      | in-Some w ↦ subst at (sym (w.end-is ∙ add-one w.in-Some.at)) (CutsLine-at text w.in-Some.at w.in-Some.ensures)
      | in-None w ↦ subst at (sym w.end-is) (CutsLine-all text c.requires w.in-None.ensures)
    ])

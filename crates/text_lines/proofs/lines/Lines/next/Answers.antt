-- What was heard was taken of the text: the line so far, and of a line that is too long the bytes that wait, up to its newline.
use Rattle.std.proofs.Common.{ℕ, ◌≢◌, ◌++◌, arith, subst}
use Rattle.std.proofs.KnownBytes.{Consumes-trans}
use Rattle.std.proofs.lemmas.List.{length-append}
use Rattle.std.proofs.lemmas.List.Elements.{All-append}
use Rattle.text_lines.specs.Lines.{left_of}
use Rattle.text_lines.specs.Piece.{Goes}
use Rattle.text_lines.specs.declared.piece.LineState.{LineState}
use Rattle.text_lines.proofs.HeardLemmas.{Consumes-no_more, Consumes-waiting}
use Rattle.text_lines.proofs.lines.Lines.next.Goals as goal

pub returns-in-TooLong-clause-heard : goal.returns-in-TooLong-clause-heard
returns-in-TooLong-clause-heard g c =
    let left = g.T.Source.left in
    let line = c.loop-line.line.items in
    let read = c.read_on.new.self in
    let goes = subst (λ (step : LineState). Goes c.args.most line c.go_on.new.line.items read.block c.go_on.new.block step) c.in-TooLong.is c.in_ok-go_on.ensures in
    let front = goes.0 in
    let taken = Consumes-no_more (left_of left c.args.self.now) (left_of left c.loop-line.self) (left_of left read) line c.loop-line.invariant.taken c.in_ok-read_on.ensures.left in (
      line ++ front,
      Consumes-trans (left_of left c.args.self.now) (left_of left read) _ line front taken (Consumes-waiting read.block c.go_on.new.block front (left read.text) goes.1),
      All-append (λ (b : ℕ). b ≢ 10) line front c.loop-line.invariant.plain goes.3,
      omega (arith, goes.4, length-append line front),
    )

pub returns-clause-heard : goal.returns-clause-heard
returns-clause-heard g c =
    let left = g.T.Source.left in
    let line = c.loop-line.line.items in
    c.at_end.ensures c.args.most (left_of left c.args.self.now) (left_of left c.read_on.new.self)
    (Consumes-no_more (left_of left c.args.self.now) (left_of left c.loop-line.self) (left_of left c.read_on.new.self) line c.loop-line.invariant.taken c.in_ok-read_on.ensures.left)
    (c.in_ok-read_on.ensures.end c.if-branch.false) c.loop-line.invariant.plain c.loop-line.invariant.short

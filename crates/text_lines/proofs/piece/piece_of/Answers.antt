-- The first newline ends the piece.
use Rattle.text_lines.proofs.PieceLemmas.{IsPiece-all, IsPiece-at}
use Rattle.text_lines.proofs.piece.piece_of.Goals as goal

pub returns-in-Some : goal.returns-in-Some
returns-in-Some c = rw c.split_at.ensures.front (IsPiece-at c.args.bytes.now c.in-Some.at c.in-Some.ensures)

pub returns-in-None : goal.returns-in-None
returns-in-None c = IsPiece-all c.args.bytes.now c.in-None.ensures

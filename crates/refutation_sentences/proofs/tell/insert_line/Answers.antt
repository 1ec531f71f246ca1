-- The line is put behind the others, unless it is there.
use Rattle.refutation_sentences.proofs.LineLemmas.{line_more}
use Rattle.refutation_sentences.proofs.tell.insert_line.Goals as goal

pub returns : goal.returns
returns c = line_more c.args.lines.now.keys c.insert.new.self.keys c.args.line c.in_ok-insert.ensures.keys

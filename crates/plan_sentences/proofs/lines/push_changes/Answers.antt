-- The lines and the counts are those of the items of these changes.
use Rattle.plan_sentences.proofs.LineLemmas.{whole_text}
use Rattle.plan_sentences.proofs.lines.push_changes.Goals as goal

pub returns : goal.returns
returns c = whole_text c.args.told.now c.in_ok-items.items c.args.further.now c.args.text.now.items c.write.new.text.items
    c.write-2.new.text.items c.write_counts.new.text.items c.in_ok-items.ensures c.in_ok-write.ensures c.in_ok-write-2.ensures
    c.in_ok-write_counts.ensures

-- No more items come than there are bytes: a law about the definitions.
use Rattle.stanza.specs.declared.form.Form.TheVariants.{Commented}
use Rattle.stanza.specs.Stanza.{items_of}
use Rattle.stanza.proofs.FileLemmas.{items_of-IsReading}
use Rattle.stanza.proofs.walk.Stanzas.with_comments.Goals as goal

pub returns-clause-count : goal.returns-clause-count
unfolding items_of
returns-clause-count c = (items_of-IsReading Commented c.args.text.now).count

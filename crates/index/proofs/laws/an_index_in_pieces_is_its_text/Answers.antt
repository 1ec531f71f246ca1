use Rattle.rules.specs.declared.limits.TheConstants.{TEXT_BYTES}
use Rattle.stanza.specs.declared.form.Form.TheVariants.{Plain}
use Rattle.index.proofs.ReadingLemmas.{stream_is}
use Rattle.index.proofs.laws.an_index_in_pieces_is_its_text.Goals as goal

pub returns : goal.returns
returns c = λ arch number before release text fits.
    stream_is arch number before release text fits (c.what_is_read_of_a_text_is_its_items.ensures Plain text TEXT_BYTES fits)

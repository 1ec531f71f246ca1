-- The texts of the shelf are read as what is lent.
use Rattle.inputs.specs.Each.{still}
use Rattle.inputs.specs.Texts.{texts_of}
use Rattle.inputs.proofs.ReadByLemmas.{none_read, then_wanting}
use Rattle.inputs.proofs.each.EachQuestion.answer.Goals as goal

pub returns-in_err-listing-clause-kept : goal.returns-in_err-listing-clause-kept
returns-in_err-listing-clause-kept g c = still

pub returns-in_err-results-clause-read : goal.returns-in_err-results-clause-read
returns-in_err-results-clause-read g c = then_wanting c.from_residual-in_err-results.result (none_read {value = c.in_ok-listing.listing} g.met.S.Shelf.holds_still)
    c.from_residual-in_err-results.ensures.1

pub returns-clause-said : goal.returns-clause-said
returns-clause-said g c = λ at known read. rw c.new.ensures (c.in_ok-results.ensures.said (texts_of c.args.before.now.settings.now at) read)

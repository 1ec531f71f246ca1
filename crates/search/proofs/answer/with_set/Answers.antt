-- A set that passes is a selection.
use Rattle.search.proofs.SetLemmas.{numbers_are_selection, numbers_make_true}
use Rattle.search.proofs.answer.with_set.Goals as goal

pub members-requires : goal.members-requires
members-requires c = c.fits.ensures.few c.if-fits.true

pub returns-in_ok-members : goal.returns-in_ok-members
returns-in_ok-members c = let f = c.fits.ensures.fits.0 c.if-fits.true in
    let m = c.makes_all_true.ensures.0 c.if-makes_all_true.true in (
      numbers_are_selection c.args.given.now.numbers c.args.set.now.items c.in_ok-members.field-0.items f.0 f.1 c.in_ok-members.ensures,
      numbers_make_true c.args.set.now.items c.in_ok-members.field-0.items c.args.given.now.clauses c.in_ok-members.ensures m,
    )

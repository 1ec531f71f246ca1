-- What is left is further than all of the wishes, and as much as can be.
use Rattle.std.proofs.lemmas.Result.{err_from_is_err_and}
use Rattle.inputs.proofs.ReadByLemmas.{untouched_on}
use Rattle.keep_back.proofs.KeepLemmas.{further-more, refused-then, rest-kept, rest-refused}
use Rattle.keep_back.proofs.kept.keep_rest.Goals as goal

pub returns-in_err-solved-clause-refused : goal.returns-in_err-solved-clause-refused
returns-in_err-solved-clause-refused g c = λ texts read.
    let p = err_from_is_err_and c.from_residual-in_err-solved.result c.from_residual-in_err-solved.ensures.1 in
    rw (p.1, p.2) (rest-refused c.args.before.now texts c.args.wishes.items c.in_ok-left.left _ c.in_ok-left.ensures.wishes
    c.in_ok-left.ensures.long c.in_ok-left.ensures.stay (c.in_err-solved.ensures.refused texts read))

pub returns-in_err-notes-clause-refused : goal.returns-in_err-notes-clause-refused
returns-in_err-notes-clause-refused g c = λ texts read.
    let p = err_from_is_err_and c.from_residual-in_err-notes.result c.from_residual-in_err-notes.ensures.1 in
    rw (p.1, p.2) (rest-refused c.args.before.now texts c.args.wishes.items c.in_ok-left.left _ c.in_ok-left.ensures.wishes
    c.in_ok-left.ensures.long c.in_ok-left.ensures.stay (refused-then c.args.before.now texts c.in_ok-left.left c.rounds.new.left _
    c.in_ok-solved.ensures.left (c.in_err-notes.ensures.refused texts read)))

pub returns-clause-left : goal.returns-clause-left
returns-clause-left g c = rest-kept c.args.before.now c.args.limit c.args.wishes.items c.in_ok-left.left c.put_back.new.left c.in_ok-kept.kept
    c.in_ok-left.ensures.wishes c.in_ok-left.ensures.long c.in_ok-left.ensures.stay
    (further-more c.args.before.now c.in_ok-left.left c.rounds.new.left c.put_back.new.left c.in_ok-solved.ensures.left c.in_ok-notes.ensures.left)
    c.in_ok-notes.ensures.alone c.in_ok-kept.ensures.stays c.in_ok-kept.ensures.request

pub returns-clause-untouched : goal.returns-clause-untouched
returns-clause-untouched g c = untouched_on g.met.S.Shelf.holds_on c.rounds.ensures.untouched c.put_back.ensures.untouched

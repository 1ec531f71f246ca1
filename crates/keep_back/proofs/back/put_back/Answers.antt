-- Once nothing is put back, none of what is left out can be had alone.
use Rattle.std.proofs.Common.{length, refl, subst}
use Rattle.std.proofs.lemmas.Result.{err_from_is_err_and}
use Rattle.keep_back.specs.Back.{IsPass}
use Rattle.keep_back.proofs.KeepLemmas.{all-alone, further-long, refused-then}
use Rattle.keep_back.proofs.back.put_back.Goals as goal

pub returns-in_err-pass-clause-refused : goal.returns-in_err-pass-clause-refused
returns-in_err-pass-clause-refused g c = λ texts read.
    let p = err_from_is_err_and c.from_residual.result c.from_residual.ensures.1 in
    rw (p.1, p.2) (refused-then c.args.before.now texts c.args.left.now c.turns.left _ c.turns.invariant.left (c.in_err-pass.ensures.refused texts read))

pub returns-then-not-branch-clause-alone : goal.returns-then-not-branch-clause-alone
returns-then-not-branch-clause-alone g c =
    all-alone c.args.before.now c.args.limit (length c.turns.left.wishes.items) c.turns.left c.pass.new.left
    (subst (IsPass c.args.before.now c.args.limit (length c.turns.left.wishes.items) c.turns.left c.pass.new.left) c.if-not-branch.true
    c.in_ok-pass.ensures.left) refl (further-long c.args.before.now c.args.left.now c.turns.left c.turns.invariant.left c.requires.long)

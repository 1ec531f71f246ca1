-- Each step leaves out more.
use Rattle.std.proofs.Common.{subst}
use Rattle.std.proofs.lemmas.Result.{IfErr-weaker, err_from_is_err_and}
use Rattle.inputs.proofs.ReadByLemmas.{untouched, untouched_on}
use Rattle.keep_back.specs.Further.{IsStep}
use Rattle.keep_back.proofs.KeepLemmas.{further-more, none-further}
use Rattle.keep_back.proofs.kept.rounds.Goals as goal

pub loop-init : goal.loop-init
loop-init g c = record {
  left = none-further c.args.before.now c.args.left.now;
  untouched = untouched _ g.met.S.Shelf.holds_still;
}

pub loop-preserved : goal.loop-preserved
loop-preserved g c = record {
  left = further-more c.args.before.now c.args.left.now c.loop.left c.step.new.left c.loop.invariant.left
      (subst (IsStep c.args.before.now c.args.limit c.loop.left c.step.new.left) c.in_default.is c.in_ok-solved.ensures.left);
  untouched = untouched_on g.met.S.Shelf.holds_on c.loop.invariant.untouched c.show_left.ensures;
}

pub returns-in_err-solved-clause-refused : goal.returns-in_err-solved-clause-refused
returns-in_err-solved-clause-refused g c = λ texts read.
    let p = err_from_is_err_and c.from_residual.result c.from_residual.ensures.1 in
    rw (p.1, p.2) (record {
      new = c.loop.left;
      further = c.loop.invariant.left;
      refused_so = c.in_err-solved.ensures.refused texts read;
    })

pub returns-clause-refused : goal.returns-clause-refused
returns-clause-refused g c = λ texts read. IfErr-weaker c.solved_of.result _ _
    (λ refused is. record { new = c.loop.left; further = c.loop.invariant.left; refused_so = is })
    (c.solved_of.ensures.refused texts read)

pub returns-in_err-solved-clause-untouched : goal.returns-in_err-solved-clause-untouched
returns-in_err-solved-clause-untouched g c = untouched_on g.met.S.Shelf.holds_on c.loop.invariant.untouched c.show_left.ensures

pub returns-in-Some-clause-untouched : goal.returns-in-Some-clause-untouched
returns-in-Some-clause-untouched g c = untouched_on g.met.S.Shelf.holds_on c.loop.invariant.untouched c.show_left.ensures

pub returns-clause-untouched : goal.returns-clause-untouched
returns-clause-untouched g c = c.loop.invariant.untouched

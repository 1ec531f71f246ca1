-- The wish is put back, and where there is no plan with it, left out again.
use Rattle.std.proofs.Common.{◌∙◌, sym}
use Rattle.std.proofs.lemmas.Result.{err_from_is_err_and}
use Rattle.keep_back.proofs.KeepLemmas.{further-back, further-wanting, tried-out}
use Rattle.keep_back.proofs.back.try_at.Goals as goal

pub returns-in_err-solved-clause-refused : goal.returns-in_err-solved-clause-refused
returns-in_err-solved-clause-refused c = λ texts read.
    let p = err_from_is_err_and c.from_residual.result c.from_residual.ensures.1 in
    rw (p.1, p.2) (record {
      new = c.mark.new.self;
      further = further-back c.args.before.now c.args.place c.args.left.now c.mark.new.self
          (record { wishes = c.mark.ensures.wishes; stays = c.mark.ensures.stays });
      refused_so = c.in_err-solved.ensures.refused texts read;
    })

pub returns-in_err-tell_out-clause-refused : goal.returns-in_err-tell_out-clause-refused
returns-in_err-tell_out-clause-refused c = λ texts read.
    further-wanting c.args.before.now texts c.args.left.now c.from_residual-in_err-tell_out.result c.from_residual-in_err-tell_out.ensures.1

pub returns-then-branch-clause-tried : goal.returns-then-branch-clause-tried
returns-then-branch-clause-tried c =
    tried-out c.args.before.now c.args.limit c.args.place c.args.left.now c.mark.new.self c.mark-then-branch.new.self c.in_ok-solved.solved
    (record { wishes = c.mark.ensures.wishes; stays = c.mark.ensures.stays }) c.in_ok-solved.ensures.solved
    (sym c.in_ok-tell_out.ensures ∙ c.if-branch.true) c.mark-then-branch.ensures.wishes c.mark-then-branch.ensures.stays c.requires.out

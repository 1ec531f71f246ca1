-- The text is that of what is left.
use Rattle.std.proofs.Common.{◌∙◌, ℕ, List, subst}
use Rattle.keep_back.specs.Further.{request_of}
use Rattle.keep_back.specs.Round.{IsRequestedBy}
use Rattle.keep_back.proofs.kept.solved_of.Goals as goal

pub returns-clause-solved : goal.returns-clause-solved
returns-clause-solved c = c.in_ok-solved.ensures.solved (request_of c.args.left.now)
    (subst (λ (request : List ℕ). IsRequestedBy c.args.before.now request c.in_ok-requested.requested)
    (c.as_slice.ensures.value ∙ c.in_ok-text.ensures) c.in_ok-requested.ensures.asked)

-- The request of which lines are left out is the one with this text, and the answer to what is left is right.
use Rattle.std.proofs.Common.{List, subst, ℕ}
use Rattle.cli_engine.proofs.RightLemmas.{solved-right}
use Rattle.inputs.specs.Meaning.{DenotesAsked}
use Rattle.inputs.specs.ReadAs.{asking, start_of}
use Rattle.keep_back.proofs.KeepLemmas.{is-kept}
use Rattle.keep_back.proofs.keep_back.keep.Goals as goal

pub kept_of-requires-clause-asked : goal.kept_of-requires-clause-asked
kept_of-requires-clause-asked g c = λ texts read.
    subst (λ (text : List ℕ). DenotesAsked (asking text texts) c.in_ok-requested.requested.universe (start_of c.args.before.now)
    c.in_ok-requested.requested.asks_all_versions) c.as_slice.ensures.value (c.in_ok-requested.ensures.asked texts read)

pub kept_back_of-requires-clause-right : goal.kept_back_of-requires-clause-right
kept_back_of-requires-clause-right g c = solved-right c.in_ok-kept.kept.solved.requested.universe (start_of c.args.before.now) c.args.limit
    c.in_ok-kept.kept.solved.solved c.in_ok-kept.ensures.solved.holds

pub returns-clause-said : goal.returns-clause-said
returns-clause-said g c = λ texts read there.
    is-kept c.args.before.now texts c.args.limit c.args.tells_reasons c.args.has_document c.in_ok-kept.kept c.in_ok-kept_back.kept_back read
    (c.in_ok-kept.ensures.left texts read there) c.in_ok-kept.ensures.solved c.in_ok-kept_back.ensures.solved c.in_ok-kept_back.ensures.asks
    c.in_ok-kept_back.ensures.naming c.in_ok-kept_back.ensures.reasons c.in_ok-kept_back.ensures.lines c.in_ok-kept_back.ensures.request
    c.in_ok-kept_back.ensures.stays

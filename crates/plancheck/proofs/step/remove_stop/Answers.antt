-- The bytes of the name are the name.
use Rattle.std.proofs.Common.{subst, MatchOption}
use Rattle.std.specs.List.{All}
use Rattle.rules.specs.Legal.{Allowed, IsFirstFailing, IsFirstUnkept, RemoveAsks, remove_rules}
use Rattle.plancheck.proofs.step.remove_stop.Goals as goal

pub returns : goal.returns
unfolding Allowed IsFirstFailing
returns c = subst (λ name. MatchOption c.remove_failing.result (All (RemoveAsks c.args.db.now name) remove_rules)
    (λ rule. IsFirstUnkept (RemoveAsks c.args.db.now name) remove_rules rule)) c.as_bytes.ensures.bytes c.remove_failing.ensures

-- Whether all keys are among the names is up to the members that are left.
use Rattle.std.proofs.Common.{◌≡◌, map}
use Rattle.questions.proofs.stray.stray.Given as goal
use Rattle.questions.specs.Member.{are_among}
use Rattle.serde_json.specs.View.{members_view}

abbrev pub invariant-loop-key : goal.invariant-loop-key
invariant-loop-key l = are_among (map (λ name. name.now) l.names) (members_view l.key-iterator)
    ≡ are_among (map (λ name. name.now) l.names) (members_view l.fn.members.entries)

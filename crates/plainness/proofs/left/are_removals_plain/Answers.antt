-- Each record may leave.
use Rattle.std.proofs.Common.{Bor, map}
use Rattle.rules.specs.Package.{Pkg}
use Rattle.plainness.proofs.LeftLemmas.{leaving}
use Rattle.plainness.proofs.left.are_removals_plain.Goals as goal

pub returns : goal.returns
returns c =
    let both = leaving c.args.start.now (map (λ (member : Bor Pkg). member.now) c.args.members.now) c.in_ok-names.names c.in_ok-names.ensures in (
      λ plain. both.0 (c.all_may_leave-plain.ensures.0 plain),
      λ parts. c.all_may_leave-plain.ensures.1 (both.1 parts),
    )

-- The names so far, and those of the members that are left, are the names of all.
use Rattle.std.proofs.Common.{◌≡◌, [], Bor, drop, fold, map}
use Rattle.index.specs.Names.{with_name}
use Rattle.rules.specs.Package.{Pkg}
use Rattle.plainness.proofs.names.Names.put_members.Given as goal

abbrev pub invariant-loop-member : goal.invariant-loop-member
invariant-loop-member l = fold with_name l.names (map (λ (member : Bor Pkg). member.now.name) (drop l.member-index l.members))
    ≡ fold with_name [] (map (λ (member : Bor Pkg). member.now.name) l.members)

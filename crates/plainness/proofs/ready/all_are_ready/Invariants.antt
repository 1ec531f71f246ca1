-- The members so far are ready.
use Rattle.std.proofs.Common.{Bor, take}
use Rattle.std.specs.List.{All}
use Rattle.rules.specs.Package.{Pkg}
use Rattle.plainness.specs.Parts.{IsReadyBy}
use Rattle.plainness.proofs.ready.all_are_ready.Given as goal

abbrev pub invariant-loop-member : goal.invariant-loop-member
invariant-loop-member l = All (λ (member : Bor Pkg). IsReadyBy l.start l.staying member.now) (take l.member-index l.members)

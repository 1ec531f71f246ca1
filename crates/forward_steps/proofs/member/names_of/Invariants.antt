-- The names so far, and those of the members that are left, are the names of all.
use Rattle.std.proofs.Common.{◌≡◌, drop, fold}
use Rattle.index.specs.Names.{with_name}
use Rattle.index.proofs.NameTable.{names_at, names_in}
use Rattle.forward_steps.proofs.MemberLemmas.{name_of}
use Rattle.forward_steps.proofs.member.names_of.Given as goal

abbrev pub invariant-loop-member : goal.invariant-loop-member
invariant-loop-member l = fold with_name (names_at l.names.keys) (names_in name_of (drop l.member-index l.members)) ≡ names_in name_of l.members

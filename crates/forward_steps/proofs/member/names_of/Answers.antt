-- The name of one member more.
use Rattle.std.proofs.Common.{ap, fold, ◌∙◌}
use Rattle.index.specs.Names.{with_name}
use Rattle.index.proofs.NameTable.{name_put, names_at, names_in, names_put}
use Rattle.forward_steps.proofs.MemberLemmas.{apart_names, name_of}
use Rattle.forward_steps.proofs.member.names_of.Goals as goal

pub loop-member-preserved : goal.loop-member-preserved
loop-member-preserved c = name_put name_of c.args.members.now c.loop-member.member-index c.member-item.result c.loop-member.names.keys
    c.insert.new.self.keys c.name.result c.loop-member-test.true c.member-item.is c.name.ensures c.in_ok-insert.ensures.keys
    c.loop-member.invariant

pub loop-member-init : goal.loop-member-init
loop-member-init c = ap (λ keys. fold with_name (names_at keys) (names_in name_of c.args.members.now)) c.new-names.ensures.empty
    ∙ names_put (names_in name_of c.args.members.now) (apart_names c.args.members.now c.requires)

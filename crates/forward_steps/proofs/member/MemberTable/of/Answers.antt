-- The members at the place of their name.
use Rattle.std.proofs.Common.{◌≡◌, ◌<◌, ◌∙◌, List, ap, arith, length, sym}
use Rattle.std.specs.List.{slice_get}
use Rattle.index.proofs.NameTable.{as_many, found_item, found_none}
use Rattle.rules.specs.Universe.{Pair}
use Rattle.universe_parts.specs.SearchLaws.{got}
use Rattle.forward_steps.specs.Selection.{member_of}
use Rattle.forward_steps.proofs.MemberLemmas.{name_of}
use Rattle.forward_steps.proofs.member.MemberTable.of.Goals as goal

pub returns-in-Some-clause-member : goal.returns-in-Some-clause-member
returns-in-Some-clause-member c =
    let members : List Pair = c.self.inside.members.items in
    let many : length c.self.inside.names.keys ≡ length members = as_many name_of c.self.inside.names.keys members c.self.invariant c.args.name.now in
    let within : c.in-Some.place < length c.deref.result.now = omega (arith, many, c.in-Some.ensures.within, c.deref.ensures.len) in
    got _ c.get.result c.deref.result.now c.in-Some.place within (c.get.ensures.lookup.2 within) (c.get.ensures.lookup.4 (omega arith))
    ∙ ap (λ (xs : List Pair). slice_get xs c.in-Some.place) c.deref.ensures.value
    ∙ found_item name_of c.self.inside.names.keys members c.self.invariant c.args.name.now c.in-Some.place
    (sym c.in-Some.is ∙ c.get_index_of.ensures.index)
    ∙ ap (λ (xs : List Pair). member_of xs c.args.name.now) c.self.view_is

pub returns-in-None-clause-member : goal.returns-in-None-clause-member
returns-in-None-clause-member c = found_none name_of c.self.inside.names.keys c.self.inside.members.items c.self.invariant c.args.name.now
    (sym c.in-None.is ∙ c.get_index_of.ensures.index)
    ∙ ap (λ (xs : List Pair). member_of xs c.args.name.now) c.self.view_is

-- The facts at the place of their name.
use Rattle.std.proofs.Common.{◌≡◌, ◌<◌, ◌∙◌, List, ap, arith, length, sym}
use Rattle.std.specs.List.{find, slice_get}
use Rattle.index.proofs.NameTable.{as_many, found_item, found_none}
use Rattle.rules.specs.Universe.{Start, is_start_of}
use Rattle.universe_parts.specs.SearchLaws.{got}
use Rattle.universe_parts.proofs.StartNames.{name_of}
use Rattle.universe_parts.proofs.starts.Starts.of.Goals as goal

pub returns-in-Some : goal.returns-in-Some
returns-in-Some c =
    let starts : List Start = c.self.inside.starts.items in
    let many : length c.self.inside.names.keys ≡ length starts = as_many name_of c.self.inside.names.keys starts c.self.invariant c.args.name.now in
    let within : c.in-Some.place < length c.deref.result.now = omega (arith, many, c.in-Some.ensures.within, c.deref.ensures.len) in
    got _ c.get.result c.deref.result.now c.in-Some.place within (c.get.ensures.lookup.2 within) (c.get.ensures.lookup.4 (omega arith))
    ∙ ap (λ (xs : List Start). slice_get xs c.in-Some.place) c.deref.ensures.value
    ∙ found_item name_of c.self.inside.names.keys starts c.self.invariant c.args.name.now c.in-Some.place
    (sym c.in-Some.is ∙ c.get_index_of.ensures.index)
    ∙ ap (find (is_start_of c.args.name.now)) c.self.view_is

pub returns-in-None : goal.returns-in-None
returns-in-None c = found_none name_of c.self.inside.names.keys c.self.inside.starts.items c.self.invariant c.args.name.now
    (sym c.in-None.is ∙ c.get_index_of.ensures.index)
    ∙ ap (find (is_start_of c.args.name.now)) c.self.view_is

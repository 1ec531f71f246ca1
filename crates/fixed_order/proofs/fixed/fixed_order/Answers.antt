-- What is unpacked has package names, and its stanzas are those of the unpacks.
use Rattle.std.proofs.Common.{List, Bor, map, sym, ap, subst, ◌∙◌}
use Rattle.refutation.specs.Selection.{selects}
use Rattle.rules.specs.Universe.{Pair, listed_for}
use Rattle.plain.specs.Order.{unpack_of}
use Rattle.fixed_order.specs.Names.{AreNamed}
use Rattle.fixed_order.specs.Selection.{is_away, pkgs_of}
use Rattle.fixed_order.proofs.NamedLemmas.{filtered_named, selected_named}
use Rattle.fixed_order.proofs.UnpackLemmas.{stanzas_of_unpacks}
use Rattle.fixed_order.proofs.fixed.fixed_order.Goals as goal

pub unpacks_of-requires : goal.unpacks_of-requires
unpacks_of-requires c = subst AreNamed (sym (ap pkgs_of c.as_slice-2.ensures.value ∙ c.in_ok-away.ensures))
    (filtered_named (is_away c.args.start.now) (pkgs_of c.as_slice.result.now)
    (subst AreNamed (sym (ap pkgs_of c.as_slice.ensures.value ∙ c.in_ok-pairs.ensures))
    (selected_named c.args.universe.now (selects c.args.selection.now) c.requires.pair_names)))

pub steps_with-requires-clause-stanzas : goal.steps_with-requires-clause-stanzas
steps_with-requires-clause-stanzas c = c.as_slice-5.ensures.value ∙ c.in_ok-stanzas.ensures
    ∙ stanzas_of_unpacks c.args.universe.now (pkgs_of c.as_slice-3.result.now)
    ∙ ap (λ (pairs : List (Bor Pair)). map (listed_for c.args.universe.now) (map unpack_of (pkgs_of pairs)))
    (c.as_slice-3.ensures.value ∙ sym c.as_slice-2.ensures.value)
    ∙ ap (map (listed_for c.args.universe.now)) (sym c.in_ok-unpacks.ensures)

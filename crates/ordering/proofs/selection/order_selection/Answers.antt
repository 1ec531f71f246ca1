-- A change that isn't plain is put in some order, since of an acceptable selection no two packages are of one name.
use Rattle.std.proofs.Common.{◌≡◌, false, true, sym, ◌∙◌}
use Rattle.forward_steps.specs.Selection.{chosen}
use Rattle.ordering.proofs.OrderLemmas.{chosen_named, order_of}
use Rattle.ordering.proofs.OneEachLemmas.{acceptable_is_one_each, ascending_where_counted}
use Rattle.ordering.proofs.selection.order_selection.Goals as goal

pub order_plain-requires-clause-change : goal.order_plain-requires-clause-change
order_plain-requires-clause-change c = record {
  built = c.requires.built;
  counted = c.requires.counted;
  acceptable = c.requires.acceptable;
  plain = c.in_ok-plain.ensures.0 c.if-plain.true;
}

pub order-requires-clause-one_each : goal.order-requires-clause-one_each
order-requires-clause-one_each c =
    let u = c.args.universe.now in
    acceptable_is_one_each c.premises_are_true.ensures u c.args.selection.now (ascending_where_counted u c.args.start.now c.requires.counted)
    c.requires.ascending c.requires.acceptable

pub returns : goal.returns
returns c = record {
  order = order_of c.args.universe.now c.args.start.now (chosen c.args.universe.now c.args.selection.now) c.in_ok-ordered.ordered
      c.requires.built c.requires.pair_names c.requires.start_names (chosen_named c.args.universe.now c.args.selection.now c.requires.pair_names)
      c.in_ok-ordered.ensures;
  fixed = λ plain. absurd (let e : false ≡ true = sym c.if-plain.false ∙ c.in_ok-plain.ensures.1 plain in cc);
}

-- Among the kinds whose names are so long the first that has the name is its kind.
use Rattle.std.proofs.Common.{sym, ◌∙◌}
use Rattle.relation.proofs.KindLemmas.{called-6, called-7, called-8, called-9, called-11, called-12, found-decides}
use Rattle.relation.proofs.kind.kind_of.Goals as goal

pub returns-in-6 : goal.returns-in-6
returns-in-6 c = found-decides c.args.name.now c.if_called.result (c.if_called.ensures ∙ sym (called-6 c.args.name.now c.in-6.is))

pub returns-in-7 : goal.returns-in-7
returns-in-7 c = found-decides c.args.name.now c.first_called.result (c.first_called.ensures ∙ sym (called-7 c.args.name.now c.in-7.is))

pub returns-in-8 : goal.returns-in-8
returns-in-8 c = found-decides c.args.name.now c.if_called-in-8.result (c.if_called-in-8.ensures ∙ sym (called-8 c.args.name.now c.in-8.is))

pub returns-in-9 : goal.returns-in-9
returns-in-9 c = found-decides c.args.name.now c.first_called-in-9.result (c.first_called-in-9.ensures ∙ sym (called-9 c.args.name.now c.in-9.is))

pub returns-in-11 : goal.returns-in-11
returns-in-11 c = found-decides c.args.name.now c.if_called-in-11.result (c.if_called-in-11.ensures ∙ sym (called-11 c.args.name.now c.in-11.is))

pub returns-in-12 : goal.returns-in-12
returns-in-12 c = found-decides c.args.name.now c.if_called-in-12.result (c.if_called-in-12.ensures ∙ sym (called-12 c.args.name.now c.in-12.is))

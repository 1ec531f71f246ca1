-- A clause of Pre-Depends or of Depends is one of both.
use Rattle.std.proofs.Common.{rules}
use Rattle.std.specs.Prelude.{IfSome}
use Rattle.std.specs.List.{Contains}
use Rattle.std.proofs.lemmas.List.Elements.{Contains-append_left}
use Rattle.fixed_order.proofs.NeedLemmas.{some_behind}
use Rattle.fixed_order.proofs.needs.clause_at.Goals as goal

pub returns-in-Some : goal.returns-in-Some
returns-in-Some c = Contains-append_left c.args.entry.now.relations.pre_depends c.args.entry.now.relations.depends c.in-Some.clause.now
    (let there : Contains c.args.entry.now.relations.pre_depends c.in-Some.clause.now = search rules in there)

pub returns-in-None : goal.returns-in-None
returns-in-None c = some_behind c.args.entry.now.relations.pre_depends c.args.entry.now.relations.depends c.get-in-None.result
    (let there : IfSome c.get-in-None.result (λ clause. Contains c.args.entry.now.relations.depends clause.now) = search rules in there)

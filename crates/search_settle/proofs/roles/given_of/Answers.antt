-- Each basis tells its premise.
use Rattle.std.proofs.Common.{List, map, ap, ◌∙◌}
use Rattle.refutation.specs.declared.line.Premise.{Premise}
use Rattle.search_settle.specs.Given.{role_of}
use Rattle.search_settle.proofs.SelectionLemmas.{given_by, roles_mapped}
use Rattle.search_settle.proofs.roles.given_of.Goals as goal

pub returns-clause-given_by : goal.returns-clause-given_by
returns-clause-given_by c =
    given_by c.args.part.now c.args.encoding.now c.in_ok-given.given c.requires c.in_ok-given.ensures.indexed
    (c.in_ok-given.ensures.roles ∙ c.in_ok-roles.ensures ∙ roles_mapped c.bases.result.now
    ∙ ap (λ (premises : List Premise). map role_of premises) c.bases.ensures)
    (c.in_ok-given.ensures.clauses ∙ ap (λ clauses. clauses.clauses) c.clauses.ensures)
    (c.in_ok-given.ensures.numbers ∙ ap (λ clauses. clauses.numbers) c.clauses.ensures)

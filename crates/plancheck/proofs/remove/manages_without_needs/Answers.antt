-- What holds of the clauses of two fields in a row holds of those of each.
use Rattle.std.proofs.Common.{◌≡◌, List, true, false, sym, subst, ◌∙◌}
use Rattle.std.proofs.lemmas.List.Elements.{All-append}
use Rattle.std.specs.List.{All}
use Rattle.rules.specs.ElementLaws.{All-parts}
use Rattle.rules.specs.Package.{Atom}
use Rattle.rules.specs.Remove.{IsMetWithout}
use Rattle.plancheck.proofs.remove.manages_without_needs.Goals as goal

pub returns-then-manages_without_all : goal.returns-then-manages_without_all
returns-then-manages_without_all c =
    let relations = c.args.other.now.relations in
    let P : List Atom → Type 0 = IsMetWithout c.args.db.now c.args.removed.now in
    let Q : List (List Atom) → Type 0 = λ clauses. All P clauses in (
      λ met. All-append P relations.pre_depends relations.depends
          (subst Q c.pre_depends.ensures (c.manages_without_all.ensures.0 c.if-manages_without_all.true))
          (subst Q c.depends.ensures (c.manages_without_all-then-manages_without_all.ensures.0 met)),
      λ all. c.manages_without_all-then-manages_without_all.ensures.1
          (subst Q (sym c.depends.ensures) (All-parts P relations.pre_depends relations.depends all).1),
    )

pub returns-else-manages_without_all : goal.returns-else-manages_without_all
returns-else-manages_without_all c =
    let relations = c.args.other.now.relations in
    let P : List Atom → Type 0 = IsMetWithout c.args.db.now c.args.removed.now in
    let Q : List (List Atom) → Type 0 = λ clauses. All P clauses in (
      λ met. absurd (let e : true ≡ false = sym met ∙ c.if-manages_without_all.false in cc),
      λ all. c.manages_without_all.ensures.1
          (subst Q (sym c.pre_depends.ensures) (All-parts P relations.pre_depends relations.depends all).0),
    )

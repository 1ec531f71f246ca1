-- The clause is that of the premise.
use Rattle.std.proofs.Common.{◌≡◌, ◌∙◌, List, Some, ap, map, sym}
use Rattle.std.specs.List.{All, Contains}
use Rattle.refutation.specs.Clause.{item_at}
use Rattle.refutation.specs.declared.line.Line.TheVariants as line
use Rattle.refutation.specs.declared.line.Premise.TheVariants as claim
use Rattle.rules.specs.Package.{Atom, Pkg}
use Rattle.refutation_sentences.specs.Sentences.{HasAlternative}
use Rattle.refutation_sentences.proofs.ToldLemmas.{alternatives, stays_by}
use Rattle.refutation_sentences.proofs.instead.tell_pre_depends.Goals as goal

pub returns-in-Some : goal.returns-in-Some
returns-in-Some c =
    let u = c.args.context.now.premises.now in
    let member = c.in-Some.member in
    let clauses : c.pre_depends.result.now ≡ member.relations.pre_depends =
    c.pre_depends.ensures ∙ ap (λ (pkg : Pkg). pkg.relations.pre_depends) c.pkg.ensures in
    stays_by c.tell_clause.result u c.args.context.now.indices.now
    (λ told. (atoms : List Atom) → item_at c.pre_depends.result.now c.args.clause ≡ Some atoms → All (HasAlternative u told) atoms)
    (λ told. Contains told (line.Premise (claim.PreDepends c.args.number c.args.clause)))
    (map (λ key. key.items) c.args.lines.now.keys) (map (λ key. key.items) c.tell_clause.new.lines.keys)
    (λ told within atoms is. alternatives u told (claim.PreDepends c.args.number c.args.clause) c.args.number c.args.clause member
    (λ (pkg : Pkg). pkg.relations.pre_depends) atoms (sym c.in_ok-read.ensures ∙ c.in-Some.is)
    (ap (λ (all : List (List Atom)). item_at all c.args.clause) (sym clauses) ∙ is) (λ asked of. of) within)
    c.tell_clause.ensures

-- The atoms are those of the clause of this number.
use Rattle.std.proofs.Common.{◌≡◌, ◌∙◌, List, Some, ap, map, subst, sym}
use Rattle.std.specs.List.{All}
use Rattle.std.specs.Option.{option_copied}
use Rattle.refutation.specs.Clause.{item_at}
use Rattle.rules.specs.Package.{Atom}
use Rattle.refutation_sentences.specs.Sentences.{HasAlternative}
use Rattle.refutation_sentences.proofs.ToldLemmas.{stays_by}
use Rattle.refutation_sentences.proofs.instead.tell_clause.Goals as goal

pub returns-in-Some : goal.returns-in-Some
returns-in-Some c = stays_by c.tell_atoms.result c.args.context.now.premises.now c.args.context.now.indices.now
    (λ told. All (HasAlternative c.args.context.now.premises.now told) c.as_slice.result.now)
    (λ told. (atoms : List Atom) → item_at c.args.clauses.now c.args.clause ≡ Some atoms → All (HasAlternative c.args.context.now.premises.now told) atoms)
    (map (λ key. key.items) c.args.lines.now.keys) (map (λ key. key.items) c.tell_atoms.new.lines.keys)
    (λ told each. subst (All (HasAlternative c.args.context.now.premises.now told)) (sym c.as_slice.ensures)
    (each c.in-Some.clause.now (sym c.clause_at.ensures ∙ ap option_copied c.in-Some.is)))
    c.tell_atoms.ensures

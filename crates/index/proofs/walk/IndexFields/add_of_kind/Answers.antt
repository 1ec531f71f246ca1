-- A field Architecture adds its value alone, and a field Protected a mark.
use Rattle.std.proofs.Common.{ap, subst, sym, ◌∙◌}
use Rattle.relation.specs.Kind.{IsOfKind}
use Rattle.relation.specs.declared.kind.Kind.{Kind}
use Rattle.index.specs.Walk.{IndexFields, with_field}
use Rattle.index.proofs.WalkLemmas.{with-architecture, with-protected}
use Rattle.index.proofs.walk.IndexFields.add_of_kind.Goals as goal

pub returns-in-Architecture : goal.returns-in-Architecture
returns-in-Architecture c =
    let is = subst (λ (kind : Kind). IsOfKind kind c.args.field.now.name) c.in-Architecture.is c.requires in
    rw (c.architecture_with-self-inside.ensures)
    (sym (with-architecture _ c.args.field.now is) ∙ ap (λ (index_fields : IndexFields). with_field index_fields c.args.field.now) c.self.view_is)

pub returns-in-Protected : goal.returns-in-Protected
returns-in-Protected c =
    let is = subst (λ (kind : Kind). IsOfKind kind c.args.field.now.name) c.in-Protected.is c.requires in
    rw (c.is_marked-self-inside-in-Protected.ensures)
    (sym (with-protected _ c.args.field.now is) ∙ ap (λ (index_fields : IndexFields). with_field index_fields c.args.field.now) c.self.view_is)

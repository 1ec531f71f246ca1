-- A field of no kind adds nothing.
use Rattle.std.proofs.Common.{◌≡◌, ℕ, List, sym, subst}
use Rattle.std.specs.Prelude.{◌↔◌, Some}
use Rattle.relation.specs.Kind.{IsOfKind}
use Rattle.relation.specs.declared.kind.Kind.{Kind}
use Rattle.relation.proofs.KindLemmas.{none-called}
use Rattle.index.proofs.WalkLemmas.{with-none}
use Rattle.index.proofs.walk.IndexFields.add.Goals as goal

pub returns-in_default : goal.returns-in_default
returns-in_default c =
    let decides = subst (λ (name : List ℕ). (kind : Kind) → (c.kind_of.result ≡ Some kind) ↔ IsOfKind kind name) c.name.ensures c.kind_of.ensures in
    sym (with-none c.args.self.now c.args.field.now (none-called c.args.field.now.name c.kind_of.result c.in_default.is decides))

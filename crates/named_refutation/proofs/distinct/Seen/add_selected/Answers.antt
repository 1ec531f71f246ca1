-- The key that is added is among those before it exactly where its literal is among theirs.
use Rattle.std.proofs.Common.{◌≡◌, ◌∙◌, true, not, map, refl, ap}
use Rattle.std.specs.List.{list_any}
use Rattle.named_refutation.specs.Derived.{is_same}
use Rattle.named_refutation.specs.Seen.{literal_by}
use Rattle.named_refutation.specs.declared.named.NamedLiteral.{NamedLiteral}
use Rattle.named_refutation.specs.declared.named.NamedLiteral.TheVariants.{Selected}
use Rattle.named_refutation.proofs.SeenLemmas.{Key, any_seen}
use Rattle.named_refutation.proofs.distinct.Seen.add_selected.Goals as goal

pub returns-clause-fresh : goal.returns-clause-fresh
returns-clause-fresh c =
    let key : Key = (true, c.as_bytes.result, c.as_bytes-2.result) in
    let pair = c.args.pair.now in
    let same : literal_by key ≡ Selected pair = rw (c.as_bytes.ensures.bytes, c.as_bytes-2.ensures.bytes) refl in
    c.in_ok-insert.ensures.added
    ∙ ap not (any_seen key c.self.inside.keys.keys
    ∙ ap (λ (literal : NamedLiteral). list_any (is_same literal) (map literal_by c.self.inside.keys.keys)) same
    ∙ ap (list_any (is_same (Selected pair))) c.self.view_is)

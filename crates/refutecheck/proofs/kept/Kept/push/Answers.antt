-- The new list is behind the others, and the new place is its own.
use Rattle.std.proofs.Common.{◌∙◌, ap, [], ◌∷◌, ◌++◌, List}
use Rattle.refutation.specs.declared.literal.Literal.{Literal}
use Rattle.refutecheck.proofs.KeptLemmas.{kept_pushed}
use Rattle.refutecheck.proofs.kept.Kept.push.Goals as goal

pub returns : goal.returns
returns c = kept_pushed c.self.inside.lists.items c.push.new.self.items c.args.clause c.self.inside.places.items c.push-2.new.self.items
    c.len-place.result c.in_ok-push.ensures.items c.in_ok-push-2.ensures.items (c.len-place.ensures ∙ c.self.inside.lists.ok.0) c.self.invariant
    ∙ ap (λ (front : List (List Literal)). front ++ c.args.clause ∷ []) c.self.view_is

-- As many pairs are lent as there are.
use Rattle.std.proofs.Common.{◌∙◌, length, ap, sym}
use Rattle.std.proofs.Math.ListN.{length-map}
use Rattle.rules.specs.Universe.{Universe}
use Rattle.encode.proofs.facts.Facts.count.Goals as goal

pub returns : goal.returns
returns c =
    sym (length-map c.pairs.result.now _) ∙ ap length c.pairs.ensures.items ∙ ap (λ (u : Universe). length u.pairs) c.self.view_is

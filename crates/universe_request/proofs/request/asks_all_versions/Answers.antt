-- The parts between newlines are the lines, and of these one is looked for.
use Rattle.std.proofs.Common.{◌==◌, rules}
use Rattle.std.proofs.lemmas.Iterator.Search.{any_from_yields_List}
use Rattle.std.proofs.lemmas.Iterator.Splits.{YieldsList-from_slice_split}
use Rattle.universe_request.specs.Request.{is_all_versions}
use Rattle.universe_request.proofs.request.asks_all_versions.Goals as goal

pub returns : goal.returns
returns c =
    any_from_yields_List is_all_versions _ _ _ c.any.ensures.ran
    (YieldsList-from_slice_split _ (λ b. b == 10) c.args.text.now c.split.ensures.rest c.split.ensures.done c.split.ensures.closure (λ x b q k. search rules))
    (λ x b q k. search rules)

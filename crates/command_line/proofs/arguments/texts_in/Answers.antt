use Rattle.std.proofs.Common.{◌∙◌, Some, ap}
use Rattle.clap.proofs.WalkLemmas.{raw_values-rows}
use Rattle.clap.specs.Matches.{found_of}
use Rattle.command_line.specs.Asked.{texts_by}
use Rattle.command_line.proofs.arguments.texts_in.Goals as goal

pub returns-in_ok-to_vec-in-Some : goal.returns-in_ok-to_vec-in-Some
returns-in_ok-to_vec-in-Some c =
    ap (λ words. Some (texts_by words)) (c.in_ok-to_vec-in-Some.ensures.items_if_clones_equal (λ x y same. same))
    ∙ c.in-Some.ensures ∙ raw_values-rows (found_of c.args.values.now) c.args.name.now

pub returns-in-None : goal.returns-in-None
returns-in-None c = c.in-None.ensures ∙ raw_values-rows (found_of c.args.values.now) c.args.name.now

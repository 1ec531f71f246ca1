use Rattle.std.proofs.Common.{◌≡◌, ◌∙◌, ◌++◌, [], ◌∷◌, None, ap, map, rules}
use Rattle.std.proofs.lemmas.Result.{IfOk-weaker}
use Rattle.std.specs.Prelude.{string_bytes}
use Rattle.command_line.specs.Joined.{joined_behind}
use Rattle.command_line.proofs.join.joined_from.Goals as goal

pub returns : goal.returns
returns c =
    let first : map string_bytes c.in_ok-start.start.items ≡ c.args.name.now ∷ [] = search rules in
    IfOk-weaker c.join.result _ _ (λ all h. h ∙ ap (λ ts. ts ++ joined_behind None (map (λ word. word.now) c.args.rest.now)) first) c.join.ensures

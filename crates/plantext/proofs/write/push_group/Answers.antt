-- The action and then the names are the group's words with spaces between them.
use Rattle.std.proofs.Common.{◌≡◌, ◌++◌, ◌∷◌, ◌∙◌, ap}
use Rattle.std.specs.List.{flat_map}
use Rattle.std.specs.Prelude.{codes}
use Rattle.plantext.proofs.AgainLemmas.{group_written}
use Rattle.plantext.proofs.write.push_group.Goals as goal

pub returns-clause-written : goal.returns-clause-written
returns-clause-written c =
    let names = c.args.group.now in
    let action : c.extend_from_slice.new.self.items ≡ c.args.text.now.items ++ codes "configure" = cc c.in_ok-extend_from_slice.ensures.items in
    rw (c.in_ok-push_names.ensures.written, c.as_slice.ensures.names) (ap (λ text. text ++ flat_map (λ name. 32 ∷ name) names) action ∙ group_written c.args.text.now.items names)

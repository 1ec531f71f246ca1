-- One more word is a name, and at the end the names are all words.
use Rattle.std.proofs.Common.{◌≡◌, ◌∙◌, ◌++◌, ◌∷◌, true, ap, append_assoc, arith, subst, sym}
use Rattle.std.proofs.lemmas.Grind.{common_steps}
use Rattle.rules.specs.Name.{IsAscending}
use Rattle.plantext.specs.Cut.{parts_left}
use Rattle.plantext.specs.Group.{are_ascending_names}
use Rattle.plantext.specs.declared.cut.TheConstants.{SPACE}
use Rattle.plantext.proofs.GroupLemmas.{ascending_rest, group_ascending}
use Rattle.plantext.proofs.group.names_of.Goals as goal

pub loop-left-preserved : goal.loop-left-preserved
loop-left-preserved c =
    let word = c.cut_part.result.0.now in
    let left = parts_left SPACE c.cut_part.result.1 in
    let before : are_ascending_names (word ∷ left) ≡ true =
    ap are_ascending_names (sym c.cut_part.ensures.parts) ∙ ap (λ rest. are_ascending_names (parts_left SPACE rest)) (sym c.in-Some.is) ∙ c.loop-left.invariant.good in
    let all : c.loop-left.names.items ++ word ∷ left ≡ parts_left SPACE c.args.words =
    ap (λ parts. c.loop-left.names.items ++ parts) (sym c.cut_part.ensures.parts) ∙ ap (λ rest. c.loop-left.names.items ++ parts_left SPACE rest) (sym c.in-Some.is) ∙ c.loop-left.invariant.same in
    record {
      same = rw (c.in_ok-push.ensures.items, c.in_ok-copied_from.ensures, append_assoc) all;
      good = ascending_rest word left before;
    }

pub new-requires-clause-ascending : goal.new-requires-clause-ascending
new-requires-clause-ascending c =
    let all : c.loop-left.names.items ≡ parts_left SPACE c.args.words = grind (arith, common_steps) in
    subst IsAscending (sym all) (group_ascending (parts_left SPACE c.args.words) c.requires)

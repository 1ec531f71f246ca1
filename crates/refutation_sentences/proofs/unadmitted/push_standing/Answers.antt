-- The version that stands is the highest, or there is none.
use Rattle.std.proofs.Common.{◌≡◌, ◌∙◌, ap, refl, sym}
use Rattle.std.specs.Prelude.{codes}
use Rattle.std.specs.Option.{option_copied}
use Rattle.refutation_sentences.specs.GoalCauses.{IsHighestOrNoneTold}
use Rattle.refutation_sentences.proofs.FoundLemmas.{standing_alone}
use Rattle.refutation_sentences.proofs.ToldLemmas.{grows_by}
use Rattle.refutation_sentences.proofs.unadmitted.push_standing.Goals as goal
use mathlib.Core.Logic.{inl}

pub push_as_highest-requires : goal.push_as_highest-requires
push_as_highest-requires c = standing_alone c.args.context.now.premises.now c.args.context.now.indices.now c.args.name.now c.in-Some.standing.now
    (sym c.standing-standing.ensures ∙ ap option_copied c.in-Some.is) c.requires

pub returns-in-None : goal.returns-in-None
returns-in-None c = grows_by c.push_none.result
    (IsHighestOrNoneTold c.args.context.now.premises.now c.args.context.now.indices.now c.args.name.now) c.args.text.now.items c.push_none.new.text.items
    (codes "no index has it") (inl (c.requires, sym c.standing-standing.ensures ∙ ap option_copied c.in-None.is, refl)) c.push_none.ensures

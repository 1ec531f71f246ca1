-- Each reason is the first, since nothing of the kinds before it is against the end.
use Rattle.std.proofs.Common.{ℕ, List, Some, sym, subst}
use Rattle.std.specs.List.{All}
use Rattle.rules.specs.Database.{installed_of}
use Rattle.rules.specs.Run.{IsFirstAgainst}
use Rattle.rules.specs.Sound.{KeepsEssential}
use Rattle.rules.specs.Universe.{Start}
use Rattle.rules.specs.declared.step.Reason.TheVariants as reason
use Rattle.plancheck_end.specs.Least.{IsLeastWithout}
use Rattle.plancheck_end.proofs.EndLemmas.{first_relation, first_essential, first_goal}
use Rattle.plancheck_end.proofs.end.first_against.Goals as goal

pub returns-in-Some-least_discontent : goal.returns-in-Some-least_discontent
returns-in-Some-least_discontent c =
    let P : List ℕ → Type 0 = λ name. IsFirstAgainst c.args.universe.now c.args.db.now (reason.Relation name) in
    subst P (sym c.in_ok-copied_from-2.ensures) (first_relation c.args.universe.now c.args.db.now
    c.in-Some-least_discontent.name.now c.in_default.ensures c.in-Some-least_discontent.ensures)

pub returns-in-Some-least_lost : goal.returns-in-Some-least_lost
returns-in-Some-least_lost c =
    let P : List ℕ → Type 0 = λ name. IsFirstAgainst c.args.universe.now c.args.db.now (reason.Essential name) in
    let name = c.in-Some-least_lost.name.now in
    let Least : List Start → Type 0 = λ starts. IsLeastWithout (KeepsEssential (installed_of c.args.db.now))
    (λ (start : Start). start.name) starts (Some name) in
    subst P (sym c.in_ok-copied_from-3.ensures) (first_essential c.args.universe.now c.args.db.now name
    c.in_default.ensures c.in_default-least_discontent.ensures
    (subst Least c.starts.ensures c.in-Some-least_lost.ensures))

pub returns-in-Some-first_unfulfilled : goal.returns-in-Some-first_unfulfilled
returns-in-Some-first_unfulfilled c =
    let Kept : List Start → Type 0 = λ starts. All (KeepsEssential (installed_of c.args.db.now)) starts in
    first_goal c.args.universe.now c.args.db.now c.in-Some-first_unfulfilled.number c.in_default.ensures
    c.in_default-least_discontent.ensures (subst Kept c.starts.ensures c.in_default-least_lost.ensures)
    c.in-Some-first_unfulfilled.ensures

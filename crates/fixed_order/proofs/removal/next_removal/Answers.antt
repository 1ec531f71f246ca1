-- The least name that may go, or else the least that is installed; and where there is neither, none is to be removed.
use Rattle.std.proofs.Common.{Bor, ℕ, List, Option, MatchOption, sym, subst}
use Rattle.std.specs.List.{All}
use Rattle.refutation.specs.Selection.{selects}
use Rattle.rules.specs.Legal.{Allowed}
use Rattle.rules.specs.declared.step.Step.TheVariants.{Deconfigure, Remove}
use Rattle.plain.specs.Order.{IsNextRemoval}
use Rattle.plain.proofs.RemovalLemmas.{removals_go_on}
use Rattle.fixed_order.specs.Problem.{members_in}
use Rattle.fixed_order.specs.Removal.{IsLeastOf}
use Rattle.fixed_order.proofs.FoundLemmas.{where_some}
use Rattle.fixed_order.proofs.RemovalLemmas.{next_deconfigure, next_remove, nothing_left}
use Rattle.fixed_order.proofs.removal.next_removal.Goals as goal

pub returns-in_ok-try_name-in-Some : goal.returns-in_ok-try_name-in-Some
returns-in_ok-try_name-in-Some c =
    let May : List ℕ → Type 0 = λ n. Allowed c.args.problem.now.universe.now c.args.db.now (Remove n) in
    subst (λ (n : List ℕ). IsNextRemoval c.args.problem.now.universe.now (members_in c.args.problem.now) c.args.db.now (Remove n))
    (sym c.in_ok-try_name-in-Some.ensures)
    (next_remove c.args.problem.now.universe.now (members_in c.args.problem.now) c.args.db.now c.args.keys.now c.requires.keys
    c.in-Some.key.now
    (where_some (All (λ n. ¬ May n) c.args.keys.now) (λ (key : Bor (List ℕ)). IsLeastOf May c.args.keys.now key.now) _
    c.in-Some.key c.in-Some.is c.in_ok-key.ensures))

pub returns-in_ok-try_name-in-Some-least_installed : goal.returns-in_ok-try_name-in-Some-least_installed
returns-in_ok-try_name-in-Some-least_installed c =
    let May : List ℕ → Type 0 = λ n. Allowed c.args.problem.now.universe.now c.args.db.now (Remove n) in
    subst (λ (n : List ℕ). IsNextRemoval c.args.problem.now.universe.now (members_in c.args.problem.now) c.args.db.now (Deconfigure n))
    (sym c.in_ok-try_name-in-Some-least_installed.ensures)
    (next_deconfigure c.args.problem.now.universe.now (members_in c.args.problem.now) c.args.db.now c.args.keys.now c.requires.keys
    c.in-Some-least_installed.key.now
    (subst (λ (least : Option (Bor (List ℕ))). MatchOption least (All (λ n. ¬ May n) c.args.keys.now)
    (λ key. IsLeastOf May c.args.keys.now key.now)) c.in-None.is c.in_ok-key.ensures)
    c.in-Some-least_installed.ensures)

pub returns-in-None-least_installed : goal.returns-in-None-least_installed
returns-in-None-least_installed c =
    let May : List ℕ → Type 0 = λ n. Allowed c.args.problem.now.universe.now c.args.db.now (Remove n) in
    nothing_left c.args.problem.now.universe.now (members_in c.args.problem.now) c.args.db.now c.args.keys.now c.requires.keys
    (λ name goes. removals_go_on c.args.problem.now.universe.now c.args.problem.now.start.now c.args.db.now
    (selects c.args.problem.now.selection.now) name c.requires.problem.change c.requires.underway goes)
    (subst (λ (least : Option (Bor (List ℕ))). MatchOption least (All (λ n. ¬ May n) c.args.keys.now)
    (λ key. IsLeastOf May c.args.keys.now key.now)) c.in-None.is c.in_ok-key.ensures)
    c.in-None-least_installed.ensures

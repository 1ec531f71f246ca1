-- The settled set is a selection of which all clauses are true, and the laws say what follows.
use Rattle.std.proofs.Common.{◌≡◌, ℕ, ◌+◌, Bool, List, length, ap, sym, subst, ◌∙◌}
use Rattle.std.proofs.Math.Path.{fun_ext}
use Rattle.std.proofs.lemmas.Result.{IfOk-weaker}
use Rattle.clauses.specs.Clause.{MakesAllTrue}
use Rattle.rules.specs.Minimal.{IsLocallyMinimal}
use Rattle.rules.specs.Sound.{IsAcceptable}
use Rattle.refutation.specs.Selection.{selects}
use Rattle.search_settle.specs.Selected.{IsSelection, numbers_from}
use Rattle.search_settle.specs.Truth.{holds}
use Rattle.search_settle.proofs.SelectionLemmas.{clauses_of_list, clauses_of_set, numbers_are_selection, same_numbers, zero_out}
use Rattle.search_settle.proofs.selection.settle.Goals as goal

pub settle_set-requires-clause-before : goal.settle_set-requires-clause-before
settle_set-requires-clause-before c =
    clauses_of_list c.args.selection.now (holds c.in_ok-set.set.items) c.in_ok-given.given.clauses c.in_ok-set.ensures.same
    (subst (MakesAllTrue c.args.selection.now) (sym c.in_ok-given.ensures.clauses) c.requires.makes_true)

pub returns-clause-selection : goal.returns-clause-selection
returns-clause-selection c =
    let set : List Bool = c.settle_set.new.set.items in
    let none = zero_out c.args.part.now c.args.encoding.now.premises c.in_ok-given.given c.in_ok-given.ensures.given_by c.in_ok-known.known (holds set)
    c.in_ok-known.ensures.known.none c.in_ok-settle_set.ensures.settled.reached in
    let long : length set ≡ c.args.encoding.now.clauses.numbers + 1 =
    c.in_ok-settle_set.ensures.long ∙ ap (λ (n : ℕ). n + 1) c.in_ok-given.ensures.numbers in
    IfOk-weaker c.numbers_of.result (λ settled. settled.items ≡ numbers_from 0 set)
    (λ settled. IsSelection c.args.encoding.now.clauses.numbers settled.items)
    (λ settled is. subst (IsSelection c.args.encoding.now.clauses.numbers) (sym is)
    (numbers_are_selection c.args.encoding.now.clauses.numbers set long none)) c.numbers_of.ensures

pub returns-clause-makes_true : goal.returns-clause-makes_true
returns-clause-makes_true c =
    let set : List Bool = c.settle_set.new.set.items in
    let made : MakesAllTrue (numbers_from 0 set) c.in_ok-given.given.clauses =
    clauses_of_set (numbers_from 0 set) (holds set) c.in_ok-given.given.clauses (same_numbers set) c.in_ok-settle_set.ensures.makes_true in
    IfOk-weaker c.numbers_of.result (λ settled. settled.items ≡ numbers_from 0 set)
    (λ settled. MakesAllTrue settled.items c.args.encoding.now.clauses.clauses)
    (λ settled is. subst (λ (numbers : List ℕ). MakesAllTrue numbers c.args.encoding.now.clauses.clauses) (sym is)
    (subst (MakesAllTrue (numbers_from 0 set)) c.in_ok-given.ensures.clauses made)) c.numbers_of.ensures

pub returns-clause-acceptable : goal.returns-clause-acceptable
returns-clause-acceptable c =
    let set : List Bool = c.settle_set.new.set.items in
    let follows = c.settled_is_minimal.ensures c.args.part.now c.args.encoding.now.premises c.in_ok-given.given c.in_ok-known.known (holds set)
    c.requires.ascending c.requires.needed c.in_ok-given.ensures.given_by c.in_ok-known.ensures.known c.in_ok-settle_set.ensures.makes_true c.in_ok-settle_set.ensures.settled in
    IfOk-weaker c.numbers_of.result (λ settled. settled.items ≡ numbers_from 0 set)
    (λ settled. IsAcceptable c.args.part.now (selects settled.items))
    (λ settled is. subst (λ (numbers : List ℕ). IsAcceptable c.args.part.now (selects numbers)) (sym is)
    (subst (IsAcceptable c.args.part.now) (fun_ext (same_numbers set)) follows.0)) c.numbers_of.ensures

pub returns-clause-minimal : goal.returns-clause-minimal
returns-clause-minimal c =
    let set : List Bool = c.settle_set.new.set.items in
    let follows = c.settled_is_minimal.ensures c.args.part.now c.args.encoding.now.premises c.in_ok-given.given c.in_ok-known.known (holds set)
    c.requires.ascending c.requires.needed c.in_ok-given.ensures.given_by c.in_ok-known.ensures.known c.in_ok-settle_set.ensures.makes_true c.in_ok-settle_set.ensures.settled in
    IfOk-weaker c.numbers_of.result (λ settled. settled.items ≡ numbers_from 0 set)
    (λ settled. IsLocallyMinimal c.args.part.now (selects settled.items))
    (λ settled is. subst (λ (numbers : List ℕ). IsLocallyMinimal c.args.part.now (selects numbers)) (sym is)
    (subst (IsLocallyMinimal c.args.part.now) (fun_ext (same_numbers set)) follows.1)) c.numbers_of.ensures

-- What passes of the names before the first that passes alone, or else that one.
use Rattle.std.proofs.Common.{rules, ◌≡◌, false, true, ℕ, List, drop, take, sym, ap, subst, ◌∙◌, arith}
use Rattle.std.specs.Prelude.{slice_get}
use Rattle.std.specs.Option.{option_copied}
use Rattle.rules.specs.Configure.{IsGreatestPart}
use Rattle.plancheck_group.proofs.PartLemmas.{empty_test}
use Rattle.fixed_order.specs.Alone.{IsFirstWith, PassesAlone}
use Rattle.fixed_order.proofs.BeginningLemmas.{all_are_beginning, all_before, bound_is_beginning, first_is_beginning, front_below, some_from}
use Rattle.fixed_order.proofs.configure.first_group.Goals as goal

pub lower_group-requires-clause-below : goal.lower_group-requires-clause-below
lower_group-requires-clause-below c = front_below c.args.waiting.now.names.items c.as_slice-names.result.now c.split_at.result.0.now
    c.split_at.result.1.now c.first_alone-place.result (option_copied c.first-bound.result) c.requires.waiting.names.ascending
    c.as_slice-names.ensures.value c.split_at.ensures.front c.split_at.ensures.back c.first-bound.ensures.value

pub returns-then-not-is_empty : goal.returns-then-not-is_empty
returns-then-not-is_empty c =
    let first = subst (λ (names : List (List ℕ)). IsFirstWith (PassesAlone c.args.db.now) names c.first_alone-place.result)
    c.as_slice-names.ensures.value c.first_alone-place.ensures in
    let greatest = subst (λ (names : List (List ℕ)). IsGreatestPart c.args.db.now names c.in_ok-group.group.items)
    (c.split_at.ensures.front ∙ ap (λ (names : List (List ℕ)). take c.first_alone-place.result names) c.as_slice-names.ensures.value)
    c.in_ok-group.ensures in
    first_is_beginning c.args.db.now c.args.waiting.now.names.items c.in_ok-group.group.items c.first_alone-place.result
    (let within = first.within in omega (arith, within)) c.requires.waiting.names greatest
    (some_from c.in_ok-group.group.items (λ empty. absurd (let e : true ≡ false = sym (c.is_empty.ensures
    ∙ (empty_test c.in_ok-group.group.items c.in_ok-group.group.len (search rules)).1 empty) ∙ c.if-not-is_empty.true in cc)))

pub returns-in_ok-one-in-Some : goal.returns-in_ok-one-in-Some
returns-in_ok-one-in-Some c =
    let first = subst (λ (names : List (List ℕ)). IsFirstWith (PassesAlone c.args.db.now) names c.first_alone-place.result)
    c.as_slice-names.ensures.value c.first_alone-place.ensures in
    let empty = (empty_test c.in_ok-group.group.items c.in_ok-group.group.len (search rules)).0
    (sym c.is_empty.ensures ∙ c.if-not-is_empty.false) in
    let greatest = subst (λ (names : List (List ℕ)). IsGreatestPart c.args.db.now names c.in_ok-group.group.items)
    (c.split_at.ensures.front ∙ ap (λ (names : List (List ℕ)). take c.first_alone-place.result names) c.as_slice-names.ensures.value)
    c.in_ok-group.ensures in
    bound_is_beginning c.args.db.now c.args.waiting.now.names.items c.in_ok-one-in-Some.one.items c.first_alone-place.result c.in-Some.name.now
    c.requires.waiting.names first
    (ap (λ (names : List (List ℕ)). slice_get names 0) (sym (c.split_at.ensures.back
    ∙ ap (λ (names : List (List ℕ)). drop c.first_alone-place.result names) c.as_slice-names.ensures.value))
    ∙ sym c.first-bound.ensures.value ∙ ap option_copied c.in-Some.is)
    (subst (IsGreatestPart c.args.db.now (take c.first_alone-place.result c.args.waiting.now.names.items)) empty greatest) c.in_ok-one-in-Some.ensures

pub returns-in-None : goal.returns-in-None
returns-in-None c =
    let first = subst (λ (names : List (List ℕ)). IsFirstWith (PassesAlone c.args.db.now) names c.first_alone-place.result)
    c.as_slice-names.ensures.value c.first_alone-place.ensures in
    let none = ap (λ (names : List (List ℕ)). slice_get names 0) (sym (c.split_at.ensures.back
    ∙ ap (λ (names : List (List ℕ)). drop c.first_alone-place.result names) c.as_slice-names.ensures.value))
    ∙ sym c.first-bound.ensures.value ∙ ap option_copied c.in-None.is in
    all_are_beginning c.args.db.now c.args.waiting.now.names.items c.in_ok-group.group.items c.requires.waiting.names
    (subst (λ (names : List (List ℕ)). IsGreatestPart c.args.db.now names c.in_ok-group.group.items)
    (c.split_at.ensures.front ∙ ap (λ (names : List (List ℕ)). take c.first_alone-place.result names) c.as_slice-names.ensures.value
    ∙ all_before c.args.waiting.now.names.items c.first_alone-place.result first.within none) c.in_ok-group.ensures)

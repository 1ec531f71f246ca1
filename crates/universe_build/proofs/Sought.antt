-- What install goals ask for with `=`, as a list and as a fact.
use Rattle.std.proofs.Common.{◌≡◌, ℕ, Bool, true, false, cond, List, [], ◌∷◌, map, Option, Some, None, refl, sym, ap, subst, ◌∙◌}
use Rattle.std.specs.List.{Any, Contains, cons_option, filter_map}
use Rattle.std.proofs.lemmas.Option.{same_Some}
use Rattle.rules.specs.Available.{is_of}
use Rattle.rules.specs.ElementLaws.{Any-elim, Any-from_list_any, Any-intro, Contains-cons, Contains-head, Contains-nil, Contains-rest, list_any-from_contains}
use Rattle.rules.specs.Step.{IndexPackage}
use Rattle.rules.specs.Universe.{IsOf, NamesExactly}
use Rattle.rules.specs.Version.{SameVersion}
use Rattle.rules.specs.VersionOrderLaws.{SameVersion-symm, SameVersion-trans}
use Rattle.rules.specs.declared.goal.Goal.{Goal}
use Rattle.rules.specs.declared.goal.Goal.TheVariants as goal
use Rattle.rules.specs.declared.op.Op.{Op}
use Rattle.rules.specs.declared.op.Op.TheVariants as operator
use Rattle.universe_parts.specs.PairLaws.{is_of-from, is_of-parts}
use Rattle.universe_build.specs.Choice.{Exact, exact_of, exacts_of, is_asked, is_exactly}
use mathlib.Core.Logic.{inl, inr}

-- what is left by a filter that changes comes from an element
pub Contains-filter_map : {X Y : Type 0} (h : X → Option Y) (xs : List X) (y : Y) → Contains (filter_map h xs) y
    → (x : X) × Contains xs x × (h x ≡ Some y)
Contains-filter_map h [] y within = absurd (Contains-nil y within)
Contains-filter_map {X} {Y} h (x ∷ xs) y within = at (h x) refl within (Contains-filter_map h xs y)
  where
    later : ((z : X) × Contains xs z × (h z ≡ Some y)) → (z : X) × Contains (x ∷ xs) z × (h z ≡ Some y)
    later there = (there.0, Contains-rest x xs there.0 there.1, there.2)

    at : (o : Option Y) → h x ≡ o → Contains (cons_option o (filter_map h xs)) y
        → (Contains (filter_map h xs) y → (z : X) × Contains xs z × (h z ≡ Some y))
        → (z : X) × Contains (x ∷ xs) z × (h z ≡ Some y)
    at None is whole rest = later (rest whole)
    at (Some w) is whole rest = elim (Contains-cons w (filter_map h xs) y whole) [
      | inl same ↦ (x, Contains-head x xs, is ∙ ap Some same)
      | inr there ↦ later (rest there)
    ]

pub Contains-filter_map_intro : {X Y : Type 0} (h : X → Option Y) (xs : List X) (x : X) (y : Y) → Contains xs x → h x ≡ Some y
    → Contains (filter_map h xs) y
Contains-filter_map_intro h [] x y within is = absurd (Contains-nil x within)
Contains-filter_map_intro {X} {Y} h (z ∷ zs) x y within is =
    elim (Contains-cons z zs x within) [
      | inl same ↦ here (h z) (ap h same ∙ is)
      | inr later ↦ past (h z) (Contains-filter_map_intro h zs x y later is)
    ]
  where
    here : (o : Option Y) → o ≡ Some y → Contains (cons_option o (filter_map h zs)) y
    here None same = absurd (let e : None ≡ Some y = same in cc)
    here (Some w) same = subst (Contains (w ∷ filter_map h zs)) (same_Some w y same) (Contains-head w (filter_map h zs))

    past : (o : Option Y) → Contains (filter_map h zs) y → Contains (cons_option o (filter_map h zs)) y
    past None there = there
    past (Some w) there = Contains-rest w (filter_map h zs) y there

-- the operator that is tested
exactly-is : (op : Op) → is_exactly op ≡ true → op ≡ operator.ExactlyEqual
exactly-is operator.StrictlyEarlier passes = absurd (let e : false ≡ true = passes in cc)
exactly-is operator.EarlierOrEqual passes = absurd (let e : false ≡ true = passes in cc)
exactly-is operator.ExactlyEqual passes = refl
exactly-is operator.LaterOrEqual passes = absurd (let e : false ≡ true = passes in cc)
exactly-is operator.StrictlyLater passes = absurd (let e : false ≡ true = passes in cc)

-- a goal with `=` names what it asks for
NamesExactly-from : (name version : List ℕ) (asked : Goal) (exact : Exact) → exact_of asked ≡ Some exact
    → exact.name ≡ name → SameVersion version exact.version → NamesExactly name version asked
NamesExactly-from name version (goal.Install own None) exact is named same = absurd (let e : None ≡ Some exact = is in cc)
NamesExactly-from name version (goal.Install own (Some restriction)) exact is named same = at (is_exactly restriction.op) refl is
  where
    at : (b : Bool) → is_exactly restriction.op ≡ b
        → cond b (Some (record { name = own; version = restriction.version })) None ≡ Some exact
        → (own ≡ name) × (restriction.op ≡ operator.ExactlyEqual) × SameVersion version restriction.version
    at true passes whole =
        let spelled : Exact = record { name = own; version = restriction.version } in
        let alike : spelled ≡ exact = same_Some spelled exact whole in (
          ap (λ (e : Exact). e.name) alike ∙ named,
          exactly-is restriction.op passes,
          subst (SameVersion version) (sym (ap (λ (e : Exact). e.version) alike)) same,
        )
    at false passes whole = absurd (let e : None ≡ Some exact = whole in cc)
NamesExactly-from name version (goal.Remove own) exact is named same = absurd (let e : None ≡ Some exact = is in cc)
NamesExactly-from name version (goal.Purge own) exact is named same = absurd (let e : None ≡ Some exact = is in cc)
NamesExactly-from name version (goal.Upgrade own) exact is named same = absurd (let e : None ≡ Some exact = is in cc)
NamesExactly-from name version goal.UpgradeAll exact is named same = absurd (let e : None ≡ Some exact = is in cc)
NamesExactly-from name version goal.NoRemove exact is named same = absurd (let e : None ≡ Some exact = is in cc)

pub NamesExactly-is : (name version : List ℕ) (asked : Goal) → NamesExactly name version asked
    → (exact : Exact) × (exact_of asked ≡ Some exact) × (exact.name ≡ name) × SameVersion version exact.version
NamesExactly-is name version (goal.Install own None) names = absurd names
NamesExactly-is name version (goal.Install own (Some restriction)) names =
    (spelled, ap (λ (op : Op). cond (is_exactly op) (Some spelled) None) names.1, names.0, names.2)
  where
    spelled : Exact
    spelled = record { name = own; version = restriction.version }
NamesExactly-is name version (goal.Remove own) names = absurd names
NamesExactly-is name version (goal.Purge own) names = absurd names
NamesExactly-is name version (goal.Upgrade own) names = absurd names
NamesExactly-is name version goal.UpgradeAll names = absurd names
NamesExactly-is name version goal.NoRemove names = absurd names

-- a stanza that is asked for is named by a goal, as is each text of its version
pub is_asked-names : (goals : List Goal) (stanza : IndexPackage) → is_asked (exacts_of goals) stanza ≡ true
    → (name version : List ℕ) → IsOf name version stanza.pkg → Any (NamesExactly name version) goals
is_asked-names goals stanza passes name version of = Any-elim
    (λ (exact : Exact). is_of exact.name exact.version stanza.pkg ≡ true) (exacts_of goals) (Any (NamesExactly name version) goals)
    (λ exact within is.
    let asked = Contains-filter_map exact_of goals exact within in
    let own : IsOf exact.name exact.version stanza.pkg = is_of-parts exact.name exact.version stanza.pkg is in
    Any-intro (NamesExactly name version) goals asked.0 asked.1
    (NamesExactly-from name version asked.0 exact asked.2 (sym own.0 ∙ of.0)
    (SameVersion-trans version stanza.pkg.version exact.version (SameVersion-symm stanza.pkg.version version of.1) own.1)))
    (Any-from_list_any (λ (exact : Exact). is_of exact.name exact.version stanza.pkg) (exacts_of goals) passes)

-- a stanza that a goal names is asked for
pub is_asked-from : (goals : List Goal) (stanza : IndexPackage) (name version : List ℕ) → IsOf name version stanza.pkg
    → Any (NamesExactly name version) goals → is_asked (exacts_of goals) stanza ≡ true
is_asked-from goals stanza name version of some = Any-elim (NamesExactly name version) goals (is_asked (exacts_of goals) stanza ≡ true)
    (λ asked within names.
    let exact = NamesExactly-is name version asked names in
    list_any-from_contains (λ (e : Exact). is_of e.name e.version stanza.pkg) (exacts_of goals) exact.0
    (Contains-filter_map_intro exact_of goals asked exact.0 within exact.1)
    (is_of-from exact.0.name exact.0.version stanza.pkg
    (of.0 ∙ sym exact.2, SameVersion-trans stanza.pkg.version version exact.0.version of.1 exact.3)))
    some

-- what is left of changed elements by a filter that changes
pub filter_map-map : {X Y Z : Type 0} (h : Y → Option Z) (f : X → Y) (xs : List X)
    → filter_map h (map f xs) ≡ filter_map (λ x. h (f x)) xs
filter_map-map h f [] = refl
filter_map-map h f (x ∷ xs) = ap (cons_option (h (f x))) (filter_map-map h f xs)

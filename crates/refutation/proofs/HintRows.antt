-- Derived lines that don't follow: a hint that isn't an earlier line, and a middle hint with two literals not false yet.
-- Two versions of foo are to be had, and `install foo` asks for one.
use Rattle.std.proofs.Common.{◌≡◌, ℕ, List, [], ◌∷◌, Some, None, refl, sym, ap, subst, arith}
use Rattle.std.specs.Prelude.{codes}
use Rattle.std.specs.List.{Contains}
use Rattle.std.proofs.lemmas.Option.{same_Some}
use Rattle.rules.specs.ElementLaws.{Contains-nil}
use Rattle.rules.specs.Package.{Pkg}
use Rattle.rules.specs.Step.{no_relations}
use Rattle.rules.specs.Universe.{Universe}
use Rattle.rules.specs.declared.goal.Goal.TheVariants as goal
use Rattle.rules.proofs.Rows.{package_of, indexed, universe_of}
use Rattle.refutation.specs.Following.{HasOneOpen}
use Rattle.refutation.specs.Refutation.{IsGoodLine, IsInLine}
use Rattle.refutation.specs.declared.line.Line.{Line}
use Rattle.refutation.specs.declared.line.Line.TheVariants as line
use Rattle.refutation.specs.declared.line.Premise.TheVariants as premise
use Rattle.refutation.specs.declared.literal.Literal.{Literal}
use Rattle.refutation.specs.declared.literal.Literal.TheVariants as literal

abbrev foo_1 : Pkg
foo_1 = package_of (codes "foo") (codes "1") no_relations

abbrev foo_2 : Pkg
foo_2 = package_of (codes "foo") (codes "2") no_relations

abbrev u : Universe
u = universe_of [] (indexed foo_1 ∷ indexed foo_2 ∷ []) (goal.Install (codes "foo") None ∷ [])

-- the clause of `goal 1` is `1 2`, and that of `same 1 2` is `-1 -2`
abbrev earlier : List Line
earlier = line.Premise (premise.Goal 1) ∷ line.Premise (premise.Same 1 2) ∷ []

first_in : IsInLine u (line.Premise (premise.Goal 1)) (literal.Selected 1)
first_in = (indexed foo_1, refl, (goal.Install (codes "foo") None, refl, (refl, tt)))

second_in : IsInLine u (line.Premise (premise.Goal 1)) (literal.Selected 2)
second_in = (indexed foo_2, refl, (goal.Install (codes "foo") None, refl, (refl, tt)))

abbrev number_of : Literal → ℕ
number_of (literal.Selected number) = number
number_of (literal.Unselected number) = number

-- `derive : 1 2` as the third line: in the clause of the first hint two literals are not false yet
pub two_open : ¬ IsGoodLine u earlier (line.Derived [] (1 ∷ 2 ∷ []))
two_open follows =
    let one : HasOneOpen (Contains []) (IsInLine u (line.Premise (premise.Goal 1))) =
    subst (λ l. HasOneOpen (Contains []) (IsInLine u l)) (sym (same_Some (line.Premise (premise.Goal 1)) follows.0 follows.1)) follows.2.0 in
    let same : 1 ≡ 2 = ap number_of (one (literal.Selected 1) (literal.Selected 2)
    (first_in, Contains-nil (literal.Selected 1)) (second_in, Contains-nil (literal.Selected 2))) in
    omega (arith, same)

-- `derive : 3` as the third line has itself as a hint, and `derive : 0` none that is a line
pub no_hint_itself : ¬ IsGoodLine u earlier (line.Derived [] (3 ∷ []))
no_hint_itself follows = absurd (let e : None ≡ Some follows.0 = follows.1 in cc)

pub no_hint_0 : ¬ IsGoodLine u earlier (line.Derived [] (0 ∷ []))
no_hint_0 follows = absurd (let e : None ≡ Some follows.0 = follows.1 in cc)

-- a line without hints doesn't follow
pub no_hints : ¬ IsGoodLine u earlier (line.Derived [] [])
no_hints follows = follows

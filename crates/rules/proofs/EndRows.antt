-- What is against an end: foo is left unpacked, or nothing was done (`foo 1.0; Depends: bar`, `install foo`).
use Rattle.std.proofs.Common.{true, false, ◌≡◌, ℕ, ◌<◌, List, [], ◌∷◌, ◌⊎◌, Some, None, refl, sym, ap, subst, ◌∙◌, lit<, arith}
use Rattle.std.specs.Prelude.{codes}
use Rattle.std.specs.List.{Contains}
use Rattle.std.specs.declared.cmp.Ordering.TheVariants.{Less, Equal, Greater}
use Rattle.rules.specs.Database.{Record, IsUnfinished}
use Rattle.rules.specs.Package.{Pkg}
use Rattle.rules.specs.Run.{IsAgainst, IsFirstAgainst, IsUnfulfilled, reason_cmp}
use Rattle.rules.specs.Step.{no_relations}
use Rattle.rules.specs.Universe.{Universe}
use Rattle.rules.specs.declared.goal.Goal.TheVariants as goal
use Rattle.rules.specs.declared.status.State.TheVariants.{Unpacked, Installed}
use Rattle.rules.specs.declared.step.Reason.{Reason}
use Rattle.rules.specs.declared.step.Reason.TheVariants as reason
use Rattle.std.proofs.lemmas.Cmp.{ranked}
use mathlib.Core.Logic.{inl, inr}
use Rattle.rules.specs.ElementLaws.{Any-elim, Contains-nil, Contains-cons}
use Rattle.rules.proofs.Rows.{any_of, package_of, record_of, indexed, universe_of}

abbrev bar_1 : Pkg
bar_1 = package_of (codes "bar") (codes "1.0") no_relations

abbrev foo_1 : Pkg
foo_1 = package_of (codes "foo") (codes "1.0") (record no_relations { depends = (any_of (codes "bar") ∷ []) ∷ [] })

abbrev u : Universe
u = universe_of [] (indexed bar_1 ∷ indexed foo_1 ∷ []) (goal.Install (codes "foo") None ∷ [])

-- nothing was done: the first goal isn't fulfilled, and there is nothing else against it
pub nothing_done : IsFirstAgainst u [] (reason.Goal 1)
unfolding IsUnfulfilled
nothing_done = record {
  against = (0, goal.Install (codes "foo") None, omega arith, refl, λ fulfilled. absurd (omega (arith, fulfilled.0.2)));
  least = least;
}
  where
    least : (other : Reason) → IsAgainst u [] other → ¬ (reason_cmp other (reason.Goal 1) ≡ Less)
    least (reason.Unfinished name) against is = omega (arith, against.2)
    least (reason.Relation name) against is = omega (arith, against.2)
    least (reason.Essential name) against is = omega (arith, against.2)
    least (reason.Goal number) against is = let below : number < 1 = ranked number 1 Less (sym is) in omega (arith, against.2)

-- foo was unpacked and not configured: that is the first thing against the end
abbrev left_unpacked : List Record
left_unpacked = record_of Installed (Some (codes "1.0")) bar_1 ∷ record_of Unpacked None foo_1 ∷ []

pub foo_unfinished : IsFirstAgainst u left_unpacked (reason.Unfinished (codes "foo"))
foo_unfinished = record {
  against = (1, record_of Unpacked None foo_1, lit< tt, refl, (refl, refl));
  least = least;
}
  where
    later : (name : List ℕ) (entry : Record) → (record_of Unpacked None foo_1 ≡ entry) ⊎ Contains [] entry → entry.name ≡ name
        → reason_cmp (reason.Unfinished name) (reason.Unfinished (codes "foo")) ≡ Less → ⊥
    later name entry (inl same) named is = absurd (let e : Equal ≡ Less = subst P (sym named ∙ ap (λ (r : Record). r.name) (sym same)) is in cc)
      where
        P : List ℕ → Type 0
        P n = reason_cmp (reason.Unfinished n) (reason.Unfinished (codes "foo")) ≡ Less
    later name entry (inr none) named is = Contains-nil entry none

    unfinished : (name : List ℕ) (entry : Record) → (record_of Installed (Some (codes "1.0")) bar_1 ≡ entry) ⊎ Contains (record_of Unpacked None foo_1 ∷ []) entry
        → entry.name ≡ name → IsUnfinished entry → reason_cmp (reason.Unfinished name) (reason.Unfinished (codes "foo")) ≡ Less → ⊥
    unfinished name entry (inl same) named open_ is = absurd (let P : Record → Type 0 = λ r. IsUnfinished r in
        let e : false ≡ true = subst P (sym same) open_ in cc)
    unfinished name entry (inr there) named open_ is =
        later name entry (Contains-cons (record_of Unpacked None foo_1) [] entry there) named is

    least : (other : Reason) → IsAgainst u left_unpacked other → ¬ (reason_cmp other (reason.Unfinished (codes "foo")) ≡ Less)
    least (reason.Unfinished name) against is = Any-elim (λ entry. (entry.name ≡ name) × IsUnfinished entry) left_unpacked ⊥
        (λ entry within both. unfinished name entry
        (Contains-cons (record_of Installed (Some (codes "1.0")) bar_1) (record_of Unpacked None foo_1 ∷ []) entry within) both.0 both.1 is) against
    least (reason.Relation name) against is = absurd (let e : Greater ≡ Less = is in cc)
    least (reason.Essential name) against is = absurd (let e : Greater ≡ Less = is in cc)
    least (reason.Goal number) against is = absurd (let e : Greater ≡ Less = is in cc)

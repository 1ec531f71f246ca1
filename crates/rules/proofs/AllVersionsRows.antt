-- A version that isn't the candidate is admitted where all versions are asked for, and not without: an index of the
-- suite `stable` has `foo 1` and `libx 1`, one of the suite `testing` has `libx 2`, nothing is present, and the
-- request is to install foo.
use Rattle.std.proofs.Common.{◌≡◌, ℕ, ℤ, pos, Bool, true, false, List, [], ◌∷◌, Some, None, refl, sym, subst, arith}
use Rattle.std.specs.Prelude.{codes, ◌≤ℤ◌}
use Rattle.std.specs.List.{Any}
use Rattle.std.specs.declared.cmp.Ordering.TheVariants.{Greater}
use Rattle.std.proofs.lemmas.Int.{ints}
use Rattle.std.proofs.lemmas.List.Elements.{All-nil, All-cons}
use Rattle.rules.specs.Available.{Inputs}
use Rattle.rules.specs.Database.{Record}
use Rattle.rules.specs.ElementLaws.{Any-elim, Contains-cons, Contains-head, Contains-nil}
use Rattle.rules.specs.Priority.{HasPriority, IsCandidate, IsDowngrade, IsEligible, IsUpTo}
use Rattle.rules.specs.Step.{IndexPackage, no_relations}
use Rattle.rules.specs.Universe.{IsAdmitted, IsOffered, NamesExactly, StandsAs}
use Rattle.rules.specs.Version.{version_cmp}
use Rattle.rules.specs.declared.goal.Goal.TheVariants as goal
use Rattle.rules.specs.declared.release.Release.{Release}
use Rattle.rules.proofs.Rows.{package_of}
use mathlib.Core.Logic.{inl, inr}

abbrev suite : List ℕ → Release
suite name = record {
  archive = None;
  suite = Some name;
  codename = None;
  version = None;
  component = None;
  origin = None;
  label = None;
  host = [];
  not_automatic = false;
  but_automatic_upgrades = false;
}

abbrev listed : List ℕ → List ℕ → ℕ → ℕ → IndexPackage
listed name version index stanza =
    record { pkg = package_of name version no_relations; is_essential = false; says_essential = false; place = record { index = index; stanza = stanza } }

abbrev asking : Bool → Inputs
asking asks_all_versions = record {
  start = [];
  indices = record { release = suite (codes "stable"); listed = listed (codes "foo") (codes "1") 1 1 ∷ listed (codes "libx") (codes "1") 1 2 ∷ [] }
      ∷ record { release = suite (codes "testing"); listed = listed (codes "libx") (codes "2") 2 1 ∷ [] } ∷ [];
  preferences = [];
  target = None;
  request = record { goals = goal.Install (codes "foo") None ∷ []; asks_all_versions = asks_all_versions };
}

-- of nothing at the start nothing holds
none_present : (P : Record → Type 0) → Any P [] → ⊥
none_present P some = Any-elim P [] ⊥ (λ entry within holds. Contains-nil entry within) some

-- both versions of libx have the priority 500, and libx 1 has no other
priority_1 : (all : Bool) → HasPriority (asking all) (codes "libx") (codes "1") (pos 500)
unfolding HasPriority version_cmp
priority_1 all = (Contains-head (pos 500) [], All-cons (λ (n : ℤ). n ≤ℤ pos 500) (pos 500) [] (omega (arith, ints)) (All-nil (λ (n : ℤ). n ≤ℤ pos 500)))

priority_2 : (all : Bool) → HasPriority (asking all) (codes "libx") (codes "2") (pos 500)
unfolding HasPriority version_cmp
priority_2 all = (Contains-head (pos 500) [], All-cons (λ (n : ℤ). n ≤ℤ pos 500) (pos 500) [] (omega (arith, ints)) (All-nil (λ (n : ℤ). n ≤ℤ pos 500)))

only_priority_1 : (priority : ℤ) → HasPriority (asking false) (codes "libx") (codes "1") priority → pos 500 ≡ priority
unfolding HasPriority version_cmp
only_priority_1 priority has = elim (Contains-cons (pos 500) [] priority has.0) [
  | inl same ↦ same
  | inr later ↦ absurd (Contains-nil priority later)
]

eligible_1 : (all : Bool) → IsEligible (asking all) (codes "libx") (codes "1") (pos 500)
unfolding IsEligible IsDowngrade
eligible_1 all = (priority_1 all, omega (arith, ints), λ below lower. none_present _ lower)

eligible_2 : (all : Bool) → IsEligible (asking all) (codes "libx") (codes "2") (pos 500)
unfolding IsEligible IsDowngrade
eligible_2 all = (priority_2 all, omega (arith, ints), λ below lower. none_present _ lower)

later : version_cmp (codes "2") (codes "1") ≡ Greater
unfolding version_cmp
later = refl

-- libx 1 isn't the candidate, since libx 2 is later
no_candidate : (priority : ℤ) → ¬ IsCandidate (asking false) (codes "libx") (codes "1") priority
unfolding IsEligible IsUpTo
no_candidate priority best =
    let same : pos 500 ≡ priority = only_priority_1 priority best.eligible.0 in
    elim (best.greatest (codes "2") (pos 500) (eligible_2 false)) [
      | inl below ↦ omega (arith, ints, below, same)
      | inr tie ↦ tie.1 later
    ]

no_exact_goal : ¬ Any (NamesExactly (codes "libx") (codes "1")) (goal.Install (codes "foo") None ∷ [])
no_exact_goal some = Any-elim (NamesExactly (codes "libx") (codes "1")) (goal.Install (codes "foo") None ∷ []) ⊥
    (λ asked within exactly. elim (Contains-cons (goal.Install (codes "foo") None) [] asked within) [
      | inl same ↦ subst (NamesExactly (codes "libx") (codes "1")) (sym same) exactly
      | inr beyond ↦ absurd (Contains-nil asked beyond)
    ]) some

admitted_with_the_mark : IsAdmitted (asking true) (codes "libx") (codes "1")
unfolding IsAdmitted IsOffered
admitted_with_the_mark = inr (λ held. none_present _ held, inr (inr (refl, (pos 500, eligible_1 true))))

not_without : ¬ IsAdmitted (asking false) (codes "libx") (codes "1")
unfolding IsAdmitted IsOffered StandsAs
not_without (inl stands) = none_present _ stands
not_without (inr (unheld, inl (priority, best))) = no_candidate priority best
not_without (inr (unheld, inr (inl asked))) = no_exact_goal asked.1
not_without (inr (unheld, inr (inr all))) = absurd (let e : false ≡ true = all.0 in cc)

-- libx 1 is admitted where all versions are asked for, and not without
pub all_versions_rows : IsAdmitted (asking true) (codes "libx") (codes "1") × (¬ IsAdmitted (asking false) (codes "libx") (codes "1"))
all_versions_rows = (admitted_with_the_mark, not_without)

-- Which records have package names while a change is underway.
use Rattle.std.proofs.Common.{◌≡◌, ℕ, Bool, List, ◌<◌, length, get_or, map, sym, subst}
use Rattle.std.specs.Prelude.{IsTrue}
use Rattle.std.specs.List.{Contains, filter}
use Rattle.std.proofs.lemmas.List.Elements.{All-contains, Contains-append_cases}
use Rattle.rules.specs.Database.{Record, IsPresent, pkg_of}
use Rattle.rules.specs.ElementLaws.{All-intro, Contains-filter, Contains-map}
use Rattle.rules.specs.Name.{is_name}
use Rattle.rules.specs.Package.{Pkg}
use Rattle.rules.specs.Sound.{selected}
use Rattle.rules.specs.State.{is_present_state}
use Rattle.rules.specs.Universe.{Pair, Universe}
use Rattle.plain.specs.Change.{old_and_new}
use Rattle.plain.specs.Underway.{HasOldAndNew}
use Rattle.plain.proofs.MemberLemmas.{picked}
use Rattle.plain.proofs.UnderwayLemmas.{underway_has_old_and_new}
use Rattle.fixed_order.specs.Problem.{IsProblem, IsUnderwayOn, members_in}
use Rattle.refutation.specs.Selection.{selects}
use Rattle.fixed_order.specs.Names.{AreNamed}
use Rattle.rules.specs.Names.{HasNames, HasPairNames}
use Rattle.fixed_order.specs.declared.problem.Problem.{Problem}
use mathlib.Core.Logic.{inl, inr}

-- the selected packages have package names where all pairs do
pub selected_named : (u : Universe) (selection : ℕ → Bool) → HasPairNames u → AreNamed (selected u selection)
selected_named u selection named = All-intro (λ (pkg : Pkg). IsTrue (is_name pkg.name)) (selected u selection) (λ pkg within.
    let its_pair = picked u selection pkg within in
    subst (λ (p : Pkg). IsTrue (is_name p.name)) its_pair.2
    (All-contains (λ (pair : Pair). IsTrue (is_name pair.pkg.name)) u.pairs its_pair.0 named its_pair.1))

-- of packages with package names those that pass a test have them
pub filtered_named : (p : Pkg → Bool) (pkgs : List Pkg) → AreNamed pkgs → AreNamed (filter p pkgs)
filtered_named p pkgs named = All-intro (λ (pkg : Pkg). IsTrue (is_name pkg.name)) (filter p pkgs) (λ pkg within.
    All-contains (λ (pkg : Pkg). IsTrue (is_name pkg.name)) pkgs pkg named (Contains-filter p pkgs pkg within).0)

-- what was present at the start or is selected has a package name
old_or_new_named : (start : List Record) (members : List Pkg) → HasNames start → AreNamed members → (pkg : Pkg)
    → Contains (old_and_new start members) pkg → IsTrue (is_name pkg.name)
old_or_new_named start members named selected pkg within =
    elim (Contains-append_cases (map pkg_of (filter (λ (entry : Record). is_present_state entry.state) start)) members pkg within) [
      | inl old ↦
          let entry = Contains-map pkg_of (filter (λ (r : Record). is_present_state r.state) start) pkg old in
          let there = Contains-filter (λ (r : Record). is_present_state r.state) start entry.0 entry.1 in
          subst (λ (p : Pkg). IsTrue (is_name p.name)) entry.2
          (All-contains (λ (r : Record). IsTrue (is_name r.name)) start entry.0 named there.0)
      | inr fresh ↦ All-contains (λ (p : Pkg). IsTrue (is_name p.name)) members pkg selected fresh
    ]

-- a present record has a package name
pub present_named : (problem : Problem) (db : List Record) → IsProblem problem → IsUnderwayOn problem db → (entry : Record)
    → Contains db entry → IsPresent entry → IsTrue (is_name entry.name)
unfolding HasOldAndNew
present_named problem db is underway entry there present =
    old_or_new_named problem.start.now (members_in problem) is.start_names
    (selected_named problem.universe.now (selects problem.selection.now) is.pair_names) (pkg_of entry)
    (All-contains (λ (r : Record). IsPresent r → Contains (old_and_new problem.start.now (members_in problem)) (pkg_of r)) db entry
    (underway_has_old_and_new problem.universe.now problem.start.now (members_in problem) db underway) there present)

-- a record at a place that is present has a package name
pub record_named : (problem : Problem) (db items : List Record) (place : ℕ) (entry : Record) (name : List ℕ) → IsProblem problem
    → IsUnderwayOn problem db → items ≡ db → place < length items → entry ≡ get_or items place entry → IsPresent entry
    → name ≡ entry.name → IsTrue (is_name name)
record_named problem db items place entry name is underway same within at present named =
    subst (λ (n : List ℕ). IsTrue (is_name n)) (sym named) (present_named problem db is underway entry
    (subst (λ (all : List Record). Contains all entry) same (place, within, sym at)) present)

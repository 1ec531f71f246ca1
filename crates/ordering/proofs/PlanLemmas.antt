-- Steps that install just the packages of a selection are a plan for it.
use Rattle.std.proofs.Common.{◌≡◌, ℕ, zero, suc, List, [], ◌∷◌, Option, refl, sym, ap, subst, ◌∙◌}
use Rattle.std.specs.Prelude.{◌↔◌}
use Rattle.std.specs.List.{Contains, cons_option}
use Rattle.refutation.specs.Selection.{selects}
use Rattle.order.specs.Order.{InstalledAreSelected, IsPlanFor}
use Rattle.forward_steps.specs.Selection.{chosen}
use Rattle.plain.specs.PhaseLaws.{EndsWell, HasJust}
use Rattle.plainness.specs.Members.{numbered_members, pkg_of_number}
use Rattle.plainness.proofs.MemberLemmas.{same_members}
use Rattle.rules.specs.Database.{IsQuiet, Record, installed_of}
use Rattle.rules.specs.ElementLaws.{All-intro, Any-intro}
use Rattle.rules.specs.Minimal.{pkg_at}
use Rattle.rules.specs.Package.{Pkg}
use Rattle.rules.specs.Sound.{HasVersion, selected}
use Rattle.rules.specs.Universe.{IsOf, Universe}
use Rattle.rules.specs.VersionOrderLaws.{SameVersion-refl}
use Rattle.rules.specs.declared.step.Step.{Step}

-- the package of a number, however it is looked up
same_package : (u : Universe) (number : ℕ) → pkg_at u number ≡ pkg_of_number u number
same_package u zero = refl
same_package u (suc place) = refl

chosen_members : (u : Universe) (numbers : List ℕ) → chosen u numbers ≡ numbered_members u numbers
chosen_members u [] = refl
chosen_members u (number ∷ numbers) =
    ap (λ (maybe_pkg : Option Pkg). cons_option maybe_pkg (chosen u numbers)) (same_package u number)
    ∙ ap (cons_option (pkg_of_number u number)) (chosen_members u numbers)

-- the packages of the numbers are those that are selected
pub same_chosen : (u : Universe) (numbers : List ℕ) (pkg : Pkg)
    → Contains (chosen u numbers) pkg ↔ Contains (selected u (selects numbers)) pkg
same_chosen u numbers pkg = subst (λ (pkgs : List Pkg). Contains pkgs pkg ↔ Contains (selected u (selects numbers)) pkg)
    (sym (chosen_members u numbers)) (same_members u numbers pkg)

-- a package that is there is there in its version
has_own_version : (pkgs : List Pkg) (pkg : Pkg) → Contains pkgs pkg → HasVersion pkg.name pkg.version pkgs
unfolding HasVersion
has_own_version pkgs pkg within = Any-intro (IsOf pkg.name pkg.version) pkgs pkg within (refl, SameVersion-refl pkg.version)

-- where just the selected packages are installed, each is so in its version
pub exact_where_just : (u : Universe) (numbers : List ℕ) (db : List Record) → HasJust (selected u (selects numbers)) db
    → InstalledAreSelected (chosen u numbers) db
unfolding HasJust
exact_where_just u numbers db just = record {
  are_selected = All-intro (λ (member : Pkg). HasVersion member.name member.version (chosen u numbers)) (installed_of db)
      (λ member within. has_own_version (chosen u numbers) member ((same_chosen u numbers member).1 ((just member).0 within)));
  are_installed = All-intro (λ (pkg : Pkg). HasVersion pkg.name pkg.version (installed_of db)) (chosen u numbers)
      (λ pkg within. has_own_version (installed_of db) pkg ((just pkg).1 ((same_chosen u numbers pkg).0 within)));
}

-- steps that end well are a plan
pub plan_that_ends_well : (u : Universe) (start finish : List Record) (numbers : List ℕ) (steps : List Step) → IsQuiet start
    → EndsWell u start (selected u (selects numbers)) steps finish → IsPlanFor u start (chosen u numbers) steps
plan_that_ends_well u start finish numbers steps quiet well = record {
  quiet = quiet;
  finish = finish;
  run = well.run;
  wanted = record { good = well.good; exact = exact_where_just u numbers finish well.installed };
}

-- An order for packages is one for their names and versions alone.
use Rattle.std.proofs.Common.{◌≡◌, ℕ, List, map, sym, subst}
use Rattle.std.specs.List.{Any}
use Rattle.std.proofs.lemmas.List.Elements.{All-contains, All-map, All-weaker}
use Rattle.rules.specs.Database.{Record, installed_of}
use Rattle.rules.specs.ElementLaws.{All-intro, Any-elim, Any-intro, Any-weaker, Contains-map, Contains-map_intro}
use Rattle.rules.specs.Package.{Pkg}
use Rattle.rules.specs.Sound.{HasMember, HasVersion}
use Rattle.rules.specs.Universe.{IsOf, Universe}
use Rattle.rules.specs.declared.step.Step.{Step}
use Rattle.rules.specs.declared.step.Step.TheVariants as step
use Rattle.forward_steps.specs.Forward.{IsAtRest, IsForward, IsOfSelected}
use Rattle.order.specs.Order.{InstalledAreSelected, IsOrder, IsWantedEnd}
use Rattle.forward_steps.specs.Selection.{bare}
use Rattle.order.specs.declared.ordered.Ordered.{Ordered}
use Rattle.order.specs.declared.ordered.Ordered.TheVariants as ordered

-- what holds of some package by its name and version
any_bare : (P : Pkg → Type 0) → ((pkg : Pkg) → P pkg → P (bare pkg)) → (selected : List Pkg) → Any P selected → Any P (map bare selected)
any_bare P still selected some = Any-elim P selected (Any P (map bare selected))
    (λ pkg within holds. Any-intro P (map bare selected) (bare pkg) (Contains-map_intro bare selected pkg within) (still pkg holds)) some

any_from_bare : (P : Pkg → Type 0) → ((pkg : Pkg) → P (bare pkg) → P pkg) → (selected : List Pkg) → Any P (map bare selected) → Any P selected
any_from_bare P back selected some = Any-elim P (map bare selected) (Any P selected)
    (λ pkg within holds. let from = Contains-map bare selected pkg within in
    Any-intro P selected from.0 from.1 (back from.0 (subst P (sym from.2) holds))) some

version_bare : (name version : List ℕ) (selected : List Pkg) → HasVersion name version selected → HasVersion name version (map bare selected)
unfolding HasVersion
version_bare name version selected has = any_bare (IsOf name version) (λ pkg is. is) selected has

version_from_bare : (name version : List ℕ) (selected : List Pkg) → HasVersion name version (map bare selected) → HasVersion name version selected
unfolding HasVersion
version_from_bare name version selected has = any_from_bare (IsOf name version) (λ pkg is. is) selected has

member_from_bare : (name : List ℕ) (selected : List Pkg) → HasMember name (map bare selected) → HasMember name selected
unfolding HasMember
member_from_bare name selected has = any_from_bare (λ (pkg : Pkg). pkg.name ≡ name) (λ pkg is. is) selected has

-- Ends

exact_bare : (selected : List Pkg) (db : List Record) → InstalledAreSelected selected db → InstalledAreSelected (map bare selected) db
exact_bare selected db exact = record {
  are_selected = All-weaker (λ (member : Pkg). HasVersion member.name member.version selected)
      (λ (member : Pkg). HasVersion member.name member.version (map bare selected))
      (λ member has. version_bare member.name member.version selected has) (installed_of db) exact.are_selected;
  are_installed = All-map (λ (pkg : Pkg). HasVersion pkg.name pkg.version (installed_of db)) bare selected exact.are_installed;
}

exact_from_bare : (selected : List Pkg) (db : List Record) → InstalledAreSelected (map bare selected) db → InstalledAreSelected selected db
exact_from_bare selected db exact = record {
  are_selected = All-weaker (λ (member : Pkg). HasVersion member.name member.version (map bare selected))
      (λ (member : Pkg). HasVersion member.name member.version selected)
      (λ member has. version_from_bare member.name member.version selected has) (installed_of db) exact.are_selected;
  are_installed = All-intro (λ (pkg : Pkg). HasVersion pkg.name pkg.version (installed_of db)) selected (λ pkg within.
      All-contains (λ (p : Pkg). HasVersion p.name p.version (installed_of db)) (map bare selected) (bare pkg) exact.are_installed
      (Contains-map_intro bare selected pkg within));
}

wanted_from_bare : (u : Universe) (selected : List Pkg) (db : List Record) → IsWantedEnd u (map bare selected) db → IsWantedEnd u selected db
wanted_from_bare u selected db wanted = record { good = wanted.good; exact = exact_from_bare selected db wanted.exact }

wanted_bare : (u : Universe) (selected : List Pkg) (db : List Record) → IsWantedEnd u selected db → IsWantedEnd u (map bare selected) db
wanted_bare u selected db wanted = record { good = wanted.good; exact = exact_bare selected db wanted.exact }

-- Steps

forward_bare : (u : Universe) (selected : List Pkg) (db : List Record) (taken : Step) → IsForward u selected db taken
    → IsForward u (map bare selected) db taken
unfolding IsOfSelected
forward_bare u selected db (step.Unpack name version) forward =
    (forward.0, any_bare (λ (pkg : Pkg). (pkg.name ≡ name) × (pkg.version ≡ version)) (λ pkg is. is) selected forward.1)
forward_bare u selected db (step.Deconfigure name) forward = forward
forward_bare u selected db (step.Configure names) forward = (
  forward.0,
  All-weaker (IsOfSelected selected db) (IsOfSelected (map bare selected) db) (λ name of. (
    of.0,
    Any-weaker (λ entry. (entry.name ≡ name) × HasVersion name entry.version selected)
        (λ entry. (entry.name ≡ name) × HasVersion name entry.version (map bare selected)) db
        (λ entry within both. (both.0, version_bare name entry.version selected both.1)) of.1,
  )) names forward.1,
)
forward_bare u selected db (step.Remove name) forward = (forward.0, λ has. forward.1 (member_from_bare name selected has))
forward_bare u selected db (step.Purge name) forward = forward

rest_from_bare : (u : Universe) (selected : List Pkg) (db : List Record) → IsAtRest u (map bare selected) db → IsAtRest u selected db
unfolding IsAtRest
rest_from_bare u selected db rest taken forward = rest taken (forward_bare u selected db taken forward)

-- Orders

pub order_from_bare : (u : Universe) (start : List Record) (selected : List Pkg) (answer : Ordered) → IsOrder u start (map bare selected) answer
    → IsOrder u start selected answer
order_from_bare u start selected (ordered.Plan steps) plan = record {
  quiet = plan.quiet;
  finish = plan.finish;
  run = plan.run;
  wanted = wanted_from_bare u selected plan.finish plan.wanted;
}
order_from_bare u start selected ordered.Start loud = loud
order_from_bare u start selected (ordered.Stuck steps) blocked = record {
  quiet = blocked.quiet;
  finish = blocked.finish;
  run = blocked.run;
  unwanted = λ wanted. blocked.unwanted (wanted_bare u selected blocked.finish wanted);
  rest = rest_from_bare u selected blocked.finish blocked.rest;
}

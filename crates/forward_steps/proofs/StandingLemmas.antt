-- Which selected packages stand, before a step and after it.
use Rattle.std.proofs.Common.{◌≡◌, ◌≢◌, ℕ, true, false, List, ◌&&◌, Option, Some, None, inl, inr, refl, sym, ap, subst, ◌∙◌, bytes_eq, get_or, length, ◌<◌}
use Rattle.std.specs.List.{AllPairs, Any, Contains, find, list_any}
use Rattle.std.specs.Option.{option_and_then}
use Rattle.std.specs.Ordering.{is_eq}
use Rattle.std.specs.Prelude.{MatchOption, ⊤}
use Rattle.std.specs.declared.cmp.Ordering.{Ordering}
use Rattle.std.specs.declared.cmp.Ordering.TheVariants.{Less, Equal, Greater}
use Rattle.std.proofs.lemmas.Bool.{cases_order}
use Rattle.std.proofs.lemmas.List.{get_or_default}
use Rattle.std.proofs.lemmas.List.Elements.{All-contains}
use Rattle.rules.specs.Available.{is_of, same_version}
use Rattle.rules.specs.Database.{Record, Stands, stands}
use Rattle.rules.specs.ElementLaws.{Any-elim, Any-from_list_any, Any-intro, list_any-from_contains}
use Rattle.rules.specs.NamedLaws.{bytes_eq-true, bytes_eq-same}
use Rattle.rules.specs.Package.{Pkg}
use Rattle.rules.specs.Step.{IndexPackage, is_named, unpacked_with}
use Rattle.rules.specs.Universe.{Pair, Universe, IsOf, StandsAs, listed_of}
use Rattle.rules.specs.Verdict.{IsBuiltOn}
use Rattle.rules.specs.Version.{SameVersion, version_cmp}
use Rattle.rules.specs.VersionOrderLaws.{same_version_equivalence}
use Rattle.rules.proofs.EndLemmas.{both_true}
use Rattle.universe_parts.specs.FindLaws.{find-some}
use Rattle.forward_steps.specs.Work.{is_standing}

-- an order that passes the test is equality
pub equal_from_test : (ordering : Ordering) → is_eq ordering ≡ true → ordering ≡ Equal
equal_from_test Less is = absurd (let e : false ≡ true = is in cc)
equal_from_test Equal is = refl
equal_from_test Greater is = absurd (let e : false ≡ true = is in cc)

-- what a version test passes is the name and the version
pub of_from_test : (name version : List ℕ) (pkg : Pkg) → is_of name version pkg ≡ true → IsOf name version pkg
of_from_test name version pkg is =
    let both = both_true (bytes_eq pkg.name name) (same_version pkg.version version) is in
    (bytes_eq-true pkg.name name both.0, equal_from_test (version_cmp pkg.version version) both.1)

pub test_from_of : (name version : List ℕ) (pkg : Pkg) → IsOf name version pkg → is_of name version pkg ≡ true
test_from_of name version pkg is = rw (bytes_eq-same pkg.name name is.0, is.1) refl

-- Elements of different names

-- of two elements that stand at two places one is before the other
pub the_only : {X : Type 0} (name_of : X → List ℕ) (xs : List X) → AllPairs (λ earlier later. name_of earlier ≢ name_of later) xs
    → (x y : X) → Contains xs x → Contains xs y → name_of x ≡ name_of y → x ≡ y
the_only name_of xs distinct x y (i, i_in, i_is) (j, j_in, j_is) same = elim (cases_order i j) [
  | inl equal ↦ sym i_is ∙ ap (λ k. get_or xs k x) equal ∙ either j j_in ∙ j_is
  | inr (inl before) ↦ absurd (distinct i j x before j_in (ap name_of i_is ∙ same ∙ ap name_of (sym j_is) ∙ ap name_of (sym (either j j_in))))
  | inr (inr behind) ↦ absurd (distinct j i y behind i_in (ap name_of j_is ∙ sym same ∙ ap name_of (sym i_is) ∙ ap name_of (either i i_in)))
]
  where
    either : (k : ℕ) → k < length xs → get_or xs k x ≡ get_or xs k y
    either k within = get_or_default xs k x y within

-- What stands

pub standing_parts : (pkg : Pkg) (entry : Record) → is_standing pkg entry ≡ true
    → (entry.name ≡ pkg.name) × (stands entry ≡ true) × SameVersion entry.version pkg.version
standing_parts pkg entry is =
    let outer = both_true (is_named pkg.name entry) (stands entry && is_eq (version_cmp entry.version pkg.version)) is in
    let inner = both_true (stands entry) (is_eq (version_cmp entry.version pkg.version)) outer.1 in
    (bytes_eq-true entry.name pkg.name outer.0, inner.0, equal_from_test (version_cmp entry.version pkg.version) inner.1)

pub standing_from : (pkg : Pkg) (entry : Record) → entry.name ≡ pkg.name → stands entry ≡ true
    → SameVersion entry.version pkg.version → is_standing pkg entry ≡ true
standing_from pkg entry named is same = rw (bytes_eq-same entry.name pkg.name named, is, same) refl

-- a package stands as a version exactly where a record passes the test
pub stands-as : (pkg : Pkg) (db : List Record) → list_any (is_standing pkg) db ≡ true → StandsAs db pkg.name pkg.version
unfolding StandsAs
stands-as pkg db some = Any-elim (λ entry. is_standing pkg entry ≡ true) db
    (Any (λ entry. (entry.name ≡ pkg.name) × (Stands entry × SameVersion entry.version pkg.version)) db)
    (λ entry within is. let parts = standing_parts pkg entry is in
    Any-intro (λ entry. (entry.name ≡ pkg.name) × (Stands entry × SameVersion entry.version pkg.version)) db entry within
    (parts.0, (parts.1, parts.2)))
    (Any-from_list_any (is_standing pkg) db some)

-- it stands after where each record in which it stands has one after in which it does
pub standing_kept : (pkg : Pkg) (old new : List Record)
    → ((entry : Record) → Contains old entry → is_standing pkg entry ≡ true
    → (after : Record) × Contains new after × (is_standing pkg after ≡ true))
    → list_any (is_standing pkg) old ≡ true → list_any (is_standing pkg) new ≡ true
standing_kept pkg old new kept some = Any-elim (λ entry. is_standing pkg entry ≡ true) old (list_any (is_standing pkg) new ≡ true)
    (λ entry within is. let after = kept entry within is in list_any-from_contains (is_standing pkg) new after.0 after.1 after.2)
    (Any-from_list_any (is_standing pkg) old some)

-- what is unpacked stands
pub unpacked_stands : (pkg : Pkg) (listed : IndexPackage) (config_version : Option (List ℕ)) → listed.pkg.name ≡ pkg.name
    → SameVersion listed.pkg.version pkg.version → is_standing pkg (unpacked_with listed config_version) ≡ true
unpacked_stands pkg listed config_version named same = standing_from pkg (unpacked_with listed config_version) named refl same

-- the stanza that an unpacking takes has the name and the version
pub stanza_is : (start : List Record) (u : Universe) → IsBuiltOn start u → (name version : List ℕ) (listed : IndexPackage)
    → listed_of u name version ≡ Some listed → (listed.pkg.name ≡ name) × SameVersion listed.pkg.version version
stanza_is start u built name version listed is = at (find (λ (pair : Pair). is_of name version pair.pkg) u.pairs) refl is
  where
    at : (maybe_pair : Option Pair) → find (λ (pair : Pair). is_of name version pair.pkg) u.pairs ≡ maybe_pair
        → option_and_then (λ (pair : Pair). pair.listed) maybe_pair ≡ Some listed
        → (listed.pkg.name ≡ name) × SameVersion listed.pkg.version version
    at None none is = absurd (let e : None ≡ Some listed = is in cc)
    at (Some pair) some is =
        let there = find-some (λ (p : Pair). is_of name version p.pkg) u.pairs pair some in
        let asked : IsOf name version pair.pkg = of_from_test name version pair.pkg there.1 in
        let Q : Option IndexPackage → Type 0 = λ l. MatchOption l ⊤ (λ (l : IndexPackage). IsOf pair.pkg.name pair.pkg.version l.pkg) in
        let of : IsOf pair.pkg.name pair.pkg.version listed.pkg = subst Q is
        (All-contains (λ (p : Pair). MatchOption p.listed ⊤ (λ (l : IndexPackage). IsOf p.pkg.name p.pkg.version l.pkg)) u.pairs pair built.listed there.0) in
        (of.0 ∙ asked.0, same_version_equivalence.transitive listed.pkg.version pair.pkg.version version of.1 asked.1)

-- The order of stanzas ties just those of one name and version, a stable sort keeps those of a version as they were, and a
-- list that is sorted and freed of repetitions has the earliest of equal stanzas.
use Rattle.std.proofs.Common.{◌≡◌, ℕ, ◌+◌, Bool, true, not, ◌&&◌, List, get_or, length, refl, sym, ap, subst, ◌∙◌, arith, bytes_eq}
use Rattle.std.specs.Cmp.{Equal-is}
use Rattle.std.specs.List.{dedup}
use Rattle.std.specs.List.Sorted.{IsSorted, IsStable, ties}
use Rattle.std.specs.Ordering.{eq_by_cmp, is_eq, is_lt, ordering_reverse}
use Rattle.std.specs.declared.cmp.Ordering.{Ordering}
use Rattle.std.specs.declared.cmp.Ordering.TheVariants.{Less, Equal, Greater}
use Rattle.std.proofs.lemmas.List.{get_or-map, length-map}
use Rattle.std.proofs.lemmas.List.Elements.{filter_agree}
use Rattle.std.proofs.lemmas.List.Kept.{IsStrictlySortedBy-dedup}
use Rattle.std.proofs.lemmas.Map.Text.{is_eq-slice_cmp}
use Rattle.rules.specs.Available.{is_of, same_version}
use Rattle.rules.specs.Name.{name_cmp}
use Rattle.rules.specs.Package.{Pkg}
use Rattle.rules.specs.Priority.{status_origin}
use Rattle.rules.specs.Step.{IndexPackage, no_relations}
use Rattle.rules.specs.Universe.{IsOf}
use Rattle.rules.specs.Version.{version_cmp}
use Rattle.rules.specs.VersionOrderLaws.{version_cmp-same_left}
use Rattle.universe_parts.specs.PairLaws.{is_eq-then, is_of-from, is_of-parts}
use Rattle.candidates.specs.Place.{AreSorted, Place, place_at, place_cmp, stanzas_of}
use Rattle.candidates.specs.Stanza.{IsOrdered, listed_cmp}
use Rattle.candidates.specs.StanzaLaws.{listed_cmp_total, place_cmp_total}
use Rattle.candidates.proofs.Finding.{find-dedup}

-- the order ties a stanza with just the stanzas of its name and version
pub listed_cmp-ties : (stanza other : IndexPackage) → is_eq (listed_cmp stanza other) ≡ is_of other.pkg.name other.pkg.version stanza.pkg
listed_cmp-ties stanza other = is_eq-then (name_cmp stanza.pkg.name other.pkg.name) (version_cmp stanza.pkg.version other.pkg.version)
    ∙ ap (λ (b : Bool). b && same_version stanza.pkg.version other.pkg.version) (is_eq-slice_cmp stanza.pkg.name other.pkg.name)

pub listed_cmp-tied : (stanza other : IndexPackage) → IsOf other.pkg.name other.pkg.version stanza.pkg → listed_cmp stanza other ≡ Equal
listed_cmp-tied stanza other of = (Equal-is (listed_cmp stanza other)).0
    (listed_cmp-ties stanza other ∙ is_of-from other.pkg.name other.pkg.version stanza.pkg of)

-- stanzas that tie are of the same names and versions
pub is_of-alike : (name version : List ℕ) (stanza other : IndexPackage) → eq_by_cmp listed_cmp stanza other ≡ true
    → is_of name version stanza.pkg ≡ is_of name version other.pkg
is_of-alike name version stanza other tied =
    let of : IsOf other.pkg.name other.pkg.version stanza.pkg =
    is_of-parts other.pkg.name other.pkg.version stanza.pkg (sym (listed_cmp-ties stanza other) ∙ tied) in
    let names : bytes_eq stanza.pkg.name name ≡ bytes_eq other.pkg.name name = ap (λ (n : List ℕ). bytes_eq n name) of.0 in
    let versions : same_version stanza.pkg.version version ≡ same_version other.pkg.version version =
    ap is_eq (version_cmp-same_left stanza.pkg.version other.pkg.version version of.1) in
    cc

-- neither before the other is as much as tied
pub ties-eq : (o : Ordering) → (not (is_lt (ordering_reverse o)) && not (is_lt o)) ≡ is_eq o
ties-eq Less = refl
ties-eq Equal = refl
ties-eq Greater = refl

-- the order of places ties a place with just those of its name and version
ties_is_of : (sought place : Place)
    → ties (λ x y. is_lt (place_cmp x y)) sought place ≡ is_of sought.listed.pkg.name sought.listed.pkg.version place.listed.pkg
ties_is_of sought place =
    ap (λ (o : Ordering). not (is_lt o) && not (is_lt (place_cmp place sought))) (place_cmp_total.antisymm sought place)
    ∙ ties-eq (place_cmp place sought)
    ∙ listed_cmp-ties place.listed sought.listed

-- a stanza of the version, where nothing else counts
abbrev pub bare : Pkg → IndexPackage
bare pkg = record { pkg = pkg; is_essential = true; says_essential = true; place = record { index = 1; stanza = 1 } }

-- a stable sort keeps the places of a version as they were
pub AreSorted-from_sort : (places sorted : List Place) → IsSorted place_cmp sorted → IsStable place_cmp places sorted
    → AreSorted places sorted
AreSorted-from_sort places sorted up stable = record {
  ascending = up;
  kept = λ name version.
      let sought : Place = place_at status_origin.release (bare (record { name = name; version = version; relations = no_relations })) in
      let p : Place → Bool = λ place. is_of name version place.listed.pkg in
      let t : Place → Bool = ties (λ x y. is_lt (place_cmp x y)) sought in
      sym (filter_agree t p (ties_is_of sought) sorted) ∙ stable sought ∙ filter_agree t p (ties_is_of sought) places;
}

-- the stanzas of places in order are in order
sorted_stanzas : (sorted : List Place) → IsSorted place_cmp sorted → IsSorted listed_cmp (stanzas_of sorted)
sorted_stanzas sorted up k d low high =
    let e : Place = place_at status_origin.release d in
    let n : length (stanzas_of sorted) ≡ length sorted = length-map sorted (λ (place : Place). place.listed) in
    let later : get_or (stanzas_of sorted) (k + 1) d ≡ (get_or sorted (k + 1) e).listed =
    get_or-map (λ (place : Place). place.listed) sorted (k + 1) e d (omega (arith, n)) in
    let here : get_or (stanzas_of sorted) k d ≡ (get_or sorted k e).listed =
    get_or-map (λ (place : Place). place.listed) sorted k e d (omega (arith, n)) in
    rw (later, here) (up k e low (omega (arith, n)))

-- the stanzas of places in order that are freed of repetitions have the earliest of equal stanzas
pub IsOrdered-dedup : (sorted : List Place) (ordered : List IndexPackage) → IsSorted place_cmp sorted
    → ordered ≡ dedup (eq_by_cmp listed_cmp) (stanzas_of sorted) → IsOrdered (stanzas_of sorted) ordered
IsOrdered-dedup sorted ordered up same = subst (IsOrdered (stanzas_of sorted)) (sym same) (record {
  ascending = IsStrictlySortedBy-dedup listed_cmp_total (λ x y. refl) (stanzas_of sorted) (sorted_stanzas sorted up);
  earliest = λ name version.
      find-dedup (eq_by_cmp listed_cmp) (λ stanza. is_of name version stanza.pkg) (λ x k tied. is_of-alike name version x k tied)
      (stanzas_of sorted);
})

-- The records in the order of their names, and what a binary search finds among records and stanzas.
use Rattle.std.proofs.Common.{◌≡◌, ℕ, [], Bool, true, not, ◌&&◌, List, length, Ok, Err, None, refl, sym, ap, subst, ◌∙◌, bytes_eq}
use Rattle.std.specs.Cmp.{Equal-is}
use Rattle.std.specs.Cmp.Lexicographic.{nat_list_cmp_total}
use Rattle.std.specs.List.{Contains, dedup, find, slice_get}
use Rattle.std.specs.List.Sorted.{IsBinarySearchResult, IsSearchInRange, IsSorted, IsStable, IsStrictlySortedBy, ties}
use Rattle.std.specs.Ordering.{eq_by_cmp, is_lt}
use Rattle.std.specs.declared.cmp.Ordering.{Ordering}
use Rattle.std.proofs.lemmas.List.Elements.{filter_agree}
use Rattle.std.proofs.lemmas.List.Kept.{IsStrictlySortedBy-dedup}
use Rattle.std.proofs.lemmas.List.Sorted.{searchable_from_sorted}
use Rattle.std.proofs.lemmas.Map.Text.{is_eq-slice_cmp}
use Rattle.rules.specs.Available.{is_of}
use Rattle.rules.specs.Database.{Record}
use Rattle.rules.specs.Name.{name_cmp}
use Rattle.rules.specs.NamedLaws.{bytes_eq-true}
use Rattle.rules.specs.Step.{IndexPackage, is_named, no_relations}
use Rattle.rules.specs.declared.status.Flag.TheVariants as flags
use Rattle.rules.specs.declared.status.State.TheVariants.{NotInstalled}
use Rattle.rules.specs.declared.status.Want.TheVariants.{Unknown}
use Rattle.universe_parts.specs.FindLaws.{not_back, sorted-one}
use Rattle.universe_parts.specs.PairLaws.{is_of-parts, pkg_order-ties, same_pair}
use Rattle.universe_parts.specs.SearchLaws.{searched_find, searched_none}
use Rattle.candidates.specs.Stanza.{listed_cmp, stanza_of}
use Rattle.universe_parts.specs.Pair.{pkg_order}
use Rattle.candidates.specs.StanzaLaws.{listed_cmp_total}
use Rattle.candidates.specs.Recorded.{IsByName, record_cmp}
use Rattle.candidates.specs.RecordedLaws.{record_cmp_total}
use Rattle.candidates.proofs.Finding.{find-dedup, find-filter, first_of_all}
use Rattle.candidates.proofs.StanzaOrder.{bare, listed_cmp-tied, ties-eq}

-- records that tie have one name
is_named-alike : (name : List ℕ) (entry other : Record) → eq_by_cmp record_cmp entry other ≡ true
    → is_named name entry ≡ is_named name other
is_named-alike name entry other tied =
    let named : entry.name ≡ other.name =
    bytes_eq-true entry.name other.name (sym (is_eq-slice_cmp entry.name other.name) ∙ tied) in
    ap (λ (n : List ℕ). bytes_eq n name) named

-- a record of the name, where nothing else counts
abbrev called : List ℕ → Record
called name = record {
  name = name;
  state = NotInstalled;
  want = Unknown;
  flag = flags.Ok;
  version = [];
  config_version = None;
  relations = no_relations;
  is_essential = true;
}

ties_is_named : (name : List ℕ) (entry : Record)
    → ties (λ x y. is_lt (record_cmp x y)) (called name) entry ≡ is_named name entry
ties_is_named name entry =
    ap (λ (o : Ordering). not (is_lt o) && not (is_lt (record_cmp entry (called name)))) (record_cmp_total.antisymm (called name) entry)
    ∙ ties-eq (record_cmp entry (called name))
    ∙ is_eq-slice_cmp entry.name name

-- a stable sort finds what the list found
find-stable_record : (name : List ℕ) (db sorted : List Record) → IsStable record_cmp db sorted
    → find (is_named name) sorted ≡ find (is_named name) db
find-stable_record name db sorted stable =
    let t : Record → Bool = ties (λ x y. is_lt (record_cmp x y)) (called name) in
    find-filter (is_named name) sorted
    ∙ ap first_of_all (sym (filter_agree t (is_named name) (ties_is_named name) sorted) ∙ stable (called name) ∙ filter_agree t (is_named name) (ties_is_named name) db)
    ∙ sym (find-filter (is_named name) db)

-- a stable sort by name that is freed of repetitions has the record of each name
pub IsByName-from_sort : (db sorted known : List Record) → IsSorted record_cmp sorted → IsStable record_cmp db sorted
    → known ≡ dedup (eq_by_cmp record_cmp) sorted → IsByName db known
IsByName-from_sort db sorted known up stable same = subst (IsByName db) (sym same) (record {
  ascending = IsStrictlySortedBy-dedup record_cmp_total (λ x y. refl) sorted up;
  same = λ name. find-dedup (eq_by_cmp record_cmp) (is_named name) (λ x k tied. is_named-alike name x k tied) sorted
      ∙ find-stable_record name db sorted stable;
})

-- of one name there is one record in order
pub one_record : (known : List Record) (name : List ℕ) → IsStrictlySortedBy record_cmp known → (entry other : Record) → Contains known entry
    → Contains known other → is_named name entry ≡ true → is_named name other ≡ true → entry ≡ other
one_record known name ascending entry other one two named named' = sorted-one record_cmp_total known ascending entry other one two
    ((Equal-is (record_cmp entry other)).0
    (is_eq-slice_cmp entry.name other.name ∙ ap (bytes_eq entry.name) (bytes_eq-true other.name name named') ∙ named))

-- the record at the place that a binary search finds is that of the name
pub searched_record : (known : List Record) (name : List ℕ) (i : ℕ) → IsStrictlySortedBy record_cmp known
    → IsSearchInRange (Ok i) (length known) → IsBinarySearchResult (λ (entry : Record). name_cmp entry.name name) known (Ok i)
    → slice_get known i ≡ find (is_named name) known
searched_record known name i ascending within is = searched_find (is_named name) (λ (entry : Record). name_cmp entry.name name) known i
    (λ entry. is_eq-slice_cmp entry.name name) (λ entry other. one_record known name ascending entry other) within is

pub searched_no_record : (known : List Record) (name : List ℕ) (i : ℕ) → IsStrictlySortedBy record_cmp known
    → IsSearchInRange (Err i) (length known) → IsBinarySearchResult (λ (entry : Record). name_cmp entry.name name) known (Err i)
    → None ≡ find (is_named name) known
searched_no_record known name i ascending within is = sym (searched_none (is_named name) (λ (entry : Record). name_cmp entry.name name) known i
    (λ entry. is_eq-slice_cmp entry.name name)
    (searchable_from_sorted nat_list_cmp_total (λ (entry : Record). entry.name) known name
    (not_back record_cmp record_cmp_total.antisymm known ascending)) within is)

-- of one version of a name there is one stanza in order
one_stanza : (ordered : List IndexPackage) (name version : List ℕ) → IsStrictlySortedBy listed_cmp ordered → (stanza other : IndexPackage)
    → Contains ordered stanza → Contains ordered other → is_of name version stanza.pkg ≡ true → is_of name version other.pkg ≡ true
    → stanza ≡ other
one_stanza ordered name version ascending stanza other one two of of' = sorted-one listed_cmp_total ordered ascending stanza other one two
    (listed_cmp-tied stanza other (same_pair name version stanza.pkg other.pkg (is_of-parts name version stanza.pkg of) (is_of-parts name version other.pkg of')))

-- the stanza at the place that a binary search finds is that of the version
pub searched_stanza : (ordered : List IndexPackage) (name version : List ℕ) (i : ℕ) → IsStrictlySortedBy listed_cmp ordered
    → IsSearchInRange (Ok i) (length ordered) → IsBinarySearchResult (λ (stanza : IndexPackage). pkg_order stanza.pkg name version) ordered (Ok i)
    → slice_get ordered i ≡ stanza_of ordered name version
searched_stanza ordered name version i ascending within is =
    searched_find (λ (stanza : IndexPackage). is_of name version stanza.pkg) (λ (stanza : IndexPackage). pkg_order stanza.pkg name version) ordered i
    (λ stanza. pkg_order-ties name version stanza.pkg) (λ stanza other. one_stanza ordered name version ascending stanza other) within is

pub searched_no_stanza : (ordered : List IndexPackage) (name version : List ℕ) (i : ℕ) → IsStrictlySortedBy listed_cmp ordered
    → IsSearchInRange (Err i) (length ordered) → IsBinarySearchResult (λ (stanza : IndexPackage). pkg_order stanza.pkg name version) ordered (Err i)
    → None ≡ stanza_of ordered name version
searched_no_stanza ordered name version i ascending within is =
    sym (searched_none (λ (stanza : IndexPackage). is_of name version stanza.pkg) (λ (stanza : IndexPackage). pkg_order stanza.pkg name version) ordered i
    (λ stanza. pkg_order-ties name version stanza.pkg)
    (searchable_from_sorted listed_cmp_total (λ (stanza : IndexPackage). stanza) ordered
    (bare (record { name = name; version = version; relations = no_relations }))
    (not_back listed_cmp listed_cmp_total.antisymm ordered ascending)) within is)

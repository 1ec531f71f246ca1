-- The texts of a row: those that were put behind an arena are its own, and stay so where the arena grows.
use Rattle.std.proofs.Common.{◌≡◌, ℕ, ◌+◌, ◌≤◌, Bool, List, [], ◌∷◌, ◌++◌, drop, length, take, refl, sym, ap, subst, ◌∙◌, arith, length-drop, length-append}
use Rattle.std.proofs.lemmas.List.{map-append, drop_at, drop-append-le, take_all, take_at, take-append-le}
use Rattle.std.proofs.lemmas.List.Elements.{All-cons, All-head, All-nil, All-push, All-tail, All-weaker}
use Rattle.relation.specs.PkgTexts.{AreTested}
use Rattle.relation.specs.PkgValues.{PkgValues, spelled}
use Rattle.rules.specs.Name.{is_name}
use Rattle.rules.specs.Names.{HasListedNames}
use Rattle.rules.specs.Step.{IndexPackage}
use Rattle.std.specs.Prelude.{IsTrue}
use Rattle.index.specs.Index.{ReadStanzas, joined}
use Rattle.index.specs.Row.{AreRows, IsRow, bytes_at, joined_text, package_at, package_of, packages_at, values_at, values_of}
use Rattle.index.specs.declared.row.Row.{Row}

take-len : (front more : List ℕ) → take (length front) (front ++ more) ≡ front
take-len front more = take_at front more (length front) refl

drop-len : (front more : List ℕ) → drop (length front) (front ++ more) ≡ more
drop-len front more = drop_at front more (length front) refl

-- the row says how long the texts are
pub record HasLengths (row : Row) (values : PkgValues) : Type 0 where
  pub name_is : row.name ≡ length values.name
  pub version_is : row.version ≡ length values.version
  pub pre_depends_is : row.pre_depends ≡ length values.pre_depends
  pub depends_is : row.depends ≡ length values.depends
  pub conflicts_is : row.conflicts ≡ length values.conflicts
  pub breaks_is : row.breaks ≡ length values.breaks

joined_values : (row : Row) (values : PkgValues) → HasLengths row values → values_of row (joined_text values) ≡ values
joined_values row values lengths =
    rw (lengths.name_is, lengths.version_is, lengths.pre_depends_is, lengths.depends_is, lengths.conflicts_is, lengths.breaks_is)
    (simp (take-len, drop-len) refl)

put_bytes : (arena bytes : List ℕ) (row : Row) → row.at ≡ length arena → row.len ≡ length bytes → bytes_at (arena ++ bytes) row ≡ bytes
put_bytes arena bytes row at len = rw (at, len, drop-len arena bytes) (take_all (length bytes) bytes (omega arith))

-- texts that are put behind an arena are those of their row
pub put_values : (arena : List ℕ) (values : PkgValues) (row : Row) → row.at ≡ length arena → row.len ≡ length (joined_text values)
    → HasLengths row values → values_at (arena ++ joined_text values) row ≡ values
put_values arena values row at len lengths =
    ap (values_of row) (put_bytes arena (joined_text values) row at len) ∙ joined_values row values lengths

pub put_within : (arena bytes : List ℕ) (row : Row) → row.at ≡ length arena → row.len ≡ length bytes → row.at + row.len ≤ length (arena ++ bytes)
put_within arena bytes row at len = rw (at, len, length-append arena bytes) (omega arith)

grown_bytes : (arena more : List ℕ) (row : Row) → row.at + row.len ≤ length arena → bytes_at (arena ++ more) row ≡ bytes_at arena row
grown_bytes arena more row within =
    let at : row.at ≤ length arena = omega (arith, within) in
    let len : row.len ≤ length (drop row.at arena) = rw (length-drop row.at arena) (omega (arith, within)) in
    rw (drop-append-le row.at arena more at) (take-append-le row.len (drop row.at arena) more len)

pub grown_values : (arena more : List ℕ) (row : Row) → row.at + row.len ≤ length arena → values_at (arena ++ more) row ≡ values_at arena row
grown_values arena more row within = ap (values_of row) (grown_bytes arena more row within)

pub grown_row : (arena more : List ℕ) (row : Row) → IsRow arena row → IsRow (arena ++ more) row
grown_row arena more row is = record {
  within = rw (length-append arena more) (omega (arith, is.within));
  tested = subst AreTested (sym (grown_values arena more row is.within)) is.tested;
}

pub grown_packages : (arch : List ℕ) (number : ℕ) (arena more : List ℕ) (rows : List Row) → AreRows arena rows
    → packages_at arch number (arena ++ more) rows ≡ packages_at arch number arena rows
grown_packages arch number arena more [] are = refl
grown_packages arch number arena more (row ∷ rows) are =
    ap (λ (values : PkgValues). package_of arch number values row ∷ packages_at arch number (arena ++ more) rows)
    (grown_values arena more row (All-head (IsRow arena) row rows are).within)
    ∙ ap (λ (later : List IndexPackage). package_at arch number arena row ∷ later) (grown_packages arch number arena more rows (All-tail (IsRow arena) row rows are))

-- with one package more, whose texts were put behind the arena
pub put_package : (arch : List ℕ) (number : ℕ) (arena more : List ℕ) (rows : List Row) (row : Row) → AreRows arena rows
    → packages_at arch number (arena ++ more) (rows ++ row ∷ []) ≡ packages_at arch number arena rows ++ package_at arch number (arena ++ more) row ∷ []
put_package arch number arena more rows row are =
    map-append (package_at arch number (arena ++ more)) rows (row ∷ [])
    ∙ ap (λ (front : List IndexPackage). front ++ package_at arch number (arena ++ more) row ∷ []) (grown_packages arch number arena more rows are)

pub put_rows : (arena more : List ℕ) (rows : List Row) (row : Row) → AreRows arena rows → IsRow (arena ++ more) row → AreRows (arena ++ more) (rows ++ row ∷ [])
put_rows arena more rows row are is =
    All-push (IsRow (arena ++ more)) rows row (All-weaker (IsRow arena) (IsRow (arena ++ more)) (grown_row arena more) rows are) is

-- the packages of rows have package names
pub packages_named : (arch : List ℕ) (number : ℕ) (arena : List ℕ) (rows : List Row) → AreRows arena rows → HasListedNames (packages_at arch number arena rows)
packages_named arch number arena [] are = All-nil (λ (item : IndexPackage). IsTrue (is_name item.pkg.name))
packages_named arch number arena (row ∷ rows) are = All-cons (λ (item : IndexPackage). IsTrue (is_name item.pkg.name))
    (package_at arch number arena row) (packages_at arch number arena rows)
    (All-head (IsRow arena) row rows are).tested.name_is_good (packages_named arch number arena rows (All-tail (IsRow arena) row rows are))

abbrev pub stanzas_in : List IndexPackage → ℕ → ReadStanzas
stanzas_in listed skipped = record { listed = listed; skipped = skipped }

abbrev pub package_with : List ℕ → ℕ → PkgValues → Bool → Bool → ℕ → IndexPackage
package_with arch number values is_essential says_essential stanza = record {
  pkg = spelled arch values;
  is_essential = is_essential;
  says_essential = says_essential;
  place = record { index = number; stanza = stanza };
}

last_package : (arch : List ℕ) (number : ℕ) (bytes : List ℕ) (row : Row) (values : PkgValues) (is_essential says_essential : Bool)
    (stanza : ℕ) → values_at bytes row ≡ values → row.is_essential ≡ is_essential → row.says_essential ≡ says_essential → row.stanza ≡ stanza
    → package_at arch number bytes row ≡ package_with arch number values is_essential says_essential stanza
last_package arch number bytes row values is_essential says_essential stanza same essential said numbered =
    ap (λ (these : PkgValues). package_of arch number these row) same ∙ rw (essential, said, numbered) refl

-- what was kept, with one package more
pub put_stanzas : (arch : List ℕ) (number : ℕ) (arena more : List ℕ) (rows : List Row) (skipped : ℕ) (row : Row) (values : PkgValues)
    (is_essential says_essential : Bool) (stanza : ℕ) (bytes : List ℕ) (all : List Row) → bytes ≡ arena ++ more → all ≡ rows ++ row ∷ [] → AreRows arena rows
    → values_at bytes row ≡ values → row.is_essential ≡ is_essential → row.says_essential ≡ says_essential → row.stanza ≡ stanza
    → stanzas_in (packages_at arch number bytes all) skipped
    ≡ joined (stanzas_in (packages_at arch number arena rows) skipped) (stanzas_in (package_with arch number values is_essential says_essential stanza ∷ []) 0)
put_stanzas arch number arena more rows skipped row values is_essential says_essential stanza bytes all grown put are same essential said numbered =
    let none : skipped + 0 ≡ skipped = omega arith in
    let last = last_package arch number bytes row values is_essential says_essential stanza same essential said numbered in
    let packages : packages_at arch number bytes all ≡ packages_at arch number arena rows ++ package_with arch number values is_essential says_essential stanza ∷ [] =
    ap (λ (list : List Row). packages_at arch number bytes list) put
    ∙ ap (λ (held : List ℕ). packages_at arch number held (rows ++ row ∷ [])) grown
    ∙ put_package arch number arena more rows row are
    ∙ ap (λ (held : List ℕ). packages_at arch number arena rows ++ package_at arch number held row ∷ []) (sym grown)
    ∙ ap (λ (item : IndexPackage). packages_at arch number arena rows ++ item ∷ []) last in
    ap (λ (listed : List IndexPackage). stanzas_in listed skipped) packages
    ∙ ap (λ (count : ℕ). stanzas_in (packages_at arch number arena rows ++ package_with arch number values is_essential says_essential stanza ∷ []) count) (sym none)

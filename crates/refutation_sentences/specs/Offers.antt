-- Who has or provides a name, among the pairs of a universe and in the indices (Policy 7.1, 7.5), and which versions aren't admitted.
use Rattle.std.specs.Prelude.{◌≡◌, ◌↔◌, ◌⊎◌, ◌+◌, ℕ, false, List, Option, None, Some, MatchOption, if◌then◌else◌, slice_get}
use Rattle.std.specs.List.{All, Any, Contains}
use Rattle.std.specs.Option.{option_and_then}
use Rattle.std.specs.Ordering.{is_gt, is_lt}
use Rattle.index.specs.Index.{ReadIndex}
use Rattle.index.specs.Providers.{plain_atom}
use Rattle.input_notes.specs.Inputs.{stanzas_of}
use Rattle.refutation.specs.Premise.{PairHas}
use Rattle.refutation_sentences.specs.declared.offers.Among.{Among}
use Rattle.refutation_sentences.specs.declared.offers.Among.TheVariants as among
use Rattle.refutation_sentences.specs.declared.offers.By.{By}
use Rattle.refutation_sentences.specs.declared.offers.By.TheVariants as by
use Rattle.rules.specs.Package.{Atom, FitsByName, FitsByProvides, Pkg}
use Rattle.rules.specs.Step.{IndexPackage}
use Rattle.rules.specs.Universe.{Universe, start_in}
use Rattle.rules.specs.Version.{version_cmp}
use Rattle.universe_parts.specs.Parts.{number_among}

-- the package has the name, or provides it, whatever the version
abbrev pub IsBy : By → List ℕ → Pkg → Type 0
IsBy by.Name name pkg = pkg.name ≡ name
IsBy by.Provides name pkg = FitsByProvides pkg (plain_atom name)

-- these are the numbers of the pairs whose packages have the property
abbrev pub AreNumbersOf : Universe → (Pkg → Type 0) → List ℕ → Type 0
AreNumbersOf u P numbers = (number : ℕ) → Contains numbers number ↔ PairHas u number P

-- the number is that of the pair at this place, counted from 0, whose package has the property
abbrev pub IsNumberAt : List Pkg → (Pkg → Type 0) → ℕ → ℕ → Type 0
IsNumberAt packages P place number = (number ≡ place + 1) × ((pkg : Pkg) × (slice_get packages place ≡ Some pkg) × P pkg)

-- the package isn't admitted: no pair is of its name and version
abbrev pub IsLeftOut : Universe → Pkg → Type 0
IsLeftOut u pkg = number_among u.pairs pkg.name pkg.version ≡ None

-- it fits what is asked for by its own name and version, and isn't admitted
abbrev pub IsLeftOutFit : Universe → Atom → Pkg → Type 0
IsLeftOutFit u asked pkg = FitsByName pkg asked × IsLeftOut u pkg

-- it provides what is asked for, and isn't admitted
abbrev pub IsLeftOutProvider : Universe → Atom → Pkg → Type 0
IsLeftOutProvider u asked pkg = FitsByProvides pkg asked × IsLeftOut u pkg

-- it fits what is asked for by its own name and version, and may be admitted or may not
abbrev pub IsCounted : Universe → Among → Atom → Pkg → Type 0
IsCounted u among.All asked pkg = FitsByName pkg asked
IsCounted u among.LeftOut asked pkg = IsLeftOutFit u asked pkg

-- none of these stanzas has a package with the property
abbrev pub IsNoneOf : (Pkg → Type 0) → List IndexPackage → Type 0
IsNoneOf P stanzas = All (λ stanza. ¬ P stanza.pkg) stanzas

-- the stanza is one of these, and its package has the property
abbrev pub IsOneOf : (Pkg → Type 0) → List IndexPackage → IndexPackage → Type 0
IsOneOf P stanzas stanza = Contains stanzas stanza × P stanza.pkg

-- the same, and no package of these with the property has a higher version
abbrev pub IsHighestOf : (Pkg → Type 0) → List IndexPackage → IndexPackage → Type 0
IsHighestOf P stanzas highest = IsOneOf P stanzas highest
    × All (λ stanza. P stanza.pkg → is_gt (version_cmp stanza.pkg.version highest.pkg.version) ≡ false) stanzas

-- one with the property is found, if there is one
abbrev pub IsFoundIn : (Pkg → Type 0) → List IndexPackage → Option IndexPackage → Type 0
IsFoundIn P stanzas first = MatchOption first (IsNoneOf P stanzas) (IsOneOf P stanzas)

-- the one of the highest version with the property is found, if there is one with it
abbrev pub IsHighestIn : (Pkg → Type 0) → List IndexPackage → Option IndexPackage → Type 0
IsHighestIn P stanzas highest = MatchOption highest (IsNoneOf P stanzas) (IsHighestOf P stanzas)

-- the stanza, unless the version of the one before isn't lower
abbrev pub higher_of : IndexPackage → Option IndexPackage → IndexPackage
higher_of stanza None = stanza
higher_of stanza (Some before) = if is_lt (version_cmp before.pkg.version stanza.pkg.version) then stanza else before

-- the version of the name that stands at the start, if one does
abbrev pub standing_of : Universe → List ℕ → Option (List ℕ)
standing_of u name = option_and_then (λ start. start.standing) (start_in u name)

-- a stanza of an index is of this version of the name, or it stands
abbrev pub IsVersionOf : Universe → List ReadIndex → List ℕ → List ℕ → Type 0
IsVersionOf u indices name version = (standing_of u name ≡ Some version)
    ⊎ Any (λ stanza. (stanza.pkg.name ≡ name) × (stanza.pkg.version ≡ version)) (stanzas_of indices)

-- and no other version of the name is higher
abbrev pub IsHighestVersionOf : Universe → List ReadIndex → List ℕ → List ℕ → Type 0
IsHighestVersionOf u indices name version = IsVersionOf u indices name version
    × ((other : List ℕ) → IsVersionOf u indices name other → is_gt (version_cmp other version) ≡ false)

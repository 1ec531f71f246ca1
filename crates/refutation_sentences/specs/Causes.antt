-- Why no pair satisfies what is asked for: each cause with what is so of it, and the words that tell it (this project's own form).
use Rattle.std.specs.Prelude.{◌≡◌, ◌++◌, ℕ, true, false, List, [], ◌∷◌, codes}
use Rattle.std.specs.List.{AllZip, flat_map}
use Rattle.index.specs.Index.{ReadIndex}
use Rattle.index.specs.Providers.{plain_atom}
use Rattle.input_notes.specs.Absent.{is_listed}
use Rattle.input_notes.specs.Inputs.{stanzas_of}
use Rattle.phrases.specs.Phrases.{versioned}
use Rattle.refutation_sentences.specs.Offers.{AreNumbersOf, IsBy, IsHighestOf, IsLeftOutFit, IsLeftOutProvider, IsNoneOf, IsOneOf, standing_of}
use Rattle.refutation_sentences.specs.Reasons.{IsReasonTold, held_words, is_held}
use Rattle.refutation_sentences.specs.Words.{listed, package_words}
use Rattle.refutation_sentences.specs.declared.causes.Cause.{Cause}
use Rattle.refutation_sentences.specs.declared.causes.Cause.TheVariants as cause
use Rattle.refutation_sentences.specs.declared.offers.By.TheVariants as by
use Rattle.rules.specs.Package.{Atom, FitsByName, FitsByProvides, Pkg}
use Rattle.rules.specs.Step.{IndexPackage}
use Rattle.rules.specs.Universe.{Universe}

-- no pair has the name that is asked for, and no stanza of an index fits by its own name and version
pub record IsUnnamed (u : Universe) (indices : List ReadIndex) (asked : Atom) : Type 0 where
  pub pairs : AreNumbersOf u (IsBy by.Name asked.name) []
  pub stanzas : IsNoneOf (λ pkg. FitsByName pkg asked) (stanzas_of indices)

-- the package provides the name, but in no version that fits what is asked for
abbrev pub IsUnfitProvider : Atom → Pkg → Type 0
IsUnfitProvider asked pkg = IsBy by.Provides asked.name pkg × (¬ FitsByProvides pkg asked)

-- what is so where this is the cause why no pair satisfies what is asked for
abbrev pub IsCause : Universe → List ReadIndex → Atom → Cause → Type 0
IsCause u indices asked cause.Foreign = asked.foreign ≡ true
IsCause u indices asked cause.Held = is_held u asked.name ≡ true
IsCause u indices asked (cause.Unadmitted stanza) = IsHighestOf (IsLeftOutFit u asked) (stanzas_of indices) stanza.now
IsCause u indices asked (cause.Others numbers providing) =
    AreNumbersOf u (IsBy by.Name asked.name) numbers.items × AreNumbersOf u (IsBy by.Provides asked.name) providing.items
IsCause u indices asked (cause.Elsewhere stanza) =
    IsUnnamed u indices asked × IsOneOf (IsLeftOutProvider u asked) (stanzas_of indices) stanza.now
IsCause u indices asked (cause.Provided numbers) =
    IsUnnamed u indices asked × AreNumbersOf u (IsBy by.Provides asked.name) numbers.items
IsCause u indices asked cause.Unfit = IsUnnamed u indices asked × (is_listed indices asked.name ≡ true)
IsCause u indices asked (cause.UnfitElsewhere stanza) = IsUnnamed u indices asked × (is_listed indices asked.name ≡ false)
    × IsOneOf (IsUnfitProvider asked) (stanzas_of indices) stanza.now
IsCause u indices asked cause.Missing = IsUnnamed u indices asked × (is_listed indices asked.name ≡ false)
    × IsNoneOf (IsLeftOutProvider u (plain_atom asked.name)) (stanzas_of indices)

-- that the name is asked for of another architecture
abbrev pub foreign_words : List ℕ → List ℕ
foreign_words name = name ++ codes " is asked for of another architecture"

-- that no index has the name
abbrev pub missing_words : List ℕ → List ℕ
missing_words name = codes "there is no package " ++ (name ++ codes " in any index")

-- that these pairs provide the name in no version that fits
abbrev pub provider_words : Universe → List ℕ → List ℕ → List ℕ
provider_words u name numbers = listed u numbers ++ (codes " provides " ++ (name ++ codes ", without the version that is asked for"))

-- the same behind other pairs, where there are some
abbrev pub also_words : Universe → List ℕ → List ℕ → List ℕ
also_words u name [] = []
also_words u name (number ∷ numbers) = codes ", and " ++ provider_words u name (number ∷ numbers)

-- that these pairs alone are of the name, and that these provide it
abbrev pub only_words : Universe → List ℕ → List ℕ → List ℕ → List ℕ
only_words u name numbers providing =
    codes "only " ++ (listed u numbers ++ (codes " can be had" ++ also_words u name providing))

-- that these pairs alone provide the name
abbrev pub provided_words : Universe → List ℕ → List ℕ → List ℕ
provided_words u name numbers = codes "only " ++ provider_words u name numbers

-- that no version of the name fits
abbrev pub unfit_words : List ℕ → List ℕ
unfit_words name = codes "no index has a version of " ++ (name ++ codes " that fits")

-- that the package of the stanza provides the name, which no index has, in no version that fits
abbrev pub unfit_elsewhere_words : List ℕ → IndexPackage → List ℕ
unfit_elsewhere_words name stanza = codes "no index has a package "
    ++ (name ++ (codes ", and " ++ (package_words stanza.pkg ++ codes " provides it in no version that fits")))

-- what is said tells that the version of the stanza isn't admitted, and why
abbrev pub TellsUnadmitted : Universe → List ℕ → IndexPackage → List ℕ → Type 0
TellsUnadmitted u name stanza said = (reason : List ℕ) × IsReasonTold u name stanza.pkg.version reason
    × (said ≡ versioned name stanza.pkg.version ++ (codes " is not admitted: " ++ reason))

-- what is said tells that the package of the stanza provides the name and isn't admitted, and why it isn't
abbrev pub TellsElsewhere : Universe → List ℕ → IndexPackage → List ℕ → Type 0
TellsElsewhere u name stanza said = (reason : List ℕ) × IsReasonTold u stanza.pkg.name stanza.pkg.version reason
    × (said ≡ name ++ (codes " is provided by " ++ (package_words stanza.pkg ++ (codes ", which is not admitted: " ++ reason))))

-- what is said tells the cause of what is asked for by this name
abbrev pub TellsCause : Universe → List ℕ → Cause → List ℕ → Type 0
TellsCause u name cause.Foreign said = said ≡ foreign_words name
TellsCause u name cause.Held said = said ≡ held_words name (standing_of u name)
TellsCause u name (cause.Unadmitted stanza) said = TellsUnadmitted u name stanza.now said
TellsCause u name (cause.Others numbers providing) said = said ≡ only_words u name numbers.items providing.items
TellsCause u name (cause.Elsewhere stanza) said = TellsElsewhere u name stanza.now said
TellsCause u name (cause.Provided numbers) said = said ≡ provided_words u name numbers.items
TellsCause u name cause.Unfit said = said ≡ unfit_words name
TellsCause u name (cause.UnfitElsewhere stanza) said = said ≡ unfit_elsewhere_words name stanza.now
TellsCause u name cause.Missing said = said ≡ missing_words name

-- what is said tells a cause that is so
abbrev pub IsCauseTold : Universe → List ReadIndex → Atom → List ℕ → Type 0
IsCauseTold u indices asked said = (why : Cause) × IsCause u indices asked why × TellsCause u asked.name why said

-- causes behind what is asked for
abbrev pub causes_words : List (List ℕ) → List ℕ
causes_words [] = []
causes_words (first ∷ others) = codes ", but " ++ (first ++ flat_map (λ other. codes ", and " ++ other) others)

-- what is said tells a cause of each of these alternatives, in their order
abbrev pub AreCausesTold : Universe → List ReadIndex → List Atom → List ℕ → Type 0
AreCausesTold u indices atoms said =
    (causes : List (List ℕ)) × AllZip (IsCauseTold u indices) atoms causes × (said ≡ causes_words causes)

-- Why no pair satisfies a goal, which asks for a package of the name itself (this project's own form, after apt-get(8)).
use Rattle.std.specs.Prelude.{◌≡◌, ◌⊎◌, ◌++◌, ℕ, ℤ, Bool, true, false, List, [], Option, None, Some, codes}
use Rattle.std.specs.Option.{option_map_or}
use Rattle.index.specs.Index.{ReadIndex}
use Rattle.input_notes.specs.Absent.{is_listed}
use Rattle.input_notes.specs.Inputs.{stanzas_of}
use Rattle.phrases.specs.Phrases.{versioned}
use Rattle.refutation_sentences.specs.Causes.{IsCauseTold, IsUnnamed}
use Rattle.refutation_sentences.specs.Offers.{AreNumbersOf, IsBy, IsHighestVersionOf, IsLeftOutProvider, IsNoneOf, IsOneOf, standing_of}
use Rattle.refutation_sentences.specs.Reasons.{held_words, is_held, rating_words, remedy_where_left_out}
use Rattle.refutation_sentences.specs.Words.{listed, package_words}
use Rattle.refutation_sentences.specs.declared.offers.By.TheVariants as by
use Rattle.rules.specs.Package.{Atom}
use Rattle.rules.specs.Step.{IndexPackage}
use Rattle.rules.specs.Universe.{Universe, candidate_of, start_in}

-- files of a package of the name are there at the start
abbrev pub is_present : Universe → List ℕ → Bool
is_present u name = option_map_or (λ start. start.is_present) (start_in u name) false

-- that no index has the name, of which something is there at the start
abbrev pub unlisted_words : List ℕ → List ℕ
unlisted_words name = codes "no index has " ++ (name ++ codes ", and what is there of it has to be installed again")

-- that the name is no package, and by what it is provided
abbrev pub virtual_words : List ℕ → List ℕ → List ℕ
virtual_words name providers = name ++ (codes " is no package; it is provided by " ++ providers)

-- these words are the pairs that provide the name
abbrev pub ArePairsTold : Universe → Atom → List ℕ → Type 0
ArePairsTold u asked words =
    (numbers : List ℕ) × AreNumbersOf u (IsBy by.Provides asked.name) numbers × (words ≡ listed u numbers)

-- these words are a package of an index that provides what is asked for and isn't admitted
abbrev pub IsStanzaTold : Universe → List ReadIndex → Atom → List ℕ → Type 0
IsStanzaTold u indices asked words = (stanza : IndexPackage) × IsOneOf (IsLeftOutProvider u asked) (stanzas_of indices) stanza
    × (words ≡ package_words stanza.pkg)

-- these words are what provides the name
abbrev pub AreProvidersTold : Universe → List ReadIndex → Atom → List ℕ → Type 0
AreProvidersTold u indices asked words = ArePairsTold u asked words ⊎ IsStanzaTold u indices asked words

-- what is said tells that no index has the name, of which something is there at the start
abbrev pub IsUnlistedTold : Universe → List ReadIndex → Atom → List ℕ → Type 0
IsUnlistedTold u indices asked said = IsUnnamed u indices asked × (is_listed indices asked.name ≡ false)
    × (is_present u asked.name ≡ true) × (said ≡ unlisted_words asked.name)

-- what is said tells that the name is no package, and by what it is provided
abbrev pub IsVirtualTold : Universe → List ReadIndex → Atom → List ℕ → Type 0
IsVirtualTold u indices asked said = (providers : List ℕ) × IsUnnamed u indices asked × (is_listed indices asked.name ≡ false)
    × AreProvidersTold u indices asked providers × (said ≡ virtual_words asked.name providers)

-- what is said tells why no pair is what an install goal asks for
abbrev pub IsGoalCauseTold : Universe → List ReadIndex → Atom → List ℕ → Type 0
IsGoalCauseTold u indices asked said =
    IsCauseTold u indices asked said ⊎ (IsUnlistedTold u indices asked said ⊎ IsVirtualTold u indices asked said)

-- the same behind what is asked for
abbrev pub IsInstallCauseTold : Universe → List ReadIndex → Atom → List ℕ → Type 0
IsInstallCauseTold u indices asked said =
    (why : List ℕ) × (said ≡ codes ", but " ++ why) × IsGoalCauseTold u indices asked why

-- what is said tells the highest version of the name in the indices and at the start, with any priority, and what may admit it where it
-- isn't admitted
pub record IsHighestTold (u : Universe) (indices : List ReadIndex) (name said : List ℕ) : Type 0 where
  pub version : List ℕ
  pub priority : ℤ
  pub record_number : Option ℕ
  pub highest : IsHighestVersionOf u indices name version
  pub words : said ≡ codes "its highest version is " ++ (version ++ (codes ", whose priority is "
      ++ (rating_words priority record_number ++ remedy_where_left_out u name version)))

-- what is said tells that no index has the name, of which nothing stands
abbrev pub IsNoneTold : Universe → List ReadIndex → List ℕ → List ℕ → Type 0
IsNoneTold u indices name said = IsNoneOf (IsBy by.Name name) (stanzas_of indices) × (standing_of u name ≡ None)
    × (said ≡ codes "no index has it")

-- what is said tells the highest version of the name, or that there is none
abbrev pub IsHighestOrNoneTold : Universe → List ReadIndex → List ℕ → List ℕ → Type 0
IsHighestOrNoneTold u indices name said = IsNoneTold u indices name said ⊎ IsHighestTold u indices name said

-- what is said tells that the name has no candidate, and its highest version
abbrev pub IsUncandidatedTold : Universe → List ReadIndex → List ℕ → List ℕ → Type 0
IsUncandidatedTold u indices name said = (highest : List ℕ) × (candidate_of u name ≡ None)
    × IsHighestOrNoneTold u indices name highest
    × (said ≡ name ++ (codes " has no candidate: " ++ highest))

-- what is said tells the candidate of the name, which no pair is
abbrev pub IsCandidateTold : Universe → List ℕ → List ℕ → Type 0
IsCandidateTold u name said = (candidate : List ℕ) × (candidate_of u name ≡ Some candidate)
    × (said ≡ versioned name candidate ++ codes " is its candidate and is not admitted")

-- what is said tells why no pair is the candidate of the name
abbrev pub IsUpgradeCause : Universe → List ReadIndex → List ℕ → List ℕ → Type 0
IsUpgradeCause u indices name said = ((is_held u name ≡ true) × (said ≡ held_words name (standing_of u name)))
    ⊎ (IsCandidateTold u name said ⊎ IsUncandidatedTold u indices name said)

-- the same behind what is asked for
abbrev pub IsUpgradeCauseTold : Universe → List ReadIndex → List ℕ → List ℕ → Type 0
IsUpgradeCauseTold u indices name said = (why : List ℕ) × (said ≡ codes ", but " ++ why) × IsUpgradeCause u indices name why

-- The texts that a journal records with the steps of a plan (this project's own).
use Rattle.std.specs.Prelude.{◌≡◌, ◌⊎◌, ◌==◌, ◌++◌, ◌∷◌, [], ℕ, List, Option, Some, None, MatchOption, if◌then◌else◌}
use Rattle.std.specs.List.{AllZip, ends_with}
use Rattle.std.specs.Option.{option_and_then}
use Rattle.inputs.specs.Reading.{out_of_memory}
use Rattle.inputs.specs.Texts.{Found}
use Rattle.inputs.specs.declared.refusal.Fault.TheVariants as fault
use Rattle.inputs.specs.declared.refusal.Input.TheVariants as place
use Rattle.inputs.specs.declared.refusal.Refusal.{Refusal}
use Rattle.rules.specs.Step.{IndexPackage}
use Rattle.rules.specs.Universe.{Universe, listed_for}
use Rattle.rules.specs.declared.step.Step.{Step}
use Rattle.universe_parts.specs.Parts.{numbered}
use Rattle.unpack_texts.specs.Fetched.{IsFetched, Items, items_in}
use Rattle.unpack_texts.specs.Wanted.{Unpacks}
use Rattle.unpack_texts.specs.declared.ending.TheConstants.{NEWLINE}

-- the text that an opening of the index of this number gives, where a source names its file
abbrev pub opened : (ℕ → List ℕ → Found) → List (List ℕ) → ℕ → Found
opened index_texts files number = option_and_then (index_texts number) (numbered number files)

-- the text with a newline at its end: one that is missing is added
abbrev pub with_newline : List ℕ → List ℕ
with_newline text = if ends_with (λ a b. a == b) text (NEWLINE ∷ []) then text else text ++ NEWLINE ∷ []

-- the text is that of the stanza of this package among what is read, with a newline at its end
pub record IsEnded (arch : List ℕ) (items : Items) (listed : IndexPackage) (text : List ℕ) : Type 0 where
  pub raw : List ℕ
  pub fetched : IsFetched arch items listed raw
  pub is : text ≡ with_newline raw

-- the text is that of the stanza of this package, in the text that an opening of its index gives
pub record IsTextOf (arch : List ℕ) (index_texts : ℕ → List ℕ → Found) (files : List (List ℕ)) (listed : IndexPackage) (text : List ℕ) : Type 0 where
  pub bytes : List ℕ
  pub there : opened index_texts files listed.place.index ≡ Some bytes
  pub fetched : IsEnded arch (items_in bytes) listed text

-- a text is recorded with a step that unpacks a stanza, and is the text of that stanza; with another step none is
abbrev pub IsTextFor : List ℕ → (ℕ → List ℕ → Found) → List (List ℕ) → Universe → Step → Option (List ℕ) → Type 0
IsTextFor arch index_texts files u step text =
    MatchOption (listed_for u step) (text ≡ None) (λ listed. MatchOption text ⊥ (IsTextOf arch index_texts files listed))

-- each text is what is recorded with the step in its place
abbrev pub AreTexts : List ℕ → (ℕ → List ℕ → Found) → List (List ℕ) → Universe → List Step → List (Option (List ℕ)) → Type 0
AreTexts arch index_texts files u steps texts = AllZip (IsTextFor arch index_texts files u) steps texts

-- no opening of its index gives the text of the stanza of this package
abbrev pub IsGoneFrom : List ℕ → (ℕ → List ℕ → Found) → List (List ℕ) → IndexPackage → Type 0
IsGoneFrom arch index_texts files listed = (text : List ℕ) → ¬ IsTextOf arch index_texts files listed text

-- the stanza of this package is refused so: E5 at its index, which can't be opened, or E28 at its index, from which it is gone
abbrev pub IsStanzaRefusal : List ℕ → (ℕ → List ℕ → Found) → List (List ℕ) → IndexPackage → Refusal → Type 0
IsStanzaRefusal arch index_texts files listed refused =
    ((refused ≡ record { place = place.Index listed.place.index; fault = fault.Read }) × (opened index_texts files listed.place.index ≡ None))
    ⊎ ((refused ≡ record { place = place.Index listed.place.index; fault = fault.Changed }) × IsGoneFrom arch index_texts files listed)

-- the stanza that one of the steps unpacks is refused so
pub record IsStepRefusal (arch : List ℕ) (index_texts : ℕ → List ℕ → Found) (files : List (List ℕ)) (u : Universe) (steps : List Step) (refused : Refusal) : Type 0 where
  pub place : ℕ
  pub listed : IndexPackage
  pub unpacks : Unpacks u steps place listed
  pub refusal : IsStanzaRefusal arch index_texts files listed refused

-- the texts of the steps are refused so: that of one of them is, or memory was wanting
abbrev pub IsTextsRefusal : List ℕ → (ℕ → List ℕ → Found) → List (List ℕ) → Universe → List Step → Refusal → Type 0
IsTextsRefusal arch index_texts files u steps refused = (refused ≡ out_of_memory) ⊎ IsStepRefusal arch index_texts files u steps refused

-- What is refused of the second opening of an index.
use Rattle.std.specs.Prelude.{◌≡◌, ◌⊎◌, ℕ, List, Some, None}
use Rattle.std.specs.List.{Any}
use Rattle.inputs.specs.Reading.{out_of_memory}
use Rattle.inputs.specs.Texts.{Found}
use Rattle.inputs.specs.declared.refusal.Fault.TheVariants as fault
use Rattle.inputs.specs.declared.refusal.Input.TheVariants as place
use Rattle.inputs.specs.declared.refusal.Refusal.{Refusal}
use Rattle.rules.specs.Step.{IndexPackage}
use Rattle.unpack_texts.specs.Fetched.{IsChanged, items_in}
use Rattle.unpack_texts.specs.Texts.{IsStanzaRefusal, IsTextOf}
use Rattle.unpack_texts.specs.Wanted.{WantedStanza}

-- the text is found, and no text is fetched of it for one of the packages
pub record HasChanged (arch : List ℕ) (text : Found) (wanted : List IndexPackage) : Type 0 where
  pub bytes : List ℕ
  pub there : text ≡ Some bytes
  pub changed : IsChanged arch (items_in bytes) wanted

-- the index of this number, of which this is found, is refused so; or memory was wanting
abbrev pub IsOpenedFault : List ℕ → ℕ → Found → List IndexPackage → Refusal → Type 0
IsOpenedFault arch number text wanted refused = (refused ≡ out_of_memory)
    ⊎ ((refused ≡ record { place = place.Index number; fault = fault.Read }) × (text ≡ None))
    ⊎ ((refused ≡ record { place = place.Index number; fault = fault.Changed }) × HasChanged arch text wanted)

-- one of these stanzas is refused so, or memory was wanting
abbrev pub IsGroupRefusal : List ℕ → (ℕ → List ℕ → Found) → List (List ℕ) → List WantedStanza → Refusal → Type 0
IsGroupRefusal arch index_texts files wanted refused =
    (refused ≡ out_of_memory) ⊎ Any (λ one. IsStanzaRefusal arch index_texts files one.listed refused) wanted

-- the text is that of the wanted stanza
abbrev pub Belongs : List ℕ → (ℕ → List ℕ → Found) → List (List ℕ) → WantedStanza → List ℕ → Type 0
Belongs arch index_texts files one text = IsTextOf arch index_texts files one.listed text

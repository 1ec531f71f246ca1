-- Which refusal comes first, in the order of reading.
use Rattle.std.specs.Prelude.{◌≡◌, ◌⊎◌, List}
use Rattle.rules.specs.Database.{Record}
use Rattle.rules.specs.Universe.{Universe}
use Rattle.inputs.specs.Before.{IsRefusalBefore}
use Rattle.inputs.specs.Meaning.{Denotes, IsAsked}
use Rattle.inputs.specs.Reading.{out_of_memory}
use Rattle.inputs.specs.Texts.{Texts}
use Rattle.inputs.specs.declared.refusal.Input.TheVariants as place
use Rattle.inputs.specs.declared.refusal.Refusal.{Refusal}

-- the texts before the request are read, and the request is refused so
pub record IsRequestRefusal (texts : Texts) (refused : Refusal) : Type 0 where
  pub place : refused.place ≡ place.Request
  pub asked : IsAsked texts refused.fault

-- the first refusal of the texts, with the request
abbrev pub IsRefusal : Texts → Refusal → Type 0
IsRefusal texts refused = IsRefusalBefore texts refused ⊎ IsRequestRefusal texts refused

-- texts have one meaning
abbrev pub HasOneMeaning : Type 0
HasOneMeaning = (texts : Texts) (u other : Universe) (start begin : List Record) → Denotes texts u start → Denotes texts other begin
    → (u ≡ other) × (start ≡ begin)

-- texts that have a meaning aren't refused: what is refused beside it is that memory was wanting
abbrev pub MeaningIsNotRefused : Type 0
MeaningIsNotRefused = (texts : Texts) (u : Universe) (start : List Record) (refused : Refusal) → Denotes texts u start
    → IsRefusal texts refused → refused ≡ out_of_memory

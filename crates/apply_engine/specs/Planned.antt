-- What a journal records of a plan, by the texts.
use Rattle.std.specs.Prelude.{◌≡◌, ◌⊎◌, ℕ, List, Option, Ok}
use Rattle.rules.specs.Database.{Record}
use Rattle.rules.specs.Universe.{Universe}
use Rattle.rules.specs.Verdict.{IsVerdict}
use Rattle.rules.specs.declared.step.Step.{Step}
use Rattle.rules.specs.declared.step.Verdict.{Verdict}
use Rattle.rules.specs.declared.step.Verdict.TheVariants.{Yes}
use Rattle.status_text.specs.Slot.{FileSlot}
use Rattle.status.specs.Text.{slots_text}
use Rattle.journal.specs.Payload.{RecordedStep}
use Rattle.apply.specs.Planned.{planned}
use Rattle.inputs.specs.ReadAs.{AreNamed}
use Rattle.inputs.specs.Texts.{Found, Texts, status_file_of}
use Rattle.inputs.specs.declared.refusal.Refusal.{Refusal}
use Rattle.unpack_texts.specs.Texts.{AreTexts, IsTextsRefusal}
use Rattle.cli_engine.specs.Answer.{IsFirstRefusal}
use Rattle.cli_engine.specs.Meaning.{IsReadAs}

-- the texts denote this universe, the plan is read as these steps, and the verdict is true of them
pub record IsAnswerOf (texts : Texts) (plan : Found) (u : Universe) (steps : List Step) (verdict : Verdict) : Type 0 where
  pub begin : List Record
  pub read_as : IsReadAs texts plan u begin steps
  pub holds : IsVerdict u begin steps verdict

-- by the texts the plan is good, its journal begins with the text of the status file's database, and these are recorded of its
-- steps: with each unpacking the text of its stanza
pub record IsPlanned (texts : Texts) (plan : Found) (start : List ℕ) (records : List RecordedStep) : Type 0 where
  pub universe : Universe
  pub steps : List Step
  pub files : List (List ℕ)
  pub slots : List FileSlot
  pub stanzas : List (Option (List ℕ))
  pub good : IsAnswerOf texts plan universe steps Yes
  pub named : AreNamed texts files
  pub status_is : status_file_of texts ≡ Ok slots
  pub start_is : start ≡ slots_text slots
  pub fetched : AreTexts texts.arch texts.index files universe steps stanzas
  pub records_are : records ≡ planned steps stanzas

-- the plan is good, and the text of a stanza that it unpacks is refused so
pub record IsStanzaRefused (texts : Texts) (plan : Found) (refused : Refusal) : Type 0 where
  pub universe : Universe
  pub steps : List Step
  pub files : List (List ℕ)
  pub good : IsAnswerOf texts plan universe steps Yes
  pub named : AreNamed texts files
  pub refusal : IsTextsRefusal texts.arch texts.index files universe steps refused

-- what is refused: it is the first refusal of the texts and the plan, or one of a stanza that a good plan unpacks
abbrev pub IsApplyRefusal : Texts → Found → Refusal → Type 0
IsApplyRefusal texts plan refused = IsFirstRefusal texts plan refused ⊎ IsStanzaRefused texts plan refused

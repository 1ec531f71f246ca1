-- The text that is handed in for a step (this project's own).
use Rattle.std.specs.Prelude.{◌≡◌, ℕ, List, Option, Ok, Contains}
use Rattle.index.specs.Alone.{alone}
use Rattle.inputs.specs.Before.{HasIndices}
use Rattle.inputs.specs.ReadAs.{AreNamed}
use Rattle.inputs.specs.Texts.{Texts}
use Rattle.journal.specs.Adding.{recorded_of}
use Rattle.rules.specs.Available.{Index}
use Rattle.rules.specs.Universe.{Universe, listed_for}
use Rattle.rules.specs.declared.step.Step.{Step}
use Rattle.stanza.specs.declared.form.Form.TheVariants.{Plain}
use Rattle.stanza.specs.Stanza.{StanzaText, items_of}
use Rattle.status.specs.Applicable.{handed_in}
use Rattle.unpack_texts.specs.Texts.{IsTextFor, with_newline}
use Rattle.applied_end.specs.Step.{IsStanzaOf}

-- the text of a stanza of a control file is read as the same stanza of an index with a newline at its end
abbrev pub EndedReadsSame : Type 0
EndedReadsSame = (arch text : List ℕ) (stanza : StanzaText) → Contains (items_of Plain text) (Ok stanza)
    → alone arch (with_newline stanza.raw) ≡ alone arch stanza.raw

-- what the journal hands in for the step, where this text is given, is the stanza that the rules unpack
abbrev pub IsHandedIn : List ℕ → Universe → Step → Option (List ℕ) → Type 0
IsHandedIn arch u step given = IsStanzaOf (listed_for u step) (handed_in arch (recorded_of step given).stanza)

-- where the indices are read without refusal, the text that is fetched for a step hands in the stanza that the rules unpack
abbrev pub FetchedIsHandedIn : Type 0
FetchedIsHandedIn = (texts : Texts) (indices : List Index) (files : List (List ℕ)) (u : Universe) (step : Step) (given : Option (List ℕ))
    → HasIndices texts indices → AreNamed texts files → IsTextFor texts.arch texts.index files u step given
    → IsHandedIn texts.arch u step given

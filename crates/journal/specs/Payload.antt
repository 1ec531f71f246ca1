-- What the payload of a record says (this project's own): a step, and of an unpacking the stanza.
use Rattle.std.specs.Prelude.{◌≡◌, ℕ, List, [], ◌++◌, Option, Some, None, Ok, ⊤}
use Rattle.std.specs.Io.BufRead.{take_through, drop_through}
use Rattle.std.specs.Option.{unwrap_or}
use Rattle.plantext.specs.Plan.{read_step}
use Rattle.plantext.specs.declared.cut.TheConstants.{NEWLINE}
use Rattle.rules.specs.declared.step.Step.{Step}
use Rattle.rules.specs.declared.step.Step.TheVariants.{Unpack, Deconfigure, Configure, Remove, Purge}

-- a step that was taken, and the text of the stanza that was handed in for it
pub record RecordedStep : Type 0 where
  pub step : Step
  pub stanza : Option (List ℕ)

-- a text stands beside an unpacking, and beside no other step
abbrev pub HasItsText : Step → Option (List ℕ) → Type 0
HasItsText (Unpack name version) (Some text) = ⊤
HasItsText (Unpack name version) None = ⊥
HasItsText (Deconfigure name) None = ⊤
HasItsText (Deconfigure name) (Some text) = ⊥
HasItsText (Configure names) None = ⊤
HasItsText (Configure names) (Some text) = ⊥
HasItsText (Remove name) None = ⊤
HasItsText (Remove name) (Some text) = ⊥
HasItsText (Purge name) None = ⊤
HasItsText (Purge name) (Some text) = ⊥

-- the first line of the payload, with its newline, is read as the step, and all behind it is the text of the stanza
pub record Says (payload : List ℕ) (recorded : RecordedStep) : Type 0 where
  pub step : read_step (take_through NEWLINE payload) ≡ Ok recorded.step
  pub text : HasItsText recorded.step recorded.stanza
  pub behind : drop_through NEWLINE payload ≡ unwrap_or recorded.stanza []

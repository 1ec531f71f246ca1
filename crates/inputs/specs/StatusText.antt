-- The text of a status file with the configured architecture.
use Rattle.std.specs.Prelude.{◌≡◌, Some}
use Rattle.inputs.specs.Texts.{Texts}
use Rattle.inputs.specs.declared.status_file.StatusText.{StatusText}

-- it is the text of the status file, for their architecture
pub record IsStatusText (texts : Texts) (status : StatusText) : Type 0 where
  pub text : texts.status ≡ Some status.text.items
  pub arch : texts.arch ≡ status.arch.items

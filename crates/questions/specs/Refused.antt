-- Why a part of a question wasn't read.
use Rattle.std.specs.Prelude.{◌≡◌, ◌⊎◌, Option, None}
use Rattle.questions.specs.declared.mistake.Refused.{Refused}
use Rattle.questions.specs.declared.mistake.Refused.TheVariants.{OutOfMemory}

-- memory was refused, or nothing was there to be found
abbrev pub IsRefusalOf : {A : Type 0} → Option A → Refused → Type 0
IsRefusalOf part refused = (refused ≡ OutOfMemory) ⊎ (part ≡ None)

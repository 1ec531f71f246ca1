-- The texts that a call is handed, as what is found on a shelf.
use Rattle.std.specs.Prelude.{◌-◌, Some}
use Rattle.std.specs.List.{slice_get}
use Rattle.std.specs.Option.{option_map}
use Rattle.inputs.specs.Texts.{Found, Shelved}
use Rattle.inputs.specs.declared.inputs.Inputs.{Inputs}

-- what is found of the inputs, with a plan or a refutation that is judged: the texts of the indices are counted from 1
abbrev pub shelved : Inputs → Found → Shelved
shelved inputs judged = record {
  status = Some inputs.status.now;
  sources = Some inputs.sources.now;
  index = λ number file. option_map (λ text. text.now) (slice_get inputs.indices.now (number - 1));
  preferences = option_map (λ text. Some text.now) inputs.preferences;
  request = Some inputs.request.now;
  judged = judged;
}

-- What a request is answered from: the records of the start, the indices and the preferences.
use Rattle.std.specs.Prelude.{List, map}
use Rattle.index.specs.Index.{ReadIndex}
use Rattle.pins.specs.Prefs.{Preferences}
use Rattle.rules.specs.Available.{Index, Inputs, Request}
use Rattle.rules.specs.Database.{Record}

-- the indices that were read
abbrev pub indices_of : List ReadIndex → List Index
indices_of indices = map (λ read. read.index) indices

-- the inputs of a request
abbrev pub inputs_of : List Record → List Index → Preferences → Request → Inputs
inputs_of start indices prefs request = record {
  start = start;
  indices = indices;
  preferences = prefs.preferences;
  target = prefs.target;
  request = request;
}

-- What a crate above may ask of a text: the values of one field in all its stanzas.
use Rattle.std.specs.Prelude.{ℕ, List, [], ◌∷◌, Result, Ok, Err, Option, None, Some}
use Rattle.stanza.specs.declared.error.StanzaError.{StanzaError}
use Rattle.stanza.specs.Field.{value_named}
use Rattle.stanza.specs.Stanza.{StanzaText}

-- a value before others, where there is one
abbrev pub before_values : Option (List ℕ) → Result (List (List ℕ)) StanzaError → Result (List (List ℕ)) StanzaError
before_values value (Err fault) = Err fault
before_values None (Ok values) = Ok values
before_values (Some value) (Ok values) = Ok (value ∷ values)

-- the values of the fields of one name, or the text's fault
abbrev pub values_in : List ℕ → List (Result StanzaText StanzaError) → Result (List (List ℕ)) StanzaError
values_in name [] = Ok []
values_in name (Err fault ∷ items) = Err fault
values_in name (Ok stanza ∷ items) = before_values (value_named name stanza.fields) (values_in name items)

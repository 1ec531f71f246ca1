-- The fields of a stanza that an action has touched, in the order in which they are written.
use Rattle.std.specs.Prelude.{ℕ, Bool, not, ◌&&◌, List, [], ◌∷◌, ◌++◌, map, Option, None, Some, codes}
use Rattle.std.specs.List.{filter, flat_map}
use Rattle.relation.specs.PackageStanza.{field_of}
use Rattle.rules.specs.FileRecord.{FileRecord, IndexStanza, new_entry, unpacked_entry}
use Rattle.rules.specs.Stanza.{Field, fields_called, index_only, is_called_one_of, trigger_fields, with_config_version}
use Rattle.stanza.specs.Stanza.{StanzaText}
use Rattle.status.specs.declared.fields.LeftOut.{LeftOut}
use Rattle.status.specs.declared.fields.LeftOut.TheVariants.{Nothing, OfTriggers, OfIndex}

-- the fields that are written at a new place or with a new value
abbrev pub written_anew : List (List ℕ)
written_anew = codes "Package" ∷ codes "Status" ∷ codes "Config-Version" ∷ []

-- the fields that are left out: none, those of triggers, or those that an index alone has
abbrev pub names_left_out : LeftOut → List (List ℕ)
names_left_out Nothing = []
names_left_out OfTriggers = trigger_fields
names_left_out OfIndex = index_only

-- a field is written on: it is neither left out nor written anew
abbrev pub is_written_on : LeftOut → Field → Bool
is_written_on left_out field =
    not (is_called_one_of (names_left_out left_out) field) && not (is_called_one_of written_anew field)

-- the fields of a stanza that are written on, with Config-Version behind Version
abbrev pub rest_of : LeftOut → Option (List ℕ) → List Field → List Field
rest_of left_out config_version fields = flat_map (with_config_version config_version) (filter (is_written_on left_out) fields)

-- the fields of a touched stanza: Package first, Status second, and then those that are written on
abbrev pub written_fields : LeftOut → Field → Option (List ℕ) → List Field → List Field
written_fields left_out status config_version fields =
    fields_called (codes "Package") fields ++ status ∷ rest_of left_out config_version fields

-- the fields of a stanza that was read
abbrev pub fields_of : StanzaText → List Field
fields_of stanza = map field_of stanza.fields

-- the fields of the stanza of an entry, if there is one
abbrev pub fields_in : Option FileRecord → List Field
fields_in None = []
fields_in (Some entry) = entry.stanza.fields

-- the entry of a stanza of an index once it is unpacked, over that of its name if there is one
abbrev pub entry_over : IndexStanza → Option FileRecord → FileRecord
entry_over indexed None = new_entry indexed
entry_over indexed (Some entry) = unpacked_entry indexed entry

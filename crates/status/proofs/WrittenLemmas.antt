-- The fields that are written are those of the touched or unpacked stanza.
use Rattle.std.proofs.Common.{◌≡◌, ℕ, Bool, true, false, not, List, ◌∷◌, ◌++◌, Option, refl, sym, ap, ◌∙◌, codes, if◌then◌else◌}
use Rattle.std.specs.List.{flat_map, list_any}
use Rattle.std.specs.Str.{str_eq_ignore_ascii_case}
use Rattle.rules.specs.Stanza.{Field, fields_called, fields_without, index_only, is_called, is_called_one_of, lasting_fields, touched_fields, trigger_fields, unpacked_fields, with_config_version}
use Rattle.rules.specs.State.{is_trigger_state}
use Rattle.rules.specs.declared.status.State.{State}
use Rattle.status.proofs.FilterLemmas.{flat_map_both, filter_of_filter, filter_within}
use Rattle.status.proofs.PassLemmas.{apart}
use Rattle.status.specs.Written.{names_left_out, rest_of, written_anew, written_fields}
use Rattle.status.specs.declared.fields.LeftOut.{LeftOut}
use Rattle.status.specs.declared.fields.LeftOut.TheVariants.{Nothing, OfTriggers, OfIndex}
use Rattle.status_text.specs.Spelling.{field_text, fields_text}

-- the fields that are written are those of the stanza without those that are left out, touched
written_without : (left_out : LeftOut) → list_any (λ other. str_eq_ignore_ascii_case (codes "Package") other) (names_left_out left_out) ≡ false
    → (status : Field) (config_version : Option (List ℕ)) (fields : List Field)
    → written_fields left_out status config_version fields ≡ touched_fields status config_version (fields_without (names_left_out left_out) fields)
written_without left_out not_package status config_version fields =
    ap (λ front. front ++ status ∷ rest_of left_out config_version fields)
    (sym (filter_within (is_called (codes "Package")) (λ field. not (is_called_one_of (names_left_out left_out) field))
    (λ field called. ap not (apart (codes "Package") (names_left_out left_out) field called not_package)) fields))
    ∙ ap (λ rest. fields_called (codes "Package") (fields_without (names_left_out left_out) fields) ++ status ∷ flat_map (with_config_version config_version) rest)
    (sym (filter_of_filter (λ field. not (is_called_one_of written_anew field)) (λ field. not (is_called_one_of (names_left_out left_out) field)) fields))

-- the text of the fields of an unpacked stanza
pub unpacked-text : (status : Field) (config_version : Option (List ℕ)) (fields old_fields : List Field)
    → fields_text (written_fields OfIndex status config_version fields) ++ fields_text (fields_called (codes "Conffiles") old_fields)
    ≡ fields_text (unpacked_fields status config_version fields old_fields)
unpacked-text status config_version fields old_fields =
    ap (λ front. fields_text front ++ fields_text (fields_called (codes "Conffiles") old_fields)) (written_without OfIndex refl status config_version fields)
    ∙ sym (flat_map_both field_text (touched_fields status config_version (fields_without index_only fields)) (fields_called (codes "Conffiles") old_fields))

-- the text of the fields that an action on a package in this state writes
pub lasting-text : (state : State) (status : Field) (config_version : Option (List ℕ)) (fields : List Field)
    → fields_text (written_fields (if is_trigger_state state then OfTriggers else Nothing) status config_version fields)
    ≡ fields_text (touched_fields status config_version (lasting_fields state fields))
lasting-text state status config_version fields = by (is_trigger_state state)
  where
    by : (triggered : Bool) → fields_text (written_fields (if triggered then OfTriggers else Nothing) status config_version fields)
        ≡ fields_text (touched_fields status config_version (if triggered then fields_without trigger_fields fields else fields))
    by true = ap fields_text (written_without OfTriggers refl status config_version fields)
    by false = refl

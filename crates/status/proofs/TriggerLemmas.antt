-- The fields of triggers are none of those that a record is read from, so that it says the same without them.
use Rattle.std.proofs.Common.{◌≡◌, ℕ, Bool, true, false, not, List, refl, ap, codes, if◌then◌else◌}
use Rattle.std.specs.List.{filter, list_any}
use Rattle.std.specs.Str.{str_eq_ignore_ascii_case}
use Rattle.rules.specs.Stanza.{Field, fields_without, is_called_one_of, lasting_fields, marks_essential, trigger_fields}
use Rattle.rules.specs.State.{is_trigger_state}
use Rattle.rules.specs.declared.status.State.{State}
use Rattle.status.proofs.FilterLemmas.{filter_within}
use Rattle.status.proofs.PassLemmas.{apart, one_of_both}
use Rattle.status.proofs.ValueLemmas.{first_value, passes_some, same_values, value_called, values_of}

-- a name that none of them has is called as before
called-without : (name : List ℕ) → list_any (λ other. str_eq_ignore_ascii_case name other) trigger_fields ≡ false → (fields : List Field)
    → value_called name (fields_without trigger_fields fields) ≡ value_called name fields
called-without name other fields = ap first_value
    (filter_within _ (λ field. not (is_called_one_of trigger_fields field)) (λ field called. ap not (apart name trigger_fields field called other)) fields)

essential-without : (fields : List Field) → passes_some (filter marks_essential (fields_without trigger_fields fields)) ≡ passes_some (filter marks_essential fields)
essential-without fields = ap passes_some
    (filter_within marks_essential (λ field. not (is_called_one_of trigger_fields field))
    (λ field marked. one_of_both (not (is_called_one_of trigger_fields field) ≡ true) _ _ _ marked
    (λ called. ap not (apart (codes "Essential") trigger_fields field called refl))
    (λ called. ap not (apart (codes "Protected") trigger_fields field called refl))) fields)

values-without : (fields : List Field) → values_of (fields_without trigger_fields fields) ≡ values_of fields
values-without fields = same_values (values_of (fields_without trigger_fields fields)) (values_of fields)
    (called-without (codes "Package") refl fields) (called-without (codes "Status") refl fields) (called-without (codes "Architecture") refl fields)
    (called-without (codes "Version") refl fields) (called-without (codes "Config-Version") refl fields) (called-without (codes "Pre-Depends") refl fields)
    (called-without (codes "Depends") refl fields) (called-without (codes "Conflicts") refl fields) (called-without (codes "Breaks") refl fields)
    (called-without (codes "Provides") refl fields) (essential-without fields)

-- the values among the fields that an action writes on
pub values-lasting : (state : State) (fields : List Field) → values_of (lasting_fields state fields) ≡ values_of fields
values-lasting state fields = by (is_trigger_state state)
  where
    by : (triggered : Bool) → values_of (if triggered then fields_without trigger_fields fields else fields) ≡ values_of fields
    by true = values-without fields
    by false = refl

-- What rearranging the fields of a stanza keeps: to do it twice is to do it once, and the fields Conffiles are the same.
use Rattle.std.proofs.Common.{◌≡◌, ℕ, Bool, true, false, true≢false, not, ◌||◌, List, [], ◌∷◌, ◌++◌, Option, None, Some, refl, sym, ap, ◌∙◌, append-nil, codes, bytes_eq}
use Rattle.std.proofs.lemmas.List.Elements.{filter-append}
use Rattle.std.specs.List.{filter, flat_map}
use Rattle.std.specs.Str.{str_eq_ignore_ascii_case, str_to_ascii_lowercase}
use Rattle.rules.specs.Database.{Record}
use Rattle.rules.specs.FileRecord.{status_of}
use Rattle.rules.specs.NamedLaws.{bytes_eq-true}
use Rattle.rules.specs.Stanza.{Field, is_called, is_called_one_of, fields_called, config_fields, with_config_version, touched_fields}
use Rattle.status.specs.Written.{written_anew}
use Rattle.status.proofs.FilterLemmas.{all_of_both, none_in_parts}

-- a field that has one name has no other one
pub other_name : (name other : List ℕ) (field : Field) → is_called name field ≡ true → str_eq_ignore_ascii_case name other ≡ false → is_called other field ≡ false
other_name name other field called differ =
    ap (λ spelled. bytes_eq spelled (str_to_ascii_lowercase other))
    (bytes_eq-true (str_to_ascii_lowercase field.name) (str_to_ascii_lowercase name) called) ∙ differ

-- no field that is written for the config version passes a test that doesn't pass that name
config-none : (p : Field → Bool) → ((version : List ℕ) → p (record { name = codes "Config-Version"; value = version }) ≡ false)
    → (is_version : Bool) (config_version : Option (List ℕ)) → filter p (filter (λ _. is_version) (config_fields config_version)) ≡ []
config-none p not_config true None = refl
config-none p not_config false None = refl
config-none p not_config true (Some version) = rw (not_config version) refl
config-none p not_config false (Some version) = refl

-- so with a field
pub config-same : (p : Field → Bool) → ((version : List ℕ) → p (record { name = codes "Config-Version"; value = version }) ≡ false)
    → (config_version : Option (List ℕ)) (field : Field) → filter p (with_config_version config_version field) ≡ filter p (field ∷ [])
config-same p not_config config_version field =
    filter-append p (field ∷ []) (filter (λ _. is_called (codes "Version") field) (config_fields config_version))
    ∙ ap (λ rest. filter p (field ∷ []) ++ rest) (config-none p not_config (is_called (codes "Version") field) config_version)
    ∙ append-nil (filter p (field ∷ []))

neither : (a b : Bool) → not (a || b) ≡ true → a ≡ false
neither true b h = absurd (true≢false (sym h))
neither false b h = refl

-- the field is written on, since it has no name that is written anew
abbrev pub is_kept : Field → Bool
is_kept field = not (is_called_one_of written_anew field)

no_package : (config_version : Option (List ℕ)) (field : Field) → is_kept field ≡ true
    → fields_called (codes "Package") (with_config_version config_version field) ≡ []
no_package config_version field kept =
    config-same (is_called (codes "Package")) (λ version. refl) config_version field
    ∙ rw (neither (is_called (codes "Package") field) (is_called_one_of (codes "Status" ∷ codes "Config-Version" ∷ []) field) kept) refl

-- the fields Package and those that are written on, of a touched stanza
pub touched-package : (entry : Record) (config_version : Option (List ℕ)) (fields : List Field)
    → fields_called (codes "Package") (touched_fields (status_of entry) config_version fields) ≡ fields_called (codes "Package") fields
touched-package entry config_version fields =
    filter-append (is_called (codes "Package")) (fields_called (codes "Package") fields) (status_of entry ∷ flat_map (with_config_version config_version) (filter is_kept fields))
    ∙ ap (λ front. front ++ fields_called (codes "Package") (flat_map (with_config_version config_version) (filter is_kept fields)))
    (all_of_both (is_called (codes "Package")) (is_called (codes "Package")) (λ field called. called) fields)
    ∙ ap (λ rest. fields_called (codes "Package") fields ++ rest)
    (none_in_parts (is_called (codes "Package")) is_kept (with_config_version config_version) (no_package config_version) fields)
    ∙ append-nil (fields_called (codes "Package") fields)

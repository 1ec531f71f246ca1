-- Which fields pass a test, of a touched and of an unpacked stanza: for a test that passes none of the fields that an
-- action writes or leaves out, those that pass of the stanza before.
use Rattle.std.proofs.Common.{◌≡◌, ℕ, Bool, true, false, true≢false, not, ◌||◌, ◌&&◌, List, [], ◌∷◌, ◌++◌, Option, refl, sym, ap, ◌∙◌, append-nil, codes}
use Rattle.std.proofs.lemmas.List.Elements.{filter-append}
use Rattle.std.specs.List.{filter, flat_map, list_any}
use Rattle.std.specs.Str.{str_eq_ignore_ascii_case}
use Rattle.rules.specs.Database.{Record}
use Rattle.rules.specs.FileRecord.{status_of}
use Rattle.rules.specs.Stanza.{Field, is_called, is_called_one_of, fields_called, fields_without, index_only, marks_essential, with_config_version, touched_fields, unpacked_fields}
use Rattle.status.proofs.FieldLemmas.{config-same, is_kept, other_name}
use Rattle.status.proofs.FilterLemmas.{filter_within, left_out, none_of_both, same_in_parts}
use Rattle.status.specs.Written.{written_anew}

-- the field isn't one that an index alone has
abbrev pub is_common : Field → Bool
is_common field = not (is_called_one_of index_only field)

-- a test that passes no field that an action writes or leaves out
pub record Passes (test : Field → Bool) : Type 0 where
  pub status : (entry : Record) → test (status_of entry) ≡ false
  pub config : (version : List ℕ) → test (record { name = codes "Config-Version"; value = version }) ≡ false
  pub from_package : (field : Field) → is_called (codes "Package") field ≡ true → test field ≡ false
  pub from_conffiles : (field : Field) → is_called (codes "Conffiles") field ≡ true → test field ≡ false
  pub kept : (field : Field) → test field ≡ true → is_kept field ≡ true
  pub common : (field : Field) → test field ≡ true → is_common field ≡ true

pub touched_passes : (test : Field → Bool) → Passes test → (entry : Record) (config_version : Option (List ℕ)) (fields : List Field)
    → filter test (touched_fields (status_of entry) config_version fields) ≡ filter test fields
touched_passes test passes entry config_version fields =
    filter-append test (fields_called (codes "Package") fields) (status_of entry ∷ flat_map (with_config_version config_version) (filter is_kept fields))
    ∙ ap (λ front. front ++ filter test (status_of entry ∷ flat_map (with_config_version config_version) (filter is_kept fields)))
    (none_of_both test (is_called (codes "Package")) passes.from_package fields)
    ∙ left_out test (status_of entry) (flat_map (with_config_version config_version) (filter is_kept fields)) (passes.status entry)
    ∙ same_in_parts test is_kept (with_config_version config_version) (λ field _. config-same test passes.config config_version field) passes.kept fields

pub unpacked_passes : (test : Field → Bool) → Passes test → (entry : Record) (config_version : Option (List ℕ)) (index_fields old_fields : List Field)
    → filter test (unpacked_fields (status_of entry) config_version index_fields old_fields) ≡ filter test index_fields
unpacked_passes test passes entry config_version index_fields old_fields =
    filter-append test (touched_fields (status_of entry) config_version (fields_without index_only index_fields)) (fields_called (codes "Conffiles") old_fields)
    ∙ ap (λ rest. filter test (touched_fields (status_of entry) config_version (fields_without index_only index_fields)) ++ rest)
    (none_of_both test (is_called (codes "Conffiles")) passes.from_conffiles old_fields)
    ∙ append-nil (filter test (touched_fields (status_of entry) config_version (fields_without index_only index_fields)))
    ∙ touched_passes test passes entry config_version (fields_without index_only index_fields)
    ∙ filter_within test is_common passes.common index_fields

first_false : (a b : Bool) → (a || b) ≡ false → a ≡ false
first_false false b h = refl
first_false true b h = h

second_false : (a b : Bool) → (a || b) ≡ false → b ≡ false
second_false false b h = h
second_false true b h = absurd (true≢false h)

-- a field of one name has none of these
pub apart : (name : List ℕ) (names : List (List ℕ)) (field : Field) → is_called name field ≡ true
    → list_any (λ other. str_eq_ignore_ascii_case name other) names ≡ false → is_called_one_of names field ≡ false
apart name [] field called differ = refl
apart name (other ∷ names) field called differ =
    let here = str_eq_ignore_ascii_case name other in
    let later = list_any (λ next. str_eq_ignore_ascii_case name next) names in
    rw (other_name name other field called (first_false here later differ), apart name names field called (second_false here later differ)) refl

-- the test whether a field has this name, which is none of those
pub passes_called : (name : List ℕ) → str_eq_ignore_ascii_case (codes "Status") name ≡ false
    → str_eq_ignore_ascii_case (codes "Config-Version") name ≡ false → str_eq_ignore_ascii_case (codes "Package") name ≡ false
    → str_eq_ignore_ascii_case (codes "Conffiles") name ≡ false
    → list_any (λ other. str_eq_ignore_ascii_case name other) written_anew ≡ false
    → list_any (λ other. str_eq_ignore_ascii_case name other) index_only ≡ false → Passes (is_called name)
passes_called name status config pack conffiles anew only = record {
  status = λ entry. status;
  config = λ version. config;
  from_package = λ field called. other_name (codes "Package") name field called pack;
  from_conffiles = λ field called. other_name (codes "Conffiles") name field called conffiles;
  kept = λ field called. ap not (apart name written_anew field called anew);
  common = λ field called. ap not (apart name index_only field called only);
}

-- the test whether a field marks its package essential
pub one_of_both : (P : Type 0) (a b c : Bool) → ((a || (b || false)) && c) ≡ true → (a ≡ true → P) → (b ≡ true → P) → P
one_of_both P true b c h first second = first refl
one_of_both P false true c h first second = second refl
one_of_both P false false c h first second = absurd (true≢false (sym h))

neither_of_both : (a b c : Bool) → a ≡ false → b ≡ false → ((a || (b || false)) && c) ≡ false
neither_of_both a b c first second = rw (first, second) refl

pub passes_essential : Passes marks_essential
passes_essential = record {
  status = λ entry. refl;
  config = λ version. refl;
  from_package = λ field called. neither_of_both _ _ _
      (other_name (codes "Package") (codes "Essential") field called refl) (other_name (codes "Package") (codes "Protected") field called refl);
  from_conffiles = λ field called. neither_of_both _ _ _
      (other_name (codes "Conffiles") (codes "Essential") field called refl) (other_name (codes "Conffiles") (codes "Protected") field called refl);
  kept = λ field marked. one_of_both (is_kept field ≡ true) _ _ _ marked
      (λ called. ap not (apart (codes "Essential") written_anew field called refl)) (λ called. ap not (apart (codes "Protected") written_anew field called refl));
  common = λ field marked. one_of_both (is_common field ≡ true) _ _ _ marked
      (λ called. ap not (apart (codes "Essential") index_only field called refl)) (λ called. ap not (apart (codes "Protected") index_only field called refl));
}

-- The fields of a touched stanza, and of an unpacked one: each can be written, and no two have the same name.
use Rattle.std.proofs.Common.{◌≡◌, ℕ, ◌<◌, Bool, true, false, not, List, [], ◌∷◌, ◌++◌, length, refl, sym, ap, subst, ◌∙◌, arith, Option, None, Some, inl, inr, codes}
use Rattle.std.proofs.lemmas.Bool.{false≢true, cases_Bool, cond_both}
use Rattle.std.proofs.lemmas.List.{append-nil, length-append}
use Rattle.std.specs.List.{filter, flat_map, AllByRecursion}
use Rattle.rules.specs.Stanza.{Field, is_called, is_called_one_of, fields_called, fields_without, config_fields, with_config_version, touched_fields, trigger_fields, lasting_fields, index_only, unpacked_fields}
use Rattle.rules.specs.State.{is_trigger_state}
use Rattle.rules.specs.declared.status.State.{State}
use Rattle.stanza.specs.Field.{same_name}
use Rattle.status_text.specs.Writable.{IsWritable, AreWritable}
use Rattle.status_text.specs.Touched.{AreNoneOrWritable}
use Rattle.status_text.proofs.DistinctFieldLemmas.{all_from, all-filter, all-passes, all-append, IsApart, HaveDistinctNames, distinct-names, names-distinct, distinct-filter, distinct-append, apart-named, apart-unnamed, called_none, both_named}

-- fields with distinct names, each of which can be written
pub record CanStand (fields : List Field) : Type 0 where
  pub each : AllByRecursion IsWritable fields
  pub names : HaveDistinctNames fields

pub CanStand-writable : (fields : List Field) → AreWritable fields → CanStand fields
CanStand-writable fields can = record { each = can.each; names = names-distinct fields can.names }

pub CanStand-none : (fields : List Field) → AreNoneOrWritable fields → CanStand fields
CanStand-none fields are = elim are [
  | inl none ↦ subst CanStand (sym none) (record { each = tt; names = tt })
  | inr can ↦ CanStand-writable fields can
]

pub AreWritable-standing : (fields : List Field) → 0 < length fields → CanStand fields → AreWritable fields
AreWritable-standing fields some can = record { some = some; each = can.each; names = distinct-names fields can.names }

pub CanStand-filter : (test : Field → Bool) (fields : List Field) → CanStand fields → CanStand (filter test fields)
CanStand-filter test fields can = record { each = all-filter IsWritable test fields can.each; names = distinct-filter test fields can.names }

-- so are those that outlast an action
pub CanStand-lasting : (state : State) (fields : List Field) → CanStand fields → CanStand (lasting_fields state fields)
CanStand-lasting state fields can = cond_both (is_trigger_state state) (fields_without trigger_fields fields) fields CanStand
    (λ _. CanStand-filter (λ field. not (is_called_one_of trigger_fields field)) fields can) (λ _. can)

-- the field has another name than this
abbrev pub IsNot : List ℕ → Field → Type 0
IsNot name field = same_name field.name name ≡ false

-- ---- the fields Config-Version

abbrev pub Versions : Option (List ℕ) → List Field → List Field
Versions version fields = flat_map (with_config_version version) fields

-- a fact of the fields and of the field Config-Version
all-versions : (P : Field → Type 0) (version : Option (List ℕ)) (fields : List Field) → AllByRecursion P fields → AllByRecursion P (config_fields version) → AllByRecursion P (Versions version fields)
all-versions P version [] all config = tt
all-versions P version (field ∷ fields) all config = (
  all.0,
  all-append P (filter (λ _. is_called (codes "Version") field) (config_fields version)) (Versions version fields)
      (all-filter P (λ _. is_called (codes "Version") field) (config_fields version) config) (all-versions P version fields all.1 config),
)

-- no field is Version: none is put behind one
filter-none : (fields : List Field) → filter (λ _. false) fields ≡ []
filter-none [] = refl
filter-none (field ∷ fields) = filter-none fields

versions-none : (version : Option (List ℕ)) (fields : List Field) → AllByRecursion (IsNot (codes "Version")) fields → Versions version fields ≡ fields
versions-none version [] all = refl
versions-none version (field ∷ fields) all =
    ap (λ b. field ∷ (filter (λ _. b) (config_fields version) ++ Versions version fields)) all.0
    ∙ ap (λ fs. field ∷ (fs ++ Versions version fields)) (filter-none (config_fields version))
    ∙ ap (λ fs. field ∷ fs) (versions-none version fields all.1)

config-named : (version : Option (List ℕ)) → AllByRecursion (λ (field : Field). same_name field.name (codes "Config-Version") ≡ true) (config_fields version)
config-named None = tt
config-named (Some version) = (refl, tt)

config-distinct : (version : Option (List ℕ)) → HaveDistinctNames (config_fields version)
config-distinct None = tt
config-distinct (Some version) = (tt, tt)

filter-all : (fields : List Field) → filter (λ _. true) fields ≡ fields
filter-all [] = refl
filter-all (field ∷ fields) = ap (λ fs. field ∷ fs) (filter-all fields)

distinct-versions : (version : Option (List ℕ)) (fields : List Field) → HaveDistinctNames fields → AllByRecursion (IsNot (codes "Config-Version")) fields → HaveDistinctNames (Versions version fields)
distinct-versions version [] distinct all = tt
distinct-versions version (field ∷ fields) distinct all =
    elim (cases_Bool (is_called (codes "Version") field)) [
      | inl h ↦
          let others : AllByRecursion (IsNot (codes "Version")) fields =
          all_from (λ (other : Field). same_name field.name other.name ≡ false) (IsNot (codes "Version"))
          (λ other apart. other_version other apart h) fields distinct.0 in
          let text : Versions version (field ∷ fields) ≡ field ∷ (config_fields version ++ fields) =
          ap (λ b. field ∷ (filter (λ _. b) (config_fields version) ++ Versions version fields)) h
          ∙ ap (λ fs. field ∷ (fs ++ Versions version fields)) (filter-all (config_fields version))
          ∙ ap (λ fs. field ∷ (config_fields version ++ fs)) (versions-none version fields others) in
          subst HaveDistinctNames (sym text) (
            all-append (λ (other : Field). same_name field.name other.name ≡ false) (config_fields version) fields
                (apart-unnamed (codes "Config-Version") field (config_fields version) all.0 (config-named version)) distinct.0,
            distinct-append (config_fields version) fields (config-distinct version) distinct.1
                (all_from (λ (config : Field). same_name config.name (codes "Config-Version") ≡ true) (λ config. IsApart config fields)
                (λ config named. apart-named (codes "Config-Version") config fields named all.1) (config_fields version) (config-named version)),
          )
      | inr h ↦
          let text : Versions version (field ∷ fields) ≡ field ∷ Versions version fields =
          ap (λ b. field ∷ (filter (λ _. b) (config_fields version) ++ Versions version fields)) h
          ∙ ap (λ fs. field ∷ (fs ++ Versions version fields)) (filter-none (config_fields version)) in
          subst HaveDistinctNames (sym text) (
            all-versions (λ (other : Field). same_name field.name other.name ≡ false) version fields distinct.0
                (apart-unnamed (codes "Config-Version") field (config_fields version) all.0 (config-named version)),
            distinct-versions version fields distinct.1 all.1,
          )
    ] where
      other_version : (other : Field) → same_name field.name other.name ≡ false → same_name field.name (codes "Version") ≡ true → IsNot (codes "Version") other
      other_version other apart named = elim (cases_Bool (same_name other.name (codes "Version"))) [
        | inl e ↦ absurd (false≢true (sym apart ∙ both_named field.name other.name (codes "Version") named e))
        | inr e ↦ e
      ]

-- ---- the fields of a touched stanza

-- the fields that are kept behind Package and Status
abbrev pub others_of : List Field → List Field
others_of fields = fields_without (codes "Package" ∷ codes "Status" ∷ codes "Config-Version" ∷ []) fields

-- none of them is one of these three
others-named : (fields : List Field) → AllByRecursion (λ (field : Field). AllByRecursion (λ name. same_name field.name name ≡ false) (codes "Package" ∷ codes "Status" ∷ codes "Config-Version" ∷ [])) (others_of fields)
others-named fields =
    let names = codes "Package" ∷ codes "Status" ∷ codes "Config-Version" ∷ [] in
    all_from (λ (field : Field). not (is_called_one_of names field) ≡ true) (λ (field : Field). AllByRecursion (λ name. same_name field.name name ≡ false) names)
    (called_none names) (others_of fields) (all-passes (λ field. not (is_called_one_of names field)) fields)

-- a fact of the fields, of the status and of the config version is one of the touched fields
all-touched : (P : Field → Type 0) (status : Field) (version : Option (List ℕ)) (fields : List Field) → AllByRecursion P fields → P status → AllByRecursion P (config_fields version) → AllByRecursion P (touched_fields status version fields)
all-touched P status version fields all here config =
    let names = codes "Package" ∷ codes "Status" ∷ codes "Config-Version" ∷ [] in
    all-append P (fields_called (codes "Package") fields) (status ∷ Versions version (others_of fields))
    (all-filter P (is_called (codes "Package")) fields all)
    (here, all-versions P version (others_of fields) (all-filter P (λ field. not (is_called_one_of names field)) fields all) config)

config-no_package : (version : Option (List ℕ)) → AllByRecursion (IsNot (codes "Package")) (config_fields version)
config-no_package None = tt
config-no_package (Some version) = (refl, tt)

config-no_status : (version : Option (List ℕ)) → AllByRecursion (IsNot (codes "Status")) (config_fields version)
config-no_status None = tt
config-no_status (Some version) = (refl, tt)

config-no_conffiles : (version : Option (List ℕ)) → AllByRecursion (IsNot (codes "Conffiles")) (config_fields version)
config-no_conffiles None = tt
config-no_conffiles (Some version) = (refl, tt)

-- what the name Status is to another
status-name : (status : Field) (name : List ℕ) (is : Bool) → status.name ≡ codes "Status" → same_name (codes "Status") name ≡ is → same_name status.name name ≡ is
status-name status name is is_status e = ap (λ n. same_name n name) is_status ∙ e

pub touched-can_stand : (status : Field) (version : Option (List ℕ)) (fields : List Field) → status.name ≡ codes "Status" → IsWritable status → AllByRecursion IsWritable (config_fields version) → CanStand fields → CanStand (touched_fields status version fields)
touched-can_stand status version fields is_status can_status can_config can =
    let first = fields_called (codes "Package") fields in
    let others = others_of fields in
    let last = Versions version others in
    let named = others-named fields in
    let three = λ (field : Field). AllByRecursion (λ name. same_name field.name name ≡ false) (codes "Package" ∷ codes "Status" ∷ codes "Config-Version" ∷ []) in
    let no_package : AllByRecursion (IsNot (codes "Package")) last =
    all-versions (IsNot (codes "Package")) version others (all_from three (IsNot (codes "Package")) (λ field h. h.0) others named) (config-no_package version) in
    let no_status : AllByRecursion (IsNot (codes "Status")) last =
    all-versions (IsNot (codes "Status")) version others (all_from three (IsNot (codes "Status")) (λ field h. h.1.0) others named) (config-no_status version) in
    let distinct : HaveDistinctNames last =
    distinct-versions version others (distinct-filter (λ field. not (is_called_one_of (codes "Package" ∷ codes "Status" ∷ codes "Config-Version" ∷ []) field)) fields can.names)
    (all_from three (IsNot (codes "Config-Version")) (λ field h. h.1.1.0) others named) in
    record {
      each = all-touched IsWritable status version fields can.each can_status can_config;
      names = distinct-append first (status ∷ last)
          (distinct-filter (is_called (codes "Package")) fields can.names)
          (apart-named (codes "Status") status last (status-name status (codes "Status") true is_status refl) no_status, distinct)
          (all_from (λ (field : Field). is_called (codes "Package") field ≡ true) (λ field. IsApart field (status ∷ last))
          (λ field h. apart-named (codes "Package") field (status ∷ last) h (status-name status (codes "Package") false is_status refl, no_package))
          first (all-passes (is_called (codes "Package")) fields));
    }

-- ---- the fields of an unpacked stanza

-- the fields of the index but for those that a status file doesn't have
abbrev pub kept_of_index : List Field → List Field
kept_of_index fields = fields_without index_only fields

kept-no_conffiles : (fields : List Field) → AllByRecursion (IsNot (codes "Conffiles")) (kept_of_index fields)
kept-no_conffiles fields =
    all_from (λ (field : Field). not (is_called_one_of index_only field) ≡ true) (IsNot (codes "Conffiles"))
    (λ field none. (called_none index_only field none).1.1.1.1.1.1.1.0)
    (kept_of_index fields) (all-passes (λ field. not (is_called_one_of index_only field)) fields)

pub unpacked-can_stand : (status : Field) (version : Option (List ℕ)) (index_fields old_fields : List Field) → status.name ≡ codes "Status" → IsWritable status → AllByRecursion IsWritable (config_fields version) → CanStand index_fields → CanStand old_fields → CanStand (unpacked_fields status version index_fields old_fields)
unpacked-can_stand status version index_fields old_fields is_status can_status can_config can_index can_old =
    let kept = kept_of_index index_fields in
    let front = touched_fields status version kept in
    let last = fields_called (codes "Conffiles") old_fields in
    let can_front = touched-can_stand status version kept is_status can_status can_config (CanStand-filter (λ field. not (is_called_one_of index_only field)) index_fields can_index) in
    let can_last = CanStand-filter (is_called (codes "Conffiles")) old_fields can_old in
    let no_conffiles : AllByRecursion (IsNot (codes "Conffiles")) front =
    all-touched (IsNot (codes "Conffiles")) status version kept (kept-no_conffiles index_fields) (status-name status (codes "Conffiles") false is_status refl) (config-no_conffiles version) in
    record {
      each = all-append IsWritable front last can_front.each can_last.each;
      names = distinct-append front last can_front.names can_last.names
          (all_from (IsNot (codes "Conffiles")) (λ field. IsApart field last)
          (λ field h. apart-unnamed (codes "Conffiles") field last h (all-passes (is_called (codes "Conffiles")) old_fields)) front no_conffiles);
    }

-- ---- there are some

touched-some : (status : Field) (version : Option (List ℕ)) (fields more : List Field) → 0 < length (touched_fields status version fields ++ more)
touched-some status version fields more = omega (arith, length-append (touched_fields status version fields) more, length-append (fields_called (codes "Package") fields) (status ∷ Versions version (others_of fields)))

pub touched-writable : (status : Field) (version : Option (List ℕ)) (fields : List Field) → status.name ≡ codes "Status" → IsWritable status → AllByRecursion IsWritable (config_fields version) → CanStand fields → AreWritable (touched_fields status version fields)
touched-writable status version fields is_status can_status can_config can =
    AreWritable-standing (touched_fields status version fields) (subst (λ (fs : List Field). 0 < length fs) (append-nil (touched_fields status version fields)) (touched-some status version fields []))
    (touched-can_stand status version fields is_status can_status can_config can)

pub unpacked-writable : (status : Field) (version : Option (List ℕ)) (index_fields old_fields : List Field) → status.name ≡ codes "Status" → IsWritable status → AllByRecursion IsWritable (config_fields version) → CanStand index_fields → CanStand old_fields → AreWritable (unpacked_fields status version index_fields old_fields)
unpacked-writable status version index_fields old_fields is_status can_status can_config can_index can_old =
    AreWritable-standing (unpacked_fields status version index_fields old_fields)
    (touched-some status version (kept_of_index index_fields) (fields_called (codes "Conffiles") old_fields))
    (unpacked-can_stand status version index_fields old_fields is_status can_status can_config can_index can_old)

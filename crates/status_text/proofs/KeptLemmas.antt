-- A stanza of a present package that isn't refused reads as the package of its record.
use Rattle.std.proofs.Common.{◌≡◌, ℕ, Bool, true, false, true≢false, List, [], Option, Some, None, Ok, refl, sym, ap, ◌∙◌, if◌then◌else◌, unwrap_or, IsTrue}
use Rattle.std.specs.Option.{option_or}
use Rattle.relation.specs.PkgFields.{fields_of}
use Rattle.relation.specs.PkgText.{pkg_fault, pkg_name_fault, read_pkg, unless_fault, value_in}
use Rattle.relation.specs.PkgText.{pkg_of as spelled_pkg}
use Rattle.relation.specs.declared.error.PkgFault.{PkgFault}
use Rattle.rules.specs.Database.{pkg_of}
use Rattle.rules.specs.Name.{is_name}
use Rattle.rules.specs.Package.{Pkg}
use Rattle.rules.specs.State.{is_present_state}
use Rattle.stanza.specs.Field.{FieldText}
use Rattle.stanza.specs.Stanza.{StanzaText}
use Rattle.status_text.specs.Kept.{IsKept, IsTested, kept_record}
use Rattle.status_text.specs.Mark.{name_in}
use Rattle.status_text.specs.Record.{config_version_fault, later_fault, text_in, version_field}
use Rattle.status_text.specs.declared.words.Mark.{Mark}

none-front : (first second : Option PkgFault) → option_or first second ≡ None → first ≡ None
none-front None second h = refl
none-front (Some refused) second h = h

none-back : (first second : Option PkgFault) → option_or first second ≡ None → second ≡ None
none-back None second h = h
none-back (Some refused) second h = absurd (let e = h in cc)

none-both : (first second : Option PkgFault) → first ≡ None → second ≡ None → option_or first second ≡ None
none-both first second e f = rw (e, f) refl

-- where nothing of a present package is refused, neither its version nor its relations are
none-present : (is_present : Bool) (version other config relations : Option PkgFault) → is_present ≡ true
    → option_or (if is_present then version else other) (option_or config (if is_present then relations else None)) ≡ None
    → (version ≡ None) × (relations ≡ None)
none-present false version other config relations e h = absurd (true≢false (sym e))
none-present true version other config relations e h =
    (none-front version (option_or config relations) h, none-back config relations (none-back version (option_or config relations) h))

text-value : (field : Option FieldText) → unwrap_or (text_in field) [] ≡ value_in field
text-value None = refl
text-value (Some field) = refl

-- the package of the fields is that of the record, where it is present
alike : (arch : List ℕ) (stanza : StanzaText) (name : List ℕ) (mark : Mark) (version config_version : Option (List ℕ)) (is_essential : Bool)
    → name ≡ name_in stanza → version ≡ text_in (version_field stanza) → is_present_state mark.state ≡ true
    → spelled_pkg arch (fields_of stanza) ≡ pkg_of (kept_record arch stanza name mark version config_version is_essential)
alike arch stanza name mark version config_version is_essential same text present = rw (same, text, present, text-value (version_field stanza)) refl

pub is_kept : (arch : List ℕ) (stanza : StanzaText) (name : List ℕ) (mark : Mark) (version config_version : Option (List ℕ)) (is_essential : Bool)
    → IsTrue (is_name name) → pkg_name_fault (fields_of stanza) ≡ None → name ≡ name_in stanza → later_fault mark.state stanza ≡ None
    → version ≡ text_in (version_field stanza)
    → IsKept arch stanza (kept_record arch stanza name mark version config_version is_essential)
is_kept arch stanza name mark version config_version is_essential valid named same sound text = record {
  name = valid;
  pkg = λ present.
      let fields = fields_of stanza in
      let faults = none-present (is_present_state mark.state) _ _ (config_version_fault stanza) _ present sound in
      let none : pkg_fault fields ≡ None = none-both _ _ named (none-both _ _ faults.0 faults.1) in
      let read : read_pkg arch stanza ≡ Ok (spelled_pkg arch fields) = ap (λ refused. unless_fault refused (spelled_pkg arch fields)) none in
      read ∙ ap Ok (alike arch stanza name mark version config_version is_essential same text present);
}

-- the package that was tested is that of the record
pub is_tested : (arch : List ℕ) (stanza : StanzaText) (name : List ℕ) (mark : Mark) (version config_version : Option (List ℕ)) (is_essential : Bool)
    (tested : Option Pkg) → name ≡ name_in stanza → version ≡ text_in (version_field stanza)
    → (is_present_state mark.state ≡ true → tested ≡ Some (spelled_pkg arch (fields_of stanza)))
    → IsTested (kept_record arch stanza name mark version config_version is_essential) tested
is_tested arch stanza name mark version config_version is_essential tested same text was present =
    was present ∙ ap Some (alike arch stanza name mark version config_version is_essential same text present)

use Rattle.std.proofs.Common.{◌≡◌, ℕ, Bool, true, List, ◌++◌, Option, Some, OnOk, refl, sym, ap, ◌∙◌, subst, append-nil, codes}
use Rattle.std.specs.List.{filter}
use Rattle.rules.specs.Stanza.{config_fields}
use Rattle.status_text.specs.Spelling.{field_text, fields_text}
use Rattle.status.proofs.write.push_config.Goals as goal

-- the field Config-Version that is written
config-written : (is_version : Bool) (config_version : Option (List ℕ)) (version text : List ℕ)
    → is_version ≡ true → config_version ≡ Some version → text ≡ version
    → field_text (record { name = codes "Config-Version"; value = text }) ≡ fields_text (filter (λ _. is_version) (config_fields config_version))
config-written is_version config_version version text is_there is_some same =
    ap (λ (value : List ℕ). field_text (record { name = codes "Config-Version"; value = value })) same
    ∙ sym (append-nil (field_text (record { name = codes "Config-Version"; value = version })))
    ∙ rw (is_there, is_some) refl

pub returns-then-is_version : goal.returns-then-is_version
returns-then-is_version c =
    subst (λ (text : List ℕ). OnOk c.write_field.result (c.write_field.new.out.items ≡ c.args.out.now.items ++ text))
    (config-written c.args.is_version c.args.config_version.now _ c.text.result.now c.if-is_version.true c.in-Some.is c.text.ensures.value)
    c.write_field.ensures.written

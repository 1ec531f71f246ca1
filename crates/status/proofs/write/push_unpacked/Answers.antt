use Rattle.std.proofs.Common.{◌≡◌, ℕ, List, ◌++◌, OnOk, ap, ◌∙◌, subst, append_assoc, codes}
use Rattle.rules.specs.Stanza.{fields_called, status_field}
use Rattle.status.proofs.WrittenLemmas.{unpacked-text}
use Rattle.status.specs.Written.{fields_in, fields_of, written_fields}
use Rattle.status.specs.declared.fields.LeftOut.TheVariants.{OfIndex}
use Rattle.status_text.specs.Spelling.{fields_text}
use Rattle.status.proofs.write.push_unpacked.Goals as goal

pub returns : goal.returns
returns c =
    let status = status_field c.args.mark.want c.args.mark.flag c.args.mark.state in
    let conffiles : List ℕ = fields_text (fields_called (codes "Conffiles") (fields_in c.args.old.now)) in
    subst (λ (text : List ℕ). OnOk c.push_conffiles.result (c.push_conffiles.new.out.items ≡ text))
    (ap (λ (front : List ℕ). front ++ conffiles) c.in_ok-push_fields.ensures
    ∙ append_assoc c.args.out.now.items (fields_text (written_fields OfIndex status c.args.config_version.now (fields_of c.args.stanza.now))) conffiles
    ∙ ap (λ (text : List ℕ). c.args.out.now.items ++ text)
    (unpacked-text status c.args.config_version.now (fields_of c.args.stanza.now) (fields_in c.args.old.now)))
    c.push_conffiles.ensures

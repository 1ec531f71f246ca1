use Rattle.std.proofs.Common.{◌++◌, List, ℕ, ap, ◌∙◌, if◌then◌else◌}
use Rattle.rules.specs.FileRecord.{written_config_version}
use Rattle.rules.specs.Stanza.{Stanza, status_field}
use Rattle.rules.specs.State.{is_trigger_state}
use Rattle.status.proofs.WrittenLemmas.{lasting-text}
use Rattle.status.specs.Written.{fields_of, written_fields}
use Rattle.status.specs.declared.fields.LeftOut.TheVariants.{Nothing, OfTriggers}
use Rattle.status_text.specs.Spelling.{fields_text}
use Rattle.status.proofs.action.touched_text.Goals as goal

pub returns : goal.returns
returns c =
    let status = status_field c.args.mark.want c.args.mark.flag c.args.mark.state in
    let left_out = c.left_out.ensures ∙ ap (λ state. if is_trigger_state state then OfTriggers else Nothing) c.state.ensures in
    let fields = ap (λ (s : Stanza). s.fields) c.stanza.ensures in
    c.in_ok-push_fields.ensures
    ∙ ap (λ (front : List ℕ). front ++ fields_text (written_fields c.left_out.result status c.written_config_version-written.result (fields_of c.stanza.result.now)))
    c.new-text.ensures.items
    ∙ (λ i. fields_text (written_fields (left_out i) status (c.written_config_version-written.ensures i) (fields i)))
    ∙ lasting-text c.args.old.now.status.state status (written_config_version c.args.mark.state c.args.config_version) c.args.old.now.stanza.fields

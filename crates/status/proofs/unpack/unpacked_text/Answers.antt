use Rattle.std.proofs.Common.{◌++◌, List, ℕ, ap, ◌∙◌}
use Rattle.rules.specs.Stanza.{status_field, unpacked_fields}
use Rattle.rules.specs.declared.status.Flag.TheVariants as flags
use Rattle.rules.specs.declared.status.State.TheVariants as states
use Rattle.rules.specs.declared.status.Want.TheVariants as wants
use Rattle.status.proofs.StepLemmas.{over-text}
use Rattle.status.specs.Written.{fields_in, fields_of}
use Rattle.status_text.specs.Spelling.{fields_text}
use Rattle.status.proofs.unpack.unpacked_text.Goals as goal

pub returns : goal.returns
returns c =
    let status = status_field wants.Install flags.Ok states.Unpacked in
    c.in_ok-push_unpacked.ensures
    ∙ ap (λ (front : List ℕ). front ++ fields_text (unpacked_fields status c.kept_config_version.result (fields_of c.origin.result.0.now) (fields_in c.args.old.now)))
    c.new-text.ensures.items
    ∙ (λ i. fields_text (unpacked_fields status (c.kept_config_version.ensures i) (c.origin.ensures.fields i) (fields_in c.args.old.now)))
    ∙ over-text c.args.indexed.now c.args.old.now

-- There is a name.
use Rattle.std.proofs.Common.{◌≡◌, ◌++◌, ℕ, List, subst, sym}
use Rattle.std.specs.Prelude.{OnOk}
use Rattle.input_notes.proofs.ProviderLemmas.{provided_some}
use Rattle.input_notes.proofs.providers.push_provided.Goals as goal

pub returns-in-len1-up : goal.returns-in-len1-up
returns-in-len1-up c = subst (λ (words : List ℕ). OnOk c.push_line.result (c.push_line.new.text.items ≡ c.args.text.now.items ++ words))
    (sym (provided_some c.args.name.now c.args.names.now c.in-len1-up.len_at_least)) c.push_line.ensures

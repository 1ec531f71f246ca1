-- The names that are noted are those of the lines, and one that may repeat is not asked for.
use Rattle.std.proofs.Common.{◌≡◌, ◌∙◌, ℕ, List, sym, subst, IfOk, OnOk}
use Rattle.std.specs.List.{list_any}
use Rattle.stanza.specs.Field.{same_name}
use Rattle.stanza.specs.Known.{AreKnown}
use Rattle.stanza.proofs.StartsLemmas.{names-noted}
use Rattle.stanza.proofs.ahead.is_known.Goals as goal

pub has-requires : goal.has-requires
has-requires c =
    subst (AreKnown c.args.known.now) (sym (names-noted c.args.form c.requires.starts.0 c.args.done.now c.args.starts.now c.requires.starts.1)) c.requires.known

pub returns-clause-repeated : goal.returns-clause-repeated
returns-clause-repeated c =
    rw (sym c.may_repeat.ensures ∙ c.if-may_repeat.false)
    (subst (λ (names : List (List ℕ)). IfOk c.has.result (λ is. is ≡ list_any (λ earlier. same_name earlier c.args.name.now) names))
    (names-noted c.args.form c.requires.starts.0 c.args.done.now c.args.starts.now c.requires.starts.1) c.has.ensures.has)

pub returns-clause-known : goal.returns-clause-known
returns-clause-known c =
    subst (λ (names : List (List ℕ)). OnOk c.has.result (AreKnown c.has.new.self names))
    (names-noted c.args.form c.requires.starts.0 c.args.done.now c.args.starts.now c.requires.starts.1) c.has.ensures.known

-- The words tell the cause that was found.
use Rattle.std.proofs.Common.{◌≡◌, ◌++◌, ◌∙◌, List, ℕ, ap, subst, sym}
use Rattle.refutation_sentences.specs.Causes.{IsCause, IsCauseTold, TellsCause}
use Rattle.rules.specs.Package.{Atom}
use Rattle.refutation_sentences.proofs.needs.atom_cause.Goals as goal

pub returns : goal.returns
returns c =
    let u = c.args.context.now.premises.now in
    let indices = c.args.context.now.indices.now in
    let why = c.in_ok-cause.cause in
    let grown = c.in_ok-push_cause.ensures in
    let is : c.push_cause.new.text.items ≡ grown.0 = grown.1 ∙ ap (λ text. text ++ grown.0) c.new-text.ensures.items in
    let told : TellsCause u c.args.atom.now.name why grown.0 =
    subst (λ (name : List ℕ). TellsCause u name why grown.0) (c.name.ensures ∙ ap (λ (asked : Atom). asked.name) c.by_atom-wanted.ensures) grown.2 in
    let so : IsCause u indices c.args.atom.now why =
    subst (λ (asked : Atom). IsCause u indices asked why) c.by_atom-wanted.ensures c.in_ok-cause.ensures in
    subst (IsCauseTold u indices c.args.atom.now) (sym is) (why, so, told)

-- What the stanza offers is noted at each step that unpacks it, and where it offers nothing, or another package, nothing is.
use Rattle.std.proofs.Common.{◌∙◌, ◌∷◌, [], ap, false, sym}
use Rattle.std.proofs.lemmas.Result.{on_ok_weaker}
use Rattle.json_answers.proofs.FoundLemmas.{also_by, also_nothing, takes_none}
use Rattle.json_answers.proofs.UnpackedLemmas.{not_offered, offered, other_package}
use Rattle.json_answers.proofs.archives.Archives.note.Goals as goal
use Rattle.json_answers.specs.Archives.{StepArchives, found_also}
use Rattle.json_answers.specs.Unpacked.{archive_where, unpacks}

pub returns-in_default-clause-archives : goal.returns-in_default-clause-archives
returns-in_default-clause-archives c =
    let stanza = c.args.stanza.now in
    let arch = c.args.arch.now in
    sym (also_nothing arch (stanza ∷ []) (λ s. false) c.args.self.now (λ s _. not_offered arch stanza c.in_default.ensures s)
    (takes_none c.args.self.now.steps))

pub returns-then-not-has-clause-archives : goal.returns-then-not-has-clause-archives
returns-then-not-has-clause-archives c =
    let stanza = c.args.stanza.now in
    let arch = c.args.arch.now in
    let name = c.in-Some.offer.name.now in
    let version = c.in-Some.offer.version in
    sym (also_nothing arch (stanza ∷ []) (unpacks name) c.args.self.now
    (λ s apart. offered arch name version stanza c.in-Some.ensures s ∙ other_package name version stanza s apart)
    (sym (c.has.ensures c.args.self.now.steps c.requires) ∙ c.if-not-has.true))

pub returns-clause-archives : goal.returns-clause-archives
returns-clause-archives c =
    let stanza = c.args.stanza.now in
    let arch = c.args.arch.now in
    let name = c.in-Some.offer.name.now in
    let version = c.in-Some.offer.version in
    let was : StepArchives = record { steps = c.self.inside.steps.now; archives = c.self.inside.archives.items } in
    on_ok_weaker c.note_at_steps.result
    (λ made. also_by arch (stanza ∷ []) (archive_where name version stanza) was c.note_at_steps.new.archives.items
    (offered arch name version stanza c.in-Some.ensures) made
    ∙ ap (found_also arch (stanza ∷ [])) c.self.view_is)
    c.note_at_steps.ensures.archives

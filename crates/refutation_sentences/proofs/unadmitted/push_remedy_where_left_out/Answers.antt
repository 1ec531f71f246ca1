-- It isn't admitted, or it is.
use Rattle.std.proofs.Common.{◌≡◌, ◌++◌, ◌∙◌, [], Option, ℕ, subst, sym}
use Rattle.std.specs.Prelude.{OnOk, false}
use Rattle.std.specs.Option.{option_map_or}
use Rattle.std.proofs.lemmas.List.{append-nil}
use Rattle.universe_parts.specs.Parts.{number_among}
use Rattle.refutation_sentences.specs.Reasons.{remedy_words}
use Rattle.refutation_sentences.proofs.unadmitted.push_remedy_where_left_out.Goals as goal

pub returns-in-None : goal.returns-in-None
returns-in-None c =
    let old = c.args.text.now.items in
    let new = c.push_remedy.new.text.items in
    let words = remedy_words false c.args.name.now c.args.version.now in
    let same : c.number_of.result ≡ number_among c.args.context.now.premises.now.pairs c.args.name.now c.args.version.now =
    cc (c.number_of.ensures, c.universe.ensures) in
    subst (λ (number : Option ℕ). OnOk c.push_remedy.result (new ≡ old ++ option_map_or (λ (it : ℕ). []) number words))
    (sym c.in-None.is ∙ same) c.push_remedy.ensures

pub returns-in-Some : goal.returns-in-Some
returns-in-Some c =
    let old = c.args.text.now.items in
    let words = remedy_words false c.args.name.now c.args.version.now in
    let same : c.number_of.result ≡ number_among c.args.context.now.premises.now.pairs c.args.name.now c.args.version.now =
    cc (c.number_of.ensures, c.universe.ensures) in
    subst (λ (number : Option ℕ). old ≡ old ++ option_map_or (λ (it : ℕ). []) number words) (sym c.in-Some.is ∙ same)
    (sym (append-nil old))

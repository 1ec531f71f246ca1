-- The pieces one behind another.
use Rattle.std.proofs.Common.{◌≡◌, ◌++◌, ◌∙◌, ap, append_assoc, map}
use Rattle.std.specs.Prelude.{codes}
use Rattle.input_notes.specs.Words.{names_words, printed_word}
use Rattle.input_notes.proofs.providers.push_line.Goals as goal

pub returns : goal.returns
returns c =
    let old = c.args.text.now.items in
    let word = printed_word c.args.name.now in
    let verb = codes " is provided by " in
    let names = names_words (map (λ one. one.now) c.args.names.now) in
    let end = codes ".\n" in
    let second : c.extend_from_slice.new.self.items ≡ c.push_word.new.text.items ++ verb = cc c.in_ok-extend_from_slice.ensures.items in
    let fourth : c.extend_from_slice-2.new.self.items ≡ c.push_names.new.text.items ++ end = cc c.in_ok-extend_from_slice-2.ensures.items in
    fourth
    ∙ ap (λ text. text ++ end) (c.in_ok-push_names.ensures ∙ ap (λ text. text ++ names) (second ∙ ap (λ text. text ++ verb) c.in_ok-push_word.ensures))
    ∙ append_assoc ((old ++ word) ++ verb) names end
    ∙ append_assoc (old ++ word) verb (names ++ end)
    ∙ append_assoc old word (verb ++ (names ++ end))

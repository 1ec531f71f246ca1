-- The lines, those behind them, and the closing one.
use Rattle.std.proofs.Common.{◌≡◌, ◌++◌, ◌∙◌, ℕ, List, ap, append_assoc, map, sym}
use Rattle.std.specs.List.{flat_map}
use Rattle.std.proofs.lemmas.Grind.{flat_map-append}
use Rattle.refutation_sentences.specs.Sentences.{closing_words}
use Rattle.refutation_sentences.proofs.tell.text_of.Goals as goal

pub returns : goal.returns
returns c =
    let first = map (λ line. line.now) c.args.lines.now in
    let second = map (λ line. line.items) c.args.behind.now in
    let closing = closing_words c.args.all_versions in
    let lines : c.push_lines.new.text.items ≡ flat_map (λ one. one) first =
    c.in_ok-push_lines.ensures ∙ ap (λ text. text ++ flat_map (λ one. one) first) c.new-text.ensures.items in
    let all : c.push_owned.new.text.items ≡ flat_map (λ one. one) (first ++ second) =
    c.in_ok-push_owned.ensures ∙ ap (λ text. text ++ flat_map (λ one. one) second) lines
    ∙ sym (flat_map-append (λ (one : List ℕ). one) first second) in
    c.in_ok-push_closing.ensures ∙ ap (λ text. text ++ closing) all

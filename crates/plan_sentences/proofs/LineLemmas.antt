-- Lines of changes, further lines and counts, one behind another, are the whole text.
use Rattle.std.proofs.Common.{◌≡◌, ◌∙◌, ◌++◌, ℕ, List, ap, append_assoc}
use Rattle.plan_sentences.specs.Told.{Further, Items, Told, counts_line, further_lines, item_lines, items_in, text_of}

in_a_row : (text lines further counts : List ℕ) → ((text ++ lines) ++ further) ++ counts ≡ text ++ (lines ++ (further ++ counts))
in_a_row text lines further counts = simp append_assoc

pub whole_text : (told : List Told) (items : Items) (further : Further) (text first second third : List ℕ) → items ≡ items_in told
    → first ≡ text ++ item_lines items → second ≡ first ++ further_lines further → third ≡ second ++ counts_line items
    → third ≡ text ++ text_of told further
whole_text told items further text first second third same one two three =
    three
    ∙ ap (λ (t : List ℕ). t ++ counts_line items) (two ∙ ap (λ (t : List ℕ). t ++ further_lines further) one)
    ∙ in_a_row text (item_lines items) (further_lines further) (counts_line items)
    ∙ ap (λ (i : Items). text ++ (item_lines i ++ (further_lines further ++ counts_line i))) same

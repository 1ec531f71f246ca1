-- One text more.
use Rattle.std.proofs.Common.{◌≡◌, ◌⊎◌, ℕ, List, map, subst}
use Rattle.std.specs.Prelude.{◌↔◌}
use Rattle.std.specs.List.{Contains}
use Rattle.std.proofs.lemmas.List.{take_all}
use Rattle.refutation_sentences.proofs.LineLemmas.{no_texts, texts_more}
use Rattle.refutation_sentences.proofs.tell.insert_all.Goals as goal

pub loop-text-init : goal.loop-text-init
loop-text-init c = no_texts (map (λ key. key.now) c.args.lines.now.keys)

pub loop-text-preserved : goal.loop-text-preserved
loop-text-preserved c = texts_more (λ text. text.items) (map (λ key. key.now) c.args.lines.now.keys) (map (λ key. key.now) c.loop-text.lines.keys)
    (map (λ key. key.now) c.insert_line.new.lines.keys) c.args.texts.now c.loop-text.text-index c.text-item.result c.loop-text-test.true
    c.text-item.is
    (subst (λ (line : List ℕ). (other : List ℕ) → Contains (map (λ key. key.now) c.insert_line.new.lines.keys) other
    ↔ (Contains (map (λ key. key.now) c.loop-text.lines.keys) other ⊎ (other ≡ line))) c.as_slice.ensures.value c.in_ok-insert_line.ensures)
    c.loop-text.invariant

pub returns : goal.returns
returns c = subst (λ texts. (other : List ℕ) → Contains (map (λ key. key.now) c.loop-text.lines.keys) other
    ↔ (Contains (map (λ key. key.now) c.args.lines.now.keys) other ⊎ Contains (map (λ text. text.items) texts) other))
    (take_all c.loop-text.text-index c.args.texts.now c.loop-text-test.false) c.loop-text.invariant

-- Two words are read as a literal, before what is behind them.
use Rattle.std.proofs.Common.{◌≡◌, ◌∙◌, ◌∷◌, List, ℕ, Option, Some, false, sym, ap}
use Rattle.std.specs.Borrow.{Bor}
use Rattle.std.specs.Prelude.{codes}
use Rattle.std.specs.Str.{bytes_eq}
use Rattle.plantext.specs.Cut.{parts_left}
use Rattle.plantext.specs.declared.cut.TheConstants.{SPACE}
use Rattle.named_refutation.specs.Derived.{derived_from, literal_of}
use Rattle.named_refutation.proofs.LineLemmas.{literal_read}
use Rattle.named_refutation.proofs.derived.derived_of.Goals as goal

pub loop-left-preserved : goal.loop-left-preserved
loop-left-preserved c =
    let word = c.cut_part.result.0.now in
    let version = c.cut_part-in-Some.result.0.now in
    let later = parts_left SPACE c.cut_part-in-Some.result.1 in
    let other : bytes_eq word (codes ":") ≡ false = sym c.is_colon.ensures ∙ c.if-is_colon.false in
    let is : literal_of word version ≡ Some c.in-Some-2.literal = sym c.in_ok-literal.ensures ∙ c.in-Some-2.is in
    let words : parts_left SPACE c.loop-left.left ≡ word ∷ version ∷ later =
    ap (parts_left SPACE) c.in-Some.is ∙ c.cut_part.ensures.parts
    ∙ ap (λ (rest : Option (Bor (List ℕ))). word ∷ parts_left SPACE rest) c.in-Some-after.is
    ∙ ap (λ (behind : List (List ℕ)). word ∷ behind) c.cut_part-in-Some.ensures.parts in
    rw c.in_ok-push.ensures.items
    (literal_read c.loop-left.literals.items c.in-Some-2.literal word version later other is
    ∙ ap (derived_from c.loop-left.literals.items) (sym words) ∙ c.loop-left.invariant)

-- A number is at rest where each change about it is refused.
use Rattle.std.proofs.Common.{◌≡◌, ℕ, Bool, true, false, Option, Some, None, MatchOption, sym, ap, subst, ◌∙◌}
use Rattle.search_settle.specs.Given.{Given, AreSiblings}
use Rattle.search_settle.specs.Moves.{IsAtRest, IsMove, IsRefused, Known}
use Rattle.search_settle.specs.declared.change.Change.{Change}
use Rattle.search_settle.specs.declared.change.Change.TheVariants.{Leave, Replace, Add}

-- what no value shows may be said otherwise
otherwise : {X : Type 0} (o : Option X) (A B : Type 0) (P : X → Type 0) → (A → B) → MatchOption o A P → MatchOption o B P
otherwise None A B P to is = to is
otherwise (Some x) A B P to is = is

module _ (given : Given) (known : Known) (selection : ℕ → Bool) (number : ℕ) where
  member_rests : selection number ≡ true → IsRefused given known selection (Leave number)
      → ((taken : ℕ) → AreSiblings given number taken → IsRefused given known selection (Replace number taken))
      → IsAtRest given known selection number
  unfolding IsAtRest
  member_rests chosen left replaced (Leave out) is = subst (λ (n : ℕ). IsRefused given known selection (Leave n)) (sym is) left
  member_rests chosen left replaced (Replace out taken) is = λ within nearer.
      subst (λ (n : ℕ). ((taken : ℕ) → AreSiblings given n taken → IsRefused given known selection (Replace n taken))) (sym is) replaced
      taken nearer.2 within nearer
  member_rests chosen left replaced (Add taken) is = λ within nearer.
      absurd (let e : true ≡ false = sym chosen ∙ ap selection (sym is) ∙ nearer.0 in cc)

  other_rests : selection number ≡ false → IsRefused given known selection (Add number) → IsAtRest given known selection number
  unfolding IsAtRest
  other_rests out added (Leave left) is = λ within nearer.
      absurd (let e : true ≡ false = sym nearer.0 ∙ ap selection is ∙ out in cc)
  other_rests out added (Replace left taken) is = λ within nearer.
      absurd (let e : true ≡ false = sym nearer.0 ∙ ap selection is ∙ out in cc)
  other_rests out added (Add taken) is = subst (λ (n : ℕ). IsRefused given known selection (Add n)) (sym is) added

  -- a member rests where no sibling can take its place
  pub member_at_rest : (maybe_change : Option Change) → selection number ≡ true → IsRefused given known selection (Leave number)
      → MatchOption maybe_change ((taken : ℕ) → AreSiblings given number taken → IsRefused given known selection (Replace number taken))
      (IsMove given known selection)
      → MatchOption maybe_change (IsAtRest given known selection number) (IsMove given known selection)
  member_at_rest maybe_change chosen left = otherwise maybe_change
      ((taken : ℕ) → AreSiblings given number taken → IsRefused given known selection (Replace number taken))
      (IsAtRest given known selection number) (IsMove given known selection) (member_rests chosen left)

  -- another number rests where it can't be added
  pub other_at_rest : (maybe_change : Option Change) → selection number ≡ false
      → MatchOption maybe_change (IsRefused given known selection (Add number)) (IsMove given known selection)
      → MatchOption maybe_change (IsAtRest given known selection number) (IsMove given known selection)
  other_at_rest maybe_change out = otherwise maybe_change (IsRefused given known selection (Add number)) (IsAtRest given known selection number)
      (IsMove given known selection) (other_rests out)

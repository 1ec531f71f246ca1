-- Marks, one line after another from the last back to the first.
use Rattle.std.proofs.Common.{◌≡◌, ℕ, ◌-◌, ◌<◌, ◌≤◌, Bool, List, [], ◌∷◌, ◌++◌, Some, length, sym, subst, ◌∙◌, arith}
use Rattle.std.specs.Prelude.{◌⊎◌}
use Rattle.std.specs.List.{Contains}
use Rattle.std.proofs.lemmas.Bool.{cases_order}
use Rattle.std.proofs.lemmas.List.Elements.{Contains-append_left, Contains-push, Contains-push_cases}
use Rattle.refutation.specs.Clause.{HasAt, item_at}
use Rattle.refutation.specs.declared.line.Line.{Line}
use Rattle.trim.specs.Needed.{HintsAt}
use Rattle.trim.specs.Marks.{AreMarks, IsMarked, IsNamedBehind, MarksAlso}
use Rattle.trim.proofs.ItemLemmas.{same_item}
use mathlib.Core.Logic.{inl, inr}

-- some numbers are marked, and then others
also_more : (P Q R : ℕ → Type 0) (old middle new : List Bool) → MarksAlso P old middle → MarksAlso Q middle new
    → ((number : ℕ) → R number → P number ⊎ Q number) → ((number : ℕ) → P number → R number) → ((number : ℕ) → Q number → R number)
    → MarksAlso R old new
also_more P Q R old middle new one other split first second = record {
  long = other.long ∙ one.long;
  kept = λ number was. other.kept number (one.kept number was);
  marked = λ number within has. marks number within (split number has);
  only = λ number is. came number (other.only number is);
}
  where
    marks : (number : ℕ) → number < length old → P number ⊎ Q number → IsMarked new number
    marks number within (inl has) = other.kept number (one.marked number within has)
    marks number within (inr has) = other.marked number (omega (arith, within, one.long)) has

    before : (number : ℕ) → IsMarked old number ⊎ P number → IsMarked old number ⊎ R number
    before number (inl was) = inl was
    before number (inr has) = inr (first number has)

    came : (number : ℕ) → IsMarked middle number ⊎ Q number → IsMarked old number ⊎ R number
    came number (inl was) = before number (one.only number was)
    came number (inr has) = inr (second number has)

-- one hint more
pub also_hint : (number : ℕ) (hints : List ℕ) (hint : ℕ) (old middle new : List Bool)
    → MarksAlso (λ other. (other < number) × Contains hints other) old middle
    → MarksAlso (λ other. (other < number) × (other ≡ hint)) middle new
    → MarksAlso (λ other. (other < number) × Contains (hints ++ hint ∷ []) other) old new
also_hint number hints hint old middle new one other =
    also_more (λ n. (n < number) × Contains hints n) (λ n. (n < number) × (n ≡ hint)) (λ n. (n < number) × Contains (hints ++ hint ∷ []) n)
    old middle new one other
    (λ n has. split n has.0 (Contains-push_cases hints hint n has.1))
    (λ n has. (has.0, Contains-append_left hints (hint ∷ []) n has.1))
    (λ n has. (has.0, subst (λ (m : ℕ). Contains (hints ++ hint ∷ []) m) (sym has.1) (Contains-push hints hint)))
  where
    split : (n : ℕ) → n < number → Contains hints n ⊎ (hint ≡ n) → ((n < number) × Contains hints n) ⊎ ((n < number) × (n ≡ hint))
    split n below (inl within) = inl (below, within)
    split n below (inr same) = inr (below, sym same)

-- a number that is behind one less is behind it, or is it
next_behind : (number later : ℕ) → 0 < number → number - 1 < later → (later ≡ number) ⊎ (number < later)
next_behind number later some behind = at (cases_order later number)
  where
    at : (later ≡ number) ⊎ ((later < number) ⊎ (number < later)) → (later ≡ number) ⊎ (number < later)
    at (inl same) = inl same
    at (inr (inl below)) = absurd (omega (arith, some, behind, below))
    at (inr (inr above)) = inr above

-- what is named behind a number is so behind one less
named_before : (lines : List Line) (marks : List Bool) (was number : ℕ)
    → (was ≡ length lines) ⊎ IsNamedBehind lines marks was number → (was ≡ length lines) ⊎ IsNamedBehind lines marks was (number - 1)
named_before lines marks was number (inl same) = inl same
named_before lines marks was number (inr behind) =
    let later : number < behind.0 = behind.2 in inr (behind.0, behind.1, omega (arith, later), behind.3, behind.4)

-- a line with no hint that counts changes no mark
pub same_marks : (lines : List Line) (marks : List Bool) (number : ℕ) → 0 < number
    → ((hint : ℕ) → IsMarked marks number → ¬ HasAt lines number (λ line. HintsAt line hint))
    → AreMarks lines marks number → AreMarks lines marks (number - 1)
same_marks lines marks number some none all = record {
  long = all.long;
  last = all.last;
  closed = λ later hint behind is below has. closed later hint is below has (next_behind number later some behind);
  named = λ was is. named_before lines marks was number (all.named was is);
}
  where
    closed : (later hint : ℕ) → IsMarked marks later → hint < later → HasAt lines later (λ line. HintsAt line hint)
        → (later ≡ number) ⊎ (number < later) → IsMarked marks hint
    closed later hint is below has (inl same) = absurd (none hint (subst (λ (n : ℕ). IsMarked marks n) same is)
        (subst (λ (n : ℕ). HasAt lines n (λ line. HintsAt line hint)) same has))
    closed later hint is below has (inr above) = all.closed later hint above is below has

-- the lines are marked at which one that is marked has hints
pub more_marks : (lines : List Line) (old new : List Bool) (number : ℕ) (line : Line) → 0 < number → number ≤ length lines
    → item_at lines number ≡ Some line → IsMarked old number
    → MarksAlso (λ other. (other < number) × HintsAt line other) old new → AreMarks lines old number → AreMarks lines new (number - 1)
more_marks lines old new number line some within there marked also all = record {
  long = also.long ∙ all.long;
  last = also.kept (length lines) all.last;
  closed = λ later hint behind is below has. closed later hint is below has (next_behind number later some behind);
  named = λ was is. named was (also.only was is);
}
  where
    was_marked : (later : ℕ) → number < later → IsMarked old later ⊎ ((later < number) × HintsAt line later) → IsMarked old later
    was_marked later above (inl was) = was
    was_marked later above (inr has) = let below : later < number = has.0 in absurd (omega (arith, above, below))

    closed : (later hint : ℕ) → IsMarked new later → hint < later → HasAt lines later (λ other. HintsAt other hint)
        → (later ≡ number) ⊎ (number < later) → IsMarked new hint
    closed later hint is below has (inl same) =
        let here = subst (λ (n : ℕ). HasAt lines n (λ other. HintsAt other hint)) same has in
        let hinted = subst (λ (other : Line). HintsAt other hint) (same_item lines number here.0 line here.1 there) here.2 in
        let less : hint < number = omega (arith, below, same) in
        also.marked hint (omega (arith, less, within, all.long)) (less, hinted)
    closed later hint is below has (inr above) =
        also.kept hint (all.closed later hint above (was_marked later above (also.only later is)) below has)

    kept : (was : ℕ) → (was ≡ length lines) ⊎ IsNamedBehind lines old was (number - 1) → (was ≡ length lines) ⊎ IsNamedBehind lines new was (number - 1)
    kept was (inl same) = inl same
    kept was (inr behind) = inr (behind.0, behind.1, behind.2, also.kept behind.0 behind.3, behind.4)

    named : (was : ℕ) → IsMarked old was ⊎ ((was < number) × HintsAt line was) → (was ≡ length lines) ⊎ IsNamedBehind lines new was (number - 1)
    named was (inl is) = kept was (named_before lines old was number (all.named was is))
    named was (inr has) = inr (number, has.0, omega (arith, some), also.kept number marked, (line, there, has.1))

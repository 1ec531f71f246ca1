-- The marked lines, one after another.
use Rattle.std.proofs.Common.{◌≡◌, ◌≢◌, ℕ, ◌+◌, ◌<◌, ◌≤◌, Bool, true, false, List, [], ◌∷◌, ◌++◌, Some, length, take, refl, sym, ap, subst, ◌∙◌, arith}
use Rattle.std.specs.Prelude.{◌⊎◌, slice_get, slice_index, slice_index_or}
use Rattle.std.specs.List.{Contains}
use Rattle.std.proofs.lemmas.Bool.{cases_eq}
use Rattle.std.proofs.lemmas.List.{length_push}
use Rattle.std.proofs.lemmas.List.Elements.{Contains-push_cases}
use Rattle.rules.specs.Universe.{Universe}
use Rattle.refutation.specs.Clause.{HasAt, item_at}
use Rattle.refutation.specs.Refutation.{AreGoodLines}
use Rattle.refutation.specs.declared.line.Line.{Line}
use Rattle.refutation.specs.declared.line.Line.TheVariants as line
use Rattle.refutation.specs.declared.line.Premise.{Premise}
use Rattle.refutation.proofs.LineLemmas.{empty_list_is_good, good_lines_grow}
use Rattle.trim.specs.Needed.{HintsAt, IsNamedLater, renumbered}
use Rattle.trim.specs.Marks.{AreMarks, IsMarked, IsNamedBehind}
use Rattle.trim.specs.Kept.{AreKept, IsCopyOf, IsWaiting}
use Rattle.trim.proofs.ItemLemmas.{has_push, item_last, item_of_place, item_of_take, item_within, new_number, old_number, place_contained, same_item, take_next}
use Rattle.trim.proofs.ClauseLemmas.{copy_is, front_good, good_copied, hints_copied, last_good, premise_copied}
use mathlib.Core.Logic.{inl, inr}

-- a number that isn't the next is one before
within_before : (number bound : ℕ) → number ≤ bound + 1 → (number ≡ bound + 1 → ⊥) → number ≤ bound
within_before number bound within differ = let ne : number ≢ bound + 1 = differ in omega (arith, within, ne)

-- before the first line
pub none_kept : (lines : List Line) (marks : List Bool) (numbers : List ℕ) (kept : List Line) → numbers ≡ 0 ∷ [] → kept ≡ [] → AreKept lines marks 0 numbers kept
none_kept lines marks numbers kept are none =
    subst (λ (ns : List ℕ). AreKept lines marks 0 ns kept) (sym are) (subst (λ (ls : List Line). AreKept lines marks 0 (0 ∷ []) ls) (sym none) start)
  where
    start : AreKept lines marks 0 (0 ∷ []) []
    start = record {
      long = refl;
      copied = λ number original within is there.
          let at : (0 < number) × (number ≤ length lines) = item_within lines number original there in
          let some : 0 < number = at.0 in absurd (omega (arith, some, within));
      good = λ u good. empty_list_is_good u;
      premises = λ premise has. let none : has.0 < 0 = has.1 in absurd (omega (arith, none));
      top = λ is. refl;
      named = λ number some within. absurd (omega (arith, some, within));
    }

-- what waits for a line further on goes on waiting
waits : (lines : List Line) (marks : List Bool) (done : ℕ) (numbers : List ℕ) (more number was : ℕ) → length numbers ≡ done + 1
    → was ≤ done → slice_index numbers was ≡ number → (was ≡ length lines) ⊎ IsNamedBehind lines marks was (done + 1)
    → IsWaiting lines marks (done + 1) (numbers ++ more ∷ []) number
waits lines marks done numbers more number was long within is behind =
    let inside : was < length numbers = omega (arith, within, long) in
    (was, omega (arith, within), old_number numbers more was inside ∙ is, behind)

-- a line is left out
pub passed : (lines : List Line) (marks : List Bool) (done : ℕ) (numbers : List ℕ) (kept : List Line) (original : Line)
    → slice_get lines done ≡ Some original → slice_index_or marks (done + 1) false ≡ false
    → AreKept lines marks done numbers kept → AreKept lines marks (done + 1) (numbers ++ 0 ∷ []) kept
passed lines marks done numbers kept original there unmarked so = record {
  long = length_push numbers 0 ∙ ap (λ (n : ℕ). n + 1) so.long;
  copied = λ number other within is at. copied number other within is at (cases_eq number (done + 1));
  good = λ u good. so.good u (front_good u (take done lines) original (subst (AreGoodLines u) (take_next lines done original there) good));
  premises = so.premises;
  top = λ is. absurd (contrary is);
  named = λ number some within. named number (so.named number some within);
}
  where
    contrary : ¬ IsMarked marks (done + 1)
    contrary is = let e : false ≡ true = sym unmarked ∙ is in absurd (let f : false ≡ true = e in cc)

    copied : (number : ℕ) (other : Line) → number ≤ done + 1 → IsMarked marks number → item_at lines number ≡ Some other
        → (number ≡ done + 1) ⊎ (number ≡ done + 1 → ⊥) → HasAt kept (slice_index (numbers ++ 0 ∷ []) number) (IsCopyOf other)
    copied number other within is at (inl same) = absurd (contrary (subst (λ (n : ℕ). IsMarked marks n) same is))
    copied number other within is at (inr differ) =
        let before : number ≤ done = within_before number done within differ in
        let inside : number < length numbers = omega (arith, before, so.long) in
        subst (λ (n : ℕ). HasAt kept n (IsCopyOf other)) (sym (old_number numbers 0 number inside)) (so.copied number other before is at)

    further : (was later : ℕ) → was < later → done < later → IsMarked marks later → HasAt lines later (λ other. HintsAt other was)
        → (later ≡ done + 1) ⊎ (later ≡ done + 1 → ⊥) → IsNamedBehind lines marks was (done + 1)
    further was later below behind is has (inl same) = absurd (contrary (subst (λ (n : ℕ). IsMarked marks n) same is))
    further was later below behind is has (inr differ) =
        let ne : later ≢ done + 1 = differ in (later, below, omega (arith, behind, ne), is, has)

    behind : (was : ℕ) → (was ≡ length lines) ⊎ IsNamedBehind lines marks was done → (was ≡ length lines) ⊎ IsNamedBehind lines marks was (done + 1)
    behind was (inl same) = inl same
    behind was (inr b) = inr (further was b.0 b.1 b.2 b.3 b.4 (cases_eq b.0 (done + 1)))

    named : (number : ℕ) → IsNamedLater kept number ⊎ IsWaiting lines marks done numbers number
        → IsNamedLater kept number ⊎ IsWaiting lines marks (done + 1) (numbers ++ 0 ∷ []) number
    named number (inl is) = inl is
    named number (inr w) = inr (waits lines marks done numbers 0 number w.0 so.long w.1 w.2 (behind w.0 w.3))

-- a line is kept
pub pushed : (lines : List Line) (marks : List Bool) (done : ℕ) (numbers : List ℕ) (kept : List Line) (original : Line)
    → AreMarks lines marks 0 → slice_get lines done ≡ Some original → IsMarked marks (done + 1) → AreKept lines marks done numbers kept
    → AreKept lines marks (done + 1) (numbers ++ (length kept + 1) ∷ []) (kept ++ renumbered numbers original ∷ [])
pushed lines marks done numbers kept original all there marked so = record {
  long = length_push numbers (length kept + 1) ∙ ap (λ (n : ℕ). n + 1) so.long;
  copied = λ number other within is at. copied number other within is at (cases_eq number (done + 1));
  good = good;
  premises = λ premise has. premises premise (Contains-push_cases kept copy (line.Premise premise) has);
  top = λ is. next ∙ sym (length_push kept copy);
  named = λ number some within. named number some within (cases_eq number (length kept + 1));
}
  where
    copy : Line
    copy = renumbered numbers original

    here : item_at lines (done + 1) ≡ Some original
    here = item_of_place lines done original there

    next : slice_index (numbers ++ (length kept + 1) ∷ []) (done + 1) ≡ length kept + 1
    next = new_number numbers (length kept + 1) (done + 1) so.long

    copied : (number : ℕ) (other : Line) → number ≤ done + 1 → IsMarked marks number → item_at lines number ≡ Some other
        → (number ≡ done + 1) ⊎ (number ≡ done + 1 → ⊥)
        → HasAt (kept ++ copy ∷ []) (slice_index (numbers ++ (length kept + 1) ∷ []) number) (IsCopyOf other)
    copied number other within is at (inl same) =
        let too = subst (λ (n : ℕ). item_at lines n ≡ Some other) same at in
        let first : HasAt (kept ++ copy ∷ []) (slice_index (numbers ++ (length kept + 1) ∷ []) (done + 1)) (IsCopyOf original) =
        (copy, item_last kept copy (slice_index (numbers ++ (length kept + 1) ∷ []) (done + 1)) next, copy_is numbers original) in
        subst (λ (n : ℕ). HasAt (kept ++ copy ∷ []) (slice_index (numbers ++ (length kept + 1) ∷ []) n) (IsCopyOf other)) (sym same)
        (subst (λ (o : Line). HasAt (kept ++ copy ∷ []) (slice_index (numbers ++ (length kept + 1) ∷ []) (done + 1)) (IsCopyOf o))
        (same_item lines (done + 1) original other here too) first)
    copied number other within is at (inr differ) =
        let before : number ≤ done = within_before number done within differ in
        let inside : number < length numbers = omega (arith, before, so.long) in
        subst (λ (n : ℕ). HasAt (kept ++ copy ∷ []) n (IsCopyOf other)) (sym (old_number numbers (length kept + 1) number inside))
        (has_push (IsCopyOf other) kept copy (slice_index numbers number) (so.copied number other before is at))

    copies : (hint : ℕ) → HintsAt original hint → (other : Line) → item_at (take done lines) hint ≡ Some other
        → HasAt kept (slice_index numbers hint) (IsCopyOf other)
    copies hint hinted other at =
        let found_at = item_of_take done lines hint other at in
        let below : hint ≤ done = found_at.1 in
        so.copied hint other below
        (all.closed (done + 1) hint (omega arith) marked (omega (arith, below)) (original, here, hinted)) found_at.0

    good : (u : Universe) → AreGoodLines u (take (done + 1) lines) → AreGoodLines u (kept ++ copy ∷ [])
    good u are =
        let split = subst (AreGoodLines u) (take_next lines done original there) are in
        good_lines_grow u kept copy (so.good u (front_good u (take done lines) original split))
        (good_copied u (take done lines) kept original numbers copies (last_good u (take done lines) original split))

    premises : (premise : Premise) → Contains kept (line.Premise premise) ⊎ (copy ≡ line.Premise premise) → Contains lines (line.Premise premise)
    premises premise (inl has) = so.premises premise has
    premises premise (inr same) =
        subst (λ (l : Line). Contains lines l) (premise_copied numbers original premise same) (place_contained lines done original there)

    behind_next : (was : ℕ) → (was ≡ length lines) ⊎ IsNamedBehind lines marks was 0 → was ≡ done + 1
        → (was ≡ length lines) ⊎ IsNamedBehind lines marks was (done + 1)
    behind_next was (inl same) is = inl same
    behind_next was (inr b) is =
        let below : was < b.0 = b.1 in inr (b.0, b.1, omega (arith, below, is), b.3, b.4)

    further : (number was later : ℕ) → number ≤ length kept → was ≤ done → slice_index numbers was ≡ number → was < later → done < later
        → IsMarked marks later → HasAt lines later (λ other. HintsAt other was) → (later ≡ done + 1) ⊎ (later ≡ done + 1 → ⊥)
        → IsNamedLater (kept ++ copy ∷ []) number ⊎ IsWaiting lines marks (done + 1) (numbers ++ (length kept + 1) ∷ []) number
    further number was later within before value below behind is has (inl same) =
        let at = subst (λ (n : ℕ). HasAt lines n (λ other. HintsAt other was)) same has in
        let hinted = subst (λ (other : Line). HintsAt other was) (same_item lines (done + 1) at.0 original at.1 here) at.2 in
        inl (
          length kept + 1,
          omega (arith, within),
          (
            copy,
            item_last kept copy (length kept + 1) refl,
            subst (λ (n : ℕ). HintsAt copy n) value (hints_copied numbers original was hinted),
          ),
        )
    further number was later within before value below behind is has (inr differ) =
        let ne : later ≢ done + 1 = differ in
        inr (waits lines marks done numbers (length kept + 1) number was so.long before value
        (inr (later, below, omega (arith, behind, ne), is, has)))

    waiting : (number was : ℕ) → number ≤ length kept → was ≤ done → slice_index numbers was ≡ number
        → (was ≡ length lines) ⊎ IsNamedBehind lines marks was done
        → IsNamedLater (kept ++ copy ∷ []) number ⊎ IsWaiting lines marks (done + 1) (numbers ++ (length kept + 1) ∷ []) number
    waiting number was within before value (inl same) =
        inr (waits lines marks done numbers (length kept + 1) number was so.long before value (inl same))
    waiting number was within before value (inr b) = further number was b.0 within before value b.1 b.2 b.3 b.4 (cases_eq b.0 (done + 1))

    old : (number : ℕ) → number ≤ length kept → IsNamedLater kept number ⊎ IsWaiting lines marks done numbers number
        → IsNamedLater (kept ++ copy ∷ []) number ⊎ IsWaiting lines marks (done + 1) (numbers ++ (length kept + 1) ∷ []) number
    old number within (inl n) = inl (n.0, n.1, has_push (λ other. HintsAt other number) kept copy n.0 n.2)
    old number within (inr w) = waiting number w.0 within w.1 w.2 w.3

    named : (number : ℕ) → 0 < number → number ≤ length (kept ++ copy ∷ []) → (number ≡ length kept + 1) ⊎ (number ≡ length kept + 1 → ⊥)
        → IsNamedLater (kept ++ copy ∷ []) number ⊎ IsWaiting lines marks (done + 1) (numbers ++ (length kept + 1) ∷ []) number
    named number some within (inl same) =
        inr (done + 1, omega arith, next ∙ sym same, behind_next (done + 1) (all.named (done + 1) marked) refl)
    named number some within (inr differ) =
        let long : length (kept ++ copy ∷ []) ≡ length kept + 1 = length_push kept copy in
        let all' : number ≤ length kept + 1 = omega (arith, within, long) in
        let before : number ≤ length kept = within_before number (length kept) all' differ in
        old number before (so.named number some before)

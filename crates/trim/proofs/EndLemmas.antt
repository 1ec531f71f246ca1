-- What is kept in the end.
use Rattle.std.proofs.Common.{◌≡◌, ℕ, ◌+◌, ◌<◌, ◌≤◌, Bool, List, Some, length, take, sym, ap, subst, ◌∙◌, arith}
use Rattle.std.specs.Prelude.{◌⊎◌, slice_index}
use Rattle.std.proofs.lemmas.List.{length_push, take_all}
use Rattle.rules.specs.Universe.{Universe}
use Rattle.refutation.specs.Clause.{item_at}
use Rattle.refutation.specs.Refutation.{AreGoodLines, EndsEmpty}
use Rattle.refutation.specs.declared.line.Line.{Line}
use Rattle.trim.specs.Needed.{AreAllNamed, IsNamedLater, StaysAccepted}
use Rattle.trim.specs.Marks.{AreMarks, IsNamedBehind}
use Rattle.trim.specs.Kept.{AreKept, IsWaiting}
use Rattle.trim.proofs.ItemLemmas.{item_last, item_within, last_split}
use Rattle.trim.proofs.ClauseLemmas.{same_empty}
use mathlib.Core.Logic.{inl, inr}

-- the last line is kept as the last
ends : (u : Universe) (lines : List Line) (marks : List Bool) (numbers : List ℕ) (kept : List Line) → AreMarks lines marks 0
    → AreKept lines marks (length lines) numbers kept → EndsEmpty u lines → EndsEmpty u kept
ends u lines marks numbers kept all so end =
    let long : length lines ≡ length end.earlier + 1 = ap length end.place ∙ length_push end.earlier end.last in
    let there : item_at lines (length lines) ≡ Some end.last =
    subst (λ (ls : List Line). item_at ls (length lines) ≡ Some end.last) (sym end.place) (item_last end.earlier end.last (length lines) long) in
    let copy = so.copied (length lines) end.last (omega arith) all.last there in
    let at = subst (λ (n : ℕ). item_at kept n ≡ Some copy.0) (so.top all.last) copy.1 in
    let split = last_split kept copy.0 at in
    record { earlier = split.0; last = copy.0; place = split.1; empty = same_empty u end.last copy.0 copy.2 end.empty }

pub stays_accepted : (lines : List Line) (marks : List Bool) (numbers : List ℕ) (kept : List Line) → AreMarks lines marks 0
    → AreKept lines marks (length lines) numbers kept → StaysAccepted lines kept
stays_accepted lines marks numbers kept all so u accepted =
    let whole : take (length lines) lines ≡ lines = take_all (length lines) lines (omega arith) in record {
      good = so.good u (subst (AreGoodLines u) (sym whole) accepted.good);
      ends = ends u lines marks numbers kept all so accepted.ends;
    }

-- no line but the last is named by none
pub all_named : (lines : List Line) (marks : List Bool) (numbers : List ℕ) (kept : List Line) → AreMarks lines marks 0
    → AreKept lines marks (length lines) numbers kept → AreAllNamed kept
all_named lines marks numbers kept all so number some below = at (so.named number some (omega (arith, below)))
  where
    waiting : (was : ℕ) → slice_index numbers was ≡ number → (was ≡ length lines) ⊎ IsNamedBehind lines marks was (length lines) → ⊥
    waiting was is (inl same) =
        let top : slice_index numbers (length lines) ≡ length kept = so.top all.last in
        let value : slice_index numbers (length lines) ≡ number = subst (λ (n : ℕ). slice_index numbers n ≡ number) same is in
        let e : number ≡ length kept = sym value ∙ top in omega (arith, e, below)
    waiting was is (inr b) =
        let within : (0 < b.0) × (b.0 ≤ length lines) = item_within lines b.0 b.4.0 b.4.1 in
        let most : b.0 ≤ length lines = within.1 in
        let behind : length lines < b.0 = b.2 in omega (arith, most, behind)

    at : IsNamedLater kept number ⊎ IsWaiting lines marks (length lines) numbers number → IsNamedLater kept number
    at (inl is) = is
    at (inr w) = absurd (waiting w.0 w.2 w.3)

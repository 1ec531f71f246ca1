-- The pairs in their order.
use Rattle.std.proofs.Common.{◌≡◌, Bool, true, List, refl, sym, subst, ◌∙◌}
use Rattle.std.specs.List.{dedup}
use Rattle.std.specs.List.Sorted.{IsPermutation, IsSorted}
use Rattle.std.specs.Ordering.{eq_by_cmp}
use Rattle.std.proofs.lemmas.List.Kept.{Contains-from_dedup, IsStrictlySortedBy-dedup}
use Rattle.std.proofs.lemmas.List.Sorted.{Contains-permutation, IsPermutation-sym}
use Rattle.rules.specs.Available.{is_of}
use Rattle.rules.specs.ElementLaws.{Any-intro}
use Rattle.rules.specs.Universe.{IsOf, Pair, pair_cmp}
use Rattle.universe_parts.specs.FindLaws.{find-exists, find-some}
use Rattle.universe_parts.specs.PairLaws.{is_of-from, is_of-parts, of_itself}
use Rattle.rules.specs.UniverseLaws.{pair_cmp_total}
use Rattle.candidates.proofs.Finding.{find-dedup}
use Rattle.candidates.proofs.StanzaOrder.{bare, is_of-alike}
use Rattle.universe_build.specs.ByName.{ArePairs}

-- pairs in order that are freed of repetitions have each version once
pub ArePairs-from_sort : (pairs sorted ordered : List Pair) → IsSorted pair_cmp sorted → IsPermutation pairs sorted
    → ordered ≡ dedup (eq_by_cmp pair_cmp) sorted → ArePairs pairs ordered
ArePairs-from_sort pairs sorted ordered up moved same = subst (ArePairs pairs) (sym same) (record {
  ascending = IsStrictlySortedBy-dedup pair_cmp_total (λ x y. refl) sorted up;
  drawn = λ pair within. Contains-permutation sorted pairs pair (IsPermutation-sym pairs sorted moved)
      (Contains-from_dedup (eq_by_cmp pair_cmp) sorted pair within);
  covered = λ pair within.
      let p : Pair → Bool = λ (other : Pair). is_of pair.pkg.name pair.pkg.version other.pkg in
      let own : p pair ≡ true = is_of-from pair.pkg.name pair.pkg.version pair.pkg (of_itself pair.pkg) in
      let first = find-exists p sorted pair (Contains-permutation pairs sorted pair moved within) own in
      let there = find-some p (dedup (eq_by_cmp pair_cmp) sorted) first.0
      (find-dedup (eq_by_cmp pair_cmp) p
      (λ x k tied. is_of-alike pair.pkg.name pair.pkg.version (bare x.pkg) (bare k.pkg) tied) sorted ∙ first.1) in
      Any-intro (λ (other : Pair). IsOf pair.pkg.name pair.pkg.version other.pkg) (dedup (eq_by_cmp pair_cmp) sorted) first.0 there.0
      (is_of-parts pair.pkg.name pair.pkg.version first.0.pkg there.1);
})

-- A sort that is freed of repetitions has the same names in their order.
use Rattle.std.proofs.Common.{◌≡◌, ℕ, true, List, refl, sym, subst, ◌∙◌}
use Rattle.std.specs.Cmp.{eq_by_cmp_equiv}
use Rattle.std.specs.Cmp.Lexicographic.{nat_list_cmp_total}
use Rattle.std.specs.List.{dedup}
use Rattle.std.specs.List.Sorted.{IsPermutation, IsSorted}
use Rattle.std.specs.Ordering.{eq_by_cmp}
use Rattle.std.proofs.lemmas.List.Kept.{Contains-dedup, Contains-from_dedup, IsStrictlySortedBy-dedup}
use Rattle.std.proofs.lemmas.List.Sorted.{Contains-permutation, IsPermutation-sym}
use Rattle.std.proofs.lemmas.Map.Text.{is_eq-slice_cmp}
use Rattle.rules.specs.Name.{name_cmp}
use Rattle.rules.specs.NamedLaws.{bytes_eq-true}
use Rattle.rules.proofs.Rising.{AllPairs-rising}
use Rattle.plan_sentences.specs.Changes.{AreInOrder}

same_names : (one other : List ℕ) → eq_by_cmp name_cmp one other ≡ true → one ≡ other
same_names one other same = bytes_eq-true one other (sym (is_eq-slice_cmp one other) ∙ same)

pub in_order_from_sort : (names sorted ordered : List (List ℕ)) → IsSorted name_cmp sorted → IsPermutation names sorted
    → ordered ≡ dedup (eq_by_cmp name_cmp) sorted → AreInOrder names ordered
in_order_from_sort names sorted ordered up moved same = subst (AreInOrder names) (sym same) (record {
  ascending = AllPairs-rising name_cmp (dedup (eq_by_cmp name_cmp) sorted) (IsStrictlySortedBy-dedup nat_list_cmp_total (λ x y. refl) sorted up);
  each = λ name. (
    (λ within. Contains-permutation sorted names name (IsPermutation-sym names sorted moved)
        (Contains-from_dedup (eq_by_cmp name_cmp) sorted name within)),
    (λ within. Contains-dedup (eq_by_cmp_equiv nat_list_cmp_total) same_names sorted name (Contains-permutation names sorted name moved within)),
  );
})

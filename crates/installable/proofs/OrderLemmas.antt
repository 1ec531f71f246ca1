-- Stanzas that are sorted and freed of repetitions are in order.
use Rattle.std.proofs.Common.{◌≡◌, Bool, not, ◌&&◌, List, sym, ap, refl, subst, ◌∙◌}
use Rattle.std.specs.List.{dedup}
use Rattle.std.specs.List.Sorted.{IsSorted, IsStable, ties}
use Rattle.std.specs.Ordering.{eq_by_cmp, is_lt}
use Rattle.std.specs.declared.cmp.Ordering.{Ordering}
use Rattle.std.proofs.lemmas.List.Elements.{filter_agree}
use Rattle.std.proofs.lemmas.List.Kept.{IsStrictlySortedBy-dedup}
use Rattle.candidates.proofs.Finding.{find-dedup, find-filter, first_of_all}
use Rattle.candidates.proofs.StanzaOrder.{bare, is_of-alike, listed_cmp-ties, ties-eq}
use Rattle.candidates.specs.Stanza.{IsOrdered, listed_cmp}
use Rattle.candidates.specs.StanzaLaws.{listed_cmp_total}
use Rattle.rules.specs.Available.{is_of}
use Rattle.rules.specs.Step.{IndexPackage, no_relations}

-- the order ties a stanza with just those of its name and version
ties_is_of : (sought stanza : IndexPackage) → ties (λ x y. is_lt (listed_cmp x y)) sought stanza ≡ is_of sought.pkg.name sought.pkg.version stanza.pkg
ties_is_of sought stanza =
    ap (λ (o : Ordering). not (is_lt o) && not (is_lt (listed_cmp stanza sought))) (listed_cmp_total.antisymm sought stanza)
    ∙ ties-eq (listed_cmp stanza sought)
    ∙ listed_cmp-ties stanza sought

pub ordered_from_sort : (listed sorted ordered : List IndexPackage) → IsSorted listed_cmp sorted → IsStable listed_cmp listed sorted
    → ordered ≡ dedup (eq_by_cmp listed_cmp) sorted → IsOrdered listed ordered
ordered_from_sort listed sorted ordered up stable same = subst (IsOrdered listed) (sym same) (record {
  ascending = IsStrictlySortedBy-dedup listed_cmp_total (λ x y. refl) sorted up;
  earliest = λ name version.
      let sought : IndexPackage = bare (record { name = name; version = version; relations = no_relations }) in
      let p : IndexPackage → Bool = λ stanza. is_of name version stanza.pkg in
      let t : IndexPackage → Bool = ties (λ x y. is_lt (listed_cmp x y)) sought in
      find-dedup (eq_by_cmp listed_cmp) p (λ x k tied. is_of-alike name version x k tied) sorted
      ∙ find-filter p sorted
      ∙ ap first_of_all (sym (filter_agree t p (ties_is_of sought) sorted) ∙ stable sought ∙ filter_agree t p (ties_is_of sought) listed)
      ∙ sym (find-filter p listed);
})

-- Offers that are sorted by their versions and freed of repetitions.
use Rattle.std.proofs.Common.{◌≡◌, Bool, true, List, refl, sym, ap, subst, ◌∙◌}
use Rattle.std.specs.Cmp.{Equal-is, on_total}
use Rattle.std.specs.List.{dedup}
use Rattle.std.specs.List.Sorted.{IsPermutation, IsSorted}
use Rattle.std.specs.Ordering.{is_eq}
use Rattle.std.proofs.lemmas.List.Kept.{Contains-from_dedup, IsStrictlySortedBy-dedup}
use Rattle.std.proofs.lemmas.List.Sorted.{Contains-permutation, IsPermutation-sym}
use Rattle.rules.specs.Available.{same_version}
use Rattle.rules.specs.ElementLaws.{Any-intro}
use Rattle.rules.specs.Version.{SameVersion, version_cmp}
use Rattle.rules.specs.VersionOrderLaws.{SameVersion-refl, version_cmp-same_left, version_cmp_total}
use Rattle.universe_parts.specs.FindLaws.{find-exists, find-some}
use Rattle.candidates.specs.Eligible.{AreByVersion, offer_version_cmp}
use Rattle.candidates.specs.Offer.{Offer}
use Rattle.candidates.proofs.Finding.{find-dedup}

-- the offers are of one version
abbrev pub have_one_version : Offer → Offer → Bool
have_one_version offer other = same_version offer.version other.version

pub AreByVersion-from_sort : (offers sorted ordered : List Offer) → IsSorted offer_version_cmp sorted → IsPermutation offers sorted
    → ordered ≡ dedup have_one_version sorted → AreByVersion offers ordered
AreByVersion-from_sort offers sorted ordered up moved same = subst (AreByVersion offers) (sym same) (record {
  ascending = IsStrictlySortedBy-dedup (on_total (λ (offer : Offer). offer.version) version_cmp_total) (λ x y. refl) sorted up;
  drawn = λ offer within. Contains-permutation sorted offers offer (IsPermutation-sym offers sorted moved)
      (Contains-from_dedup have_one_version sorted offer within);
  covered = λ offer within.
      let p : Offer → Bool = λ other. same_version other.version offer.version in
      let own : p offer ≡ true = (Equal-is (version_cmp offer.version offer.version)).1 (SameVersion-refl offer.version) in
      let first = find-exists p sorted offer (Contains-permutation offers sorted offer moved within) own in
      let there = find-some p (dedup have_one_version sorted) first.0
      (find-dedup have_one_version p
      (λ x k tied. ap is_eq (version_cmp-same_left x.version k.version offer.version ((Equal-is (version_cmp x.version k.version)).0 tied))) sorted
      ∙ first.1) in
      Any-intro (λ (other : Offer). SameVersion other.version offer.version) (dedup have_one_version sorted) first.0 there.0
      ((Equal-is (version_cmp first.0.version offer.version)).0 there.1);
})

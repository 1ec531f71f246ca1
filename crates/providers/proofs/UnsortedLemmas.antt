-- A draft that has got one package more.
use Rattle.std.proofs.Common.{◌≡◌, ℕ, ◌+◌, ◌<◌, List, [], ◌∷◌, ◌++◌, get_or, length, map, take, sym, ap, ◌∙◌}
use Rattle.std.proofs.lemmas.List.{map-append, take_more}
use Rattle.rules.specs.Package.{Pkg}
use Rattle.providers.proofs.OfferLemmas.{each_of-push}
use Rattle.providers.specs.Offers.{Offer, each_from}

-- the packages of the items so far, and that of the next
pub more_packages : {X : Type 0} (pkg_of : X → Pkg) (items : List X) (i : ℕ) (item : X) (pkg : Pkg) (before after : List Pkg)
    → i < length items → item ≡ get_or items i item → pkg ≡ pkg_of item → after ≡ before ++ pkg ∷ [] → before ≡ map pkg_of (take i items)
    → after ≡ map pkg_of (take (i + 1) items)
more_packages {X} pkg_of items i item pkg before after within is of put so_far =
    put ∙ ap (λ (packages : List Pkg). packages ++ pkg ∷ []) so_far
    ∙ ap (λ (p : Pkg). map pkg_of (take i items) ++ p ∷ []) (of ∙ ap pkg_of is)
    ∙ sym (map-append pkg_of (take i items) (get_or items i item ∷ []))
    ∙ sym (ap (map pkg_of) (take_more items i item within))

-- what they offer in one way
pub more_offers : (offers : ℕ → Pkg → List Offer) (before after : List Pkg) (pkg : Pkg) (old new : List Offer) → after ≡ before ++ pkg ∷ []
    → new ≡ old ++ offers (length before) pkg → old ≡ each_from offers 0 before → new ≡ each_from offers 0 after
more_offers offers before after pkg old new put offered so_far =
    offered ∙ ap (λ (os : List Offer). os ++ offers (length before) pkg) so_far ∙ sym (each_of-push offers before pkg) ∙ sym (ap (each_from offers 0) put)

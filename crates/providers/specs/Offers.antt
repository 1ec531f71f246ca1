-- What the packages of a list offer: names, each in a version or in none, and the places of the packages, counted from 0
-- (Policy 7.1 and 7.5). A package offers its own name in its own version, and each item of Provides that isn't foreign.
use Rattle.std.specs.Prelude.{◌≡◌, ℕ, Bool, ◌+◌, ◌&&◌, ◌↔◌, List, [], ◌∷◌, ◌++◌, Option, None, Some, bytes_eq, is_some, length, ◌≤◌, if◌then◌else◌}
use Rattle.std.specs.List.{Contains, filter, flat_map}
use Rattle.std.specs.List.Sorted.{IsStrictlySortedBy}
use Rattle.std.specs.Option.{option_cmp}
use Rattle.std.specs.Ordering.{nat_cmp, on, then_cmp}
use Rattle.std.specs.declared.cmp.Ordering.{Ordering}
use Rattle.rules.specs.Name.{name_cmp}
use Rattle.rules.specs.Package.{Pkg, Provided}
use Rattle.rules.specs.Version.{version_cmp}
use Rattle.rules.specs.VersionFault.{first_fault}

-- a name that a package offers, the version in which it does, if there is one, and the place of the package
pub record Offer : Type 0 where
  pub name : List ℕ
  pub version : Option (List ℕ)
  pub place : ℕ

-- the version that is kept as this text, which is empty where there is none
abbrev pub version_in : List ℕ → Option (List ℕ)
version_in [] = None
version_in (byte ∷ rest) = Some (byte ∷ rest)

-- the version, if there is one, has no fault
abbrev pub IsReadable : Option (List ℕ) → Type 0
IsReadable None = Unit {0}
IsReadable (Some version) = first_fault version ≡ None

-- what a package at this place offers by its own name and version, which are these
abbrev pub own_offer : ℕ → List ℕ → List ℕ → Offer
own_offer place name version = record { name = name; version = Some version; place = place }

-- what an item of Provides of the package at this place offers
abbrev pub provided_offer : ℕ → Provided → Offer
provided_offer place item = record { name = item.name; version = item.version; place = place }

-- the same, unless the item is foreign
abbrev pub offers_by : ℕ → Provided → List Offer
offers_by place item = if item.foreign then [] else provided_offer place item ∷ []

-- what the package at this place offers by its own name
abbrev pub own_offers_at : ℕ → Pkg → List Offer
own_offers_at place pkg = own_offer place pkg.name pkg.version ∷ []

-- what it offers by items of Provides
abbrev pub item_offers_at : ℕ → Pkg → List Offer
item_offers_at place pkg = flat_map (offers_by place) pkg.relations.provides

-- what it offers by both
abbrev pub offers_at : ℕ → Pkg → List Offer
offers_at place pkg = own_offers_at place pkg ++ item_offers_at place pkg

-- what each of these packages offers in this way, the first of which stands at this place
abbrev pub each_from : (ℕ → Pkg → List Offer) → ℕ → List Pkg → List Offer
each_from offers place [] = []
each_from offers place (pkg ∷ later) = offers place pkg ++ each_from offers (place + 1) later

-- what the packages of a list offer by their own names
abbrev pub own_offers_of : List Pkg → List Offer
own_offers_of packages = each_from own_offers_at 0 packages

-- what they offer by items of Provides
abbrev pub item_offers_of : List Pkg → List Offer
item_offers_of packages = each_from item_offers_at 0 packages

-- what the packages of a list offer
abbrev pub offers_of : List Pkg → List Offer
offers_of packages = each_from offers_at 0 packages

-- it is of this name
abbrev pub is_offer_of : List ℕ → Offer → Bool
is_offer_of name offer = bytes_eq offer.name name

-- it is of this name, in some version
abbrev pub is_versioned_of : List ℕ → Offer → Bool
is_versioned_of name offer = is_offer_of name offer && is_some offer.version

-- what the packages of a list offer of this name in some version: by their own versions and by items with a version
abbrev pub versioned_of : List ℕ → List Pkg → List Offer
versioned_of name packages = filter (is_versioned_of name) (offers_of packages)

-- the order of offers: by name; those without a version first, and then by version; by place; and by the version's text
abbrev pub offer_cmp : Offer → Offer → Ordering
offer_cmp = then_cmp (on (λ offer. offer.name) name_cmp)
    (then_cmp (on (λ offer. offer.version) (option_cmp version_cmp))
    (then_cmp (on (λ offer. offer.place) nat_cmp) (on (λ offer. offer.version) (option_cmp name_cmp))))

-- the offers in order, none twice, and so no more of any kind
pub record AreOrdered (offers ordered : List Offer) : Type 0 where
  pub ascending : IsStrictlySortedBy offer_cmp ordered
  pub same : (offer : Offer) → Contains ordered offer ↔ Contains offers offer
  pub fewer : (kind : Offer → Bool) → length (filter kind ordered) ≤ length (filter kind offers)

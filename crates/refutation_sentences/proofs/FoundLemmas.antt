-- What a test finds among items, and which stanza is found, one after another.
use Rattle.std.proofs.Common.{◌≡◌, ℕ, ◌+◌, ◌<◌, ◌≤◌, ◌⊎◌, Bool, true, false, List, [], ◌∷◌, ◌++◌, Option, Some, None, length, take, get_or, refl, sym, ap, subst, ◌∙◌, append_assoc, if◌then◌else◌}
use Rattle.std.specs.Prelude.{◌↔◌, ◌==◌, IsTrue}
use Rattle.std.specs.List.{All, Any, Contains, flat_map}
use Rattle.std.specs.Ordering.{is_gt, is_lt, ordering_reverse}
use Rattle.std.specs.declared.cmp.Ordering.{Ordering}
use Rattle.std.specs.declared.cmp.Ordering.TheVariants.{Less, Equal, Greater}
use Rattle.std.proofs.lemmas.Cmp.{tied_itself, upto}
use Rattle.std.proofs.lemmas.Grind.{flat_map-append}
use Rattle.std.proofs.lemmas.Bool.{eq-eqb, eqb-true}
use Rattle.std.proofs.lemmas.List.{append-nil, nil_from_length, take_all, take_more}
use Rattle.std.proofs.lemmas.List.Elements.{All-append, All-contains, All-more, All-push, All-weaker, Contains-append_left, Contains-push}
use Rattle.std.proofs.lemmas.Option.{same_Some}
use Rattle.index.specs.Index.{ReadIndex}
use Rattle.index.specs.Providers.{plain_atom}
use Rattle.input_notes.specs.Inputs.{stanzas_of}
use Rattle.refutation_sentences.specs.Offers.{IsFoundIn, IsHighestIn, IsHighestOf, IsHighestVersionOf, IsNoneOf, IsOneOf, IsVersionOf, higher_of, standing_of}
use Rattle.rules.specs.ElementLaws.{Any-elim, Any-intro}
use Rattle.rules.specs.Package.{FitsByName, Pkg}
use Rattle.rules.specs.Step.{IndexPackage}
use Rattle.rules.specs.Universe.{Universe}
use Rattle.rules.specs.Version.{version_cmp}
use Rattle.rules.specs.VersionOrderLaws.{version_cmp_total}
use mathlib.Core.Logic.{inl, inr}

-- a list is empty where its length is 0, as a test
pub empty_test : (xs : List ℕ) → IsTrue (length xs == 0) ↔ (xs ≡ [])
empty_test xs = (
  λ passes. nil_from_length xs (eqb-true (length xs) 0 passes),
  λ empty. eq-eqb (length xs) 0 (ap (λ (ys : List ℕ). length ys) empty),
)

-- an item that fails the test is none with the property
pub none_more : {X : Type 0} (P : X → Type 0) (xs : List X) (place : ℕ) (x : X) (passes : Bool) → place < length xs → x ≡ get_or xs place x
    → (IsTrue passes ↔ P x) → passes ≡ false → All (λ y. ¬ P y) (take place xs) → All (λ y. ¬ P y) (take (place + 1) xs)
none_more {X} P xs place x passes within is decides fails so_far =
    let Not : X → Type 0 = λ y. ¬ P y in
    let here : ¬ P x = λ holds. let e : true ≡ false = sym (decides.1 holds) ∙ fails in cc in
    All-more Not xs place x within so_far (subst Not is here)

-- an item that passes is one
pub some_here : {X : Type 0} (P : X → Type 0) (xs : List X) (place : ℕ) (x : X) (passes : Bool) → place < length xs → x ≡ get_or xs place x
    → (IsTrue passes ↔ P x) → passes ≡ true → IsTrue true ↔ Any P xs
some_here P xs place x passes within is decides holds =
    (λ _. Any-intro P xs x (place, within, sym is) (decides.0 holds), λ some. refl)

-- and in the end there is none
pub none_in_all : {X : Type 0} (P : X → Type 0) (xs : List X) (place : ℕ) → length xs ≤ place → All (λ y. ¬ P y) (take place xs)
    → IsTrue false ↔ Any P xs
none_in_all {X} P xs place past so_far =
    let none : All (λ y. ¬ P y) xs = subst (λ (ys : List X). All (λ y. ¬ P y) ys) (take_all place xs past) so_far in (
      λ passes. absurd (let e : false ≡ true = passes in cc),
      λ some. absurd (Any-elim P xs ⊥ (λ y within holds. All-contains (λ z. ¬ P z) xs y none within holds) some),
    )

-- one stanza more that has the property: it is found, or the one before
pub found_with : (P : Pkg → Type 0) (earlier : List IndexPackage) (stanza first : IndexPackage) (before : Option IndexPackage)
    → P stanza.pkg → (first ≡ stanza) ⊎ (before ≡ Some first) → IsFoundIn P earlier before
    → IsFoundIn P (earlier ++ stanza ∷ []) (Some first)
found_with P earlier stanza first before holds (inl is) found =
    subst (IsOneOf P (earlier ++ stanza ∷ [])) (sym is) (Contains-push earlier stanza, holds)
found_with P earlier stanza first before holds (inr is) found =
    let one : IsOneOf P earlier first = subst (IsFoundIn P earlier) is found in
    (Contains-append_left earlier (stanza ∷ []) first one.0, one.1)

-- one that hasn't
pub found_without : (P : Pkg → Type 0) (earlier : List IndexPackage) (stanza : IndexPackage) (before : Option IndexPackage)
    → ¬ P stanza.pkg → IsFoundIn P earlier before → IsFoundIn P (earlier ++ stanza ∷ []) before
found_without P earlier stanza None fails found = All-push (λ (one : IndexPackage). ¬ P one.pkg) earlier stanza found fails
found_without P earlier stanza (Some first) fails found = (Contains-append_left earlier (stanza ∷ []) first found.0, found.1)

-- the stanza's version isn't higher than the other's
abbrev IsUpTo : (Pkg → Type 0) → IndexPackage → IndexPackage → Type 0
IsUpTo P highest stanza = P stanza.pkg → is_gt (version_cmp stanza.pkg.version highest.pkg.version) ≡ false

itself : (version : List ℕ) → is_gt (version_cmp version version) ≡ false
itself version = ap is_gt (tied_itself version_cmp_total version)

-- what isn't lower isn't less than the other
turned : (version other : List ℕ) → is_lt (version_cmp version other) ≡ false → is_gt (version_cmp other version) ≡ false
turned version other fails = ap is_gt (version_cmp_total.antisymm other version) ∙ by (version_cmp version other) fails
  where
    by : (o : Ordering) → is_lt o ≡ false → is_gt (ordering_reverse o) ≡ false
    by Less lower = absurd (let e : true ≡ false = lower in cc)
    by Equal lower = refl
    by Greater lower = refl

lower_up : (version other : List ℕ) → is_lt (version_cmp version other) ≡ true → is_gt (version_cmp version other) ≡ false
lower_up version other lower = by (version_cmp version other) lower
  where
    by : (o : Ordering) → is_lt o ≡ true → is_gt o ≡ false
    by Less less = refl
    by Equal less = refl
    by Greater less = absurd (let e : false ≡ true = less in cc)

-- one stanza more that has the property: the higher one is the highest
pub highest_with : (P : Pkg → Type 0) (earlier : List IndexPackage) (stanza : IndexPackage) (before : Option IndexPackage)
    → P stanza.pkg → IsHighestIn P earlier before → IsHighestIn P (earlier ++ stanza ∷ []) (Some (higher_of stanza before))
highest_with P earlier stanza None holds none = (
  (Contains-push earlier stanza, holds),
  All-push (IsUpTo P stanza) earlier stanza
      (All-weaker (λ (one : IndexPackage). ¬ P one.pkg) (IsUpTo P stanza) (λ one fails has. absurd (fails has)) earlier none)
      (λ _. itself stanza.pkg.version),
)
highest_with P earlier stanza (Some high) holds highest = by (is_lt (version_cmp high.pkg.version stanza.pkg.version)) refl
  where
    by : (b : Bool) → is_lt (version_cmp high.pkg.version stanza.pkg.version) ≡ b
        → IsHighestOf P (earlier ++ stanza ∷ []) (if b then stanza else high)
    by true lower = (
      (Contains-push earlier stanza, holds),
      All-push (IsUpTo P stanza) earlier stanza
          (All-weaker (IsUpTo P high) (IsUpTo P stanza) (λ one up has.
          upto version_cmp_total one.pkg.version high.pkg.version stanza.pkg.version (up has) (lower_up high.pkg.version stanza.pkg.version lower))
          earlier highest.1)
          (λ _. itself stanza.pkg.version),
    )
    by false not_lower = (
      (Contains-append_left earlier (stanza ∷ []) high highest.0.0, highest.0.1),
      All-push (IsUpTo P high) earlier stanza highest.1 (λ _. turned high.pkg.version stanza.pkg.version not_lower),
    )

-- one that hasn't
pub highest_without : (P : Pkg → Type 0) (earlier : List IndexPackage) (stanza : IndexPackage) (before : Option IndexPackage)
    → ¬ P stanza.pkg → IsHighestIn P earlier before → IsHighestIn P (earlier ++ stanza ∷ []) before
highest_without P earlier stanza None fails none = All-push (λ (one : IndexPackage). ¬ P one.pkg) earlier stanza none fails
highest_without P earlier stanza (Some high) fails highest = (
  (Contains-append_left earlier (stanza ∷ []) high highest.0.0, highest.0.1),
  All-push (IsUpTo P high) earlier stanza highest.1 (λ has. absurd (fails has)),
)

-- what is so of earlier stanzas and those of a list so far, with one more
pub stanza_more : (Q : List IndexPackage → Type 0) (earlier stanzas : List IndexPackage) (place : ℕ) (stanza : IndexPackage)
    → place < length stanzas → stanza ≡ get_or stanzas place stanza → Q ((earlier ++ take place stanzas) ++ stanza ∷ [])
    → Q (earlier ++ take (place + 1) stanzas)
stanza_more Q earlier stanzas place stanza within is holds =
    subst Q (append_assoc earlier (take place stanzas) (stanza ∷ [])
    ∙ ap (λ (one : IndexPackage). earlier ++ (take place stanzas ++ one ∷ [])) is
    ∙ sym (ap (λ (all : List IndexPackage). earlier ++ all) (take_more stanzas place stanza within))) holds

-- of the stanzas of the indices so far, with those of one index more
pub index_more : (Q : List IndexPackage → Type 0) (indices : List ReadIndex) (place : ℕ) (index : ReadIndex) (stanzas : List IndexPackage)
    → place < length indices → index ≡ get_or indices place index → stanzas ≡ index.index.listed
    → Q (stanzas_of (take place indices) ++ stanzas) → Q (stanzas_of (take (place + 1) indices))
index_more Q indices place index stanzas within is are holds =
    let listed_of : ReadIndex → List IndexPackage = λ (read : ReadIndex). read.index.listed in
    subst Q (
    ap (λ (all : List IndexPackage). stanzas_of (take place indices) ++ all)
    (are ∙ ap listed_of is ∙ sym (append-nil (listed_of (get_or indices place index))))
    ∙ sym (flat_map-append listed_of (take place indices) (get_or indices place index ∷ []))
    ∙ sym (ap stanzas_of (take_more indices place index within))
    ) holds

-- a version that an index has isn't higher than the highest
listed_up : (name : List ℕ) (stanzas : List IndexPackage) (stanza : IndexPackage) (other : List ℕ)
    → IsHighestOf (λ pkg. FitsByName pkg (plain_atom name)) stanzas stanza
    → Any (λ (one : IndexPackage). (one.pkg.name ≡ name) × (one.pkg.version ≡ other)) stanzas
    → is_gt (version_cmp other stanza.pkg.version) ≡ false
unfolding FitsByName
listed_up name stanzas stanza other highest some =
    Any-elim (λ (one : IndexPackage). (one.pkg.name ≡ name) × (one.pkg.version ≡ other)) stanzas (is_gt (version_cmp other stanza.pkg.version) ≡ false)
    (λ one within both.
    ap (λ (v : List ℕ). is_gt (version_cmp v stanza.pkg.version)) (sym both.1)
    ∙ All-contains (IsUpTo (λ pkg. FitsByName pkg (plain_atom name)) stanza) stanzas one highest.1 within (both.0, tt)) some

is_version : (u : Universe) (indices : List ReadIndex) (name : List ℕ) (stanza : IndexPackage)
    → IsOneOf (λ pkg. FitsByName pkg (plain_atom name)) (stanzas_of indices) stanza → IsVersionOf u indices name stanza.pkg.version
unfolding FitsByName
is_version u indices name stanza one =
    inr (Any-intro (λ (it : IndexPackage). (it.pkg.name ≡ name) × (it.pkg.version ≡ stanza.pkg.version)) (stanzas_of indices) stanza one.0 (one.1.0, refl))

standing_up : (u : Universe) (name standing other : List ℕ) → standing_of u name ≡ Some standing → standing_of u name ≡ Some other
    → is_gt (version_cmp other standing) ≡ false
standing_up u name standing other is also =
    let same : standing ≡ other = same_Some standing other (sym is ∙ also) in
    ap (λ (v : List ℕ). is_gt (version_cmp v standing)) (sym same) ∙ itself standing

-- where nothing stands, the highest version in the indices is the highest
pub highest_alone : (u : Universe) (indices : List ReadIndex) (name : List ℕ) (stanza : IndexPackage) → standing_of u name ≡ None
    → IsHighestOf (λ pkg. FitsByName pkg (plain_atom name)) (stanzas_of indices) stanza → IsHighestVersionOf u indices name stanza.pkg.version
highest_alone u indices name stanza none highest = (
  is_version u indices name stanza highest.0,
  λ other is. elim is [
    | inl standing ↦ absurd (let e : None ≡ Some other = sym none ∙ standing in cc)
    | inr some ↦ listed_up name (stanzas_of indices) stanza other highest some
  ],
)

-- where no index has the name, the version that stands is the highest
pub standing_alone : (u : Universe) (indices : List ReadIndex) (name standing : List ℕ) → standing_of u name ≡ Some standing
    → IsNoneOf (λ pkg. pkg.name ≡ name) (stanzas_of indices) → IsHighestVersionOf u indices name standing
standing_alone u indices name standing is none = (
  inl is,
  λ other of. elim of [
    | inl also ↦ standing_up u name standing other is also
    | inr some ↦ absurd (Any-elim (λ (one : IndexPackage). (one.pkg.name ≡ name) × (one.pkg.version ≡ other)) (stanzas_of indices) ⊥
        (λ one within both. All-contains (λ (it : IndexPackage). ¬ (it.pkg.name ≡ name)) (stanzas_of indices) one none within both.0) some)
  ],
)

-- the version that stands, where it is higher
pub standing_highest : (u : Universe) (indices : List ReadIndex) (name standing : List ℕ) (stanza : IndexPackage)
    → standing_of u name ≡ Some standing → IsHighestOf (λ pkg. FitsByName pkg (plain_atom name)) (stanzas_of indices) stanza
    → is_lt (version_cmp stanza.pkg.version standing) ≡ true → IsHighestVersionOf u indices name standing
standing_highest u indices name standing stanza is highest lower = (
  inl is,
  λ other of. elim of [
    | inl also ↦ standing_up u name standing other is also
    | inr some ↦ upto version_cmp_total other stanza.pkg.version standing
        (listed_up name (stanzas_of indices) stanza other highest some) (lower_up stanza.pkg.version standing lower)
  ],
)

-- and where it isn't, the highest version in the indices
pub listed_highest : (u : Universe) (indices : List ReadIndex) (name standing : List ℕ) (stanza : IndexPackage)
    → standing_of u name ≡ Some standing → IsHighestOf (λ pkg. FitsByName pkg (plain_atom name)) (stanzas_of indices) stanza
    → is_lt (version_cmp stanza.pkg.version standing) ≡ false → IsHighestVersionOf u indices name stanza.pkg.version
listed_highest u indices name standing stanza is highest not_lower = (
  is_version u indices name stanza highest.0,
  λ other of. elim of [
    | inl also ↦
        let same : standing ≡ other = same_Some standing other (sym is ∙ also) in
        ap (λ (v : List ℕ). is_gt (version_cmp v stanza.pkg.version)) (sym same) ∙ turned stanza.pkg.version standing not_lower
    | inr some ↦ listed_up name (stanzas_of indices) stanza other highest some
  ],
)

-- where no stanza fits the name without a restriction, none has it
pub none_named : (name : List ℕ) (stanzas : List IndexPackage) → IsNoneOf (λ pkg. FitsByName pkg (plain_atom name)) stanzas
    → IsNoneOf (λ pkg. pkg.name ≡ name) stanzas
unfolding FitsByName
none_named name stanzas none = All-weaker (λ (one : IndexPackage). ¬ FitsByName one.pkg (plain_atom name))
    (λ (one : IndexPackage). ¬ (one.pkg.name ≡ name)) (λ one fails is. fails (is, tt)) stanzas none

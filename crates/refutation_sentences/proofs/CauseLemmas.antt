-- What is so where no pair has a name.
use Rattle.std.proofs.Common.{◌≡◌, ℕ, ◌+◌, ◌<◌, ◌≤◌, ◌++◌, suc, Bool, true, false, List, [], ◌∷◌, Some, None, get_or, length, map, position, refl, sym, ap, subst, take, ◌∙◌, arith}
use Rattle.std.specs.Prelude.{codes, slice_get}
use Rattle.std.specs.List.{All, AllZip, Contains, position_or_len}
use Rattle.std.specs.Option.{option_map}
use Rattle.std.proofs.lemmas.Bool.{false_from_ne_true, le-ltb}
use Rattle.std.proofs.lemmas.List.Elements.{All-contains, All-weaker}
use Rattle.std.proofs.lemmas.List.{take_more}
use Rattle.std.proofs.lemmas.Option.{slice_get-get_or}
use Rattle.std.proofs.lemmas.Slice.Zip.{all_zipped_more}
use Rattle.refutation_sentences.proofs.TruthLemmas.{map-push}
use Rattle.refutation_sentences.specs.Causes.{IsUnfitProvider, also_words, provider_words}
use Rattle.refutation_sentences.specs.Offers.{AreNumbersOf, IsBy, IsLeftOut, IsLeftOutFit, IsLeftOutProvider, IsNoneOf, IsOneOf}
use Rattle.refutation_sentences.specs.declared.offers.By.TheVariants as by
use Rattle.index.specs.Providers.{plain_atom}
use Rattle.rules.specs.Available.{is_of}
use Rattle.rules.specs.ElementLaws.{Contains-head, Contains-nil, Contains-rest}
use Rattle.rules.specs.Package.{Atom, FitsByName, FitsByProvides, Pkg}
use Rattle.rules.specs.Step.{IndexPackage}
use Rattle.rules.specs.Universe.{Pair, Universe}
use Rattle.universe_parts.specs.PairLaws.{is_of-parts}

no_place : {X : Type 0} (p : X → Bool) (xs : List X) → ((x : X) → Contains xs x → p x ≡ false) → position_or_len p xs ≡ length xs
no_place p [] fails = refl
no_place p (x ∷ xs) fails = rw (fails x (Contains-head x xs))
    (ap (λ n. 1 + n) (no_place p xs (λ y there. fails y (Contains-rest x xs y there))) ∙ (let e : 1 + length xs ≡ suc (length xs) = omega arith in e))

not_placed : {X : Type 0} (p : X → Bool) (xs : List X) → position_or_len p xs ≡ length xs → position p xs ≡ None
not_placed p xs is = rw (is, le-ltb (length xs) (length xs) (omega arith)) refl

-- where no pair has the name, no version of it is admitted
pub left_out : (u : Universe) (name : List ℕ) → AreNumbersOf u (IsBy by.Name name) [] → (pkg : Pkg) → pkg.name ≡ name → IsLeftOut u pkg
left_out u name unnamed pkg is =
    ap (option_map (λ (place : ℕ). place + 1)) (not_placed test u.pairs (no_place test u.pairs fails))
  where
    test : Pair → Bool
    test pair = is_of pkg.name pkg.version pair.pkg

    fails : (pair : Pair) → Contains u.pairs pair → test pair ≡ false
    fails pair within = false_from_ne_true (test pair) (λ passes.
        let there : slice_get u.pairs within.0 ≡ Some pair = slice_get-get_or u.pairs within.0 pair within.1 ∙ ap Some within.2 in
        Contains-nil (suc within.0) ((unnamed (suc within.0)).1 (pair, there, (is_of-parts pkg.name pkg.version pair.pkg passes).0 ∙ is)))

-- and where none that isn't admitted fits, none fits
pub none_fits : (u : Universe) (asked : Atom) (stanzas : List IndexPackage) → AreNumbersOf u (IsBy by.Name asked.name) []
    → IsNoneOf (IsLeftOutFit u asked) stanzas → IsNoneOf (λ pkg. FitsByName pkg asked) stanzas
unfolding FitsByName
none_fits u asked stanzas unnamed none = All-weaker (λ (one : IndexPackage). ¬ IsLeftOutFit u asked one.pkg)
    (λ (one : IndexPackage). ¬ FitsByName one.pkg asked)
    (λ one fails fits. fails (fits, left_out u asked.name unnamed one.pkg fits.0)) stanzas none

-- a stanza that provides the name and isn't admitted does so in no version that fits, where none that isn't admitted does
pub unfit_provider : (u : Universe) (asked : Atom) (stanzas : List IndexPackage) (stanza : IndexPackage)
    → IsNoneOf (IsLeftOutProvider u asked) stanzas → IsOneOf (IsLeftOutProvider u (plain_atom asked.name)) stanzas stanza
    → IsOneOf (IsUnfitProvider asked) stanzas stanza
unfit_provider u asked stanzas stanza none one = (
  one.0,
  (one.1.0, λ fits. All-contains (λ (it : IndexPackage). ¬ IsLeftOutProvider u asked it.pkg) stanzas stanza none one.0 (fits, one.1.1)),
)

-- one alternative more, with its cause
pub cause_more : {X : Type 0} (f : X → List ℕ) (R : Atom → List ℕ → Type 0) (atoms : List Atom) (place : ℕ) (atom : Atom) (causes more : List X) (why : X)
    → place < length atoms → atom ≡ get_or atoms place atom → more ≡ causes ++ why ∷ [] → R atom (f why)
    → AllZip R (take place atoms) (map f causes) → AllZip R (take (place + 1) atoms) (map f more)
cause_more {X} f R atoms place atom causes more why within is are holds so_far =
    subst (λ (all : List X). AllZip R (take (place + 1) atoms) (map f all)) (sym are)
    (subst (λ (said : List (List ℕ)). AllZip R (take (place + 1) atoms) said) (sym (map-push f causes why))
    (subst (λ (all : List Atom). AllZip R all (map f causes ++ f why ∷ []))
    (ap (λ (one : Atom). take place atoms ++ one ∷ []) is ∙ sym (take_more atoms place atom within))
    (all_zipped_more R (take place atoms) (map f causes) atom (f why) so_far holds)))

-- where there is a pair it is told
pub also_some : (u : Universe) (name numbers : List ℕ) → 1 ≤ length numbers
    → also_words u name numbers ≡ codes ", and " ++ provider_words u name numbers
also_some u name [] some = absurd (omega (arith, some))
also_some u name (number ∷ numbers) some = refl

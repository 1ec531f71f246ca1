-- What is unpacked: tests and steps.
use Rattle.std.proofs.Common.{◌≡◌, ℕ, ◌<◌, Bool, true, false, not, List, [], ◌∷◌, Option, None, get_or, length, map, Bor, refl, sym, ap, ◌∙◌}
use Rattle.std.specs.Prelude.{◌↔◌, IsTrue}
use Rattle.std.proofs.lemmas.List.{get_or-map}
use Rattle.std.proofs.lemmas.List.Elements.{All-contains}
use Rattle.rules.specs.Database.{Record}
use Rattle.rules.specs.ElementLaws.{Contains-map_intro}
use Rattle.rules.specs.Name.{is_name}
use Rattle.rules.specs.Package.{Pkg}
use Rattle.rules.specs.Step.{IndexPackage}
use Rattle.rules.specs.Universe.{Pair, StandsAs, Universe, listed_for}
use Rattle.rules.specs.declared.step.Step.{Step}
use Rattle.plain.specs.Order.{unpack_of}
use Rattle.plain.proofs.SelectedLemmas.{none_stands, some_stands}
use Rattle.fixed_order.specs.Names.{AreNamed}
use Rattle.fixed_order.specs.Selection.{is_away, pkgs_of, stanza_of}

-- the test of what stands and the look-up agree
pub away_where_not : (start : List Record) (pkg : Pkg) (answer : Bool) → (answer ≡ true) ↔ StandsAs start pkg.name pkg.version
    → not answer ≡ is_away start pkg
away_where_not start pkg true stands = sym (at (is_away start pkg) refl)
  where
    at : (b : Bool) → is_away start pkg ≡ b → is_away start pkg ≡ false
    at true is = absurd (some_stands start pkg is (stands.0 refl))
    at false is = is
away_where_not start pkg false stands = sym (none_stands start pkg (λ is. absurd (let e : false ≡ true = stands.1 is in cc)))

-- the stanza at the place of the step is that of the step
pub stanza_of_step : (u : Universe) (steps : List Step) (stanzas : List (Option IndexPackage)) (listed : Option IndexPackage) (i n : ℕ)
    (step : Step) → stanzas ≡ map (listed_for u) steps → i < length steps → n ≡ i
    → ((none : Option IndexPackage) → listed ≡ get_or stanzas n none) → get_or steps i step ≡ step → listed ≡ listed_for u step
stanza_of_step u steps stanzas listed i n step are within place at is =
    at None
    ∙ ap (λ (k : ℕ). get_or stanzas k None) place
    ∙ ap (λ (all : List (Option IndexPackage)). get_or all i None) are
    ∙ get_or-map (listed_for u) steps i step None within
    ∙ ap (listed_for u) is

-- the stanzas of packages are those of their unpacks
pub stanzas_of_unpacks : (u : Universe) (pkgs : List Pkg) → map (stanza_of u) pkgs ≡ map (listed_for u) (map unpack_of pkgs)
stanzas_of_unpacks u [] = refl
stanzas_of_unpacks u (pkg ∷ pkgs) = ap (λ (rest : List (Option IndexPackage)). stanza_of u pkg ∷ rest) (stanzas_of_unpacks u pkgs)

-- the package of a lent pair is one of the packages
pub named_at : (pairs : List (Bor Pair)) (place : ℕ) (lent : Bor Pair) → AreNamed (pkgs_of pairs) → place < length pairs
    → lent ≡ get_or pairs place lent → IsTrue (is_name lent.now.pkg.name)
named_at pairs place lent named within is = All-contains (λ (pkg : Pkg). IsTrue (is_name pkg.name)) (pkgs_of pairs) lent.now.pkg named
    (Contains-map_intro (λ (pair : Bor Pair). pair.now.pkg) pairs lent (place, within, sym is))

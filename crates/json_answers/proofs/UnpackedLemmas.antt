-- Which names steps unpack is told by the table of them, and what a stanza offers is the archive of those steps.
use Rattle.std.proofs.Common.{◌≡◌, ◌∙◌, ℕ, Bool, true, false, cond, ◌&&◌, ◌||◌, List, [], ◌∷◌, ◌++◌, Option, None, Some, Bor, ap, bytes_eq, fold, inl, inr, map, refl, sym}
use Rattle.std.specs.List.{find, list_any}
use Rattle.std.specs.Option.{option_map}
use Rattle.std.specs.Ordering.{is_eq}
use Rattle.std.proofs.lemmas.Bool.{cases_Bool}
use Rattle.std.proofs.lemmas.List.Folds.{list_any-append}
use Rattle.index.proofs.NameLemmas.{list_any-map}
use Rattle.index.specs.Names.{with_name}
use Rattle.json_answers.specs.Archives.{archive_for, archive_in, is_stanza_of}
use Rattle.json_answers.specs.Unpacked.{archive_where, unpacked_in, unpacks, unpacks_same, with_unpacked}
use Rattle.rules.specs.NamedLaws.{bytes_eq-true}
use Rattle.rules.specs.Version.{version_cmp}
use Rattle.rules.specs.declared.step.Step.{Step}
use Rattle.rules.specs.declared.step.Step.TheVariants as step
use Rattle.stanza.specs.Stanza.{StanzaText}

-- The table

or_assoc : (a b c : Bool) → (a || (b || c)) ≡ ((a || b) || c)
or_assoc true b c = refl
or_assoc false b c = refl

or_false : (a b : Bool) → (a || (b || false)) ≡ (a || b)
or_false true b = refl
or_false false true = refl
or_false false false = refl

absorbed : (there same : Bool) → (same ≡ true → there ≡ true) → (there || same) ≡ there
absorbed true same tells = refl
absorbed false true tells = sym (tells refl)
absorbed false false tells = refl

-- one name more is found beside the others
with_one : (name added : List ℕ) (names : List (List ℕ))
    → list_any (bytes_eq name) (with_name names added) ≡ (list_any (bytes_eq name) names || bytes_eq name added)
with_one name added names = elim (cases_Bool (list_any (bytes_eq added) names)) [
  | inl there ↦ rw there (sym (absorbed (list_any (bytes_eq name) names) (bytes_eq name added)
      (λ same. ap (λ (n : List ℕ). list_any (bytes_eq n) names) (bytes_eq-true name added same) ∙ there)))
  | inr absent ↦ rw absent (list_any-append (bytes_eq name) names (added ∷ []) ∙ or_false (list_any (bytes_eq name) names) (bytes_eq name added))
]

or_nothing : (a : Bool) → a ≡ (a || false)
or_nothing true = refl
or_nothing false = refl

-- so with what one step unpacks
with_step : (name : List ℕ) (names : List (List ℕ)) (s : Step)
    → list_any (bytes_eq name) (with_unpacked names s) ≡ (list_any (bytes_eq name) names || unpacks name s)
with_step name names (step.Unpack added version) = with_one name added names
with_step name names (step.Deconfigure other) = or_nothing (list_any (bytes_eq name) names)
with_step name names (step.Configure group) = or_nothing (list_any (bytes_eq name) names)
with_step name names (step.Remove other) = or_nothing (list_any (bytes_eq name) names)
with_step name names (step.Purge other) = or_nothing (list_any (bytes_eq name) names)

with_steps : (name : List ℕ) (names : List (List ℕ)) (steps : List Step)
    → list_any (bytes_eq name) (fold with_unpacked names steps) ≡ (list_any (bytes_eq name) names || list_any (unpacks name) steps)
with_steps name names [] = or_nothing (list_any (bytes_eq name) names)
with_steps name names (s ∷ steps) = with_steps name (with_unpacked names s) steps
    ∙ ap (λ (b : Bool). b || list_any (unpacks name) steps) (with_step name names s)
    ∙ sym (or_assoc (list_any (bytes_eq name) names) (unpacks name s) (list_any (unpacks name) steps))

-- a name is in the table of the steps exactly where one of them unpacks it
pub table_tells : (name : List ℕ) (steps : List Step) (keys : List (Bor (List ℕ))) (names : List (List ℕ)) (answer : Bool)
    → answer ≡ list_any (λ (key : Bor (List ℕ)). bytes_eq name key.now) keys → map (λ (key : Bor (List ℕ)). key.now) keys ≡ names
    → names ≡ unpacked_in steps → answer ≡ list_any (unpacks name) steps
table_tells name steps keys names answer is view same =
    is ∙ sym (list_any-map (bytes_eq name) (λ (key : Bor (List ℕ)). key.now) keys) ∙ ap (list_any (bytes_eq name)) (view ∙ same)
    ∙ with_steps name [] steps

-- What a stanza offers

-- what is said of a stanza for every name and version
abbrev pub Offers : List ℕ → List ℕ → List ℕ → StanzaText → Type 0
Offers arch name version stanza = (other wanted : List ℕ)
    → is_stanza_of arch other wanted stanza ≡ (bytes_eq name other && is_eq (version_cmp version wanted))

one_test : (test : StanzaText → Bool) (stanza : StanzaText) (b : Bool) → test stanza ≡ b
    → option_map archive_in (find test (stanza ∷ [])) ≡ cond b (Some (archive_in stanza)) None
one_test test stanza true is = rw is refl
one_test test stanza false is = rw is refl

-- the archive for a step among a stanza alone: where the step unpacks what the stanza offers
pub offered : (arch name version : List ℕ) (stanza : StanzaText) → Offers arch name version stanza → (s : Step)
    → archive_for arch (stanza ∷ []) s ≡ archive_where name version stanza s
offered arch name version stanza offers (step.Unpack other wanted) =
    one_test (is_stanza_of arch other wanted) stanza (bytes_eq name other && is_eq (version_cmp version wanted)) (offers other wanted)
offered arch name version stanza offers (step.Deconfigure other) = refl
offered arch name version stanza offers (step.Configure names) = refl
offered arch name version stanza offers (step.Remove other) = refl
offered arch name version stanza offers (step.Purge other) = refl

-- a stanza that offers nothing has no archive
pub not_offered : (arch : List ℕ) (stanza : StanzaText) → ((other wanted : List ℕ) → is_stanza_of arch other wanted stanza ≡ false) → (s : Step)
    → archive_for arch (stanza ∷ []) s ≡ None
not_offered arch stanza none (step.Unpack other wanted) = one_test (is_stanza_of arch other wanted) stanza false (none other wanted)
not_offered arch stanza none (step.Deconfigure other) = refl
not_offered arch stanza none (step.Configure names) = refl
not_offered arch stanza none (step.Remove other) = refl
not_offered arch stanza none (step.Purge other) = refl

-- a step that doesn't unpack the package of the name has no archive of it
pub other_package : (name version : List ℕ) (stanza : StanzaText) (s : Step) → unpacks name s ≡ false → archive_where name version stanza s ≡ None
other_package name version stanza (step.Unpack other wanted) apart = rw apart refl
other_package name version stanza (step.Deconfigure other) apart = refl
other_package name version stanza (step.Configure names) apart = refl
other_package name version stanza (step.Remove other) apart = refl
other_package name version stanza (step.Purge other) apart = refl

-- The record of a name is found among those that have or provide the name.
use Rattle.std.proofs.Common.{◌≡◌, ◌∙◌, ℕ, true, false, List, Option, Some, None, refl, sym, ap}
use Rattle.std.specs.List.{Contains, find}
use Rattle.std.proofs.lemmas.List.Elements.{All-contains}
use Rattle.rules.specs.Database.{Record, HasDistinctNames}
use Rattle.rules.specs.NamedLaws.{bytes_eq-true}
use Rattle.rules.specs.Step.{is_named}
use Rattle.rules.proofs.QuietLemmas.{one_record}
use Rattle.plancheck_state.specs.HolderLaws.{named-holds}
use Rattle.plancheck_state.specs.Holders.{AreHolders}
use Rattle.universe_parts.specs.FindLaws.{find-exists, find-none, find-some}

pub found_among_holders : (name : List ℕ) (db holders : List Record) → HasDistinctNames db → AreHolders name db holders
    → find (is_named name) holders ≡ find (is_named name) db
found_among_holders name db holders distinct are = at (find (is_named name) holders) refl
  where
    absent : (o : Option Record) → find (is_named name) holders ≡ None → find (is_named name) db ≡ o
        → find (is_named name) holders ≡ find (is_named name) db
    absent None none is = none ∙ sym is
    absent (Some entry) none is =
        let there = find-some (is_named name) db entry is in
        let passes : is_named name entry ≡ true = there.1 in
        let fails : is_named name entry ≡ false = find-none (is_named name) holders none entry
        (are.each entry there.0 (named-holds name entry (bytes_eq-true entry.name name passes))) in
        absurd (let e : true ≡ false = sym passes ∙ fails in cc)

    at : (o : Option Record) → find (is_named name) holders ≡ o → find (is_named name) holders ≡ find (is_named name) db
    at None none = absent (find (is_named name) db) none refl
    at (Some entry) is =
        let among = find-some (is_named name) holders entry is in
        let within : Contains db entry = All-contains (Contains db) holders entry are.within among.0 in
        let first = find-exists (is_named name) db entry within among.1 in
        let there = find-some (is_named name) db first.0 first.1 in
        let same : entry ≡ first.0 = one_record db distinct first.0 entry there.0 within
        (bytes_eq-true entry.name name among.1 ∙ sym (bytes_eq-true first.0.name name there.1)) in
        is ∙ ap Some same ∙ sym first.1

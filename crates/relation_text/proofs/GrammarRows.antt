-- Worked rows of the grammar (Policy 7.1, 7.4 and 5.6.7): what a few values spell, and values that spell nothing, whichever
-- items are named. Configured is amd64.
use Rattle.std.proofs.Common.{◌≡◌, ◌∷◌, [], ℕ, List, None, Some, Ok, Err, refl, codes, false}
use Rattle.rules.specs.Package.{Atom}
use Rattle.rules.specs.declared.op.Op.{Op}
use Rattle.rules.specs.declared.op.Op.TheVariants.{ExactlyEqual, LaterOrEqual, StrictlyLater}
use Rattle.relation_text.specs.Grammar.{SpellsAtoms, SpellsClauses}
use Rattle.relation_text.specs.Laws.{AreFew, alternatives_of}
use Rattle.relation_text.specs.Refusal.{bad_version_of, fault_of}
use Rattle.rules.specs.VersionFault.{first_fault}
use Rattle.relation_text.specs.declared.error.RelationFault.TheVariants.{BadName, BadRelation}
use Rattle.relation_text.proofs.ReadSpelled.{clauses_read_are_spelled}
use Rattle.relation_text.proofs.SpelledRead.{atoms_spelled_are_read, clauses_spelled_are_read}

abbrev amd64 : List ℕ
amd64 = codes "amd64"

-- an atom with this restriction, and one without
abbrev restricted : List ℕ → Op → List ℕ → Atom
restricted name op version = record { name = name; restriction = Some (record { op = op; version = version }); foreign = false }

abbrev named : List ℕ → Atom
named name = record { name = name; restriction = None; foreign = false }

strictly_later : SpellsClauses amd64 (codes "foo (>> 1)") ((restricted (codes "foo") StrictlyLater (codes "1") ∷ []) ∷ [])
unfolding fault_of bad_version_of first_fault
strictly_later = (clauses_read_are_spelled amd64 (codes "foo (>> 1)") _ refl).0

-- the obsolete `>` means `>=`
obsolete_later : SpellsClauses amd64 (codes "foo (> 1)") ((restricted (codes "foo") LaterOrEqual (codes "1") ∷ []) ∷ [])
unfolding fault_of bad_version_of first_fault
obsolete_later = (clauses_read_are_spelled amd64 (codes "foo (> 1)") _ refl).0

spaces_behind_a_version : SpellsClauses amd64 (codes "foo (= 1  ) ") ((restricted (codes "foo") ExactlyEqual (codes "1") ∷ []) ∷ [])
unfolding fault_of bad_version_of first_fault
spaces_behind_a_version = (clauses_read_are_spelled amd64 (codes "foo (= 1  ) ") _ refl).0

alternatives : SpellsClauses amd64 (codes "a | b, c") ((named (codes "a") ∷ named (codes "b") ∷ []) ∷ (named (codes "c") ∷ []) ∷ [])
unfolding fault_of bad_version_of first_fault
alternatives = (clauses_read_are_spelled amd64 (codes "a | b, c") _ refl).0

no_alternatives_in_conflicts : (atoms : List Atom) → AreFew atoms → SpellsAtoms amd64 (codes "a | b") atoms → ⊥
unfolding fault_of bad_version_of first_fault
no_alternatives_in_conflicts atoms few spells =
    let e : Err (BadRelation 2) ≡ Ok atoms = atoms_spelled_are_read amd64 (codes "a | b") atoms spells few in cc

no_name_begins_with_a_plus_sign : (clauses : List (List Atom)) → AreFew (alternatives_of clauses) → SpellsClauses amd64 (codes "+a") clauses → ⊥
unfolding fault_of bad_version_of first_fault
no_name_begins_with_a_plus_sign clauses few spells =
    let e : Err (BadName 0) ≡ Ok clauses = clauses_spelled_are_read amd64 (codes "+a") clauses spells few in cc

no_restriction_without_its_end : (clauses : List (List Atom)) → AreFew (alternatives_of clauses) → SpellsClauses amd64 (codes "a (= 1") clauses → ⊥
unfolding fault_of bad_version_of first_fault
no_restriction_without_its_end clauses few spells =
    let e : Err (BadRelation 6) ≡ Ok clauses = clauses_spelled_are_read amd64 (codes "a (= 1") clauses spells few in cc

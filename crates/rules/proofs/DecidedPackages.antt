-- Whether packages match atoms and fit together is decided.
use Rattle.std.proofs.Common.{ℕ, List, Some, None, Option}
use Rattle.rules.specs.Package.{Atom, Provided, Pkg, MeetsRestriction, Meets, MeetsAsProvided, FitsByName, FitsProvided, FitsByProvides, Matches, MatchesSome, ConflictsWith, BreaksOther, MeetsClause}
use Rattle.rules.specs.Sound.{MeetsClauses}
use Rattle.rules.specs.Version.{is_met, version_cmp, SameVersion}
use Rattle.rules.specs.declared.goal.Restriction.{Restriction}
use Rattle.rules.proofs.Decided.{dec_IsTrue, dec_and, dec_or, dec_text, dec_All, dec_Any, dec_Equal, dec_IsFalse, dec_and3}

unfoldable pub dec_MeetsRestriction : (version : List ℕ) (restriction : Restriction) → Dec (MeetsRestriction version restriction)
dec_MeetsRestriction version restriction = dec_IsTrue (is_met restriction.op (version_cmp version restriction.version))

unfoldable pub dec_Meets : (version : List ℕ) (restriction : Option Restriction) → Dec (Meets version restriction)
dec_Meets version None = yes tt
dec_Meets version (Some restriction) = dec_MeetsRestriction version restriction

unfoldable pub dec_MeetsAsProvided : (version : Option (List ℕ)) (restriction : Option Restriction) → Dec (MeetsAsProvided version restriction)
dec_MeetsAsProvided version None = yes tt
dec_MeetsAsProvided None (Some restriction) = no (λ e. e)
dec_MeetsAsProvided (Some version) (Some restriction) = dec_MeetsRestriction version restriction

unfoldable pub dec_FitsByName : (pkg : Pkg) (atom : Atom) → Dec (FitsByName pkg atom)
unfolding FitsByName
dec_FitsByName pkg atom = dec_and (dec_text pkg.name atom.name) (dec_Meets pkg.version atom.restriction)

unfoldable pub dec_FitsProvided : (item : Provided) (atom : Atom) → Dec (FitsProvided item atom)
unfolding FitsProvided
dec_FitsProvided item atom = dec_and3 (dec_IsFalse item.foreign) (dec_text item.name atom.name)
    (dec_MeetsAsProvided item.version atom.restriction)

unfoldable pub dec_FitsByProvides : (pkg : Pkg) (atom : Atom) → Dec (FitsByProvides pkg atom)
unfolding FitsByProvides
dec_FitsByProvides pkg atom = dec_Any (λ item. FitsProvided item atom) (λ item. dec_FitsProvided item atom) pkg.relations.provides

unfoldable pub dec_Matches : (pkg : Pkg) (atom : Atom) → Dec (Matches pkg atom)
unfolding Matches
dec_Matches pkg atom = dec_and (dec_IsFalse atom.foreign) (dec_or (dec_FitsByName pkg atom) (dec_FitsByProvides pkg atom))

unfoldable pub dec_MatchesSome : (pkg : Pkg) (atoms : List Atom) → Dec (MatchesSome pkg atoms)
unfolding MatchesSome
dec_MatchesSome pkg atoms = dec_Any (Matches pkg) (dec_Matches pkg) atoms

unfoldable pub dec_ConflictsWith : (pkg other : Pkg) → Dec (ConflictsWith pkg other)
unfolding ConflictsWith
dec_ConflictsWith pkg other = dec_MatchesSome other pkg.relations.conflicts

unfoldable pub dec_BreaksOther : (pkg other : Pkg) → Dec (BreaksOther pkg other)
unfolding BreaksOther
dec_BreaksOther pkg other = dec_MatchesSome other pkg.relations.breaks

unfoldable pub dec_MeetsClause : (members : List Pkg) (clause : List Atom) → Dec (MeetsClause members clause)
unfolding MeetsClause
dec_MeetsClause members clause = dec_Any (λ member. MatchesSome member clause) (λ member. dec_MatchesSome member clause) members

unfoldable pub dec_MeetsClauses : (members : List Pkg) (clauses : List (List Atom)) → Dec (MeetsClauses members clauses)
unfolding MeetsClauses
dec_MeetsClauses members clauses = dec_All (MeetsClause members) (dec_MeetsClause members) clauses

unfoldable pub dec_SameVersion : (version other : List ℕ) → Dec (SameVersion version other)
dec_SameVersion version other = dec_Equal (version_cmp version other)

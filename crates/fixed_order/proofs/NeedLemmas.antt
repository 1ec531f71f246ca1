-- A name that a clause needs isn't free of needs, and its removal isn't allowed.
use Rattle.std.proofs.Common.{◌≡◌, ◌≢◌, ℕ, Bool, true, false, not, Bor, List, [], ◌∷◌, ◌++◌, Option, Some, None, ◌∙◌}
use Rattle.std.specs.Prelude.{IfSome}
use Rattle.std.specs.List.{All, Contains}
use Rattle.std.proofs.lemmas.List.Elements.{All-contains, Contains-append_right}
use Rattle.rules.specs.Database.{Record, IsInstalled, IsPresent}
use Rattle.rules.specs.ElementLaws.{All-intro, Contains-head, Contains-rest}
use Rattle.rules.specs.Legal.{Allowed, RemoveAsks, remove_rules}
use Rattle.rules.specs.Package.{Atom}
use Rattle.rules.specs.Remove.{IsMetWithout, IsNeededByNone, IsNotNeeded, NeedsNot}
use Rattle.rules.specs.Universe.{Universe}
use Rattle.rules.specs.declared.step.Rule.TheVariants as rule
use Rattle.rules.specs.declared.step.Step.TheVariants.{Remove}

-- where an installed package of another name has a clause that doesn't manage without the name, the name is needed
pub needed_by : (db : List Record) (name : List ℕ) (entry : Record) (clause : List Atom) → Contains db entry → IsInstalled entry
    → entry.name ≢ name → Contains (entry.relations.pre_depends ++ entry.relations.depends) clause
    → ¬ All (λ (removed : Record). removed.name ≡ name → IsPresent removed → IsMetWithout db removed clause) db → ¬ IsNotNeeded db name
unfolding IsNotNeeded IsNeededByNone NeedsNot
needed_by db name entry clause there installed differ within unmet free =
    unmet (All-intro (λ (removed : Record). removed.name ≡ name → IsPresent removed → IsMetWithout db removed clause) db
    (λ removed inside same present. All-contains (IsMetWithout db removed) (entry.relations.pre_depends ++ entry.relations.depends) clause
    (All-contains (λ (other : Record). other.name ≢ removed.name → NeedsNot db removed other) db entry
    (All-contains (λ (gone : Record). gone.name ≡ name → IsPresent gone → IsNeededByNone db gone) db removed free inside same present) there
    (λ alike. differ (alike ∙ same)) installed) within))

-- a name whose removal is allowed isn't needed
pub allowed_unneeded : (u : Universe) (db : List Record) (name : List ℕ) → Allowed u db (Remove name) → IsNotNeeded db name
unfolding Allowed
allowed_unneeded u db name allowed = All-contains (RemoveAsks db name) remove_rules rule.NeededBy allowed
    (Contains-rest rule.WrongState (rule.Held ∷ rule.Essential ∷ rule.NeededBy ∷ []) rule.NeededBy
    (Contains-rest rule.Held (rule.Essential ∷ rule.NeededBy ∷ []) rule.NeededBy
    (Contains-rest rule.Essential (rule.NeededBy ∷ []) rule.NeededBy (Contains-head rule.NeededBy []))))

-- what is among the rest is among the whole
pub some_behind : {X : Type 0} (front rest : List X) (maybe : Option (Bor X)) → IfSome maybe (λ it. Contains rest it.now)
    → IfSome maybe (λ it. Contains (front ++ rest) it.now)
some_behind front rest None there = there
some_behind front rest (Some it) there = Contains-append_right front rest it.now there

pub not_both : (b : Bool) → not b ≡ true → b ≡ true → ⊥
not_both true is so = let e : false ≡ true = is in cc
not_both false is so = let e : false ≡ true = so in cc

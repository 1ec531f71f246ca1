-- How a worked row is shown: by what a decision computes to, and packages and records to write rows with.
use Rattle.std.proofs.Common.{subst, ◌≡◌, ℕ, Bool, true, false, List, [], ◌⊎◌, Option, Some, None}
use Rattle.rules.specs.Database.{Record}
use Rattle.rules.specs.Legal.{Allowed, IsFirstFailing}
use Rattle.rules.specs.Package.{Pkg, Atom, Provided, Relations}
use Rattle.rules.specs.Universe.{Universe, Pair, starts_of}
use Rattle.rules.specs.declared.goal.Goal.{Goal}
use Rattle.rules.specs.declared.op.Op.{Op}
use Rattle.rules.specs.declared.status.Flag.TheVariants as flags
use Rattle.rules.specs.declared.status.State.{State}
use Rattle.rules.specs.declared.status.Want.TheVariants as want
use Rattle.rules.specs.declared.step.Rule.{Rule}
use Rattle.rules.specs.declared.step.Step.{Step}
use Rattle.rules.proofs.LegalLemmas.{allowed_or_failing}
use mathlib.Core.Logic.{inl, inr}

-- whether a decision says yes
abbrev pub says : {P : Type 0} → Dec P → Bool
says (yes p) = true
says (no n) = false

-- a decision that says yes
pub so : {P : Type 0} → (decision : Dec P) → says decision ≡ true → P
so (yes p) is = p
so (no n) is = absurd (let e : false ≡ true = is in cc)

-- a decision that says no
pub not_so : {P : Type 0} → (decision : Dec P) → says decision ≡ false → ¬ P
not_so (yes p) is = absurd (let e : true ≡ false = is in cc)
not_so (no n) is = n

-- the rule that a decision names, if it names one
abbrev pub verdict : {A : Type 0} {P : Rule → Type 0} → A ⊎ ((rule : Rule) × P rule) → Option Rule
verdict (inl allowed) = None
verdict (inr failing) = Some failing.0

-- a step for which the decision names no rule is allowed
pub allowed_so : (u : Universe) (db : List Record) (step : Step) → verdict (allowed_or_failing u db step) ≡ None → Allowed u db step
allowed_so u db step is = at (allowed_or_failing u db step) is
  where
    at : (decision : Allowed u db step ⊎ ((rule : Rule) × IsFirstFailing u db step rule)) → verdict decision ≡ None → Allowed u db step
    at (inl allowed) is = allowed
    at (inr failing) is = absurd (let e : Some failing.0 ≡ None = is in cc)

-- a rule that the decision names is the first that the step fails
pub fails_so : (u : Universe) (db : List Record) (step : Step) (rule : Rule) → verdict (allowed_or_failing u db step) ≡ Some rule
    → IsFirstFailing u db step rule
fails_so u db step rule is = at (allowed_or_failing u db step) is
  where
    at : (decision : Allowed u db step ⊎ ((first : Rule) × IsFirstFailing u db step first)) → verdict decision ≡ Some rule
        → IsFirstFailing u db step rule
    at (inl allowed) is = absurd (let e : None ≡ Some rule = is in cc)
    at (inr failing) is = let e : failing.0 ≡ rule = cc in subst (IsFirstFailing u db step) e failing.1

-- an atom without a restriction and one with
abbrev pub any_of : List ℕ → Atom
any_of name = record { name = name; restriction = None; foreign = false }

abbrev pub some_of : List ℕ → Op → List ℕ → Atom
some_of name op version = record { name = name; restriction = Some (record { op = op; version = version }); foreign = false }

-- what is provided without a version and with one
abbrev pub provided : List ℕ → Provided
provided name = record { name = name; version = None; foreign = false }

abbrev pub provided_as : List ℕ → List ℕ → Provided
provided_as name version = record { name = name; version = Some version; foreign = false }

-- a package with these relations
abbrev pub package_of : List ℕ → List ℕ → Relations → Pkg
package_of name version relations = record { name = name; version = version; relations = relations }

-- a record in this state, with this config version
abbrev pub record_of : State → Option (List ℕ) → Pkg → Record
record_of state config_version pkg = record {
  name = pkg.name;
  state = state;
  want = want.Install;
  flag = flags.Ok;
  version = pkg.version;
  config_version = config_version;
  relations = pkg.relations;
  is_essential = false;
}

-- the pair of a package that an index has
abbrev pub indexed : Pkg → Pair
indexed pkg = record { pkg = pkg; listed = Some (record { pkg = pkg; is_essential = false; says_essential = false; place = record { index = 1; stanza = 1 } }) }

-- the pair of a package that no index has
abbrev pub unindexed : Pkg → Pair
unindexed pkg = record { pkg = pkg; listed = None }

-- the universe of these pairs and goals, from this start
abbrev pub universe_of : List Record → List Pair → List Goal → Universe
universe_of start pairs goals = record { pairs = pairs; goals = goals; starts = starts_of start; candidates = [] }

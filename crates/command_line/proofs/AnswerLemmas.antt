-- What is said of words, by what `clap` says of them and by what is made of its matches.
use Rattle.std.proofs.Common.{◌≡◌, ◌∙◌, true, List, [], ◌∷◌, Option, Some, None, ap, inl, inr, option_map, refl, subst, sym}
use Rattle.std.specs.Box.{box_value}
use Rattle.clap.proofs.OnLiterals.{clap_on_literals}
use Rattle.clap.specs.Faults.{fault_of, is_simple_and_free}
use Rattle.clap.specs.Kinds.{HasKind, Kinds}
use Rattle.clap.specs.Matches.{found_of, subcommand_name_of}
use Rattle.clap.specs.Simple.{App, HasMatchesOf, is_simple, subcommand_of, subcommand_rows_of}
use Rattle.clap.specs.Walk.{Row, rows_of}
use Rattle.clap.specs.declared.error.Error.{Error}
use Rattle.clap.specs.declared.parser.matches.ArgMatches.{ArgMatches}
use Rattle.clap.specs.declared.parser.matches.ArgMatches.TheViews.{out-ArgMatches, out-SubCommand}
use Rattle.clap.specs.declared.error.kind.ErrorKind.TheVariants.{ValueValidation}
use Rattle.command_line.specs.Asked.{Asked}
use Rattle.command_line.specs.Joined.{Text}
use Rattle.command_line.specs.Program.{debplan_app}
use Rattle.command_line.specs.Spelled.{asked_in, asked_of, call_in, faults_of, spelled}

-- `clap` says exactly what it makes of words for the program
pub simple : is_simple debplan_app ≡ true
unfolding debplan_app clap_on_literals
simple = refl

pub free : is_simple_and_free debplan_app ≡ true
unfolding debplan_app clap_on_literals
free = refl

-- words that `clap` takes, and that make a call, spell it
pub spelled_is : (words : List Text) (asked : Asked) → fault_of debplan_app words ≡ [] → asked_of (subcommand_of debplan_app words) ≡ Some asked
    → spelled words ≡ Some asked
unfolding faults_of call_in
spelled_is words asked takes makes = rw (takes, makes) refl

-- what `clap` says of words is said of them
pub said_by_clap : (words : List Text) (e : Error) → HasKind (fault_of debplan_app words) e → HasKind (faults_of words) e
unfolding faults_of
said_by_clap words e said = go (fault_of debplan_app words) refl said
  where
    go : (kinds : Kinds) → fault_of debplan_app words ≡ kinds → HasKind kinds e → HasKind (faults_of words) e
    go [] is (inl memory) = inl memory
    go [] is (inr none) = absurd none
    go (k ∷ ks) is has = rw is has

-- words that `clap` takes, and that make no call, are wrong
pub said_by_us : (words : List Text) (e : Error) → fault_of debplan_app words ≡ [] → asked_of (subcommand_of debplan_app words) ≡ None
    → HasKind (ValueValidation ∷ []) e → HasKind (faults_of words) e
unfolding faults_of call_in
said_by_us words e takes makes said = rw (takes, makes) said

abbrev pair : {X A B : Type 0} → (X → A) → (X → B) → X → A × B
pair f g x = (f x, g x)

abbrev second : {A B : Type 0} → A × B → B
second p = p.1

-- a pair of what is found in one place is found there
pub both_found : {X A B : Type 0} (f : X → A) (g : X → B) (o : Option X) (a : A) (b : B) → Some a ≡ option_map f o
    → Some b ≡ option_map second (option_map (pair f g) o) → option_map (pair f g) o ≡ Some (a, b)
both_found f g None a b e h = cc
both_found f g (Some x) a b e h =
    let ea : a ≡ f x = cc in
    let eb : b ≡ g x = cc in
    rw (ea, eb) refl

pub none_found : {X A B : Type 0} (f : X → A) (g : X → B) (o : Option X) → None ≡ option_map f o → option_map (pair f g) o ≡ None
none_found f g None e = refl
none_found f g (Some x) e = cc

-- what is made of the command that the matches name
pub asked_is : (m : ArgMatches) (name : Text) (rows : List Row) → Some name ≡ subcommand_name_of m
    → Some rows ≡ option_map (λ p. p.1) (subcommand_rows_of m) → asked_of (subcommand_rows_of m) ≡ asked_in name rows
asked_is m name rows e h = ap asked_of (both_found (λ b. (out-SubCommand (box_value b)).name.now)
    (λ b. rows_of (found_of (out-SubCommand (box_value b)).matches)) (out-ArgMatches m).subcommand name rows e h)

pub none_asked : (m : ArgMatches) → None ≡ subcommand_name_of m → asked_of (subcommand_rows_of m) ≡ None
none_asked m e = ap asked_of (none_found (λ b. (out-SubCommand (box_value b)).name.now)
    (λ b. rows_of (found_of (out-SubCommand (box_value b)).matches)) (out-ArgMatches m).subcommand e)

-- What a parse of the program's words comes to

taken : (app : App) (words : List Text) → app ≡ debplan_app → (is_simple_and_free app ≡ true → fault_of app words ≡ [])
    → fault_of debplan_app words ≡ []
taken app words is clause = subst (λ (a : App). fault_of a words ≡ []) is (clause (ap is_simple_and_free is ∙ free))

same_asked : (app : App) (words : List Text) (m : ArgMatches) → app ≡ debplan_app → HasMatchesOf app words m
    → asked_of (subcommand_of debplan_app words) ≡ asked_of (subcommand_rows_of m)
same_asked app words m is clause =
    sym (ap asked_of ((clause (ap is_simple is ∙ simple)).1 ∙ ap (λ (a : App). subcommand_of a words) is))

pub spelled_by : (app : App) (words : List Text) (m : ArgMatches) (asked : Asked) → app ≡ debplan_app
    → (is_simple_and_free app ≡ true → fault_of app words ≡ []) → HasMatchesOf app words m
    → Some asked ≡ asked_of (subcommand_rows_of m) → spelled words ≡ Some asked
spelled_by app words m asked is kinds matches made =
    spelled_is words asked (taken app words is kinds) (same_asked app words m is matches ∙ sym made)

pub refused_by_us : (app : App) (words : List Text) (m : ArgMatches) (e : Error) → app ≡ debplan_app
    → (is_simple_and_free app ≡ true → fault_of app words ≡ []) → HasMatchesOf app words m
    → None ≡ asked_of (subcommand_rows_of m) → HasKind (ValueValidation ∷ []) e → HasKind (faults_of words) e
refused_by_us app words m e is kinds matches made said =
    said_by_us words e (taken app words is kinds) (same_asked app words m is matches ∙ sym made) said

pub refused_by_clap : (app : App) (words : List Text) (e : Error) → app ≡ debplan_app
    → (is_simple_and_free app ≡ true → HasKind (fault_of app words) e) → HasKind (faults_of words) e
refused_by_clap app words e is clause =
    said_by_clap words e (subst (λ (a : App). HasKind (fault_of a words) e) is (clause (ap is_simple_and_free is ∙ free)))

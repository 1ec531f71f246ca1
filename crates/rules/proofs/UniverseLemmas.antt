-- The same inputs have one universe.
use Rattle.std.proofs.Common.{◌≡◌, ℕ, Bool, ◌&&◌, List, [], ◌∷◌, Option, Some, None, MatchOption, refl, sym, ap, subst, ◌∙◌, bytes_eq}
use Rattle.std.specs.List.{Contains, find}
use Rattle.std.specs.Option.{option_map, option_or}
use Rattle.std.specs.Ordering.{is_eq}
use Rattle.std.specs.declared.cmp.Ordering.{Ordering}
use Rattle.std.proofs.lemmas.List.Elements.{All-contains}
use Rattle.std.proofs.lemmas.Option.{same_Some}
use Rattle.rules.specs.Available.{Index, Inputs, all_listed, counting_package, index_package, is_of, same_version, standing_record}
use Rattle.rules.specs.Database.{Record, pkg_of, stands}
use Rattle.rules.specs.ElementLaws.{Any-elim, Any-intro}
use Rattle.rules.specs.Package.{Pkg}
use Rattle.rules.specs.Step.{IndexPackage, is_named}
use Rattle.rules.specs.Universe.{Candidate, IsKeptCandidate, IsKeptText, IsOf, IsUniverse, Pair, Start, Universe, candidate_cmp, pair_cmp}
use Rattle.rules.specs.UniverseLaws.{OneUniverse, candidate_cmp_total, pair_cmp_total}
use Rattle.rules.specs.Version.{SameVersion}
use Rattle.rules.specs.VersionOrderLaws.{SameVersion-refl, version_cmp-same_right}
use Rattle.rules.specs.declared.goal.Goal.{Goal}
use Rattle.rules.proofs.Rising.{IsWithin, same_rising}

-- tests that agree find the same
pub find-agree : {X : Type 0} (p q : X → Bool) → ((x : X) → p x ≡ q x) → (xs : List X) → find p xs ≡ find q xs
find-agree p q same [] = refl
find-agree p q same (x ∷ xs) =
    let here : p x ≡ q x = same x in
    let rest : find p xs ≡ find q xs = find-agree p q same xs in
    cc

-- another text of the version finds the same stanza and the same package
same_index_package : (indices : List Index) (name version other : List ℕ) → SameVersion version other
    → index_package indices name version ≡ index_package indices name other
same_index_package indices name version other same = find-agree
    (λ (listed : IndexPackage). is_of name version listed.pkg) (λ (listed : IndexPackage). is_of name other listed.pkg)
    (λ listed. ap (λ (o : Ordering). bytes_eq listed.pkg.name name && is_eq o)
    (version_cmp-same_right listed.pkg.version version other same)) (all_listed indices)

same_standing_record : (db : List Record) (name version other : List ℕ) → SameVersion version other
    → standing_record db name version ≡ standing_record db name other
same_standing_record db name version other same = find-agree
    (λ (entry : Record). is_named name entry && stands entry && same_version entry.version version)
    (λ (entry : Record). is_named name entry && stands entry && same_version entry.version other)
    (λ entry. ap (λ (o : Ordering). is_named name entry && stands entry && is_eq o)
    (version_cmp-same_right entry.version version other same)) db

pub same_counting_package : (inputs : Inputs) (name version other : List ℕ) → SameVersion version other
    → counting_package inputs name version ≡ counting_package inputs name other
same_counting_package inputs name version other same =
    ap (λ (r : Option Record). option_or (option_map pkg_of r) (option_map (λ (l : IndexPackage). l.pkg) (index_package inputs.indices name version)))
    (same_standing_record inputs.start name version other same)
    ∙ ap (λ (r : Option IndexPackage). option_or (option_map pkg_of (standing_record inputs.start name other)) (option_map (λ (l : IndexPackage). l.pkg) r))
    (same_index_package inputs.indices name version other same)

-- pairs of the same parts are one
same_parts : (pair other : Pair) → pair.pkg ≡ other.pkg → pair.listed ≡ other.listed → pair ≡ other
same_parts pair other pkgs stanzas =
    let along : (k : Pkg) → Pair = λ k. record { pkg = k; listed = pair.listed } in
    let past : (l : Option IndexPackage) → Pair = λ l. record { pkg = other.pkg; listed = l } in
    ap along pkgs ∙ ap past stanzas

-- a pair of the one universe is one of the other
pair_within : (inputs : Inputs) (u v : Universe) → IsUniverse inputs u → IsUniverse inputs v → IsWithin u.pairs v.pairs
pair_within inputs u v of_u of_v pair within = Any-elim (λ (other : Pair). IsOf pair.pkg.name pair.pkg.version other.pkg) v.pairs
    (Contains v.pairs pair)
    (λ other there of.
    let counts : counting_package inputs pair.pkg.name pair.pkg.version ≡ Some pair.pkg =
    All-contains (λ (p : Pair). counting_package inputs p.pkg.name p.pkg.version ≡ Some p.pkg) u.pairs pair of_u.counting within in
    let counts' : counting_package inputs other.pkg.name other.pkg.version ≡ Some other.pkg =
    All-contains (λ (p : Pair). counting_package inputs p.pkg.name p.pkg.version ≡ Some p.pkg) v.pairs other of_v.counting there in
    let names : counting_package inputs other.pkg.name other.pkg.version ≡ counting_package inputs pair.pkg.name pair.pkg.version =
    ap (λ (n : List ℕ). counting_package inputs n other.pkg.version) of.0
    ∙ same_counting_package inputs pair.pkg.name other.pkg.version pair.pkg.version of.1 in
    let pkgs : other.pkg ≡ pair.pkg = same_Some other.pkg pair.pkg (sym counts' ∙ names ∙ counts) in
    let stanza : index_package inputs.indices pair.pkg.name pair.pkg.version ≡ pair.listed =
    All-contains (λ (p : Pair). index_package inputs.indices p.pkg.name p.pkg.version ≡ p.listed) u.pairs pair of_u.listed within in
    let stanza' : index_package inputs.indices other.pkg.name other.pkg.version ≡ other.listed =
    All-contains (λ (p : Pair). index_package inputs.indices p.pkg.name p.pkg.version ≡ p.listed) v.pairs other of_v.listed there in
    let names' : index_package inputs.indices other.pkg.name other.pkg.version ≡ index_package inputs.indices pair.pkg.name pair.pkg.version =
    ap (λ (n : List ℕ). index_package inputs.indices n other.pkg.version) of.0
    ∙ same_index_package inputs.indices pair.pkg.name other.pkg.version pair.pkg.version of.1 in
    let stanzas : other.listed ≡ pair.listed = sym stanza' ∙ names' ∙ stanza in
    let same : other ≡ pair = same_parts other pair pkgs stanzas in
    subst (Contains v.pairs) same there)
    ((of_v.admitted pair.pkg.name pair.pkg.version).0 ((of_u.admitted pair.pkg.name pair.pkg.version).1
    (Any-intro (λ (other : Pair). IsOf pair.pkg.name pair.pkg.version other.pkg) u.pairs pair within (refl, SameVersion-refl pair.pkg.version))))

-- candidates of the same name and text are one
same_texts : (candidate other : Candidate) → candidate.name ≡ other.name → candidate.version ≡ other.version → candidate ≡ other
same_texts candidate other names versions =
    let along : (n : List ℕ) → Candidate = λ n. record { name = n; version = candidate.version } in
    let past : (v : List ℕ) → Candidate = λ v. record { name = other.name; version = v } in
    ap along names ∙ ap past versions

-- the text is that of the package found
kept-text : (counting : Option Pkg) (version : List ℕ) → MatchOption counting ⊥ (λ pkg. pkg.version ≡ version)
    → option_map (λ (pkg : Pkg). pkg.version) counting ≡ Some version
kept-text None version kept = absurd kept
kept-text (Some pkg) version kept = ap Some kept

-- of one version of a name one text is kept
one_text : (inputs : Inputs) (candidate other : Candidate) → candidate.name ≡ other.name
    → SameVersion candidate.version other.version → IsKeptText inputs candidate.name candidate.version
    → IsKeptText inputs other.name other.version → candidate.version ≡ other.version
unfolding IsKeptText
one_text inputs candidate other names same kept kept' =
    let text : Option Pkg → Option (List ℕ) = option_map (λ (pkg : Pkg). pkg.version) in
    let here : text (counting_package inputs candidate.name candidate.version) ≡ Some candidate.version =
    kept-text (counting_package inputs candidate.name candidate.version) candidate.version kept in
    let there : text (counting_package inputs other.name other.version) ≡ Some other.version =
    kept-text (counting_package inputs other.name other.version) other.version kept' in
    let same_package : counting_package inputs candidate.name candidate.version ≡ counting_package inputs other.name other.version =
    ap (λ (n : List ℕ). counting_package inputs n candidate.version) names
    ∙ same_counting_package inputs other.name candidate.version other.version same in
    same_Some candidate.version other.version (sym here ∙ ap text same_package ∙ there)

-- a candidate of the one universe is one of the other
candidate_within : (inputs : Inputs) (u v : Universe) → IsUniverse inputs u → IsUniverse inputs v → IsWithin u.candidates v.candidates
unfolding IsKeptCandidate
candidate_within inputs u v of_u of_v candidate within =
    let here : IsKeptCandidate inputs candidate = All-contains (IsKeptCandidate inputs) u.candidates candidate of_u.candidates within in
    Any-elim (λ (other : Candidate). (other.name ≡ candidate.name) × SameVersion other.version candidate.version) v.candidates
    (Contains v.candidates candidate)
    (λ other within' of.
    let there : IsKeptCandidate inputs other = All-contains (IsKeptCandidate inputs) v.candidates other of_v.candidates within' in
    let texts : other.version ≡ candidate.version = one_text inputs other candidate of.0 of.1 there.1 here.1 in
    subst (Contains v.candidates) (same_texts other candidate of.0 texts) within')
    (of_v.every_candidate candidate.name candidate.version here.0.0 here.0.1)

same_fields : (u v : Universe) → u.pairs ≡ v.pairs → u.goals ≡ v.goals → u.starts ≡ v.starts → u.candidates ≡ v.candidates → u ≡ v
same_fields u v pairs goals starts candidates =
    ap (λ (p : List Pair). record { pairs = p; goals = u.goals; starts = u.starts; candidates = u.candidates }) pairs
    ∙ ap (λ (g : List Goal). record { pairs = v.pairs; goals = g; starts = u.starts; candidates = u.candidates }) goals
    ∙ ap (λ (s : List Start). record { pairs = v.pairs; goals = v.goals; starts = s; candidates = u.candidates }) starts
    ∙ ap (λ (c : List Candidate). record { pairs = v.pairs; goals = v.goals; starts = v.starts; candidates = c }) candidates

pub one_universe : OneUniverse
one_universe inputs u v of_u of_v = same_fields u v
    (same_rising pair_cmp pair_cmp_total u.pairs v.pairs of_u.ascending of_v.ascending
    (pair_within inputs u v of_u of_v) (pair_within inputs v u of_v of_u))
    (of_u.goals ∙ sym of_v.goals)
    (of_u.starts ∙ sym of_v.starts)
    (same_rising candidate_cmp candidate_cmp_total u.candidates v.candidates of_u.candidates_ascending of_v.candidates_ascending
    (candidate_within inputs u v of_u of_v) (candidate_within inputs v u of_v of_u))

-- The universe that texts denote has no stanza with other relations where the texts agree on them, so not both judges say yes.
use Rattle.std.proofs.Common.{◌≡◌, Bool, true, false, cond, ◌&&◌, List, [], ◌∷◌, Option, Some, None, MatchOption, refl, sym, ap, subst, ◌∙◌}
use Rattle.std.specs.Prelude.{⊤}
use Rattle.std.specs.List.{All, Contains, find}
use Rattle.std.specs.Option.{option_map, option_or}
use Rattle.std.proofs.lemmas.List.Elements.{All-contains}
use Rattle.std.proofs.lemmas.Option.{same_Some}
use Rattle.candidates.specs.Inputs.{inputs_of}
use Rattle.plain.proofs.MemberLemmas.{universe_is_counted}
use Rattle.rules.specs.Available.{Inputs, all_listed, counting_package, index_package, is_of, same_version, standing_record}
use Rattle.rules.specs.Database.{Record, Stands, pkg_of, stands}
use Rattle.rules.specs.ElementLaws.{All-intro, Contains-head, Contains-rest}
use Rattle.rules.specs.Package.{Pkg}
use Rattle.rules.specs.Step.{IndexPackage, is_named}
use Rattle.rules.specs.Universe.{IsOf, IsUniverse, Pair, Universe}
use Rattle.rules.proofs.VerdictLemmas.{universe_is_built}
use Rattle.inputs.specs.Meaning.{asked_of}
use Rattle.inputs.proofs.DistinctLemmas.{distinct_start}
use Rattle.inputs.proofs.MeaningLemmas.{one_meaning}
use Rattle.written_refutation.specs.Judged.{IsWrittenAccepted, lines_of}
use Rattle.never_both.proofs.SelectionLemmas.{good_plan_is_not_refuted, is_of-true}
use Rattle.never_both.specs.Both.{HasNoOtherRelations, HasOneRelationsEach, NeverBothYes}

-- what is found is an element
found_in : {X : Type 0} (p : X → Bool) (xs : List X) (x : X) → find p xs ≡ Some x → Contains xs x
found_in p [] x is = absurd (let e = is in cc)
found_in {X} p (y ∷ ys) x is = at (p y) is (found_in p ys x)
  where
    at : (b : Bool) → cond b (Some y) (find p ys) ≡ Some x → (find p ys ≡ Some x → Contains ys x) → Contains (y ∷ ys) x
    at true here later = let P : X → Type 0 = λ z. Contains (y ∷ ys) z in subst P (same_Some y x here) (Contains-head y ys)
    at false behind later = Contains-rest y ys x (later behind)

-- and it passes
find_passes : {X : Type 0} (p : X → Bool) (xs : List X) (x : X) → find p xs ≡ Some x → p x ≡ true
find_passes p [] x is = absurd (let e = is in cc)
find_passes {X} p (y ∷ ys) x is = at (p y) refl is (find_passes p ys x)
  where
    at : (b : Bool) → p y ≡ b → cond b (Some y) (find p ys) ≡ Some x → (find p ys ≡ Some x → p x ≡ true) → p x ≡ true
    at true was here later = ap p (sym (same_Some y x here)) ∙ was
    at false was behind later = later behind

-- the stanza of a pair has the relations of its counting package
stanza_agrees : (inputs : Inputs) (pair : Pair) (listed : IndexPackage) → HasNoOtherRelations inputs.start inputs.indices
    → counting_package inputs pair.pkg.name pair.pkg.version ≡ Some pair.pkg
    → index_package inputs.indices pair.pkg.name pair.pkg.version ≡ Some listed → listed.pkg.relations ≡ pair.pkg.relations
stanza_agrees inputs pair listed agree counts stanza =
    at (standing_record inputs.start pair.pkg.name pair.pkg.version) refl counts
  where
    is_listed : IsOf pair.pkg.name pair.pkg.version listed.pkg
    is_listed = is_of-true pair.pkg.name pair.pkg.version listed.pkg
        (find_passes (λ (l : IndexPackage). is_of pair.pkg.name pair.pkg.version l.pkg) (all_listed inputs.indices) listed stanza)

    within : Contains (all_listed inputs.indices) listed
    within = found_in (λ (l : IndexPackage). is_of pair.pkg.name pair.pkg.version l.pkg) (all_listed inputs.indices) listed stanza

    at : (entry : Option Record) → standing_record inputs.start pair.pkg.name pair.pkg.version ≡ entry
        → option_or (option_map pkg_of entry) (option_map (λ (l : IndexPackage). l.pkg) (index_package inputs.indices pair.pkg.name pair.pkg.version)) ≡ Some pair.pkg
        → listed.pkg.relations ≡ pair.pkg.relations
    at None was is = ap (λ (p : Pkg). p.relations) (same_Some listed.pkg pair.pkg
        (sym (ap (λ (o : Option IndexPackage). option_map (λ (l : IndexPackage). l.pkg) o) stanza) ∙ is))
    at (Some entry) was is =
        let same : pkg_of entry ≡ pair.pkg = same_Some (pkg_of entry) pair.pkg is in
        let passes = find_passes (λ (r : Record). is_named pair.pkg.name r && stands r && same_version r.version pair.pkg.version) inputs.start entry was in
        let among = found_in (λ (r : Record). is_named pair.pkg.name r && stands r && same_version r.version pair.pkg.version) inputs.start entry was in
        let Of : Pkg → Type 0 = λ p. IsOf p.name p.version listed.pkg in
        All-contains (λ (l : IndexPackage). IsOf entry.name entry.version l.pkg → l.pkg.relations ≡ entry.relations) (all_listed inputs.indices) listed
        (All-contains (λ (r : Record). Stands r → All (λ (l : IndexPackage). IsOf r.name r.version l.pkg → l.pkg.relations ≡ r.relations) (all_listed inputs.indices))
        inputs.start entry agree among (standing entry passes)) within (subst Of (sym same) is_listed)
        ∙ ap (λ (p : Pkg). p.relations) same
      where
        standing : (entry : Record) → (is_named pair.pkg.name entry && stands entry && same_version entry.version pair.pkg.version) ≡ true → Stands entry
        standing entry passes = middle (is_named pair.pkg.name entry) (stands entry) (same_version entry.version pair.pkg.version) passes
          where
            middle : (a b c : Bool) → (a && b && c) ≡ true → b ≡ true
            middle true true c is = refl
            middle true false c is = absurd (let e : false ≡ true = is in cc)
            middle false true c is = absurd (let e : false ≡ true = is in cc)
            middle false false c is = absurd (let e : false ≡ true = is in cc)

-- so it is of all pairs
stanzas_agree : (inputs : Inputs) (u : Universe) → IsUniverse inputs u → HasNoOtherRelations inputs.start inputs.indices → HasOneRelationsEach u
stanzas_agree inputs u is agree = All-intro (λ (pair : Pair). MatchOption pair.listed ⊤ (λ listed. listed.pkg.relations ≡ pair.pkg.relations)) u.pairs
    (λ pair within. at pair within pair.listed
    (All-contains (λ (p : Pair). index_package inputs.indices p.pkg.name p.pkg.version ≡ p.listed) u.pairs pair is.listed within))
  where
    at : (pair : Pair) → Contains u.pairs pair → (listed : Option IndexPackage)
        → index_package inputs.indices pair.pkg.name pair.pkg.version ≡ listed → MatchOption listed ⊤ (λ l. l.pkg.relations ≡ pair.pkg.relations)
    at pair within None same = tt
    at pair within (Some listed) same = stanza_agrees inputs pair listed agree
        (All-contains (λ (p : Pair). counting_package inputs p.pkg.name p.pkg.version ≡ Some p.pkg) u.pairs pair is.counting within) same

pub never_both : NeverBothYes
never_both texts plan refutation agree answer refuted =
    let inputs : Inputs = inputs_of answer.start answer.denoted.indices answer.denoted.prefs (asked_of answer.denoted.asked) in
    let is : IsUniverse inputs answer.universe = answer.denoted.requested.built.universe in
    let distinct = distinct_start texts answer.start answer.denoted.read.listed.started in
    let one = one_meaning texts refuted.universe answer.universe refuted.start answer.start refuted.denoted answer.denoted in
    let accepted = subst (λ (v : Universe). IsWrittenAccepted v refuted.written) one.0 refuted.holds in
    good_plan_is_not_refuted answer.universe answer.start answer.steps (lines_of answer.universe.pairs refuted.written).lines
    (universe_is_built inputs answer.universe distinct is) (universe_is_counted inputs answer.universe distinct is)
    (stanzas_agree inputs answer.universe is (agree answer.start answer.denoted.indices answer.denoted.read.listed))
    answer.holds accepted.accepted

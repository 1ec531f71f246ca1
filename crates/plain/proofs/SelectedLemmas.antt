-- The members to be unpacked, in the order of their pairs, are by name.
use Rattle.std.proofs.Common.{◌≡◌, ℕ, ◌+◌, Bool, true, false, not, cond, List, [], ◌∷◌, Option, Some, refl, sym, ap, subst, ◌∙◌, arith, get_or, ◌⊎◌, ◌&&◌}
use Rattle.std.specs.Prelude.{is_some}
use Rattle.std.specs.Cmp.{Equal-is}
use Rattle.std.specs.List.{All, AllPairs, Contains, find}
use Rattle.std.specs.Ordering.{ordering_then}
use Rattle.std.specs.declared.cmp.Ordering.{Ordering}
use Rattle.std.specs.declared.cmp.Ordering.TheVariants.{Less, Equal, Greater}
use Rattle.std.proofs.lemmas.List.Elements.{All-contains, Contains-get_or}
use Rattle.std.proofs.lemmas.List.Kept.{AllPairs-cons, AllPairs-filter}
use Rattle.std.proofs.lemmas.Map.Lookups.{exact_bytes}
use Rattle.rules.specs.Available.{same_version, standing_record}
use Rattle.rules.specs.Database.{Record, Stands, stands}
use Rattle.rules.specs.ElementLaws.{All-intro, Any-intro, Any-elim, Contains-filter, Contains-filter_intro, Contains-cons, Contains-nil}
use Rattle.rules.specs.Name.{name_cmp}
use Rattle.rules.specs.NamedLaws.{bytes_eq-true, bytes_eq-same}
use Rattle.rules.specs.Package.{Pkg}
use Rattle.rules.specs.Sound.{AgreesWith, HasOneVersionEach, IsAcceptable, selected, selected_from}
use Rattle.rules.specs.Step.{is_named}
use Rattle.rules.specs.Universe.{Pair, StandsAs, pair_cmp}
use Rattle.rules.specs.Version.{SameVersion, version_cmp}
use Rattle.rules.proofs.EndLemmas.{both_true}
use Rattle.plain.specs.PhaseLaws.{MembersAreByName}
use Rattle.rules.proofs.Rising.{pairs_head, pairs_tail}
use Rattle.plain.proofs.MemberLemmas.{find_nothing, picked_from}
use mathlib.Core.Logic.{inl, inr}

-- the first package is before the second, by name and then by version
abbrev IsBefore : Pkg → Pkg → Type 0
IsBefore pkg other = ordering_then (name_cmp pkg.name other.name) (version_cmp pkg.version other.version) ≡ Less

-- the members are in the order of their pairs
members_rise : (number : ℕ) (selection : ℕ → Bool) (pairs : List Pair) → AllPairs (λ earlier later. pair_cmp earlier later ≡ Less) pairs
    → AllPairs IsBefore (selected_from number selection pairs)
members_rise number selection [] rising = λ i j d before within. absurd (omega arith)
members_rise number selection (pair ∷ rest) rising = at (selection number)
    (members_rise (number + 1) selection rest (pairs_tail (λ (a b : Pair). pair_cmp a b ≡ Less) pair rest rising))
  where
    before : (pkg : Pkg) → Contains (selected_from (number + 1) selection rest) pkg → IsBefore pair.pkg pkg
    before pkg within =
        let its_pair = picked_from (number + 1) selection rest pkg within in
        subst (IsBefore pair.pkg) its_pair.2 (All-contains (λ (b : Pair). pair_cmp pair b ≡ Less) rest its_pair.0
        (pairs_head (λ (a b : Pair). pair_cmp a b ≡ Less) pair rest rising) its_pair.1)

    at : (b : Bool) → AllPairs IsBefore (selected_from (number + 1) selection rest) → AllPairs IsBefore
        (cond b (pair.pkg ∷ selected_from (number + 1) selection rest) (selected_from (number + 1) selection rest))
    at false later = later
    at true later = AllPairs-cons IsBefore pair.pkg (selected_from (number + 1) selection rest)
        (All-intro (IsBefore pair.pkg) (selected_from (number + 1) selection rest) before) later

-- what is before in one version a name is before by name
before_by_name : (pkg other : Pkg) → AgreesWith pkg other → IsBefore pkg other → name_cmp pkg.name other.name ≡ Less
unfolding AgreesWith
before_by_name pkg other agrees before = at (name_cmp pkg.name other.name) refl before
  where
    at : (o : Ordering) → name_cmp pkg.name other.name ≡ o → ordering_then o (version_cmp pkg.version other.version) ≡ Less
        → name_cmp pkg.name other.name ≡ Less
    at Less is then = is
    at Equal is then = absurd (let e : Equal ≡ Less = sym (agrees (sym (exact_bytes pkg.name other.name is))) ∙ then in cc)
    at Greater is then = absurd (let e : Greater ≡ Less = then in cc)

-- the test of the record that stands in the version
abbrev is_it : Pkg → Record → Bool
is_it pkg entry = is_named pkg.name entry && stands entry && same_version entry.version pkg.version

-- the version stands where the test finds a record, and only there
pub none_stands : (start : List Record) (pkg : Pkg) → ¬ StandsAs start pkg.name pkg.version
    → not (is_some (standing_record start pkg.name pkg.version)) ≡ true
unfolding StandsAs
none_stands start pkg none = ap (λ (o : Option Record). not (is_some o)) (find_nothing (is_it pkg) start (λ entry there passes.
    let one_ = both_true (is_named pkg.name entry && stands entry) (same_version entry.version pkg.version) passes in
    let two = both_true (is_named pkg.name entry) (stands entry) one_.0 in
    none (Any-intro (λ (r : Record). (r.name ≡ pkg.name) × (Stands r × SameVersion r.version pkg.version)) start entry there
    (bytes_eq-true entry.name pkg.name two.0, (two.1, (Equal-is (version_cmp entry.version pkg.version)).0 one_.1)))))

-- where an element passes, one is found
finds : {X : Type 0} (p : X → Bool) (xs : List X) (x : X) → Contains xs x → p x ≡ true → is_some (find p xs) ≡ true
finds p [] x within passes = absurd (Contains-nil x within)
finds {X} p (y ∷ ys) x within passes = at (p y) refl (Contains-cons y ys x within) (λ there. finds p ys x there passes)
  where
    at : (b : Bool) → p y ≡ b → (y ≡ x) ⊎ Contains ys x → (Contains ys x → is_some (find p ys) ≡ true)
        → is_some (cond b (Some y) (find p ys)) ≡ true
    at true is either later = refl
    at false is (inl same) later = absurd (let e : true ≡ false = sym passes ∙ ap p (sym same) ∙ is in cc)
    at false is (inr there) later = later there

pub some_stands : (start : List Record) (pkg : Pkg) → not (is_some (standing_record start pkg.name pkg.version)) ≡ true
    → ¬ StandsAs start pkg.name pkg.version
unfolding StandsAs
some_stands start pkg fails stands = Any-elim (λ (r : Record). (r.name ≡ pkg.name) × (Stands r × SameVersion r.version pkg.version)) start ⊥
    (λ entry there is.
    let passes : is_it pkg entry ≡ true = rw (bytes_eq-same entry.name pkg.name is.0, is.1.0) ((Equal-is (version_cmp entry.version pkg.version)).1 is.1.1) in
    let e : not true ≡ true = subst (λ b. not b ≡ true) (finds (is_it pkg) start entry there passes) fails in absurd (cc)) stands

pub members_are_by_name : MembersAreByName
unfolding IsAcceptable HasOneVersionEach selected
members_are_by_name u start selection change = record {
  by_name = AllPairs-filter (λ (a b : Pkg). name_cmp a.name b.name ≡ Less) (λ (pkg : Pkg). not (is_some (standing_record start pkg.name pkg.version)))
      (selected u selection) by_name;
  each = λ pkg. (
    (λ within. let kept = Contains-filter (λ (p : Pkg). not (is_some (standing_record start p.name p.version))) (selected u selection) pkg within in
        (kept.0, some_stands start pkg kept.1)),
    (λ unpack. Contains-filter_intro (λ (p : Pkg). not (is_some (standing_record start p.name p.version))) (selected u selection) pkg unpack.0
        (none_stands start pkg unpack.1)),
  );
}
  where
    agrees : (pkg other : Pkg) → Contains (selected u selection) pkg → Contains (selected u selection) other → AgreesWith pkg other
    agrees pkg other within there = All-contains (AgreesWith pkg) (selected u selection) other
        (All-contains (λ (m : Pkg). All (AgreesWith m) (selected u selection)) (selected u selection) pkg change.acceptable.one_version within) there

    by_name : AllPairs (λ (a b : Pkg). name_cmp a.name b.name ≡ Less) (selected u selection)
    by_name i j d before within = before_by_name (get_or (selected u selection) i d) (get_or (selected u selection) j d)
        (agrees (get_or (selected u selection) i d) (get_or (selected u selection) j d)
        (Contains-get_or (selected u selection) i d (omega arith)) (Contains-get_or (selected u selection) j d within))
        (members_rise 1 selection u.pairs change.counted.ascending i j d before within)

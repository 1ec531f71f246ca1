-- Steps in the fixed order are the only ones.
use Rattle.std.proofs.Common.{◌≡◌, List, [], ◌∷◌, ◌++◌, map, ◌⊎◌, refl, sym, ap, subst, ◌∙◌}
use Rattle.std.specs.Cmp.{on_total}
use Rattle.std.specs.Cmp.Lexicographic.{nat_list_cmp_total}
use Rattle.std.specs.List.{Any, Contains}
use Rattle.std.specs.Ordering.{on}
use Rattle.std.specs.declared.cmp.Ordering.TheVariants.{Less}
use Rattle.std.proofs.lemmas.List.Elements.{Contains-append_left, Contains-append_right}
use Rattle.rules.specs.Database.{Record}
use Rattle.rules.specs.ElementLaws.{Any-intro}
use Rattle.rules.specs.Name.{IsAscending, name_cmp}
use Rattle.rules.specs.Package.{Pkg}
use Rattle.rules.specs.Run.{after}
use Rattle.rules.specs.Universe.{Universe}
use Rattle.rules.specs.declared.step.Step.{Step}
use Rattle.rules.specs.declared.step.Step.TheVariants as step
use Rattle.rules.proofs.Decided.{dec_Any, dec_Contains, dec_and, dec_not, dec_or}
use Rattle.rules.proofs.Rising.{same_rising}
use Rattle.plain.specs.Laws.{OneFixedOrder}
use Rattle.plain.specs.Order.{AreConfigures, ArePurges, AreRemovals, AreUnpacks, IsLeastGroup, IsLeastName, IsNextConfigure, IsNextRemoval, IsStillInstalled, MayGo, after_all, unpack_of}
use Rattle.plain.proofs.SortedLemmas.{Name, either_below, greatest_of}
use mathlib.Core.Logic.{inl, inr}

-- the packages to be unpacked are one list
same_unpacks : (start : List Record) (members pkgs others : List Pkg) → AreUnpacks start members pkgs → AreUnpacks start members others
    → pkgs ≡ others
same_unpacks start members pkgs others first second = same_rising (on (λ (p : Pkg). p.name) name_cmp)
    (on_total (λ (p : Pkg). p.name) nat_list_cmp_total) pkgs others first.by_name second.by_name
    (λ pkg within. (second.each pkg).1 ((first.each pkg).0 within)) (λ pkg within. (first.each pkg).1 ((second.each pkg).0 within))

-- ascending names of the same elements are one list
same_names : (names others : List Name) → IsAscending names → IsAscending others
    → ((name : Name) → Contains names name → Contains others name) → ((name : Name) → Contains others name → Contains names name)
    → names ≡ others
same_names names others up also to from = same_rising name_cmp nat_list_cmp_total names others up also to from

-- the least name with a property is one
one_least : (P : Name → Type 0) (name other : Name) → IsLeastName P name → IsLeastName P other → name ≡ other
one_least P name other first second = elim (either_below name other) [
  | inl below ↦ absurd (second.least name first.has below)
  | inr (inl same) ↦ same
  | inr (inr above) ↦ absurd (first.least other second.has above)
]

-- the next removal is one
one_removal : (u : Universe) (members : List Pkg) (db : List Record) (taken other : Step) → IsNextRemoval u members db taken
    → IsNextRemoval u members db other → taken ≡ other
one_removal u members db (step.Unpack name version) other first second = absurd first
one_removal u members db (step.Configure names) other first second = absurd first
one_removal u members db (step.Purge name) other first second = absurd first
one_removal u members db (step.Deconfigure name) (step.Unpack another version) first second = absurd second
one_removal u members db (step.Deconfigure name) (step.Configure names) first second = absurd second
one_removal u members db (step.Deconfigure name) (step.Purge another) first second = absurd second
one_removal u members db (step.Deconfigure name) (step.Remove another) first second = absurd (first.0 another second.has)
one_removal u members db (step.Deconfigure name) (step.Deconfigure another) first second =
    ap step.Deconfigure (one_least (IsStillInstalled members db) name another first.1 second.1)
one_removal u members db (step.Remove name) (step.Unpack another version) first second = absurd second
one_removal u members db (step.Remove name) (step.Configure names) first second = absurd second
one_removal u members db (step.Remove name) (step.Purge another) first second = absurd second
one_removal u members db (step.Remove name) (step.Deconfigure another) first second = absurd (second.0 name first.has)
one_removal u members db (step.Remove name) (step.Remove another) first second =
    ap step.Remove (one_least (MayGo u members db) name another first second)

-- where there is a next removal, something is to be removed
not_done : (u : Universe) (members : List Pkg) (db : List Record) (taken : Step) (rest : List Step) → IsNextRemoval u members db taken
    → ¬ AreRemovals u members db []
not_done u members db (step.Unpack name version) rest next none = next
not_done u members db (step.Configure names) rest next none = next
not_done u members db (step.Purge name) rest next none = next
not_done u members db (step.Deconfigure name) rest next none = none name next.1.has.0
not_done u members db (step.Remove name) rest next none = none name next.has.0

same_removals : (u : Universe) (members : List Pkg) (steps others : List Step) (db : List Record) → AreRemovals u members db steps
    → AreRemovals u members db others → steps ≡ others
same_removals u members [] [] db first second = refl
same_removals u members [] (other ∷ others) db first second = absurd (not_done u members db other others second.0 first)
same_removals u members (taken ∷ rest) [] db first second = absurd (not_done u members db taken rest first.0 second)
same_removals u members (taken ∷ rest) (other ∷ others) db first second =
    let same : taken ≡ other = one_removal u members db taken other first.0 second.0 in
    let behind : rest ≡ others = same_removals u members rest others (after u db taken) first.1
    (subst (λ s. AreRemovals u members (after u db s) others) (sym same) second.1) in cc

-- the name is in one of the two groups alone
abbrev Differs : List Name → List Name → Name → Type 0
Differs names others name = (Contains names name × ¬ Contains others name) ⊎ (Contains others name × ¬ Contains names name)

dec_Differs : (names others : List Name) (name : Name) → Dec (Differs names others name)
dec_Differs names others name = dec_or (dec_and (dec_Contains names name) (dec_not (dec_Contains others name)))
    (dec_and (dec_Contains others name) (dec_not (dec_Contains names name)))

-- a name of the one that doesn't differ is in the other
in_other : (names others : List Name) (name : Name) → ¬ Differs names others name → Contains names name → Dec (Contains others name)
    → Contains others name
in_other names others name agrees within (yes there) = there
in_other names others name agrees within (no without) = absurd (agrees (inl (within, without)))

differs_too : (names others : List Name) (name : Name) → Differs others names name → Differs names others name
differs_too names others name (inl here) = inr here
differs_too names others name (inr there) = inl there

-- above the greatest name that differs each is in both or neither
agree_above : (names others : List Name) (name : Name)
    → ((other : Name) → Contains (names ++ others) other → Differs names others other → ¬ (name_cmp name other ≡ Less))
    → (higher : Name) → name_cmp name higher ≡ Less → Contains names higher → Contains others higher
agree_above names others name greatest higher above within = in_other names others higher
    (λ differs. greatest higher (Contains-append_left names others higher within) differs above) within (dec_Contains others higher)

agree_above_too : (names others : List Name) (name : Name)
    → ((other : Name) → Contains (names ++ others) other → Differs names others other → ¬ (name_cmp name other ≡ Less))
    → (higher : Name) → name_cmp name higher ≡ Less → Contains others higher → Contains names higher
agree_above_too names others name greatest higher above within = in_other others names higher
    (λ differs. greatest higher (Contains-append_right names others higher within) (differs_too names others higher differs) above) within
    (dec_Contains names higher)

-- the least group is one
one_group : (u : Universe) (db : List Record) (names others : List Name) → IsLeastGroup u db names → IsLeastGroup u db others → names ≡ others
one_group u db names others first second = at (dec_Any (Differs names others) (dec_Differs names others) (names ++ others))
  where
    agrees : ¬ Any (Differs names others) (names ++ others) → (name : Name) → Contains (names ++ others) name → ¬ Differs names others name
    agrees none name within differs = none (Any-intro (Differs names others) (names ++ others) name within differs)

    lesser : (name : Name) → Differs names others name
        → ((other : Name) → Contains (names ++ others) other → Differs names others other → ¬ (name_cmp name other ≡ Less)) → ⊥
    lesser name (inl here) greatest = first.least others second.group (record {
      name = name;
      within = here.0;
      without = here.1;
      above = λ higher above. (agree_above_too names others name greatest higher above, agree_above names others name greatest higher above);
    })
    lesser name (inr there) greatest = second.least names first.group (record {
      name = name;
      within = there.0;
      without = there.1;
      above = λ higher above. (agree_above names others name greatest higher above, agree_above_too names others name greatest higher above);
    })

    at : Dec (Any (Differs names others) (names ++ others)) → names ≡ others
    at (yes some) =
        let greatest = greatest_of (Differs names others) (dec_Differs names others) (names ++ others) some in
        absurd (lesser greatest.0 greatest.1 greatest.2)
    at (no none) = same_names names others first.ascending second.ascending
        (λ name within. in_other names others name (agrees none name (Contains-append_left names others name within)) within (dec_Contains others name))
        (λ name within. in_other others names name (λ differs. agrees none name (Contains-append_right names others name within)
        (differs_too names others name differs)) within (dec_Contains names name))

-- the next configure is one
one_configure : (u : Universe) (db : List Record) (taken other : Step) → IsNextConfigure u db taken → IsNextConfigure u db other → taken ≡ other
one_configure u db (step.Unpack name version) other first second = absurd first
one_configure u db (step.Deconfigure name) other first second = absurd first
one_configure u db (step.Remove name) other first second = absurd first
one_configure u db (step.Purge name) other first second = absurd first
one_configure u db (step.Configure names) (step.Unpack name version) first second = absurd second
one_configure u db (step.Configure names) (step.Deconfigure name) first second = absurd second
one_configure u db (step.Configure names) (step.Remove name) first second = absurd second
one_configure u db (step.Configure names) (step.Purge name) first second = absurd second
one_configure u db (step.Configure names) (step.Configure others) first second = ap step.Configure (one_group u db names others first second)

-- where there is a next configure, some group may be configured
not_stuck : (u : Universe) (db : List Record) (taken : Step) → IsNextConfigure u db taken → ¬ AreConfigures u db []
not_stuck u db (step.Unpack name version) next none = next
not_stuck u db (step.Deconfigure name) next none = next
not_stuck u db (step.Remove name) next none = next
not_stuck u db (step.Purge name) next none = next
not_stuck u db (step.Configure names) next none = none names next.group

same_configures : (u : Universe) (steps others : List Step) (db : List Record) → AreConfigures u db steps → AreConfigures u db others
    → steps ≡ others
same_configures u [] [] db first second = refl
same_configures u [] (other ∷ others) db first second = absurd (not_stuck u db other second.0 first)
same_configures u (taken ∷ rest) [] db first second = absurd (not_stuck u db taken first.0 second)
same_configures u (taken ∷ rest) (other ∷ others) db first second =
    let same : taken ≡ other = one_configure u db taken other first.0 second.0 in
    let behind : rest ≡ others = same_configures u rest others (after u db taken) first.1
    (subst (λ s. AreConfigures u (after u db s) others) (sym same) second.1) in cc

-- the names to be purged are one list
same_purges : (u : Universe) (db : List Record) (names others : List Name) → ArePurges u db names → ArePurges u db others → names ≡ others
same_purges u db names others first second = same_names names others first.by_name second.by_name
    (λ name within. (second.each name).1 ((first.each name).0 within)) (λ name within. (first.each name).1 ((second.each name).0 within))

pub one_fixed_order : OneFixedOrder
one_fixed_order u start members steps other a b =
    let unpacks : a.unpacks ≡ b.unpacks = same_unpacks start members a.unpacks b.unpacks a.unpacks_are b.unpacks_are in
    let unpacked : a.all_unpacked ≡ b.all_unpacked =
    a.all_unpacked_is ∙ ap (λ (ps : List Pkg). after_all u start (map unpack_of ps)) unpacks ∙ sym b.all_unpacked_is in
    let removals : a.removals ≡ b.removals = same_removals u members a.removals b.removals b.all_unpacked
    (subst (λ db. AreRemovals u members db a.removals) unpacked a.removals_are) b.removals_are in
    let removed : a.all_removed ≡ b.all_removed = a.all_removed_is ∙ ap (λ (db : List Record). after_all u db a.removals) unpacked
    ∙ ap (λ (ss : List Step). after_all u b.all_unpacked ss) removals ∙ sym b.all_removed_is in
    let configures : a.configures ≡ b.configures = same_configures u a.configures b.configures b.all_removed
    (subst (λ db. AreConfigures u db a.configures) removed a.configures_are) b.configures_are in
    let configured : a.all_configured ≡ b.all_configured = a.all_configured_is ∙ ap (λ (db : List Record). after_all u db a.configures) removed
    ∙ ap (λ (ss : List Step). after_all u b.all_removed ss) configures ∙ sym b.all_configured_is in
    let purges : a.purges ≡ b.purges = same_purges u b.all_configured a.purges b.purges
    (subst (λ db. ArePurges u db a.purges) configured a.purges_are) b.purges_are in
    a.parts ∙ ap (λ (ps : List Pkg). map unpack_of ps ++ (a.removals ++ (a.configures ++ map step.Purge a.purges))) unpacks
    ∙ ap (λ (ss : List Step). map unpack_of b.unpacks ++ (ss ++ (a.configures ++ map step.Purge a.purges))) removals
    ∙ ap (λ (ss : List Step). map unpack_of b.unpacks ++ (b.removals ++ (ss ++ map step.Purge a.purges))) configures
    ∙ ap (λ (ns : List Name). map unpack_of b.unpacks ++ (b.removals ++ (b.configures ++ map step.Purge ns))) purges ∙ sym b.parts

-- Names of which each is before the next are ascending, since the order of names is transitive; and ascending names are
-- so.
use Rattle.std.proofs.Common.{◌≡◌, ℕ, Bool, true, false, ◌&&◌, List, [], ◌∷◌, ◌<◌, length, suc, refl, ap, arith}
use Rattle.std.proofs.lemmas.Cmp.{nat_list_cmp_total}
use Rattle.std.proofs.lemmas.List.Elements.{All-cons, All-nil}
use Rattle.std.proofs.lemmas.List.Kept.{AllPairs-cons}
use Rattle.std.proofs.lemmas.Bool.{and_parts, ne_eqb}
use Rattle.std.specs.List.{All, list_all}
use Rattle.std.specs.Ordering.{is_lt}
use Rattle.std.specs.Prelude.{IsTrue, slice_index_or}
use Rattle.std.proofs.lemmas.Grind.{common_steps}
use Rattle.std.specs.declared.cmp.Ordering.{Ordering}
use Rattle.std.specs.declared.cmp.Ordering.TheVariants.{Less, Equal, Greater}
use Rattle.rules.specs.Name.{IsAscending, is_name, name_cmp}
use Rattle.plantext.specs.Group.{are_ascending_names, is_before_first, is_group}

less : (ordering : Ordering) → is_lt ordering ≡ true → ordering ≡ Less
less Less h = refl
less Equal h = cc
less Greater h = cc

first_of : (a b : Bool) → a && b ≡ true → a ≡ true
first_of true b h = refl
first_of false b h = cc

second_of : (a b : Bool) → a && b ≡ true → b ≡ true
second_of true b h = h
second_of false b h = cc

-- the parts of what is tested of a first word
pub ascending_rest : (word : List ℕ) (later : List (List ℕ)) → are_ascending_names (word ∷ later) ≡ true → are_ascending_names later ≡ true
ascending_rest word later h = second_of (is_name word && is_before_first word later) (are_ascending_names later) h

pub ascending_name : (word : List ℕ) (later : List (List ℕ)) → are_ascending_names (word ∷ later) ≡ true → is_name word ≡ true
ascending_name word later h = first_of (is_name word) (is_before_first word later) (first_of (is_name word && is_before_first word later) (are_ascending_names later) h)

ascending_first : (word : List ℕ) (later : List (List ℕ)) → are_ascending_names (word ∷ later) ≡ true → is_before_first word later ≡ true
ascending_first word later h = second_of (is_name word) (is_before_first word later) (first_of (is_name word && is_before_first word later) (are_ascending_names later) h)

-- a word before the first of them is before all of them
before_all : (word : List ℕ) (later : List (List ℕ)) → is_before_first word later ≡ true → are_ascending_names later ≡ true
    → All (λ next. name_cmp word next ≡ Less) later
before_all word [] first h = All-nil (λ next. name_cmp word next ≡ Less)
before_all word (next ∷ later) first h =
    let here : name_cmp word next ≡ Less = less (name_cmp word next) first in
    let behind = before_all next later (ascending_first next later h) (ascending_rest next later h) in
    All-cons (λ other. name_cmp word other ≡ Less) next later here
    (λ k d within. nat_list_cmp_total.trans word next (slice_index_or later k d) here (behind k d within))

empty_ascending : IsAscending []
empty_ascending i j d before within = absurd (omega arith)

-- names of which each is before the next are ascending
pub ascending : (words : List (List ℕ)) → are_ascending_names words ≡ true → IsAscending words
ascending [] h = empty_ascending
ascending (word ∷ later) h =
    AllPairs-cons (λ earlier next. name_cmp earlier next ≡ Less) word later
    (before_all word later (ascending_first word later h) (ascending_rest word later h))
    (ascending later (ascending_rest word later h))

-- a group is ascending
pub group_ascending : (words : List (List ℕ)) → IsTrue (is_group words) → IsAscending words
group_ascending [] h = empty_ascending
group_ascending (word ∷ later) h = ascending (word ∷ later) (grind (arith, common_steps))

-- Names that ascend are a group, if there is one

ascending_later : (word : List ℕ) (later : List (List ℕ)) → IsAscending (word ∷ later) → IsAscending later
ascending_later word later h i j d before within = h (suc i) (suc j) d (omega arith) (omega arith)

first_before : (word : List ℕ) (later : List (List ℕ)) → IsAscending (word ∷ later) → is_before_first word later ≡ true
first_before word [] h = refl
first_before word (next ∷ later) h = ap is_lt (h 0 1 word (omega arith) (omega arith))

names_ascend : (words : List (List ℕ)) → IsAscending words → list_all is_name words ≡ true → are_ascending_names words ≡ true
names_ascend [] ascends names = refl
names_ascend (word ∷ later) ascends names =
    let both = and_parts (is_name word) (list_all is_name later) names in
    rw (both.0, first_before word later ascends) (names_ascend later (ascending_later word later ascends) both.1)

pub ascending_group : (words : List (List ℕ)) → IsAscending words → 0 < length words → list_all is_name words ≡ true → is_group words ≡ true
ascending_group [] ascends some names = absurd (omega arith)
ascending_group (word ∷ later) ascends some names =
    rw (ne_eqb (length (word ∷ later)) 0 (λ e. omega arith)) (names_ascend (word ∷ later) ascends names)

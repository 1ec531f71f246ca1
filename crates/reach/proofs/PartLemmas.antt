-- The numbers of what is reached are those of a closed part.
use Rattle.std.proofs.Common.{◌≡◌, ℕ, zero, suc, ◌+◌, ◌-◌, ◌<◌, ◌≤◌, ◌++◌, Bool, true, List, [], ◌∷◌, Bor, length, get_or, map, take, Some, None, refl, sym, ap, subst, ◌∙◌, arith}
use Rattle.std.specs.Prelude.{slice_get}
use Rattle.std.specs.List.{All, AllPairs, AllZip, Contains}
use Rattle.std.specs.List.Sorted.{IsStrictlySortedBy}
use Rattle.std.specs.declared.cmp.Ordering.TheVariants.{Less}
use Rattle.std.proofs.Math.Seq.{take-length, take-suc}
use Rattle.std.proofs.lemmas.Option.{get_or_from_slice_get, slice_get-map, slice_get_within}
use Rattle.std.proofs.lemmas.List.{map-append}
use Rattle.std.proofs.lemmas.Map.Keys.{Less-from_sorted, sorted_from_all_adjacent}
use Rattle.refutation.specs.Clause.{item_at}
use Rattle.rules.specs.Minimal.{IsWanted, Needs, pkg_at}
use Rattle.rules.specs.Package.{Pkg}
use Rattle.rules.specs.Universe.{Pair, Universe, pair_cmp}
use Rattle.rules.specs.UniverseLaws.{pair_cmp_total}
use Rattle.closed_part.specs.Part.{IsClosedPart, IsPart}
use Rattle.reach.specs.Marks.{numbers_from}
use Rattle.reach.specs.Reached.{HasReached}
use Rattle.reach.proofs.NumberLemmas.{listed_is_marked, marked_is_listed, numbers_ascend, numbers_within}
use Rattle.reach.proofs.ListLemmas.{item_there, place_of_item, zip_at, zip_push}

-- the numbers of what is reached are closed
pub closed_part : (u : Universe) (marks : List Bool) → HasReached u marks → IsClosedPart u (numbers_from 1 marks)
closed_part u marks reached = record { wanted = wanted_in; needed = needed_in }
  where
    at_place : (place : ℕ) (pkg : Pkg) → pkg_at u (suc place) ≡ Some pkg → slice_get (map (λ (pair : Pair). pair.pkg) u.pairs) place ≡ Some pkg
    at_place place pkg at = slice_get-map (λ (pair : Pair). pair.pkg) u.pairs place ∙ at

    wanted_in : (number : ℕ) (pkg : Pkg) → pkg_at u number ≡ Some pkg → IsWanted u pkg → Contains (numbers_from 1 marks) number
    wanted_in zero pkg at is = absurd (let e : None ≡ Some pkg = at in cc)
    wanted_in (suc place) pkg at is = marked_is_listed 1 marks place (suc place) (omega arith)
        (reached.wanted.each place pkg (at_place place pkg at) is)

    needed_in : (number other : ℕ) (pkg needed : Pkg) → pkg_at u number ≡ Some pkg → pkg_at u other ≡ Some needed
        → Contains (numbers_from 1 marks) number → Needs pkg needed → Contains (numbers_from 1 marks) other
    needed_in zero other pkg needed at there within needs = absurd (let e : None ≡ Some pkg = at in cc)
    needed_in (suc place) zero pkg needed at there within needs = absurd (let e : None ≡ Some needed = there in cc)
    needed_in (suc place) (suc other) pkg needed at there within needs = marked_is_listed 1 marks other (suc other) (omega arith)
        (((reached.needed place (listed_is_marked marks place within)).each pkg (at_place place pkg at)).each other needed
        (at_place other needed there) needs)

-- the pair of a number that is within
pub pair_there : (all pairs : List Pair) (number : ℕ) (pair : Pair) → all ≡ pairs → 1 ≤ number → number ≤ length pairs
    → pair ≡ get_or all (number - 1) pair → item_at pairs number ≡ Some pair
pair_there all pairs number pair same first within is = item_there pairs number pair first within
    ∙ ap (λ (ps : List Pair). Some (get_or ps (number - 1) pair)) (sym same) ∙ ap (λ (p : Pair). Some p) (sym is)

-- one more pair is lent
pub lent_more : (lent more : List (Bor Pair)) (pair : Bor Pair) → more ≡ lent ++ pair ∷ []
    → map (λ (p : Bor Pair). p.now) more ≡ map (λ (p : Bor Pair). p.now) lent ++ pair.now ∷ []
lent_more lent more pair grown = ap (map (λ (p : Bor Pair). p.now)) grown ∙ map-append (λ (p : Bor Pair). p.now) lent (pair ∷ [])

-- one more pair of the numbers
pub numbered_more : (all : List Pair) (numbers : List ℕ) (index : ℕ) (so_far more : List Pair) (pair : Pair)
    → index < length numbers → item_at all (get_or numbers index 0) ≡ Some pair → more ≡ so_far ++ pair ∷ []
    → AllZip (λ n p. item_at all n ≡ Some p) (take index numbers) so_far
    → AllZip (λ n p. item_at all n ≡ Some p) (take (index + 1) numbers) more
numbered_more all numbers index so_far more pair within at grown zip =
    let left : take (index + 1) numbers ≡ take index numbers ++ get_or numbers index 0 ∷ [] =
    ap (λ (n : ℕ). take n numbers) (let e : index + 1 ≡ suc index = omega arith in e) ∙ take-suc numbers index 0 within in
    subst (λ (ns : List ℕ). AllZip (λ n p. item_at all n ≡ Some p) ns more) (sym left)
    (subst (λ (ps : List Pair). AllZip (λ n p. item_at all n ≡ Some p) (take index numbers ++ get_or numbers index 0 ∷ []) ps) (sym grown)
    (zip_push (λ (n : ℕ) (p : Pair). item_at all n ≡ Some p) (take index numbers) so_far (get_or numbers index 0) pair zip at))

-- the pairs of all numbers
pub numbered_all : (all : List Pair) (numbers : List ℕ) (index : ℕ) (pairs : List Pair) → length numbers ≤ index → index ≤ length numbers
    → AllZip (λ n p. item_at all n ≡ Some p) (take index numbers) pairs → AllZip (λ n p. item_at all n ≡ Some p) numbers pairs
numbered_all all numbers index pairs past within zip =
    let same : index ≡ length numbers = omega (arith, past, within) in
    subst (λ (ns : List ℕ). AllZip (λ n p. item_at all n ≡ Some p) ns pairs) (ap (λ (n : ℕ). take n numbers) same ∙ take-length numbers) zip

-- the pairs of a lesser and of a greater number
rising : (all pairs : List Pair) (numbers : List ℕ) → AllPairs (λ earlier later. earlier < later) numbers
    → AllZip (λ number pair. item_at all number ≡ Some pair) numbers pairs → IsStrictlySortedBy pair_cmp all
    → (i j : ℕ) (d : Pair) → i < j → j < length pairs → pair_cmp (get_or pairs i d) (get_or pairs j d) ≡ Less
rising all pairs numbers ascend zip sorted i j d earlier within =
    let Is : ℕ → Pair → Type 0 = λ number pair. item_at all number ≡ Some pair in
    let low = zip_at Is numbers pairs i d zip (omega (arith, earlier, within)) in
    let high = zip_at Is numbers pairs j d zip within in
    let less : get_or numbers i 0 < get_or numbers j 0 = ascend i j 0 earlier high.0 in
    let one = place_of_item all (get_or numbers i 0) (get_or pairs i d) low.1 in
    let two = place_of_item all (get_or numbers j 0) (get_or pairs j d) high.1 in
    let order : pair_cmp (get_or all one.0 d) (get_or all two.0 d) ≡ Less =
    Less-from_sorted pair_cmp all one.0 two.0 d sorted (omega (arith, one.1, two.1, less)) two.2 in
    subst (λ (p : Pair). pair_cmp (get_or pairs i d) p ≡ Less) (two.3 d)
    (subst (λ (p : Pair). pair_cmp p (get_or all two.0 d) ≡ Less) (one.3 d) order)

none_ascend : IsStrictlySortedBy pair_cmp []
unfolding IsStrictlySortedBy
none_ascend = tt

-- pairs of ascending numbers ascend
pub part_ascends : (all pairs : List Pair) (numbers : List ℕ) → AllPairs (λ earlier later. earlier < later) numbers
    → AllZip (λ number pair. item_at all number ≡ Some pair) numbers pairs → IsStrictlySortedBy pair_cmp all
    → IsStrictlySortedBy pair_cmp pairs
part_ascends all [] numbers ascend zip sorted = none_ascend
part_ascends all (pair ∷ pairs) numbers ascend zip sorted = sorted_from_all_adjacent pair_cmp_total (pair ∷ pairs) pair
    (λ k within. rising all (pair ∷ pairs) numbers ascend zip sorted k (k + 1) pair (omega arith) within)

-- the numbers, lent, ascend
pub slice_ascends : (marks : List Bool) (numbers slice : List ℕ) → numbers ≡ numbers_from 1 marks → slice ≡ numbers
    → AllPairs (λ earlier later. earlier < later) slice
slice_ascends marks numbers slice are same =
    subst (AllPairs (λ (earlier : ℕ) (later : ℕ). earlier < later)) (sym (same ∙ are)) (numbers_ascend 1 marks)

-- the numbers, lent, are those of pairs
pub slice_within : (marks : List Bool) (numbers slice : List ℕ) (count : ℕ) → numbers ≡ numbers_from 1 marks → slice ≡ numbers
    → length marks ≡ count → All (λ number. (1 ≤ number) × (number ≤ count)) slice
slice_within marks numbers slice count are same long =
    subst (λ (n : ℕ). All (λ number. (1 ≤ number) × (number ≤ n)) slice) long
    (subst (All (λ (number : ℕ). (1 ≤ number) × (number ≤ length marks))) (sym (same ∙ are)) (numbers_within marks))

-- the pairs of the numbers are a part
pub part_of : (u part : Universe) (marks : List Bool) (numbers slice : List ℕ) (pairs : List Pair) → numbers ≡ numbers_from 1 marks
    → slice ≡ numbers → AllZip (λ number pair. item_at u.pairs number ≡ Some pair) slice pairs
    → part ≡ record { pairs = pairs; goals = u.goals; starts = u.starts; candidates = u.candidates } → IsPart u numbers part
part_of u part marks numbers slice pairs are same zip made = record {
  ascending = slice_ascends marks numbers numbers are refl;
  pairs = subst (AllZip (λ number pair. item_at u.pairs number ≡ Some pair) numbers) (sym (ap (λ (v : Universe). v.pairs) made))
      (subst (λ (ns : List ℕ). AllZip (λ number pair. item_at u.pairs number ≡ Some pair) ns pairs) same zip);
  goals = ap (λ (v : Universe). v.goals) made;
  starts = ap (λ (v : Universe). v.starts) made;
  candidates = ap (λ (v : Universe). v.candidates) made;
}

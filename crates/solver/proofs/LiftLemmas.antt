-- What a part needs so that a selection of it can be settled, and the settled one as a selection of the universe.
use Rattle.std.proofs.Common.{◌≡◌, ℕ, zero, suc, ◌+◌, ◌-◌, ◌<◌, ◌≤◌, ◌++◌, List, [], ◌∷◌, Some, length, get_or, take, refl, sym, ap, subst, ◌∙◌, arith}
use Rattle.std.specs.Prelude.{slice_get}
use Rattle.std.proofs.Math.Seq.{take-length, take-suc}
use Rattle.std.specs.List.{All, AllPairs, AllZip}
use Rattle.std.proofs.lemmas.List.Elements.{All-cons, All-head, All-nil, All-tail}
use Rattle.std.proofs.lemmas.List.Kept.{AllPairs-cons}
use Rattle.rules.proofs.Rising.{pairs_head, pairs_tail}
use Rattle.refutation.specs.Clause.{item_at}
use Rattle.rules.specs.Universe.{Start, Universe}
use Rattle.encode.specs.Encoding.{Encoding, IsEncoding}
use Rattle.closed_part.specs.Part.{IsPart, StandingWerePresent}
use Rattle.search.specs.Found.{IsSelection}
use Rattle.search_settle.specs.Encoded.{StandingArePresent}

-- what stands was present, as the laws of parts have it
pub standing_were : (u : Universe) → StandingArePresent u → StandingWerePresent u
unfolding StandingArePresent
standing_were u are = are

-- what stands was present, of the part
pub standing_in_part : (u part : Universe) (numbers : List ℕ) → IsPart u numbers part → StandingArePresent u → StandingArePresent part
unfolding StandingArePresent
standing_in_part u part numbers is are =
    subst (λ (starts : List Start). StandingWerePresent (record { pairs = u.pairs; goals = u.goals; starts = starts; candidates = u.candidates })) (sym is.starts) are

-- lists that go together are as long
zip_length : {X Y : Type 0} (R : X → Y → Type 0) (xs : List X) (ys : List Y) → AllZip R xs ys → length xs ≡ length ys
zip_length R [] [] all = refl
zip_length R [] (y ∷ ys) all = absurd all
zip_length R (x ∷ xs) [] all = absurd all
zip_length R (x ∷ xs) (y ∷ ys) all = ap (λ (n : ℕ). suc n) (zip_length R xs ys all.1)

-- a selection of the part has numbers of its pairs
pub within_part : (u part : Universe) (numbers slice : List ℕ) (encoding : Encoding) (chosen list : List ℕ) → IsPart u numbers part
    → IsEncoding part encoding → IsSelection encoding.clauses.numbers chosen → slice ≡ numbers → list ≡ chosen
    → All (λ number. (1 ≤ number) × (number ≤ length slice)) list
within_part u part numbers slice encoding chosen list is of selection same equal = λ k d within.
    let (first, last) = (subst (IsSelection encoding.clauses.numbers) (sym equal) selection).1 k d within in (
      first,
      omega (
        arith,
        last,
        of.numbers,
        ap length same,
        zip_length (λ number pair. item_at u.pairs number ≡ Some pair) numbers part.pairs is.pairs,
      ),
    )

-- the lists that were lifted are that of the numbers of the part and that of what was chosen
pub lifted_lists : (numbers slice chosen list lifted : List ℕ) → slice ≡ numbers → list ≡ chosen
    → AllZip (λ place number. item_at slice place ≡ Some number) list lifted
    → AllZip (λ place number. item_at numbers place ≡ Some number) chosen lifted
lifted_lists numbers slice chosen list lifted same equal all =
    subst (λ (ns : List ℕ). AllZip (λ place number. item_at ns place ≡ Some number) chosen lifted) same
    (subst (λ (ns : List ℕ). AllZip (λ place number. item_at slice place ≡ Some number) ns lifted) equal all)

-- one more on both sides
zip_push : {X Y : Type 0} (R : X → Y → Type 0) (xs : List X) (ys : List Y) (x : X) (y : Y) → AllZip R xs ys → R x y
    → AllZip R (xs ++ x ∷ []) (ys ++ y ∷ [])
zip_push R [] [] x y all here = (here, tt)
zip_push R [] (z ∷ ys) x y all here = absurd all
zip_push R (w ∷ xs) [] x y all here = absurd all
zip_push R (w ∷ xs) (z ∷ ys) x y all here = (all.0, zip_push R xs ys x y all.1 here)

-- the item of a number that is within
item_there : (items : List ℕ) (number : ℕ) → 1 ≤ number → number ≤ length items → item_at items number ≡ Some (get_or items (number - 1) 0)
item_there items zero first within = absurd (omega arith)
item_there items (suc place) first within =
    let same : place ≡ suc place - 1 = omega arith in
    some_at items place (omega arith) ∙ ap (λ (p : ℕ). Some (get_or items p 0)) same
  where
    some_at : (xs : List ℕ) (k : ℕ) → k < length xs → slice_get xs k ≡ Some (get_or xs k 0)
    some_at [] k below = absurd (omega arith)
    some_at (x ∷ xs) zero below = refl
    some_at (x ∷ xs) (suc k) below = some_at xs k (omega arith)

-- one more number is lifted
pub lifted_more : (numbers chosen : List ℕ) (index : ℕ) (so_far more : List ℕ) → index < length chosen
    → 1 ≤ get_or chosen index 0 → get_or chosen index 0 ≤ length numbers
    → more ≡ so_far ++ get_or numbers (get_or chosen index 0 - 1) 0 ∷ []
    → AllZip (λ place number. item_at numbers place ≡ Some number) (take index chosen) so_far
    → AllZip (λ place number. item_at numbers place ≡ Some number) (take (index + 1) chosen) more
lifted_more numbers chosen index so_far more within first last grown zip =
    let one = get_or chosen index 0 in
    let left : take (index + 1) chosen ≡ take index chosen ++ one ∷ [] =
    ap (λ (n : ℕ). take n chosen) (let e : index + 1 ≡ suc index = omega arith in e) ∙ take-suc chosen index 0 within in
    subst (λ (ns : List ℕ). AllZip (λ place number. item_at numbers place ≡ Some number) ns more) (sym left)
    (subst (λ (ns : List ℕ). AllZip (λ place number. item_at numbers place ≡ Some number) (take index chosen ++ one ∷ []) ns) (sym grown)
    (zip_push (λ (place : ℕ) (number : ℕ). item_at numbers place ≡ Some number) (take index chosen) so_far one
    (get_or numbers (one - 1) 0) zip (item_there numbers one first last)))

-- all numbers are lifted
pub lifted_all : (numbers chosen : List ℕ) (index : ℕ) (lifted : List ℕ) → length chosen ≤ index → index ≤ length chosen
    → AllZip (λ place number. item_at numbers place ≡ Some number) (take index chosen) lifted
    → AllZip (λ place number. item_at numbers place ≡ Some number) chosen lifted
lifted_all numbers chosen index lifted past within zip =
    let same : index ≡ length chosen = omega (arith, past, within) in
    subst (λ (ns : List ℕ). AllZip (λ place number. item_at numbers place ≡ Some number) ns lifted)
    (ap (λ (n : ℕ). take n chosen) same ∙ take-length chosen) zip

-- the place of an item is within the list
place_within : (items : List ℕ) (number item : ℕ) → item_at items number ≡ Some item
    → (below : ℕ) × (number ≡ suc below) × (below < length items) × (get_or items below 0 ≡ item)
place_within items zero item is = absurd (let e = is in cc)
place_within items (suc below) item is = let (within, same) = get_there items below is in (below, refl, within, same)
  where
    get_there : (xs : List ℕ) (k : ℕ) → slice_get xs k ≡ Some item → (k < length xs) × (get_or xs k 0 ≡ item)
    get_there [] k is = absurd (let e = is in cc)
    get_there (x ∷ xs) zero is = (omega arith, (let e : Some x ≡ Some item = is in cc))
    get_there (x ∷ xs) (suc k) is = let (within, same) = get_there xs k is in (omega arith, same)

-- of ascending numbers the later one is greater
lifted_one : (numbers : List ℕ) (place later number other : ℕ) → AllPairs (λ earlier later. earlier < later) numbers
    → place < later → item_at numbers place ≡ Some number → item_at numbers later ≡ Some other → number < other
lifted_one numbers place later number other ascending before one two =
    let (low, low_is, low_in, low_get) = place_within numbers place number one in
    let (high, high_is, high_in, high_get) = place_within numbers later other two in
    let below : low < high = omega (arith, before, low_is, high_is) in
    let less : get_or numbers low 0 < get_or numbers high 0 = ascending low high 0 below high_in in
    omega (arith, less, low_get, high_get)

-- ascending places of ascending numbers have ascending numbers
pub lifted_ascend : (numbers chosen lifted : List ℕ) → AllPairs (λ earlier later. earlier < later) numbers
    → AllPairs (λ earlier later. earlier < later) chosen → AllZip (λ place number. item_at numbers place ≡ Some number) chosen lifted
    → AllPairs (λ earlier later. earlier < later) lifted
lifted_ascend numbers [] [] ascending apart all = λ i j d before within. absurd (omega arith)
lifted_ascend numbers [] (number ∷ lifted) ascending apart all = absurd all
lifted_ascend numbers (place ∷ chosen) [] ascending apart all = absurd all
lifted_ascend numbers (place ∷ chosen) (number ∷ lifted) ascending apart all =
    AllPairs-cons (λ (earlier later : ℕ). earlier < later) number lifted
    (later_ones chosen lifted (pairs_head (λ (earlier later : ℕ). earlier < later) place chosen apart) all.1)
    (lifted_ascend numbers chosen lifted ascending (pairs_tail (λ (earlier later : ℕ). earlier < later) place chosen apart) all.1)
  where
    later_ones : (places others : List ℕ) → All (λ later. place < later) places
        → AllZip (λ one other. item_at numbers one ≡ Some other) places others → All (λ other. number < other) others
    later_ones [] [] above zip = All-nil (λ (other : ℕ). number < other)
    later_ones [] (other ∷ others) above zip = absurd zip
    later_ones (later ∷ places) [] above zip = absurd zip
    later_ones (later ∷ places) (other ∷ others) above zip = All-cons (λ (o : ℕ). number < o) other others
        (lifted_one numbers place later number other ascending (All-head (λ (l : ℕ). place < l) later places above) all.0 zip.0)
        (later_ones places others (All-tail (λ (l : ℕ). place < l) later places above) zip.1)

-- Which stanzas of an index the pairs have, and what is there of a pair once bytes were put at the places of pairs.
use Rattle.std.proofs.Common.{◌≡◌, ◌≢◌, ◌⊎◌, inl, inr, ⊎_elim, ℕ, zero, suc, ◌+◌, ◌<◌, List, [], ◌∷◌, ◌++◌, Bor, get_or, length, map, set, Some, refl, sym, ap, ◌∙◌, subst, arith}
use Rattle.std.specs.Prelude.{⊤}
use Rattle.std.specs.List.{All, AllZip, Any, Contains, slice_get}
use Rattle.std.specs.List.Sorted.{IsNonDecreasingBy, IsPermutation}
use Rattle.std.proofs.lemmas.Bool.{cases_eq}
use Rattle.std.proofs.lemmas.List.{get_or-map, length-map, length-set}
use Rattle.std.proofs.lemmas.List.Elements.{All-cons, All-contains, All-head, All-nil, All-push, All-tail, All-weaker}
use Rattle.std.proofs.lemmas.List.Quantifiers.{Any-push}
use Rattle.std.proofs.lemmas.List.Sorted.{All-permutation, Contains-permutation}
use Rattle.std.proofs.lemmas.Option.{slice_get_within}
use Rattle.rules.specs.ElementLaws.{Any-append_left, Any-append_right, Any-contains, Any-intro, Contains-head, Contains-map, Contains-rest}
use Rattle.rules.specs.Step.{IndexPackage}
use Rattle.unpack_texts.specs.Fetched.{IsChanged, IsGone, Items}
use Rattle.unpack_texts.specs.Stanzas.{AreWanted, HasGone, IsAfter, IsAt, IsOfIndex, IsWanted, PairStanza, WantedStanza, filled}

before_or_here : (place i : ℕ) → place < i + 1 → (place < i) ⊎ (i ≡ place)
before_or_here place i less = ⊎_elim (λ here. inr here) (λ other. inl (omega arith)) (cases_eq i place)

module _ (number : ℕ) (stanzas : List PairStanza) (i : ℕ) (one : PairStanza) (there : slice_get stanzas i ≡ Some one) where
  -- one more pair that has a stanza of the index
  pub each_more : (wanted : List WantedStanza) (listed : IndexPackage) → IsOfIndex number one listed → All (IsWanted number stanzas) wanted
      → All (IsWanted number stanzas) (wanted ++ record { place = i; listed = listed } ∷ [])
  each_more wanted listed of each =
      All-push (IsWanted number stanzas) wanted (record { place = i; listed = listed }) each (record { one = one; there = there; of = of })

  pub every_more : (wanted : List WantedStanza) (listed : IndexPackage) → ((place : ℕ) (other : IndexPackage) → place < i → IsAt number stanzas place other
      → Any (λ one. one.place ≡ place) wanted) → (place : ℕ) (other : IndexPackage) → place < i + 1 → IsAt number stanzas place other
      → Any (λ one. one.place ≡ place) (wanted ++ record { place = i; listed = listed } ∷ [])
  every_more wanted listed every place other less is =
      let last : WantedStanza = record { place = i; listed = listed } in
      ⊎_elim
      (λ below. Any-append_left (λ one. one.place ≡ place) wanted (last ∷ []) (every place other below is))
      (λ here. Any-push (λ one. one.place ≡ place) wanted last here)
      (before_or_here place i less)

  -- one more pair that has none
  pub every_none : (wanted : List WantedStanza) → ((listed : IndexPackage) → ¬ IsOfIndex number one listed)
      → ((place : ℕ) (other : IndexPackage) → place < i → IsAt number stanzas place other → Any (λ one. one.place ≡ place) wanted)
      → (place : ℕ) (other : IndexPackage) → place < i + 1 → IsAt number stanzas place other → Any (λ one. one.place ≡ place) wanted
  every_none wanted none every place other less is =
      ⊎_elim
      (λ below. every place other below is)
      (λ here. (let again : slice_get stanzas i ≡ Some is.one = subst (λ (n : ℕ). slice_get stanzas n ≡ Some is.one) (sym here) is.there in
      let same : is.one ≡ one = cc in
      absurd (none other (subst (λ (o : PairStanza). IsOfIndex number o other) same is.of))))
      (before_or_here place i less)

any_permuted : {X : Type 0} (P : X → Type 0) (xs ys : List X) → IsPermutation xs ys → Any P xs → Any P ys
any_permuted P xs ys same some = Any-intro P ys some.1 (Contains-permutation xs ys some.1 same (Any-contains P xs some)) some.4

-- in whatever order they are listed
pub wanted_permuted : (number : ℕ) (stanzas : List PairStanza) (xs ys : List WantedStanza) → IsPermutation xs ys → AreWanted number stanzas xs
    → AreWanted number stanzas ys
wanted_permuted number stanzas xs ys same are = record {
  each = All-permutation (IsWanted number stanzas) xs ys same are.each;
  every = λ place listed is. any_permuted (λ one. one.place ≡ place) xs ys same (are.every place listed is);
}

-- wanted stanzas are at places of pairs
pub within_pairs : (number : ℕ) (stanzas : List PairStanza) (wanted : List WantedStanza) → All (IsWanted number stanzas) wanted
    → All (λ one. one.place < length stanzas) wanted
within_pairs number stanzas wanted each =
    All-weaker (IsWanted number stanzas) (λ one. one.place < length stanzas) (λ one is. slice_get_within stanzas one.place is.one is.there) wanted each

-- the package in a place is that of the stanza in it
entry_at : (entries : List (Bor IndexPackage)) (wanted : List WantedStanza) (k : ℕ) (d : Bor IndexPackage)
    → map (λ (entry : Bor IndexPackage). entry.now) entries ≡ map (λ (one : WantedStanza). one.listed) wanted → k < length entries → k < length wanted
    → (get_or entries k d).now ≡ (get_or wanted k (record { place = 0; listed = d.now })).listed
entry_at entries wanted k d same below within =
    sym (get_or-map (λ (entry : Bor IndexPackage). entry.now) entries k d d.now below)
    ∙ ap (λ (l : List IndexPackage). get_or l k d.now) same
    ∙ get_or-map (λ (one : WantedStanza). one.listed) wanted k (record { place = 0; listed = d.now }) d.now within

-- packages that are listed in the order of their stanzas
pub order_of_entries : (entries : List (Bor IndexPackage)) (wanted : List WantedStanza)
    → map (λ (entry : Bor IndexPackage). entry.now) entries ≡ map (λ (one : WantedStanza). one.listed) wanted
    → IsNonDecreasingBy (λ (one : WantedStanza). one.listed.place.stanza) wanted
    → IsNonDecreasingBy (λ (entry : Bor IndexPackage). entry.now.place.stanza) entries
order_of_entries entries wanted same order m n d le less =
    let size : length entries ≡ length wanted =
    sym (length-map entries (λ (entry : Bor IndexPackage). entry.now)) ∙ ap length same ∙ length-map wanted (λ (one : WantedStanza). one.listed) in
    let first = entry_at entries wanted m d same (omega arith) (omega arith) in
    let last = entry_at entries wanted n d same less (omega arith) in
    rw (first, last) (order m n (record { place = 0; listed = d.now }) le (omega arith))

-- what is at a place is contained
contains_at : {X : Type 0} (xs : List X) (i : ℕ) (x : X) → slice_get xs i ≡ Some x → Contains xs x
contains_at [] i x is = cc
contains_at (y ∷ xs) zero x is = let same : y ≡ x = cc in subst (λ (z : _). Contains (y ∷ xs) z) same (Contains-head y xs)
contains_at (y ∷ xs) (suc i) x is = Contains-rest y xs x (contains_at xs i x is)

-- where one of the wanted stanzas is gone, that of a pair is
pub gone_from : (arch : List ℕ) (items : Items) (number : ℕ) (stanzas : List PairStanza) (wanted : List WantedStanza) → All (IsWanted number stanzas) wanted
    → IsChanged arch items (map (λ one. one.listed) wanted) → HasGone arch items number stanzas
gone_from arch items number stanzas wanted each changed =
    let shown = map (λ (one : WantedStanza). one.listed) wanted in
    let from = Contains-map (λ (one : WantedStanza). one.listed) wanted changed.1 (Any-contains (IsGone arch items) shown changed) in
    let is : IsWanted number stanzas from.0 = All-contains (IsWanted number stanzas) wanted from.0 each from.1 in
    Any-intro (λ one. (listed : IndexPackage) × IsOfIndex number one listed × IsGone arch items listed) stanzas is.one (contains_at stanzas from.0.place is.one is.there)
    (from.0.listed, is.of, subst (λ (l : IndexPackage). IsGone arch items l) (sym from.2) changed.4)

pub length-filled : (stanzas : List PairStanza) (wanted : List WantedStanza) (texts : List (List ℕ)) → length (filled stanzas wanted texts) ≡ length stanzas
length-filled stanzas [] texts = refl
length-filled stanzas (one ∷ wanted) [] = refl
length-filled stanzas (one ∷ wanted) (text ∷ texts) =
    length-filled (set stanzas one.place (record { listed = Some one.listed; bytes = Some text })) wanted texts
    ∙ length-set stanzas one.place (record { listed = Some one.listed; bytes = Some text })

-- where no text is left, nothing is put
pub filled_none : (stanzas : List PairStanza) (wanted : List WantedStanza) → filled stanzas wanted [] ≡ stanzas
filled_none stanzas [] = refl
filled_none stanzas (one ∷ wanted) = refl

-- what is at a place that was written, and at another
at_set : {A : Type 0} (xs : List A) (i : ℕ) (x : A) → i < length xs → slice_get (set xs i x) i ≡ Some x
at_set [] i x less = absurd (omega arith)
at_set (y ∷ xs) zero x less = refl
at_set (y ∷ xs) (suc i) x less = at_set xs i x (omega arith)

beside_set : {A : Type 0} (xs : List A) (i place : ℕ) (x : A) → i ≢ place → slice_get (set xs i x) place ≡ slice_get xs place
beside_set [] i place x other = refl
beside_set (y ∷ xs) zero zero x other = absurd (other refl)
beside_set (y ∷ xs) zero (suc place) x other = refl
beside_set (y ∷ xs) (suc i) zero x other = refl
beside_set (y ∷ xs) (suc i) (suc place) x other = beside_set xs i place x (λ same. other (ap (λ (n : ℕ). suc n) same))

-- a wanted stanza is of the pair at this place, and its bytes were put there
abbrev pub IsPutOf : (IndexPackage → List ℕ → Type 0) → ℕ → List PairStanza → WantedStanza → Type 0
IsPutOf B place new one = (one.place ≡ place)
    × (text : List ℕ) × (slice_get new place ≡ Some (record { listed = Some one.listed; bytes = Some text })) × B one.listed text

-- so it is of one of these; or none of them is of that pair, and what was there stays
abbrev pub IsPut : (IndexPackage → List ℕ → Type 0) → ℕ → List PairStanza → List PairStanza → List WantedStanza → Type 0
IsPut B place old new wanted =
    ((slice_get new place ≡ slice_get old place) × All (λ one. one.place ≢ place) wanted) ⊎ Any (IsPutOf B place new) wanted

put_one : (B : IndexPackage → List ℕ → Type 0) (place : ℕ) (old new : List PairStanza) (one : WantedStanza) (text : List ℕ) (wanted : List WantedStanza)
    → one.place < length old → B one.listed text → IsPut B place (set old one.place (record { listed = Some one.listed; bytes = Some text })) new wanted
    → IsPut B place old new (one ∷ wanted)
put_one B place old new one text wanted less belongs (inr some) = inr (Any-append_right (IsPutOf B place new) (one ∷ []) wanted some)
put_one B place old new one text wanted less belongs (inl kept) =
    let put : PairStanza = record { listed = Some one.listed; bytes = Some text } in
    ⊎_elim
    (λ here. inr (Any-intro (IsPutOf B place new) (one ∷ wanted) one (Contains-head one wanted)
    (here, text, kept.0 ∙ subst (λ (n : ℕ). slice_get (set old one.place put) n ≡ Some put) here (at_set old one.place put less), belongs)))
    (λ other. inl (kept.0 ∙ beside_set old one.place place put other, All-cons (λ o. o.place ≢ place) one wanted other kept.1))
    (cases_eq one.place place)

-- once each text was put
pub put_all : (B : IndexPackage → List ℕ → Type 0) (place : ℕ) (old : List PairStanza) (wanted : List WantedStanza) (texts : List (List ℕ))
    → AllZip B (map (λ one. one.listed) wanted) texts → All (λ one. one.place < length old) wanted → IsPut B place old (filled old wanted texts) wanted
put_all B place old [] [] belong within = inl (refl, All-nil (λ one. one.place ≢ place))
put_all B place old [] (text ∷ texts) belong within = absurd belong
put_all B place old (one ∷ wanted) [] belong within = absurd belong
put_all B place old (one ∷ wanted) (text ∷ texts) belong within =
    let put : PairStanza = record { listed = Some one.listed; bytes = Some text } in
    put_one B place old (filled (set old one.place put) wanted texts) one text wanted (All-head (λ o. o.place < length old) one wanted within) belong.0
    (put_all B place (set old one.place put) wanted texts belong.1
    (subst (λ (n : ℕ). All (λ o. o.place < n) wanted) (sym (length-set old one.place put)) (All-tail (λ o. o.place < length old) one wanted within)))

module _ (B : IndexPackage → List ℕ → Type 0) (number : ℕ) (old new : List PairStanza) (wanted : List WantedStanza) (are : AreWanted number old wanted) where
  -- the pair at a place, once the bytes of all stanzas of the index were put
  after_at : (place : ℕ) (o n : PairStanza) → slice_get old place ≡ Some o → slice_get new place ≡ Some n → IsPut B place old new wanted → IsAfter B number o n
  after_at place o n was is (inl kept) =
      let same : n ≡ o = cc (kept.0) in
      record {
        listed = ap (λ (p : PairStanza). p.listed) same;
        fetched = λ listed of. (let some = are.every place listed (record { one = o; there = was; of = of }) in
            absurd (All-contains (λ one. one.place ≢ place) wanted some.1 kept.1 (Any-contains (λ one. one.place ≡ place) wanted some) some.4));
        other = λ no. ap (λ (p : PairStanza). p.bytes) same;
      }
  after_at place o n was is (inr some) =
      let w = some.1 in
      let put = some.4 in
      let at : IsWanted number old w = All-contains (IsWanted number old) wanted w are.each (Any-contains (IsPutOf B place new) wanted some) in
      let there : slice_get old place ≡ Some at.one = subst (λ (p : ℕ). slice_get old p ≡ Some at.one) put.0 at.there in
      let same : at.one ≡ o = cc in
      let of : IsOfIndex number o w.listed = subst (λ (p : PairStanza). IsOfIndex number p w.listed) same at.of in
      let after : n ≡ record { listed = Some w.listed; bytes = Some put.1 } = cc (put.2) in
      record {
        listed = ap (λ (p : PairStanza). p.listed) after ∙ sym of.is;
        fetched = λ listed is_of. (let one : w.listed ≡ listed = cc (of.is, is_of.is) in
            record { bytes = put.1; there = ap (λ (p : PairStanza). p.bytes) after; belong = subst (λ (l : IndexPackage). B l put.1) one put.3 });
        other = λ no. absurd (no w.listed of);
      }

-- lists agree place by place
zip_by_place : {A B : Type 0} (R : A → B → Type 0) (xs : List A) (ys : List B) → length ys ≡ length xs
    → ((i : ℕ) (x : A) (y : B) → slice_get xs i ≡ Some x → slice_get ys i ≡ Some y → R x y) → AllZip R xs ys
zip_by_place R [] [] same here = tt
zip_by_place R [] (y ∷ ys) same here = absurd (omega arith)
zip_by_place R (x ∷ xs) [] same here = absurd (omega arith)
zip_by_place R (x ∷ xs) (y ∷ ys) same here =
    (here zero x y refl refl, zip_by_place R xs ys (omega arith) (λ i a b one two. here (suc i) a b one two))

-- each pair, once the bytes of all stanzas of the index were put
pub after_fetch : (B : IndexPackage → List ℕ → Type 0) (number : ℕ) (old : List PairStanza) (wanted : List WantedStanza) (texts : List (List ℕ))
    → AreWanted number old wanted → AllZip B (map (λ one. one.listed) wanted) texts → AllZip (IsAfter B number) old (filled old wanted texts)
after_fetch B number old wanted texts are belong =
    zip_by_place (IsAfter B number) old (filled old wanted texts) (length-filled old wanted texts)
    (λ place o n was is. after_at B number old (filled old wanted texts) wanted are place o n was is
    (put_all B place old wanted texts belong (within_pairs number old wanted are.each)))

-- as many texts as stanzas
pub some_zip : {X Y : Type 0} (xs : List X) (ys : List Y) → length ys ≡ length xs → AllZip (λ x y. ⊤) xs ys
some_zip [] [] same = tt
some_zip [] (y ∷ ys) same = absurd (omega arith)
some_zip (x ∷ xs) [] same = absurd (omega arith)
some_zip (x ∷ xs) (y ∷ ys) same = (tt, some_zip xs ys (omega arith))

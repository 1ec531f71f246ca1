-- What is fetched of the packages that are left, and of all.
use Rattle.std.proofs.Common.{◌≡◌, ◌<◌, ◌+◌, ℕ, Bor, List, [], ◌∷◌, ◌++◌, length, map, drop, get_or, refl, ap, sym, ◌∙◌, arith}
use Rattle.std.proofs.Math.ListN.{length-map}
use Rattle.std.proofs.lemmas.List.{drop_more, get_or-map}
use Rattle.rules.specs.Step.{IndexPackage}
use Rattle.rules.specs.declared.limits.TheConstants.{TEXT_BYTES}
use Rattle.stanza.specs.declared.form.Form.TheVariants.{Plain}
use Rattle.stanza.specs.Reading.{Reading, begins}
use Rattle.unpack_texts.specs.Fetched.{AreFetched, HasRead, IsChanged, IsFetched, IsGone, Items, items_in}

-- at first all is still to be read
pub has-begun : (text : List ℕ) (reading : Reading) → reading ≡ begins Plain TEXT_BYTES → HasRead (items_in text) 0 reading text
has-begun text reading e = rw e (record { before = []; is = refl; count = refl; last = tt; some = λ less. absurd (omega arith) })

-- one of the packages is gone
pub gone-at : (arch : List ℕ) (items : Items) (wanted : List (Bor IndexPackage)) (i : ℕ) (x : Bor IndexPackage) → i < length wanted → x ≡ get_or wanted i x
    → IsGone arch items x.now → IsChanged arch items (map (λ entry. entry.now) wanted)
gone-at arch items wanted i x less is gone = (
  i,
  x.now,
  omega (arith, length-map wanted (λ (entry : Bor IndexPackage). entry.now)),
  get_or-map (λ (entry : Bor IndexPackage). entry.now) wanted i x x.now less ∙ ap (λ (entry : Bor IndexPackage). entry.now) (sym is),
  gone,
)

-- what is left begins with this package
pub left-at : (wanted : List (Bor IndexPackage)) (i : ℕ) (x : Bor IndexPackage) → i < length wanted → x ≡ get_or wanted i x
    → drop i (map (λ entry. entry.now) wanted) ≡ x.now ∷ drop (i + 1) (map (λ entry. entry.now) wanted)
left-at wanted i x less is =
    let shown = map (λ (entry : Bor IndexPackage). entry.now) wanted in
    drop_more shown i x.now (omega (arith, length-map wanted (λ (entry : Bor IndexPackage). entry.now)))
    ∙ ap (λ (y : IndexPackage). y ∷ drop (i + 1) shown)
    (get_or-map (λ (entry : Bor IndexPackage). entry.now) wanted i x x.now less ∙ ap (λ (entry : Bor IndexPackage). entry.now) (sym is))

-- the text of the first package, before the others
pub first-fetched : (arch : List ℕ) (items : Items) (wanted later : List IndexPackage) (next : IndexPackage) (text : List ℕ) (texts : List (List ℕ))
    → wanted ≡ next ∷ later → IsFetched arch items next text → AreFetched arch items later texts → AreFetched arch items wanted (text ∷ texts)
first-fetched arch items wanted later next text texts e is are = rw e (is, are)

-- where no package is left no text is
pub none-left : (arch : List ℕ) (items : Items) (wanted : List IndexPackage) → wanted ≡ [] → AreFetched arch items wanted []
none-left arch items wanted e = rw e tt

-- one more behind the others, before later ones
pub one-mapped : {A B : Type 0} (f : A → B) (xs : List A) (x : A) (later : List B) → map f (xs ++ x ∷ []) ++ later ≡ map f xs ++ f x ∷ later
one-mapped f [] x later = refl
one-mapped f (y ∷ xs) x later = ap (λ rest. f y ∷ rest) (one-mapped f xs x later)

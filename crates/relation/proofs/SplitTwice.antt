-- Cutting at two separators at once is cutting at one of them, and then each part at the other.
use Rattle.std.proofs.Common.{◌≡◌, ℕ, Bool, true, false, ◌||◌, cond, List, [], ◌∷◌, ◌++◌, refl, sym, ap}
use Rattle.std.specs.List.{slice_split, onto_first, flat_map}

-- a text has at least one part
pub record IsFirstPart (parts : List (List ℕ)) : Type 0 where
  pub part : List ℕ
  pub more : List (List ℕ)
  pub same : parts ≡ part ∷ more

first_of_cons : (b : ℕ) (parts : List (List ℕ)) → IsFirstPart parts → IsFirstPart (onto_first b parts)
first_of_cons b parts first = record {
  part = b ∷ first.part;
  more = first.more;
  same = ap (onto_first b) first.same;
}

first_of_cond : (test : Bool) (b : ℕ) (parts : List (List ℕ)) → IsFirstPart parts → IsFirstPart (cond test ([] ∷ parts) (onto_first b parts))
first_of_cond true b parts first = record { part = []; more = parts; same = refl }
first_of_cond false b parts first = first_of_cons b parts first

pub first_part : (test : ℕ → Bool) (text : List ℕ) → IsFirstPart (slice_split test text)
first_part test [] = record { part = []; more = []; same = refl }
first_part test (b ∷ text) = first_of_cond (test b) b (slice_split test text) (first_part test text)

onto_append : (b : ℕ) (parts more : List (List ℕ)) → IsFirstPart parts → onto_first b (parts ++ more) ≡ onto_first b parts ++ more
onto_append b parts more first = rw first.same refl

-- a byte that the second test leaves goes to the first of all parts
stays : (q : ℕ → Bool) (b : ℕ) (part : List ℕ) (more : List (List ℕ)) → q b ≡ false
    → flat_map (slice_split q) ((b ∷ part) ∷ more) ≡ onto_first b (flat_map (slice_split q) (part ∷ more))
stays q b part more other =
    rw other (sym (onto_append b (slice_split q part) (flat_map (slice_split q) more) (first_part q part)))

cuts : (q : ℕ → Bool) (b : ℕ) (part : List ℕ) (more : List (List ℕ)) → q b ≡ true
    → flat_map (slice_split q) ((b ∷ part) ∷ more) ≡ [] ∷ flat_map (slice_split q) (part ∷ more)
cuts q b part more here = rw here refl

step : (q : ℕ → Bool) (b : ℕ) (parts : List (List ℕ)) → IsFirstPart parts → (test : Bool) → q b ≡ test
    → cond test ([] ∷ flat_map (slice_split q) parts) (onto_first b (flat_map (slice_split q) parts)) ≡ flat_map (slice_split q) (onto_first b parts)
step q b parts first true here = rw first.same (sym (cuts q b first.part first.more here))
step q b parts first false other = rw first.same (sym (stays q b first.part first.more other))

both : (q : ℕ → Bool) (b : ℕ) (parts : List (List ℕ)) → IsFirstPart parts → (test : Bool)
    → cond (test || q b) ([] ∷ flat_map (slice_split q) parts) (onto_first b (flat_map (slice_split q) parts))
    ≡ flat_map (slice_split q) (cond test ([] ∷ parts) (onto_first b parts))
both q b parts first true = refl
both q b parts first false = step q b parts first (q b) refl

pub split_twice : (p q : ℕ → Bool) (text : List ℕ) → slice_split (λ b. p b || q b) text ≡ flat_map (slice_split q) (slice_split p text)
split_twice p q [] = refl
split_twice p q (b ∷ text) =
    rw (split_twice p q text) (both q b (slice_split p text) (first_part p text) (p b))

-- What writes and cuts make of bytes that are done in part, or not.
use Rattle.std.proofs.Common.{◌≡◌, inl, inr, ℕ, ◌+◌, ◌-◌, ◌≤◌, List, [], ◌++◌, length, take, drop, sym, ◌∙◌, ap, subst, arith, append_assoc, length-append, length-take, length-drop, take-append-drop}
use Rattle.std.proofs.lemmas.List.{append-nil, drop_all, take_all, take_at, take-take, drop-drop, drop-take}
use Rattle.std.proofs.lemmas.Bool.{cases_lt}
use Rattle.disk.specs.Calls.{Shortened, Torn}

-- a part of a list, and what is behind it
part_of : (k : ℕ) (xs : List ℕ) → xs ≡ take k xs ++ drop k xs
part_of k xs = sym (take-append-drop k xs)

-- bytes of which the write has no more stand at the offset, and others behind the end
pub torn_part : (at n : ℕ) (with beyond old : List ℕ) → length with ≤ n → Torn at n old (take at old ++ with ++ drop (at + length with) old ++ beyond)
torn_part at n with beyond old fits = elim (cases_lt (length old) (at + length with)) [
  | inl past ↦ ends (omega (arith, past))
  | inr inside ↦ within inside
]
  where
    room : ℕ
    room = length (take n (drop at old))

    -- the file ends within the bytes
    ends : length old ≤ at + length with → Torn at n old (take at old ++ with ++ drop (at + length with) old ++ beyond)
    ends past =
        let none : drop (at + length with) old ≡ [] = drop_all (at + length with) old past in
        let less : length old ≤ at + n = omega (arith, past, fits) in
        let nothing : drop (at + n) old ≡ [] = drop_all (at + n) old less in
        record {
          range = take room with;
          beyond = drop room with ++ beyond;
          size = omega (arith, length-take room with, length-take n (drop at old), length-drop at old);
          is = ap (λ (l : List ℕ). take at old ++ with ++ l ++ beyond) none
              ∙ ap (λ (l : List ℕ). l ++ beyond) (append-nil (take at old ++ with))
              ∙ ap (λ (l : List ℕ). take at old ++ l ++ beyond) (part_of room with)
              ∙ ap (λ (l : List ℕ). l ++ beyond) (sym (append_assoc (take at old) (take room with) (drop room with)))
              ∙ append_assoc (take at old ++ take room with) (drop room with) beyond
              ∙ ap (λ (l : List ℕ). l ++ (drop room with ++ beyond)) (sym (append-nil (take at old ++ take room with)))
              ∙ ap (λ (l : List ℕ). take at old ++ take room with ++ l ++ (drop room with ++ beyond)) (sym nothing);
        }

    -- bytes of the file stand behind them
    within : at + length with ≤ length old → Torn at n old (take at old ++ with ++ drop (at + length with) old ++ beyond)
    within inside =
        let kept = drop (at + length with) old in
        let rest : ℕ = n - length with in
        let behind : drop rest kept ≡ drop (at + n) old =
        drop-drop rest (at + length with) old ∙ ap (λ (k : ℕ). drop k old) (omega (arith, fits)) in
        record {
          range = with ++ take rest kept;
          beyond = beyond;
          size = omega (arith, length-append with (take rest kept), length-take rest kept, length-drop (at + length with) old, length-take n (drop at old), length-drop at old, fits, inside);
          is = ap (λ (l : List ℕ). take at old ++ with ++ l ++ beyond) (part_of rest kept)
              ∙ ap (λ (l : List ℕ). l ++ beyond) (sym (append_assoc (take at old ++ with) (take rest kept) (drop rest kept)))
              ∙ ap (λ (l : List ℕ). l ++ drop rest kept ++ beyond) (append_assoc (take at old) with (take rest kept))
              ∙ ap (λ (l : List ℕ). take at old ++ (with ++ take rest kept) ++ l ++ beyond) behind;
        }

-- a write of which nothing was done
pub torn_not : (at n : ℕ) (old : List ℕ) → Torn at n old old
torn_not at n old =
    subst (λ (l : List ℕ). Torn at n old l)
    (append-nil (take at old ++ [] ++ drop (at + 0) old) ∙ ap (λ (l : List ℕ). l ++ drop (at + 0) old) (append-nil (take at old)) ∙ ap (λ (k : ℕ). take at old ++ drop k old) (omega arith) ∙ take-append-drop at old)
    (torn_part at n [] [] old (omega arith))

pub torn_same : (at n : ℕ) (old new : List ℕ) → new ≡ old → Torn at n old new
torn_same at n old new same = subst (λ (l : List ℕ). Torn at n old l) (sym same) (torn_not at n old)

-- a write of which so many bytes were done
pub torn_count : (at count : ℕ) (bytes old new : List ℕ) → new ≡ take at old ++ take count bytes ++ drop (at + length (take count bytes)) old → Torn at (length bytes) old new
torn_count at count bytes old new is =
    subst (λ (l : List ℕ). Torn at (length bytes) old l) (append-nil (take at old ++ take count bytes ++ drop (at + length (take count bytes)) old) ∙ sym is)
    (torn_part at (length bytes) (take count bytes) [] old (omega (arith, length-take count bytes)))

-- a cut of which so much was done
pub shortened_to : (n end : ℕ) (old new : List ℕ) → n ≤ end → new ≡ take end old → Shortened n old new
shortened_to n end old new le is = record { end = end; no_shorter = le; is = is }

-- a cut that wasn't done
pub shortened_not : (n : ℕ) (old : List ℕ) → Shortened n old old
shortened_not n old = shortened_to n (n + length old) old old (omega arith) (sym (take_all (n + length old) old (omega arith)))

-- the bytes from before, from those after a call and those that stood from its offset on
pub put_back : (at : ℕ) (old new next tail : List ℕ) → at ≤ length old → new ≡ take at old ++ next → tail ≡ drop at old → take at new ++ tail ≡ old
put_back at old new next tail le is was =
    ap (λ (l : List ℕ). take at l ++ tail) is
    ∙ ap (λ (l : List ℕ). l ++ tail) (front_of (take at old) at (omega (arith, length-take at old, le)))
    ∙ ap (λ (l : List ℕ). take at old ++ l) was
    ∙ take-append-drop at old
  where
    front_of : (xs : List ℕ) (k : ℕ) → length xs ≡ k → take k (xs ++ next) ≡ xs
    front_of xs k is = take_at xs next k is

-- the bytes behind an offset are those that were written, so many, and the others of the file
pub torn_written : (at count : ℕ) (bytes old next new : List ℕ) → count ≤ length bytes → new ≡ take at old ++ next
    → next ≡ take count bytes ++ drop (at + count) old → Torn at (length bytes) old new
torn_written at count bytes old next new le is parts =
    torn_count at count bytes old new
    (is ∙ ap (λ (l : List ℕ). take at old ++ l) parts ∙ sym (append_assoc (take at old) (take count bytes) (drop (at + count) old))
    ∙ ap (λ (k : ℕ). take at old ++ take count bytes ++ drop (at + k) old) (omega (arith, length-take count bytes, le)))

-- all of them were written
pub written_whole : (at count : ℕ) (bytes old next new : List ℕ) → new ≡ take at old ++ next → next ≡ take count bytes ++ drop (at + count) old
    → count ≡ length bytes → new ≡ take at old ++ bytes ++ drop (at + length bytes) old
written_whole at count bytes old next new is parts all =
    is ∙ ap (λ (l : List ℕ). take at old ++ l) parts ∙ sym (append_assoc (take at old) (take count bytes) (drop (at + count) old))
    ∙ ap (λ (l : List ℕ). take at old ++ l ++ drop (at + count) old) (take_all count bytes (omega (arith, all)))
    ∙ ap (λ (k : ℕ). take at old ++ bytes ++ drop (at + k) old) all

-- the bytes up to an end that is no less than the length to which the file is cut
pub cut_part : (n end : ℕ) (old next new : List ℕ) → n ≤ end → new ≡ take n old ++ next → next ≡ take (end - n) (drop n old) → new ≡ take end old
cut_part n end old next new le is parts =
    is ∙ ap (λ (l : List ℕ). take n old ++ l) (parts ∙ sym (drop-take n (end - n) old) ∙ ap (λ (k : ℕ). drop n (take k old)) (omega (arith, le)))
    ∙ ap (λ (l : List ℕ). l ++ drop n (take end old)) (sym (take-take n end old le))
    ∙ take-append-drop n (take end old)

-- What is undone and done again of the calls of a file in memory.
use Rattle.std.proofs.Common.{◌≡◌, inl, inr, ℕ, ◌+◌, ◌-◌, ◌<◌, ◌≤◌, get_or, List, [], ◌∷◌, ◌++◌, length, take, drop, reverse, sym, ◌∙◌, ap, subst, arith, append_assoc, length-take, take-append-drop, slice_index_or}
use Rattle.std.proofs.lemmas.List.{drop_more, take_more, get_or_read, reverse-append, length-reverse}
use Rattle.std.proofs.lemmas.Bool.{cases_lt}
use Rattle.disk.specs.declared.changes.Made.{Made}
use Rattle.disk.specs.Crash.{IsSyncDone, NoSyncDone, undone}
use Rattle.disk.specs.Memory.{before, Takes, Leaves, Since, among, counts, only}

-- the bytes before a call and all later ones
pub undone_more : (calls : List Made) (i : ℕ) (made : Made) (seen : List ℕ) → i < length calls → made ≡ get_or calls i made
    → undone (drop i calls) seen ≡ before made (undone (drop (i + 1) calls) seen)
undone_more calls i made seen below is =
    ap (λ (l : List Made). undone l seen) (drop_more calls i made below ∙ ap (λ (m : Made). m ∷ drop (i + 1) calls) (sym is))

-- a crash may leave what was there
pub redo_begins : (calls : List Made) (from : ℕ) (seen left : List ℕ) → left ≡ undone (drop from calls) seen
    → Leaves (undone (drop from calls) seen) (reverse (take from calls)) left
redo_begins calls from seen left is =
    subst (λ (l : List ℕ). Leaves (undone (drop from calls) seen) (reverse (take from calls)) l) (sym is)
    (among (undone (drop from calls) seen) (reverse (take from calls)))

-- one call more, of which a crash makes something
pub redo_more : (calls : List Made) (i : ℕ) (made : Made) (seen x c : List ℕ) → i < length calls → made ≡ get_or calls i made
    → Leaves (undone (drop i calls) seen) (reverse (take i calls)) x → Takes made.call made.failed x c
    → Leaves (undone (drop (i + 1) calls) seen) (reverse (take (i + 1) calls)) c
redo_more calls i made seen x c below is left took =
    subst (λ (l : List Made). Leaves (undone (drop (i + 1) calls) seen) l c) (sym order)
    (inr (x, subst (λ (l : List ℕ). Leaves l (reverse (take i calls)) x) (undone_more calls i made seen below is) left, took))
  where
    order : reverse (take (i + 1) calls) ≡ made ∷ reverse (take i calls)
    order = ap (λ (l : List Made). reverse l) (take_more calls i made below ∙ ap (λ (m : Made). take i calls ++ m ∷ []) (sym is))
        ∙ reverse-append (take i calls) (made ∷ [])

-- what a crash left before some calls, it may have left since
since_back : (later : List Made) (seen : List ℕ) (earlier : List Made) (t : ℕ) (c : List ℕ) → t ≤ length earlier
    → Since t (undone later seen) earlier c → Since t seen (reverse later ++ earlier) c
since_back [] seen earlier t c le left = left
since_back (made ∷ later) seen earlier t c le left =
    subst (λ (l : List Made). Since t seen l c) order (since_back later seen (made ∷ earlier) t c (omega (arith, le)) (inr (le, left)))
  where
    order : reverse later ++ made ∷ earlier ≡ reverse (made ∷ later) ++ earlier
    order = sym (append_assoc (reverse later) (made ∷ []) earlier) ∙ ap (λ (l : List Made). l ++ earlier) (sym (reverse-append (made ∷ []) later))

-- what a crash may leave at a moment, it may have left since that one
pub left_since : (calls : List Made) (to : ℕ) (seen c : List ℕ) → to ≤ length calls
    → Leaves (undone (drop to calls) seen) (reverse (take to calls)) c → Since to seen (reverse calls) c
left_since calls to seen c le left =
    subst (λ (l : List Made). Since to seen l c) order
    (since_back (drop to calls) seen (reverse (take to calls)) to c (omega (arith, size))
    (counts (undone (drop to calls) seen) (reverse (take to calls)) to c left))
  where
    size : length (reverse (take to calls)) ≡ to
    size = length-reverse (take to calls) ∙ omega (arith, length-take to calls, le)

    order : reverse (drop to calls) ++ reverse (take to calls) ≡ reverse calls
    order = sym (reverse-append (take to calls) (drop to calls)) ∙ ap (λ (l : List Made). reverse l) (take-append-drop to calls)

-- one call more that is no sync that succeeded
pub none_more : (calls : List Made) (from to : ℕ) (made : Made) → 0 < from → from ≤ length calls → made ≡ slice_index_or calls (from - 1) made
    → ¬ IsSyncDone made.call made.failed → NoSyncDone calls from to → NoSyncDone calls (from - 1) to
none_more calls from to made some le is other none i m above below at = elim (cases_lt i from) [
  | inl first ↦
      let place : i ≡ from - 1 = omega (arith, above, first) in
      let same : m ≡ made = get_or_read calls i m (omega (arith, first, le)) at made ∙ ap (λ (k : ℕ). get_or calls k made) place ∙ sym is in
      subst (λ (x : Made). ¬ IsSyncDone x.call x.failed) (sym same) other
  | inr later ↦ none i m later below at
]

-- what a crash may leave after all calls, it may leave now
pub left_now : (calls : List Made) (to : ℕ) (seen c : List ℕ) → to ≡ length calls
    → Leaves (undone (drop to calls) seen) (reverse (take to calls)) c → Leaves seen (reverse calls) c
left_now calls to seen c all left =
    only seen (reverse calls) c
    (subst (λ (t : ℕ). Since t seen (reverse calls) c) (all ∙ sym (length-reverse calls)) (left_since calls to seen c (omega (arith, all)) left))

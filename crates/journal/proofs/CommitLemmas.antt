-- What a crash leaves in each step of a commit.
use Rattle.std.proofs.Common.{◌≡◌, ◌⊎◌, inl, inr, ⊎_elim, ℕ, zero, suc, ◌+◌, ◌≤◌, List, [], ◌∷◌, ◌++◌, length, take, drop, refl, sym, ◌∙◌, ap, arith, append_assoc, length-append}
use Rattle.std.proofs.lemmas.List.{take_at, drop_at, take_all, drop_all, append-nil}
use Rattle.disk.specs.Calls.{Shortened, Torn}
use Rattle.disk.specs.Facts.{DiskFacts, LeavesOnly}
use Rattle.journal.specs.Commit.{IsBetween, HasFront}
use Rattle.disk.specs.RunLaws.{weaker, then_runs}

one_byte : (xs : List ℕ) → length xs ≡ 1 → (x : ℕ) × (xs ≡ x ∷ [])
one_byte [] is = absurd (omega (arith, is))
one_byte (x ∷ []) is = (x, refl)
one_byte (x ∷ y ∷ xs) is = absurd (omega (arith, is))

behind : (front r d b : List ℕ) → (front ++ 0 ∷ []) ++ r ++ d ++ b ≡ front ++ 0 ∷ (r ++ d ++ b)
behind [] r d b = refl
behind (x ∷ front) r d b = ap (λ (l : List ℕ). x ∷ l) (behind front r d b)

module _ (front body : List ℕ) (gate : ℕ) (at : gate ≡ length front) where
  length-closed : length (front ++ 0 ∷ []) ≡ gate + 1
  length-closed = omega (arith, at, length-append front (0 ∷ []))

  -- the closed gate stands in each outcome of the first write
  pub torn_behind : (n : ℕ) (c : List ℕ) → Torn (gate + 1) n (front ++ 0 ∷ []) c → IsBetween front body c
  torn_behind n c torn =
      let whole : c ≡ (front ++ 0 ∷ []) ++ torn.range ++ drop (gate + 1 + n) (front ++ 0 ∷ []) ++ torn.beyond =
      torn.is ∙ ap (λ (l : List ℕ). l ++ torn.range ++ drop (gate + 1 + n) (front ++ 0 ∷ []) ++ torn.beyond) (take_all (gate + 1) (front ++ 0 ∷ []) (omega (arith, length-closed))) in
      inl (torn.range ++ drop (gate + 1 + n) (front ++ 0 ∷ []) ++ torn.beyond, whole ∙ behind front torn.range (drop (gate + 1 + n) (front ++ 0 ∷ [])) torn.beyond)

  after : drop (gate + 1) (front ++ 0 ∷ body) ≡ body
  after = ap (λ (l : List ℕ). drop (gate + 1) l) (sym (append_assoc front (0 ∷ []) body)) ∙ drop_at (front ++ 0 ∷ []) body (gate + 1) length-closed

  -- the record stands whole in each outcome of the second
  pub torn_gate : (c : List ℕ) → Torn gate 1 (front ++ 0 ∷ body) c → IsBetween front body c
  torn_gate c torn =
      let behind : drop gate (front ++ 0 ∷ body) ≡ 0 ∷ body = drop_at front (0 ∷ body) gate (sym at) in
      let one = one_byte torn.range (torn.size ∙ ap (λ (l : List ℕ). length (take 1 l)) behind) in
      let whole : c ≡ front ++ (one.0 ∷ []) ++ body ++ torn.beyond =
      torn.is
      ∙ ap (λ (l : List ℕ). l ++ torn.range ++ drop (gate + 1) (front ++ 0 ∷ body) ++ torn.beyond) (take_at front (0 ∷ body) gate (sym at))
      ∙ ap (λ (l : List ℕ). front ++ l ++ drop (gate + 1) (front ++ 0 ∷ body) ++ torn.beyond) one.1
      ∙ ap (λ (l : List ℕ). front ++ (one.0 ∷ []) ++ l ++ torn.beyond) after in
      inr (one.0, torn.beyond, whole ∙ ap (λ (l : List ℕ). l ++ torn.beyond) (append_assoc front (one.0 ∷ []) body))

  pub staged : take (gate + 1) (front ++ 0 ∷ []) ++ body ++ drop (gate + 1 + length body) (front ++ 0 ∷ []) ≡ front ++ 0 ∷ body
  staged =
      ap (λ (l : List ℕ). l ++ body ++ drop (gate + 1 + length body) (front ++ 0 ∷ [])) (take_all (gate + 1) (front ++ 0 ∷ []) (omega (arith, length-closed)))
      ∙ ap (λ (l : List ℕ). (front ++ 0 ∷ []) ++ body ++ l) (drop_all (gate + 1 + length body) (front ++ 0 ∷ []) (omega (arith, length-closed)))
      ∙ append-nil ((front ++ 0 ∷ []) ++ body)
      ∙ append_assoc front (0 ∷ []) body

  pub gate_opened : take gate (front ++ 0 ∷ body) ++ (1 ∷ []) ++ drop (gate + 1) (front ++ 0 ∷ body) ≡ front ++ 1 ∷ body
  gate_opened =
      ap (λ (l : List ℕ). l ++ (1 ∷ []) ++ drop (gate + 1) (front ++ 0 ∷ body)) (take_at front (0 ∷ body) gate (sym at))
      ∙ ap (λ (l : List ℕ). front ++ (1 ∷ []) ++ l) after
      ∙ append_assoc front (1 ∷ []) body

  -- a crash in the first write or in the second
  pub in_both : (a b d : DiskFacts)
      → LeavesOnly (λ c. (c ≡ front ++ 0 ∷ []) ⊎ Torn (gate + 1) (length body) (front ++ 0 ∷ []) c) a b
      → LeavesOnly (λ c. (c ≡ front ++ 0 ∷ body) ⊎ Torn gate 1 (front ++ 0 ∷ body) c) b d → LeavesOnly (IsBetween front body) a d
  in_both a b d first second =
      then_runs (IsBetween front body) a b d
      (weaker (λ c. (c ≡ front ++ 0 ∷ []) ⊎ Torn (gate + 1) (length body) (front ++ 0 ∷ []) c) (IsBetween front body) a b (λ c left. ⊎_elim (λ is. inl ([], is)) (torn_behind (length body) c) left) first)
      (weaker (λ c. (c ≡ front ++ 0 ∷ body) ⊎ Torn gate 1 (front ++ 0 ∷ body) c) (IsBetween front body) b d (λ c left. ⊎_elim (λ is. inl (body, is)) (torn_gate c) left) second)

-- a cut behind the closed gate
cut_at : (front tail : List ℕ) (k : ℕ) → length front + 1 ≤ k → (rest : List ℕ) × (take k (front ++ 0 ∷ tail) ≡ front ++ 0 ∷ rest)
cut_at [] tail zero long = absurd (omega (arith, long))
cut_at [] tail (suc k) long = (take k tail, refl)
cut_at (x ∷ front) tail zero long = absurd (omega (arith, long))
cut_at (x ∷ front) tail (suc k) long =
    let below = cut_at front tail k (omega (arith, long)) in
    (below.0, ap (λ (l : List ℕ). x ∷ l) below.1)

-- a crash while the end is cut off
pub in_settle : (front tail : List ℕ) (end : ℕ) (a s d : DiskFacts) → end ≡ length front + 1 → a.seen ≡ front ++ 0 ∷ tail → LeavesOnly a.leaves a s
    → LeavesOnly (λ c. (c ≡ a.seen) ⊎ Shortened end a.seen c) s d → LeavesOnly (λ c. a.leaves c ⊎ HasFront front c) a d
in_settle front tail end a s d at file first last =
    let P : List ℕ → Type 0 = λ c. a.leaves c ⊎ HasFront front c in
    then_runs P a s d (weaker a.leaves P a s (λ c left. inl left) first) (weaker (λ c. (c ≡ a.seen) ⊎ Shortened end a.seen c) P s d means last)
  where
    means : (c : List ℕ) → (c ≡ a.seen) ⊎ Shortened end a.seen c → a.leaves c ⊎ HasFront front c
    means c (inl same) = inr (tail, same ∙ file)
    means c (inr cut) =
        let rest = cut_at front tail cut.end (omega (arith, at, cut.no_shorter)) in
        inr (rest.0, cut.is ∙ ap (λ (l : List ℕ). take cut.end l) file ∙ rest.1)

pub cut_off : (front tail seen : List ℕ) (end : ℕ) → end ≡ length front + 1 → seen ≡ front ++ 0 ∷ tail → take end seen ≡ front ++ 0 ∷ []
cut_off front tail seen end at file =
    ap (λ (l : List ℕ). take end l) (file ∙ sym (append_assoc front (0 ∷ []) tail)) ∙ take_at (front ++ 0 ∷ []) tail end (omega (arith, at, length-append front (0 ∷ [])))

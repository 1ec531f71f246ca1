-- What two parts share in front may be skipped, where it ends in a byte that is no digit.
use Rattle.std.proofs.Common.{◌≡◌, ℕ, zero, suc, ◌-◌, ◌<◌, ◌≤◌, false, List, [], ◌∷◌, ◌++◌, length, take, drop, get_or, refl, sym, ap, ◌∙◌, arith, append_assoc}
use Rattle.std.proofs.lemmas.List.{take-append-drop}
use Rattle.std.proofs.Math.Seq.{take-suc}
use Rattle.std.specs.Char.{is_ascii_digit}
use Rattle.debversion.proofs.Cuts.{cut-behind}
use Rattle.rules.specs.Version.{part_cmp}
use Rattle.rules.specs.VersionSharedLaws.{part_cmp-shared}

pub part_cmp-skip : (n : ℕ) (a b : List ℕ) → n ≤ length a → n ≤ length b → take n a ≡ take n b
    → (0 < n → is_ascii_digit (get_or a (n - 1) 0) ≡ false) → part_cmp a b ≡ part_cmp (drop n a) (drop n b)
part_cmp-skip zero a b ha hb same behind = refl
part_cmp-skip (suc n) a b ha hb same behind =
    let inside : n < length a = omega arith in
    let at : suc n - 1 ≡ n = omega arith in
    let byte : is_ascii_digit (get_or a n 0) ≡ false = rw at at (behind (omega arith)) in
    let front = take-suc a n 0 inside in
    let left : a ≡ take n a ++ get_or a n 0 ∷ drop (suc n) a = cut-behind n a inside in
    let right : b ≡ take n a ++ get_or a n 0 ∷ drop (suc n) b =
    sym (take-append-drop (suc n) b)
    ∙ ap (λ (front : List ℕ). front ++ drop (suc n) b) (sym same ∙ front)
    ∙ append_assoc (take n a) (get_or a n 0 ∷ []) (drop (suc n) b) in
    ap (λ (part : List ℕ). part_cmp part b) left
    ∙ ap (part_cmp (take n a ++ get_or a n 0 ∷ drop (suc n) a)) right
    ∙ part_cmp-shared (take n a) (get_or a n 0) (drop (suc n) a) (drop (suc n) b) byte

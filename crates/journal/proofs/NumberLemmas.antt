-- Numbers in their bytes: bytes begin with one number of each size.
use Rattle.std.proofs.Common.{◌≡◌, ℕ, ◌<◌, ◌^◌, List, ◌++◌, length, take, drop, refl, sym, ◌∙◌, ap}
use Rattle.std.specs.Int.{w16, w32, w64, to_be_bytes, from_be_bytes}
use Rattle.std.proofs.lemmas.Nat.{from_be_bytes-to_be_bytes_2, from_be_bytes-to_be_bytes_4, from_be_bytes-to_be_bytes_8}
use Rattle.std.proofs.lemmas.List.{take_at, drop_at}

-- two numbers are one, and two rests
pub record AreOne (m n : ℕ) (x y : List ℕ) : Type 0 where
  pub number : m ≡ n
  pub rest : x ≡ y

pub eight_once : (m n : ℕ) (x y : List ℕ) → m < 2 ^ 64 → n < 2 ^ 64 → to_be_bytes w64 m ++ x ≡ to_be_bytes w64 n ++ y → AreOne m n x y
eight_once m n x y fm fn same =
    let bytes : to_be_bytes w64 m ≡ to_be_bytes w64 n =
    sym (take_at (to_be_bytes w64 m) x 8 refl) ∙ ap (λ (l : List ℕ). take 8 l) same ∙ take_at (to_be_bytes w64 n) y 8 refl in
    record {
      number = sym (from_be_bytes-to_be_bytes_8 m fm) ∙ ap (λ (l : List ℕ). from_be_bytes w64 l) bytes ∙ from_be_bytes-to_be_bytes_8 n fn;
      rest = sym (drop_at (to_be_bytes w64 m) x 8 refl) ∙ ap (λ (l : List ℕ). drop 8 l) same ∙ drop_at (to_be_bytes w64 n) y 8 refl;
    }

pub four_once : (m n : ℕ) (x y : List ℕ) → m < 2 ^ 32 → n < 2 ^ 32 → to_be_bytes w32 m ++ x ≡ to_be_bytes w32 n ++ y → AreOne m n x y
four_once m n x y fm fn same =
    let bytes : to_be_bytes w32 m ≡ to_be_bytes w32 n =
    sym (take_at (to_be_bytes w32 m) x 4 refl) ∙ ap (λ (l : List ℕ). take 4 l) same ∙ take_at (to_be_bytes w32 n) y 4 refl in
    record {
      number = sym (from_be_bytes-to_be_bytes_4 m fm) ∙ ap (λ (l : List ℕ). from_be_bytes w32 l) bytes ∙ from_be_bytes-to_be_bytes_4 n fn;
      rest = sym (drop_at (to_be_bytes w32 m) x 4 refl) ∙ ap (λ (l : List ℕ). drop 4 l) same ∙ drop_at (to_be_bytes w32 n) y 4 refl;
    }

pub two_once : (m n : ℕ) (x y : List ℕ) → m < 2 ^ 16 → n < 2 ^ 16 → to_be_bytes w16 m ++ x ≡ to_be_bytes w16 n ++ y → AreOne m n x y
two_once m n x y fm fn same =
    let bytes : to_be_bytes w16 m ≡ to_be_bytes w16 n =
    sym (take_at (to_be_bytes w16 m) x 2 refl) ∙ ap (λ (l : List ℕ). take 2 l) same ∙ take_at (to_be_bytes w16 n) y 2 refl in
    record {
      number = sym (from_be_bytes-to_be_bytes_2 m fm) ∙ ap (λ (l : List ℕ). from_be_bytes w16 l) bytes ∙ from_be_bytes-to_be_bytes_2 n fn;
      rest = sym (drop_at (to_be_bytes w16 m) x 2 refl) ∙ ap (λ (l : List ℕ). drop 2 l) same ∙ drop_at (to_be_bytes w16 n) y 2 refl;
    }

-- bytes are cut at one place
pub cut_once : (a b x y : List ℕ) → length a ≡ length b → a ++ x ≡ b ++ y → (a ≡ b) × (x ≡ y)
cut_once a b x y sizes same = (
  sym (take_at a x (length a) refl) ∙ ap (λ (l : List ℕ). take (length a) l) same ∙ take_at b y (length a) (sym sizes),
  sym (drop_at a x (length a) refl) ∙ ap (λ (l : List ℕ). drop (length a) l) same ∙ drop_at b y (length a) (sym sizes),
)

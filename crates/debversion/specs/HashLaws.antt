-- Texts of one version feed a hasher alike: the law of `Hash`.
use Rattle.std.proofs.Common.{◌≡◌, ℕ, zero, suc, ◌<◌, true, List, [], ◌∷◌, ◌++◌, length, get_or, refl, sym, ◌∙◌, arith, inl, inr}
use Rattle.std.proofs.lemmas.Bool.{cases_Bool}
use Rattle.std.specs.Char.{is_ascii_digit}
use Rattle.std.specs.Cmp.{Equal-is}
use Rattle.std.specs.FinMap.{nat_cmp-IsAntisymmetric, slice_cmp-IsAntisymmetric}
use Rattle.std.specs.Hash.{Alike, u32}
use Rattle.std.specs.List.{AllPass, flat_map}
use Rattle.std.specs.Ordering.{eq_by_cmp, ordering_then}
use Rattle.std.specs.declared.cmp.Ordering.TheVariants.{Equal}
use Rattle.rules.specs.Version.{Piece, empty_piece, epoch_of, number_cmp, onto_number, onto_piece, onto_word, part_cmp, piece_cmp, pieces_cmp, pieces_of, revision_of, upstream_of, version_cmp}
use Rattle.rules.specs.VersionOrderLaws.{version_cmp-parts}
use Rattle.rules.specs.VersionPieceLaws.{then-first, then-second}
use Rattle.debversion.specs.HashInput.{part_input, piece_input, version_input}
use Rattle.debversion.specs.NumeralLaws.{number_cmp-without_zeros}
use Rattle.debversion.specs.WeightLaws.{word-tied}
use Rattle.debversion.specs.Zeros.{without_zeros}

-- numerals of one value are the same without their zeros
without_zeros-tied : (a b : List ℕ) → AllPass is_ascii_digit a → AllPass is_ascii_digit b → number_cmp a b ≡ Equal
    → without_zeros a ≡ without_zeros b
without_zeros-tied a b all_a all_b tied =
    slice_cmp-IsAntisymmetric nat_cmp-IsAntisymmetric (without_zeros a) (without_zeros b)
    (then-second _ _ (number_cmp-without_zeros a b all_a all_b ∙ tied))

-- the pieces' numbers are written in digits
abbrev HasNumerals : List Piece → Type 0
HasNumerals [] = Unit {0}
HasNumerals (piece ∷ rest) = AllPass is_ascii_digit piece.digits × HasNumerals rest

piece_input-tied : (p q : Piece) → AllPass is_ascii_digit p.digits → AllPass is_ascii_digit q.digits → piece_cmp p q ≡ Equal
    → piece_input p ≡ piece_input q
piece_input-tied p q all_p all_q tied =
    let word = word-tied p.word q.word (then-first _ _ tied) in
    let number = without_zeros-tied p.digits q.digits all_p all_q (then-second _ _ tied) in
    rw (word, number) refl

nothing_written : AllPass is_ascii_digit []
nothing_written k d h = absurd (omega arith)

pieces_input-tied : (ps qs : List Piece) → HasNumerals ps → HasNumerals qs → pieces_cmp ps qs ≡ Equal
    → flat_map piece_input ps ≡ flat_map piece_input qs
pieces_input-tied [] [] all_p all_q tied = refl
pieces_input-tied [] (q ∷ qs) all_p all_q tied = λ i.
    piece_input-tied empty_piece q nothing_written all_q.0 (then-first _ _ tied) i
    ++ pieces_input-tied [] qs all_p all_q.1 (then-second _ _ tied) i
pieces_input-tied (p ∷ ps) [] all_p all_q tied = λ i.
    piece_input-tied p empty_piece all_p.0 nothing_written (then-first _ _ tied) i
    ++ pieces_input-tied ps [] all_p.1 all_q (then-second _ _ tied) i
pieces_input-tied (p ∷ ps) (q ∷ qs) all_p all_q tied = λ i.
    piece_input-tied p q all_p.0 all_q.0 (then-first _ _ tied) i
    ++ pieces_input-tied ps qs all_p.1 all_q.1 (then-second _ _ tied) i

-- one more digit in front
more_digits : (b : ℕ) (digits : List ℕ) → is_ascii_digit b ≡ true → AllPass is_ascii_digit digits → AllPass is_ascii_digit (b ∷ digits)
more_digits b digits first all k d h = elim k as (λ k. k < suc (length digits) → is_ascii_digit (get_or (b ∷ digits) k d) ≡ true) [
  | zero ↦ λ h. first
  | suc k ↦ λ h. all k d (omega arith)
] h

numerals-onto_word : (b : ℕ) (ps : List Piece) → HasNumerals ps → HasNumerals (onto_word b ps)
numerals-onto_word b [] all = (nothing_written, tt)
numerals-onto_word b (p ∷ ps) all = all

numerals-onto_piece : (b : ℕ) (word digits : List ℕ) (ps : List Piece) → is_ascii_digit b ≡ true
    → AllPass is_ascii_digit digits → HasNumerals ps → HasNumerals (onto_piece b word digits ps)
numerals-onto_piece b [] digits ps first all later = (more_digits b digits first all, later)
numerals-onto_piece b (c ∷ word) digits ps first all later = (more_digits b [] first nothing_written, (all, later))

numerals-onto_number : (b : ℕ) (ps : List Piece) → is_ascii_digit b ≡ true → HasNumerals ps → HasNumerals (onto_number b ps)
numerals-onto_number b [] first all = (more_digits b [] first nothing_written, tt)
numerals-onto_number b (p ∷ ps) first all = numerals-onto_piece b p.word p.digits ps first all.0 all.1

numerals-pieces_of : (part : List ℕ) → HasNumerals (pieces_of part)
numerals-pieces_of [] = tt
numerals-pieces_of (b ∷ rest) = elim (cases_Bool (is_ascii_digit b)) [
  | inl digit ↦ rw digit (numerals-onto_number b (pieces_of rest) digit (numerals-pieces_of rest))
  | inr other ↦ rw other (numerals-onto_word b (pieces_of rest) (numerals-pieces_of rest))
]

part_input-tied : (a b : List ℕ) → part_cmp a b ≡ Equal → part_input a ≡ part_input b
part_input-tied a b tied = pieces_input-tied (pieces_of a) (pieces_of b) (numerals-pieces_of a) (numerals-pieces_of b) tied

-- texts of one version feed alike
pub version_input-tied : (v w : List ℕ) → version_cmp v w ≡ Equal → version_input v ≡ version_input w
unfolding version_input
version_input-tied v w tied =
    let e = number_cmp (epoch_of v) (epoch_of w) in
    let u = part_cmp (upstream_of v) (upstream_of w) in
    let r = part_cmp (revision_of v) (revision_of w) in
    let parts : ordering_then e (ordering_then u r) ≡ Equal = sym (version_cmp-parts v w) ∙ tied in
    let rest = then-second e (ordering_then u r) parts in
    let epoch = nat_cmp-IsAntisymmetric _ _ (then-first e (ordering_then u r) parts) in
    λ i. u32 (epoch i)
    ++ (part_input-tied (upstream_of v) (upstream_of w) (then-first u r rest) i
    ++ part_input-tied (revision_of v) (revision_of w) (then-second u r rest) i)

pub version_input-alike : Alike (eq_by_cmp version_cmp) version_input
version_input-alike = record { fed = λ v w same. version_input-tied v w ((Equal-is (version_cmp v w)).0 same) }

-- The order of versions is total, and the same versions compare alike: the proofs, and what other crates cite.
use Rattle.std.proofs.Common.{◌≡◌, ℕ, zero, suc, ◌+◌, ◌≤◌, List, [], ◌∷◌, length, refl, sym, ap, ◌∙◌, arith}
use Rattle.std.specs.Cmp.{IsTotalOrder, alike_right, nat_cmp_total, on_total, tied_back, tied_itself, then_total}
use Rattle.std.specs.Cmp.Lexicographic.{lists_total, nat_list_cmp_total, slice_cmp}
use Rattle.std.specs.Ordering.{ordering_reverse, ordering_then}
use Rattle.std.specs.Str.Parse.{digits_value}
use Rattle.std.specs.declared.cmp.Ordering.TheVariants.{Less, Equal}
use Rattle.rules.specs.Version.{Piece, SameVersion, empty_piece, epoch_of, number_cmp, part_cmp, piece_cmp, pieces_cmp, pieces_of, revision_of, upstream_of, version_cmp, weights_of, word_cmp}
use Rattle.rules.specs.VersionLaws.{SameVersionIsEquivalence, SameVersionsCompareAlike}

pub word_cmp_total : IsTotalOrder word_cmp
word_cmp_total = on_total weights_of nat_list_cmp_total

pub number_cmp_total : IsTotalOrder number_cmp
number_cmp_total = on_total (digits_value 10) nat_cmp_total

pub piece_cmp_total : IsTotalOrder piece_cmp
piece_cmp_total =
    then_total (on_total (λ (piece : Piece). piece.word) word_cmp_total) (on_total (λ (piece : Piece). piece.digits) number_cmp_total)

-- the first n pieces, of which the empty piece follows the last
abbrev padded_to : ℕ → List Piece → List Piece
padded_to zero pieces = []
padded_to (suc n) [] = empty_piece ∷ padded_to n []
padded_to (suc n) (piece ∷ rest) = piece ∷ padded_to n rest

-- two lists of pieces compare as their first n, where neither is longer
pieces_cmp-padded : (n : ℕ) (ps qs : List Piece) → length ps ≤ n → length qs ≤ n
    → pieces_cmp ps qs ≡ slice_cmp piece_cmp (padded_to n ps) (padded_to n qs)
pieces_cmp-padded zero [] [] hp hq = refl
pieces_cmp-padded zero [] (q ∷ qs) hp hq = absurd (omega arith)
pieces_cmp-padded zero (p ∷ ps) qs hp hq = absurd (omega arith)
pieces_cmp-padded (suc n) [] [] hp hq = pieces_cmp-padded n [] [] (omega arith) (omega arith)
pieces_cmp-padded (suc n) [] (q ∷ qs) hp hq =
    ap (ordering_then (piece_cmp empty_piece q)) (pieces_cmp-padded n [] qs (omega arith) (omega arith))
pieces_cmp-padded (suc n) (p ∷ ps) [] hp hq =
    ap (ordering_then (piece_cmp p empty_piece)) (pieces_cmp-padded n ps [] (omega arith) (omega arith))
pieces_cmp-padded (suc n) (p ∷ ps) (q ∷ qs) hp hq =
    ap (ordering_then (piece_cmp p q)) (pieces_cmp-padded n ps qs (omega arith) (omega arith))

padded_total : IsTotalOrder (slice_cmp piece_cmp)
padded_total = lists_total piece_cmp_total

pub pieces_cmp_total : IsTotalOrder pieces_cmp
pieces_cmp_total = record {
  antisymm = λ x y.
      let n = length x + length y in
      pieces_cmp-padded n x y (omega arith) (omega arith)
      ∙ padded_total.antisymm (padded_to n x) (padded_to n y)
      ∙ sym (ap ordering_reverse (pieces_cmp-padded n y x (omega arith) (omega arith)));
  trans = λ x y z p q.
      let n = length x + length y + length z in
      pieces_cmp-padded n x z (omega arith) (omega arith)
      ∙ padded_total.trans (padded_to n x) (padded_to n y) (padded_to n z)
      (sym (pieces_cmp-padded n x y (omega arith) (omega arith)) ∙ p)
      (sym (pieces_cmp-padded n y z (omega arith) (omega arith)) ∙ q);
  congr = λ x y z p.
      let n = length x + length y + length z in
      pieces_cmp-padded n x z (omega arith) (omega arith)
      ∙ padded_total.congr (padded_to n x) (padded_to n y) (padded_to n z)
      (sym (pieces_cmp-padded n x y (omega arith) (omega arith)) ∙ p)
      ∙ sym (pieces_cmp-padded n y z (omega arith) (omega arith));
}

pub part_cmp_total : IsTotalOrder part_cmp
part_cmp_total = on_total pieces_of pieces_cmp_total

pub version_cmp_total : IsTotalOrder version_cmp
unfolding version_cmp
version_cmp_total =
    then_total (on_total epoch_of number_cmp_total) (then_total (on_total upstream_of part_cmp_total) (on_total revision_of part_cmp_total))

-- the order of two versions, part by part
pub version_cmp-parts : (v w : List ℕ) → version_cmp v w
    ≡ ordering_then (number_cmp (epoch_of v) (epoch_of w))
    (ordering_then (part_cmp (upstream_of v) (upstream_of w)) (part_cmp (revision_of v) (revision_of w)))
unfolding version_cmp
version_cmp-parts v w = refl

pub version_cmp-refl : (v : List ℕ) → version_cmp v v ≡ Equal
version_cmp-refl v = tied_itself version_cmp_total v

pub version_cmp-antisymm : (v w : List ℕ) → version_cmp v w ≡ ordering_reverse (version_cmp w v)
version_cmp-antisymm v w = version_cmp_total.antisymm v w

pub version_cmp-trans : (u v w : List ℕ) → version_cmp u v ≡ Less → version_cmp v w ≡ Less → version_cmp u w ≡ Less
version_cmp-trans u v w p q = version_cmp_total.trans u v w p q

-- another text of the first version
pub version_cmp-same_left : (v v' w : List ℕ) → SameVersion v v' → version_cmp v w ≡ version_cmp v' w
version_cmp-same_left v v' w e = version_cmp_total.congr v v' w e

-- another text of the second version
pub version_cmp-same_right : (v w w' : List ℕ) → SameVersion w w' → version_cmp v w ≡ version_cmp v w'
version_cmp-same_right v w w' e = alike_right version_cmp_total w w' v e

pub version_cmp-same : SameVersionsCompareAlike
version_cmp-same v v' w w' e f = version_cmp-same_left v v' w e ∙ version_cmp-same_right v' w w' f

pub SameVersion-refl : (v : List ℕ) → SameVersion v v
SameVersion-refl v = version_cmp-refl v

pub SameVersion-symm : (v w : List ℕ) → SameVersion v w → SameVersion w v
SameVersion-symm v w e = tied_back version_cmp_total v w e

pub SameVersion-trans : (u v w : List ℕ) → SameVersion u v → SameVersion v w → SameVersion u w
SameVersion-trans u v w e f = version_cmp-same_left u v w e ∙ f

pub same_version_equivalence : SameVersionIsEquivalence
same_version_equivalence = record { reflexive = SameVersion-refl; symmetric = SameVersion-symm; transitive = SameVersion-trans }

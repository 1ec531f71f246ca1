-- Two parts compare at the first place at which their endless pieces differ: the proof.
use Rattle.std.proofs.Common.{◌≡◌, ◌≢◌, ℕ, zero, suc, ◌<◌, List, [], ◌∷◌, get_or, refl, sym, ap, ◌∙◌, arith}
use Rattle.std.specs.Ordering.{ordering_then}
use Rattle.std.specs.declared.cmp.Ordering.{Ordering}
use Rattle.std.specs.declared.cmp.Ordering.TheVariants.{Less, Equal, Greater}
use Rattle.rules.specs.Version.{Piece, empty_piece, part_cmp, piece_cmp, pieces_cmp, pieces_of}
use Rattle.rules.specs.VersionLaws.{FirstDifferenceDecides}

-- the piece at place i, without end
abbrev pub place : List Piece → ℕ → Piece
place pieces i = get_or pieces i empty_piece

-- all pieces but the first
abbrev pub later : List Piece → List Piece
later [] = []
later (piece ∷ rest) = rest

-- the order of the pieces at place i
abbrev pub places_cmp : List Piece → List Piece → ℕ → Ordering
places_cmp ps qs i = piece_cmp (place ps i) (place qs i)

-- lists of pieces compare by their first pieces and then by the others, also where there is none
pub pieces_cmp-later : (ps qs : List Piece) → pieces_cmp ps qs ≡ ordering_then (places_cmp ps qs 0) (pieces_cmp (later ps) (later qs))
pieces_cmp-later [] [] = refl
pieces_cmp-later [] (q ∷ qs) = refl
pieces_cmp-later (p ∷ ps) [] = refl
pieces_cmp-later (p ∷ ps) (q ∷ qs) = refl

place-suc : (ps : List Piece) (i : ℕ) → place ps (suc i) ≡ place (later ps) i
place-suc [] i = refl
place-suc (p ∷ ps) i = refl

places_cmp-suc : (ps qs : List Piece) (i : ℕ) → places_cmp ps qs (suc i) ≡ places_cmp (later ps) (later qs) i
places_cmp-suc ps qs i = rw (place-suc ps i, place-suc qs i) refl

-- what a first order that is not equal says of the whole, and what an equal whole says of both
then-differs : (o r : Ordering) → o ≢ Equal → ordering_then o r ≡ o
then-differs Less r d = refl
then-differs Equal r d = absurd (d refl)
then-differs Greater r d = refl

pub then-first : (o r : Ordering) → ordering_then o r ≡ Equal → o ≡ Equal
then-first Less r e = e
then-first Equal r e = refl
then-first Greater r e = e

pub then-second : (o r : Ordering) → ordering_then o r ≡ Equal → r ≡ Equal
then-second Less r e = cc e
then-second Equal r e = e
then-second Greater r e = cc e

all_agree : (i : ℕ) (ps qs : List Piece) → pieces_cmp ps qs ≡ Equal → places_cmp ps qs i ≡ Equal
all_agree zero ps qs e = then-first _ _ (sym (pieces_cmp-later ps qs) ∙ e)
all_agree (suc i) ps qs e =
    places_cmp-suc ps qs i ∙ all_agree i (later ps) (later qs) (then-second _ _ (sym (pieces_cmp-later ps qs) ∙ e))

first_decides : (i : ℕ) (ps qs : List Piece) → ((k : ℕ) → k < i → places_cmp ps qs k ≡ Equal) → places_cmp ps qs i ≢ Equal
    → pieces_cmp ps qs ≡ places_cmp ps qs i
first_decides zero ps qs agree differ = pieces_cmp-later ps qs ∙ then-differs _ _ differ
first_decides (suc i) ps qs agree differ =
    pieces_cmp-later ps qs
    ∙ ap (λ o. ordering_then o (pieces_cmp (later ps) (later qs))) (agree 0 (omega arith))
    ∙ first_decides i (later ps) (later qs)
    (λ k h. sym (places_cmp-suc ps qs k) ∙ agree (suc k) (omega arith))
    (λ e. differ (places_cmp-suc ps qs i ∙ e))
    ∙ sym (places_cmp-suc ps qs i)

-- the first place at which two lists of pieces differ
record Differs (ps qs : List Piece) : Type 0 where
  at : ℕ
  agree : (k : ℕ) → k < at → places_cmp ps qs k ≡ Equal
  differ : places_cmp ps qs at ≢ Equal

-- one more place before, at which they agree
one_later : (ps qs : List Piece) → places_cmp ps qs 0 ≡ Equal → Differs (later ps) (later qs) → Differs ps qs
one_later ps qs e d = record {
  at = suc d.at;
  agree = λ k h. elim k as (λ k. k < suc d.at → places_cmp ps qs k ≡ Equal) [
    | zero ↦ λ h. e
    | suc k ↦ λ h. places_cmp-suc ps qs k ∙ d.agree k (omega arith)
  ] h;
  differ = λ f. d.differ (sym (places_cmp-suc ps qs d.at) ∙ f);
}

-- the first pieces differ, or else the later ones do
first_or_later : (ps qs : List Piece) (o : Ordering) → places_cmp ps qs 0 ≡ o → pieces_cmp ps qs ≢ Equal
    → (pieces_cmp (later ps) (later qs) ≢ Equal → Differs (later ps) (later qs)) → Differs ps qs
first_or_later ps qs Less e d others = record { at = 0; agree = λ k h. absurd (omega arith); differ = λ f. cc (e, f) }
first_or_later ps qs Equal e d others =
    one_later ps qs e (others (λ f. d (pieces_cmp-later ps qs ∙ ap (λ o. ordering_then o (pieces_cmp (later ps) (later qs))) e ∙ f)))
first_or_later ps qs Greater e d others = record { at = 0; agree = λ k h. absurd (omega arith); differ = λ f. cc (e, f) }

some_differ : (ps qs : List Piece) → pieces_cmp ps qs ≢ Equal → Differs ps qs
some_differ [] [] d = absurd (d refl)
some_differ [] (q ∷ qs) d = first_or_later [] (q ∷ qs) _ refl d (some_differ [] qs)
some_differ (p ∷ ps) [] d = first_or_later (p ∷ ps) [] _ refl d (some_differ ps [])
some_differ (p ∷ ps) (q ∷ qs) d = first_or_later (p ∷ ps) (q ∷ qs) _ refl d (some_differ ps qs)

-- an order that is nowhere different is equal
equal_or_not : (o : Ordering) → (o ≢ Equal → o ≡ Equal) → o ≡ Equal
equal_or_not Less f = f (λ e. cc e)
equal_or_not Equal f = refl
equal_or_not Greater f = f (λ e. cc e)

pub first_difference_decides : (a b : List ℕ) → FirstDifferenceDecides a b
first_difference_decides a b = record {
  equal = (
    λ e i. all_agree i (pieces_of a) (pieces_of b) e,
    λ agree. equal_or_not (part_cmp a b) (λ d. let difference = some_differ (pieces_of a) (pieces_of b) d in absurd (difference.differ (agree difference.at))),
  );
  decides = λ i first. first_decides i (pieces_of a) (pieces_of b) first.agree first.differ;
  difference = λ d. let difference = some_differ (pieces_of a) (pieces_of b) d in (difference.at, record { agree = difference.agree; differ = difference.differ });
}

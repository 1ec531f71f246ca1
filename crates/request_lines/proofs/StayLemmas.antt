-- One line after another stays, or doesn't.
use Rattle.std.proofs.Common.{◌≡◌, ◌∙◌, ℕ, zero, suc, ◌+◌, ◌<◌, Bool, true, false, List, [], ◌∷◌, ◌++◌, length, ap, arith, refl, sym, take}
use Rattle.std.specs.List.{slice_index_or}
use Rattle.std.proofs.lemmas.List.{append-nil, get_or-map}
use Rattle.std.proofs.lemmas.Grind.{flat_map-append}
use Rattle.request_lines.specs.Spelled.{lines_in, staying, stays_at, text_of}
use Rattle.request_lines.specs.declared.wish.Wish.{Wish}

-- the line, where it stays
abbrev pub if_it_stays : Bool → List ℕ → List (List ℕ)
if_it_stays true line = line ∷ []
if_it_stays false line = []

-- what stays of one line more
pub stays-more : (lines : List (List ℕ)) (stays : List Bool) (place : ℕ) → place < length lines
    → staying (take (suc place) lines) stays
    ≡ staying (take place lines) stays ++ if_it_stays (stays_at stays place) (slice_index_or lines place [])
stays-more [] stays place within = absurd (omega (arith, within))
stays-more (line ∷ lines) [] zero within = refl
stays-more (line ∷ lines) [] (suc place) within = ap (λ (ls : List (List ℕ)). line ∷ ls) (stays-more lines [] place (omega (arith, within)))
stays-more (line ∷ lines) (true ∷ stays) zero within = refl
stays-more (line ∷ lines) (false ∷ stays) zero within = refl
stays-more (line ∷ lines) (true ∷ stays) (suc place) within =
    ap (λ (ls : List (List ℕ)). line ∷ ls) (stays-more lines stays place (omega (arith, within)))
stays-more (line ∷ lines) (false ∷ stays) (suc place) within = stays-more lines stays place (omega (arith, within))

-- what a line adds to a text, where it stays
abbrev pub text_if : Bool → List ℕ → List ℕ
text_if true line = line ++ 10 ∷ []
text_if false line = []

-- the text of the line, where it stays
text-of-one : (stays : Bool) (line : List ℕ) → text_of (if_it_stays stays line) ≡ text_if stays line
text-of-one true line = append-nil (line ++ 10 ∷ [])
text-of-one false line = refl

-- the text of what stays of one line more
pub text-more : (lines : List (List ℕ)) (stays : List Bool) (place : ℕ) (stay : Bool) (old new : List ℕ) → place < length lines
    → stays_at stays place ≡ stay → new ≡ old ++ text_if stay (slice_index_or lines place [])
    → old ≡ text_of (staying (take place lines) stays) → new ≡ text_of (staying (take (place + 1) lines) stays)
text-more lines stays place stay old new within is more so_far =
    more ∙ ap (λ (text : List ℕ). text ++ text_if stay (slice_index_or lines place [])) so_far
    ∙ ap (λ (text : List ℕ). text_of (staying (take place lines) stays) ++ text) (sym (text-of-one stay (slice_index_or lines place [])))
    ∙ sym (flat_map-append (λ (line : List ℕ). line ++ 10 ∷ []) (staying (take place lines) stays) (if_it_stays stay (slice_index_or lines place [])))
    ∙ ap text_of (sym whole)
  where
    next : place + 1 ≡ suc place
    next = omega arith

    whole : staying (take (place + 1) lines) stays ≡ staying (take place lines) stays ++ if_it_stays stay (slice_index_or lines place [])
    whole = ap (λ (n : ℕ). staying (take n lines) stays) next ∙ stays-more lines stays place within
        ∙ ap (λ (b : Bool). staying (take place lines) stays ++ if_it_stays b (slice_index_or lines place [])) is

-- the line of the wish at a place
pub line-at : (wishes : List Wish) (place : ℕ) (wish : Wish) → place < length wishes → wish ≡ slice_index_or wishes place wish
    → slice_index_or (lines_in wishes) place [] ≡ wish.text
line-at wishes place wish within is = get_or-map (λ (w : Wish). w.text) wishes place wish [] within ∙ ap (λ (w : Wish). w.text) (sym is)

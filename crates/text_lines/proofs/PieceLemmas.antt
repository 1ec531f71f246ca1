-- A piece ends where `memchr` finds the first newline, or is all where it finds none.
use Rattle.std.proofs.Common.{◌≡◌, ℕ, ◌<◌, ◌+◌, true, false, true≢false, List, ◌∷◌, ◌++◌, length, get_or, take, drop, refl, sym, ap, ◌∙◌, arith, None, Some}
use Rattle.std.proofs.lemmas.Bool.{eq-eqb, eqb-true}
use Rattle.std.proofs.lemmas.List.{append-nil, drop_all, drop_more, get_or_default, get_or-take, length-take-le, take-append-drop}
use Rattle.memchr.specs.Find.{IsFirstByte, is_byte}
use Rattle.text_lines.specs.Piece.{IsPiece}

-- where the first newline stands, the piece ends
pub IsPiece-at : (bytes : List ℕ) (place : ℕ) → IsFirstByte (is_byte 10) bytes (Some place) → IsPiece bytes (take place bytes) true
IsPiece-at bytes place first_newline =
    let fits : place < length bytes = first_newline.0.high in
    let here : get_or bytes place 0 ≡ 10 = eqb-true (get_or bytes place 0) 10 first_newline.1 in
    let size : length (take place bytes) ≡ place = length-take-le place bytes (omega (arith, fits)) in
    let joined : bytes ≡ take place bytes ++ drop place bytes = sym (take-append-drop place bytes) in
    let newline : drop place bytes ≡ 10 ∷ drop (place + 1) bytes = drop_more bytes place 0 fits ∙ ap (λ b. b ∷ drop (place + 1) bytes) here in
    record {
      plain = λ k d low is.
          let lower : k < place = omega (arith, low, size) in
          first_newline.0.before k (omega arith) lower (eq-eqb (get_or bytes k 0) 10 (get_or_default bytes k 0 d (omega (arith, lower, fits)) ∙ sym (get_or-take place bytes k d lower) ∙ is));
      whole = λ _. joined ∙ ap (λ rest. take place bytes ++ rest) newline ∙ ap (λ n. take place bytes ++ 10 ∷ drop (n + 1) bytes) (sym size);
      all = joined ∙ ap (λ n. take place bytes ++ drop n bytes) (sym size);
      open_end = λ is. absurd (true≢false is);
    }

-- bytes without a newline are a piece
pub IsPiece-all : (bytes : List ℕ) → IsFirstByte (is_byte 10) bytes None → IsPiece bytes bytes false
IsPiece-all bytes none = record {
  plain = λ k d low is. none k (omega arith) low (eq-eqb (get_or bytes k 0) 10 (get_or_default bytes k 0 d low ∙ is));
  whole = λ is. absurd (true≢false (sym is));
  all = sym (append-nil bytes) ∙ ap (λ rest. bytes ++ rest) (sym (drop_all (length bytes) bytes (omega arith)));
  open_end = λ _. refl;
}

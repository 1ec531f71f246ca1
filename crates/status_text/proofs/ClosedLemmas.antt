-- A newline that is added at the end of a stanza's bytes goes onto its last line, and changes no name and no value.
use Rattle.std.proofs.Common.{◌≡◌, ℕ, ◌+◌, Bool, true, false, ◌&&◌, ◌||◌, List, [], ◌∷◌, ◌++◌, length, map, refl, sym, ap, subst, ◌∙◌, append-nil, eqb, inl, inr}
use Rattle.std.proofs.lemmas.Bool.{false≢true, cases_Bool}
use Rattle.std.specs.List.{concat, flat_map, after_first, onto_first, AllByRecursion}
use Rattle.rules.specs.Stanza.{Field}
use Rattle.stanza.specs.declared.form.Form.TheVariants.{Plain}
use Rattle.stanza.specs.declared.names.TheConstants.{COLON}
use Rattle.stanza.specs.Line.{lines_of, is_white, is_separator, is_continuation}
use Rattle.stanza.specs.Field.{is_colon, name_of, value_of, without_newline, trim_front, trim_end}
use Rattle.stanza.specs.File.{Piece, Comment, Group, lines_of_piece, IsPiece, IsFieldLine, fields_in}
use Rattle.stanza.proofs.LineLemmas.{lines_of-head}
use Rattle.stanza.proofs.StanzaLemmas.{NoSeparators}
use Rattle.relation.specs.PackageStanza.{field_of}
use Rattle.status_text.specs.Spelling.{closed}
use Rattle.status_text.proofs.MoreLemmas.{white-plain}
use Rattle.status_text.proofs.ValueLemmas.{without_newline-closed}
use Rattle.status_text.proofs.NameLemmas.{line-joined, name_of-line, rest_of-line, field_line, is_comment-plain}
use Rattle.status_text.proofs.FieldLemmas.{Continue}

-- ---- lines

-- the last line with its newline
pub close_last : List (List ℕ) → List (List ℕ)
close_last [] = []
close_last (line ∷ []) = closed line ∷ []
close_last (line ∷ next ∷ lines) = line ∷ close_last (next ∷ lines)

pub closed-append : (front : List ℕ) (b : ℕ) (bs : List ℕ) → closed (front ++ b ∷ bs) ≡ front ++ closed (b ∷ bs)
closed-append [] b bs = refl
closed-append (x ∷ []) b bs = refl
closed-append (x ∷ y ∷ front) b bs = ap (λ t. x ∷ t) (closed-append (y ∷ front) b bs)

-- the lines of a text with its last newline
pub lines_of-closed : (b : ℕ) (bs : List ℕ) → lines_of (closed (b ∷ bs)) ≡ close_last (lines_of (b ∷ bs))
unfolding close_last
lines_of-closed b [] = elim (cases_Bool (eqb b 10)) [
  | inl h ↦ rw h (rw h refl)
  | inr h ↦ rw h (rw h refl)
]
lines_of-closed b (c ∷ bs) =
    let first = lines_of-head c bs in
    let later : lines_of (closed (c ∷ bs)) ≡ close_last ((c ∷ first.0) ∷ first.1) = lines_of-closed c bs ∙ ap close_last first.2 in
    elim (cases_Bool (eqb b 10)) [
      | inl h ↦ rw (h, later, first.2) refl
      | inr h ↦ rw (h, later, first.2) (go first.0 first.1)
    ] where
      go : (line : List ℕ) (lines : List (List ℕ)) → onto_first b (close_last ((c ∷ line) ∷ lines)) ≡ close_last ((b ∷ c ∷ line) ∷ lines)
      go line [] = refl
      go line (next ∷ lines) = refl

close_last-append : (a : List (List ℕ)) (line : List ℕ) (lines : List (List ℕ)) → close_last (a ++ line ∷ lines) ≡ a ++ close_last (line ∷ lines)
unfolding close_last
close_last-append [] line lines = refl
close_last-append (x ∷ []) line lines = refl
close_last-append (x ∷ y ∷ a) line lines = ap (λ ls. x ∷ ls) (close_last-append (y ∷ a) line lines)

-- a closed line is a separator or a continuation where it was one
is_separator-closed : (line : List ℕ) → is_separator (closed line) ≡ is_separator line
is_separator-closed [] = refl
is_separator-closed (b ∷ []) = elim (cases_Bool (eqb b 10)) [
  | inl h ↦ rw h (go (is_white b))
  | inr h ↦ rw h (rw h refl)
] where
  go : (w : Bool) → true ≡ ((w || true) && true)
  go true = refl
  go false = refl
is_separator-closed (b ∷ c ∷ bs) = ap (λ x. (is_white b || eqb b 10) && x) (is_separator-closed (c ∷ bs))

is_continuation-closed : (line : List ℕ) → is_continuation line ≡ true → is_continuation (closed line) ≡ true
is_continuation-closed [] continues = absurd (false≢true continues)
is_continuation-closed (b ∷ []) continues = rw (white-plain b continues) continues
is_continuation-closed (b ∷ c ∷ bs) continues = continues

pub NoSeparators-closed : (lines : List (List ℕ)) → NoSeparators lines → NoSeparators (close_last lines)
unfolding close_last
NoSeparators-closed [] inside = tt
NoSeparators-closed (line ∷ []) inside = (is_separator-closed line ∙ inside.0, tt)
NoSeparators-closed (line ∷ next ∷ lines) inside = (inside.0, NoSeparators-closed (next ∷ lines) inside.1)

Continue-closed : (lines : List (List ℕ)) → Continue lines → Continue (close_last lines)
unfolding close_last
Continue-closed [] continue = tt
Continue-closed (line ∷ []) continue = (is_continuation-closed line continue.0, tt)
Continue-closed (line ∷ next ∷ lines) continue = (continue.0, Continue-closed (next ∷ lines) continue.1)

-- ---- values

-- continuations joined, of which the last is closed
concat-closed : (line : List ℕ) (lines : List (List ℕ)) → Continue (line ∷ lines) → concat (close_last (line ∷ lines)) ≡ closed (concat (line ∷ lines))
unfolding close_last
concat-closed line [] continue = append-nil (closed line) ∙ ap closed (sym (append-nil line))
concat-closed line (next ∷ lines) continue =
    ap (λ x. line ++ x) (concat-closed next lines continue.1) ∙ go next continue.1.0 where
      go : (next : List ℕ) → is_continuation next ≡ true → line ++ closed (next ++ concat lines) ≡ closed (line ++ (next ++ concat lines))
      go [] continues = absurd (false≢true continues)
      go (b ∷ bs) continues = sym (closed-append line b (bs ++ concat lines))

without_newline-more : (front line : List ℕ) (lines : List (List ℕ)) → Continue (line ∷ lines) → without_newline (front ++ concat (close_last (line ∷ lines))) ≡ without_newline (front ++ concat (line ∷ lines))
without_newline-more front line lines continue =
    ap (λ x. without_newline (front ++ x)) (concat-closed line lines continue) ∙ go line continue.0 where
      go : (line : List ℕ) → is_continuation line ≡ true → without_newline (front ++ closed (line ++ concat lines)) ≡ without_newline (front ++ (line ++ concat lines))
      go [] continues = absurd (false≢true continues)
      go (b ∷ bs) continues =
          ap without_newline (sym (closed-append front b (bs ++ concat lines))) ∙ without_newline-closed (front ++ b ∷ (bs ++ concat lines))

-- the line of a field is closed behind its colon
closed-line : (line : List ℕ) → IsFieldLine Plain line → closed line ≡ name_of line ++ COLON ∷ closed (after_first is_colon line)
closed-line line is = ap closed (line-joined line is.colon) ∙ closed-append (name_of line) COLON (after_first is_colon line) ∙ ap (λ x. name_of line ++ x) (go (after_first is_colon line)) where
  go : (rest : List ℕ) → closed (COLON ∷ rest) ≡ COLON ∷ closed rest
  go [] = refl
  go (b ∷ bs) = refl

name_of-closed : (line : List ℕ) → IsFieldLine Plain line → name_of (closed line) ≡ name_of line
name_of-closed line is = ap name_of (closed-line line is) ∙ name_of-line (name_of line) (closed (after_first is_colon line)) is.name

value_of-closed : (line : List ℕ) → IsFieldLine Plain line → value_of (closed line) [] ≡ value_of line []
value_of-closed line is =
    let rest = after_first is_colon line in
    let bytes : without_newline (after_first is_colon (closed line) ++ []) ≡ without_newline (rest ++ []) =
    ap (λ x. without_newline (after_first is_colon x ++ [])) (closed-line line is)
    ∙ ap (λ x. without_newline (x ++ [])) (rest_of-line (name_of line) (closed rest) is.name)
    ∙ ap without_newline (append-nil (closed rest))
    ∙ without_newline-closed rest
    ∙ ap without_newline (sym (append-nil rest)) in
    ap (λ x. trim_end (trim_front x)) bytes

-- ---- pieces

close_piece : Piece → Piece
close_piece (Comment line) = Comment (closed line)
close_piece (Group line []) = Group (closed line) []
close_piece (Group line (next ∷ more)) = Group line (close_last (next ∷ more))

pub close_pieces : List Piece → List Piece
close_pieces [] = []
close_pieces (piece ∷ []) = close_piece piece ∷ []
close_pieces (piece ∷ next ∷ pieces) = piece ∷ close_pieces (next ∷ pieces)

some-lines : (piece : Piece) (pieces : List Piece) → (line : List ℕ) × (lines : List (List ℕ)) × (flat_map lines_of_piece (piece ∷ pieces) ≡ line ∷ lines)
some-lines (Comment line) pieces = (line, flat_map lines_of_piece pieces, refl)
some-lines (Group line more) pieces = (line, more ++ flat_map lines_of_piece pieces, refl)

pub lines-closed : (pieces : List Piece) → close_last (flat_map lines_of_piece pieces) ≡ flat_map lines_of_piece (close_pieces pieces)
unfolding close_last close_piece close_pieces
lines-closed [] = refl
lines-closed (Comment line ∷ []) = refl
lines-closed (Group line [] ∷ []) = refl
lines-closed (Group line (next ∷ more) ∷ []) =
    ap (λ ls. line ∷ close_last ls) (append-nil (next ∷ more)) ∙ ap (λ ls. line ∷ ls) (sym (append-nil (close_last (next ∷ more))))
lines-closed (piece ∷ next ∷ pieces) =
    let some = some-lines next pieces in
    let rest = flat_map lines_of_piece (next ∷ pieces) in
    ap (λ ls. close_last (lines_of_piece piece ++ ls)) some.2
    ∙ close_last-append (lines_of_piece piece) some.0 some.1
    ∙ ap (λ ls. lines_of_piece piece ++ close_last ls) (sym some.2)
    ∙ ap (λ ls. lines_of_piece piece ++ ls) (lines-closed (next ∷ pieces))

pub each-closed : (pieces : List Piece) → AllByRecursion (IsPiece Plain) pieces → AllByRecursion (IsPiece Plain) (close_pieces pieces)
unfolding close_piece close_pieces
each-closed [] each = tt
each-closed (Comment line ∷ []) each = absurd (false≢true (sym (is_comment-plain line) ∙ each.0))
each-closed (Group line [] ∷ []) each =
    ((subst (IsFieldLine Plain) (sym (closed-line line each.0.0)) (field_line (name_of line) (closed (after_first is_colon line)) each.0.0.name), tt), tt)
each-closed (Group line (next ∷ more) ∷ []) each = ((each.0.0, Continue-closed (next ∷ more) each.0.1), tt)
each-closed (piece ∷ next ∷ pieces) each = (each.0, each-closed (next ∷ pieces) each.1)

-- the fields are what they were
pub fields-closed : (n : ℕ) (pieces : List Piece) → AllByRecursion (IsPiece Plain) pieces → map field_of (fields_in n (close_pieces pieces)) ≡ map field_of (fields_in n pieces)
unfolding close_piece close_pieces
fields-closed n [] each = refl
fields-closed n (Comment line ∷ []) each = refl
fields-closed n (Group line [] ∷ []) each =
    ap (λ name. record { name = name; value = value_of (closed line) [] } ∷ []) (name_of-closed line each.0.0)
    ∙ ap (λ value. record { name = name_of line; value = value } ∷ []) (value_of-closed line each.0.0)
fields-closed n (Group line (next ∷ more) ∷ []) each =
    ap (λ bytes. record { name = name_of line; value = trim_end (trim_front bytes) } ∷ []) (without_newline-more (after_first is_colon line) next more each.0.1)
fields-closed n (Comment line ∷ next ∷ pieces) each = fields-closed (n + 1) (next ∷ pieces) each.1
fields-closed n (Group line more ∷ next ∷ pieces) each =
    ap (λ (fs : List Field). record { name = name_of line; value = value_of line (concat more) } ∷ fs) (fields-closed (n + 1 + length more) (next ∷ pieces) each.1)

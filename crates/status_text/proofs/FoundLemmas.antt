-- The fields of a stanza that was read can be written.
use Rattle.std.proofs.Common.{◌≡◌, ℕ, ◌+◌, ◌<◌, Bool, true, false, not, List, [], ◌∷◌, ◌++◌, length, map, refl, sym, ap, subst, ◌∙◌, arith, append_assoc, Some, Ok}
use Rattle.std.specs.Prelude.{Contains}
use Rattle.std.proofs.lemmas.Bool.{false≢true, and_from, not_from_false}
use Rattle.std.specs.List.{list_all, concat, flat_map, after_first, AllByRecursion}
use Rattle.rules.specs.Stanza.{Field}
use Rattle.stanza.specs.declared.form.Form.{Form}
use Rattle.stanza.specs.declared.form.Form.TheVariants.{Plain}
use Rattle.stanza.specs.declared.names.TheConstants.{COLON}
use Rattle.stanza.specs.Line.{lines_of, is_separator, is_continuation}
use Rattle.stanza.specs.Field.{is_colon, name_of, value_of, without_newline, fields_of}
use Rattle.stanza.specs.Stanza.{StanzaText, stanza_of, stanza_in, items_of}
use Rattle.stanza.specs.File.{Piece, Comment, Group, lines_of_piece, IsPiece, IsFieldLine, AreDistinct, Groups, fields_in}
use Rattle.stanza.proofs.StanzaLemmas.{NoSeparators}
use Rattle.stanza.proofs.GroupLemmas.{fields_of-pieces, Groups-from_clean}
use Rattle.stanza.proofs.AloneLemmas.{AreLines, AreLines-front, lines_of-concat, Alone, alone-from_items}
use Rattle.relation.specs.PackageStanza.{field_of}
use Rattle.status_text.specs.Writable.{is_more, behind_first, IsWritable, AreWritable}
use Rattle.status_text.proofs.LineLemmas.{behind_first-plain}
use Rattle.status_text.proofs.TrimLemmas.{trim-twice}
use Rattle.status_text.proofs.ValueLemmas.{more_lines-trimmed}
use Rattle.status_text.proofs.NameLemmas.{name-plain, line-joined, is_comment-plain}
use Rattle.status_text.proofs.FieldLemmas.{Continue}
use Rattle.status_text.proofs.StanzaLemmas.{name_in}
use Rattle.status_text.proofs.ReadLemmas.{names-shown}

more-from_Continue : (lines : List (List ℕ)) → Continue lines → NoSeparators lines → list_all is_more lines ≡ true
more-from_Continue [] continue inside = refl
more-from_Continue (line ∷ lines) continue inside =
    and_from (is_more line) (list_all is_more lines)
    (and_from (is_continuation line) (not (is_separator line)) continue.0 (not_from_false (is_separator line) inside.0))
    (more-from_Continue lines continue.1 inside.1)

AreLines-back : (a b : List (List ℕ)) → AreLines (a ++ b) → AreLines b
unfolding AreLines
AreLines-back [] b are = are
AreLines-back (line ∷ a) b are = AreLines-back a b are.2

NoSeparators-parts : (a b : List (List ℕ)) → NoSeparators (a ++ b) → NoSeparators a × NoSeparators b
NoSeparators-parts [] b inside = (tt, inside)
NoSeparators-parts (line ∷ a) b inside = let both = NoSeparators-parts a b inside.1 in ((inside.0, both.0), both.1)

-- the field of a line and its continuations
field-found : (line : List ℕ) (more : List (List ℕ)) → IsFieldLine Plain line → Continue more → NoSeparators more → AreLines (line ∷ more) → IsWritable (record { name = name_of line; value = value_of line (concat more) })
field-found line more is continue inside are =
    let rest = after_first is_colon line in
    let name = name_of line in
    let joined : line ++ concat more ≡ name ++ COLON ∷ (rest ++ concat more) =
    ap (λ x. x ++ concat more) (line-joined line is.colon) ∙ append_assoc name (COLON ∷ rest) (concat more) in
    let behind : behind_first (lines_of (rest ++ concat more)) ≡ more =
    sym (behind_first-plain (COLON ∷ []) (rest ++ concat more) (refl, tt))
    ∙ sym (behind_first-plain name (COLON ∷ (rest ++ concat more)) (name-plain name is.name))
    ∙ sym (ap (λ x. behind_first (lines_of x)) joined)
    ∙ ap behind_first (lines_of-concat (line ∷ more) are) in
    record {
      name = is.name;
      trimmed = trim-twice (without_newline (rest ++ concat more));
      lines = more_lines-trimmed (rest ++ concat more) ∙ ap (list_all is_more) behind ∙ more-from_Continue more continue inside;
    }

fields-found : (n : ℕ) (pieces : List Piece) → AllByRecursion (IsPiece Plain) pieces → AreLines (flat_map lines_of_piece pieces) → NoSeparators (flat_map lines_of_piece pieces) → AllByRecursion IsWritable (map field_of (fields_in n pieces))
fields-found n [] each are inside = tt
fields-found n (Comment line ∷ pieces) each are inside = fields-found (n + 1) pieces each.1 (AreLines-back (line ∷ []) (flat_map lines_of_piece pieces) are) inside.1
fields-found n (Group line more ∷ pieces) each are inside =
    let rest = flat_map lines_of_piece pieces in
    let both = NoSeparators-parts (line ∷ more) rest inside in (
      field-found line more each.0.0 each.0.1 both.0.1 (AreLines-front (line ∷ more) rest are),
      fields-found (n + 1 + length more) pieces each.1 (AreLines-back (line ∷ more) rest are) both.1,
    )

-- ---- a stanza of a text

-- its lines in pieces
pub record IsFound (stanza : StanzaText) : Type 0 where
  pub alone : Alone Plain stanza
  pub some : 0 < length alone.lines
  pub pieces : List Piece
  pub groups : Groups Plain alone.lines pieces
  pub shown : (n : ℕ) → fields_of Plain n alone.lines ≡ fields_in n pieces
  pub fields : (n : ℕ) → map field_of (fields_in n pieces) ≡ map field_of stanza.fields
  pub writable : AreWritable (map field_of stanza.fields)

-- the fields but for their lines don't hang on the number of the first line
fields_in-number : (n m : ℕ) (pieces : List Piece) → map field_of (fields_in n pieces) ≡ map field_of (fields_in m pieces)
fields_in-number n m [] = refl
fields_in-number n m (Comment line ∷ pieces) = fields_in-number (n + 1) (m + 1) pieces
fields_in-number n m (Group line more ∷ pieces) =
    ap (λ (fs : List Field). record { name = name_of line; value = value_of line (concat more) } ∷ fs) (fields_in-number (n + 1 + length more) (m + 1 + length more) pieces)

-- there is a first field, since the first line is no comment
some-fields : (n : ℕ) (pieces : List Piece) → AllByRecursion (IsPiece Plain) pieces → 0 < length (flat_map lines_of_piece pieces) → 0 < length (map field_of (fields_in n pieces))
some-fields n [] each some = some
some-fields n (Comment line ∷ pieces) each some = absurd (false≢true (sym (is_comment-plain line) ∙ each.0))
some-fields n (Group line more ∷ pieces) each some = omega arith

some-lines : (form : Form) (m : ℕ) (lines : List (List ℕ)) (stanza : StanzaText) → stanza_in form m lines ≡ Some stanza → 0 < length lines
some-lines form m [] stanza is = cc
some-lines form m (line ∷ lines) stanza is = omega arith

pub IsFound-in : (text : List ℕ) (stanza : StanzaText) → Contains (items_of Plain text) (Ok stanza) → IsFound stanza
IsFound-in text stanza has =
    let alone = alone-from_items Plain text stanza has in
    let grouped = Groups-from_clean Plain 1 alone.lines (alone.clean 1) in
    let pieces = grouped.0 in
    let groups = grouped.1 in
    let shown : (n : ℕ) → fields_of Plain n alone.lines ≡ fields_in n pieces =
    λ n. ap (fields_of Plain n) groups.lines ∙ fields_of-pieces Plain n pieces groups.each in
    let fields : (n : ℕ) → map field_of (fields_in n pieces) ≡ map field_of stanza.fields =
    λ n. fields_in-number n alone.n pieces ∙ sym (ap (map field_of) (shown alone.n)) ∙ sym (ap (λ (s : StanzaText). map field_of s.fields) alone.is) in
    let some = some-lines Plain 1 alone.lines (stanza_of Plain 1 alone.lines) (alone.first 1) in
    record {
      alone = alone;
      some = some;
      pieces = pieces;
      groups = groups;
      shown = shown;
      fields = fields;
      writable = record {
        some = subst (λ (fs : List Field). 0 < length fs) (fields 1)
            (some-fields 1 pieces groups.each (subst (λ ls. 0 < length ls) groups.lines some));
        each = subst (AllByRecursion IsWritable) (fields 1)
            (fields-found 1 pieces groups.each (subst AreLines groups.lines alone.are) (subst NoSeparators groups.lines alone.inside));
        names = subst (AreDistinct Plain) (sym (names-shown 1 pieces) ∙ ap (map name_in) (fields 1)) groups.names;
      };
    }

pub AreWritable-found : (text : List ℕ) (stanza : StanzaText) → Contains (items_of Plain text) (Ok stanza) → AreWritable (map field_of stanza.fields)
AreWritable-found text stanza has = (IsFound-in text stanza has).writable

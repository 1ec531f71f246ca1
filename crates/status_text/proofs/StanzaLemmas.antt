-- A text that is one stanza: its lines are pieces whose fields are known. Fields that can be written are such a text.
use Rattle.std.proofs.Common.{◌≡◌, ℕ, ◌+◌, List, [], ◌∷◌, ◌++◌, length, map, refl, sym, ap, subst, ◌∙◌}
use Rattle.std.specs.List.{concat, flat_map, AllByRecursion}
use Rattle.rules.specs.Stanza.{Field}
use Rattle.stanza.specs.declared.form.Form.TheVariants.{Plain}
use Rattle.stanza.specs.Line.{lines_of, IsWhole}
use Rattle.stanza.specs.Field.{value_of}
use Rattle.stanza.specs.File.{Piece, Group, lines_of_piece, IsPiece, fields_in}
use Rattle.stanza.proofs.StanzaLemmas.{NoSeparators}
use Rattle.relation.specs.PackageStanza.{field_of}
use Rattle.status_text.specs.Spelling.{field_text, fields_text}
use Rattle.status_text.specs.Writable.{IsWritable}
use Rattle.status_text.proofs.LineLemmas.{IsWhole-append}
use Rattle.status_text.proofs.FieldLemmas.{written, IsWhole-field}

-- the name of a field
abbrev pub name_in : Field → List ℕ
name_in field = field.name

-- the text has lines of these fields, and no separator
pub record HasFields (fields : List Field) (text : List ℕ) : Type 0 where
  pub pieces : List Piece
  pub lines : lines_of text ≡ flat_map lines_of_piece pieces
  pub each : AllByRecursion (IsPiece Plain) pieces
  pub shown : (n : ℕ) → map field_of (fields_in n pieces) ≡ fields
  pub inside : NoSeparators (lines_of text)
  pub whole : IsWhole text

-- ---- fields that can be written

NoSeparators-append : (a b : List (List ℕ)) → NoSeparators a → NoSeparators b → NoSeparators (a ++ b)
NoSeparators-append [] b none others = others
NoSeparators-append (line ∷ a) b none others = (none.0, NoSeparators-append a b none.1 others)

pub HasFields-written : (fields : List Field) → AllByRecursion IsWritable fields → HasFields fields (fields_text fields)
HasFields-written [] can = record { pieces = []; lines = refl; each = tt; shown = λ n. refl; inside = tt; whole = λ rest. refl }
HasFields-written (field ∷ fields) can =
    let later = HasFields-written fields can.1 in
    let own = written field can.0 in
    let line = own.0 in
    let more = own.1 in
    let is = own.2 in
    let whole = IsWhole-field field in
    let joined : lines_of (field_text field ++ fields_text fields) ≡ (line ∷ more) ++ lines_of (fields_text fields) =
    whole (fields_text fields) ∙ ap (λ ls. ls ++ lines_of (fields_text fields)) is.lines in
    record {
      pieces = Group line more ∷ later.pieces;
      lines = joined ∙ ap (λ ls. (line ∷ more) ++ ls) later.lines;
      each = ((is.begins, is.continue), later.each);
      shown = λ n. ap (λ name. record { name = name; value = value_of line (concat more) } ∷ map field_of (fields_in (n + 1 + length more) later.pieces)) is.named
          ∙ ap (λ value. record { name = field.name; value = value } ∷ map field_of (fields_in (n + 1 + length more) later.pieces)) is.valued
          ∙ ap (λ fs. field ∷ fs) (later.shown (n + 1 + length more));
      inside = subst NoSeparators (sym joined) (NoSeparators-append (line ∷ more) (lines_of (fields_text fields)) is.inside later.inside);
      whole = IsWhole-append (field_text field) (fields_text fields) whole later.whole;
    }

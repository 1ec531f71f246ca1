-- What is read of a text that is one stanza, and of such texts with an empty line behind each.
use Rattle.std.proofs.Common.{◌≡◌, ℕ, ◌+◌, ◌<◌, false, List, [], ◌∷◌, ◌++◌, length, map, refl, sym, ap, subst, ◌∙◌, arith, append_assoc, append-nil, Some, Ok}
use Rattle.std.proofs.lemmas.Bool.{cond-false}
use Rattle.std.specs.List.{flat_map, AllByRecursion}
use Rattle.rules.specs.Stanza.{Field, Stanza}
use Rattle.stanza.specs.declared.form.Form.TheVariants.{Plain}
use Rattle.stanza.specs.declared.lines.TheConstants.{NEWLINE}
use Rattle.stanza.specs.Line.{lines_of, is_comment}
use Rattle.stanza.specs.Field.{name_of, fields_of}
use Rattle.stanza.specs.Stanza.{StanzaText, stanza_of, stanza_in, without_last_comments, before_kept, items_of_lines, items_of}
use Rattle.stanza.specs.File.{Piece, Comment, Group, lines_of_piece, names_in, AreDistinct, Groups, fields_in}
use Rattle.stanza.proofs.LineLemmas.{concat-lines_of}
use Rattle.stanza.proofs.StanzaLemmas.{EndsStanza, items-front, items-separator}
use Rattle.stanza.proofs.GroupLemmas.{fields_of-pieces, clean-from_Groups}
use Rattle.relation.specs.PackageStanza.{field_of, read_stanza}
use Rattle.status_text.specs.Spelling.{stanza_text, file_text}
use Rattle.status_text.specs.ReadBack.{ReadsAs, as_written}
use Rattle.status_text.proofs.NameLemmas.{is_comment-plain}
use Rattle.status_text.proofs.StanzaLemmas.{name_in, HasFields}

-- the text is one stanza, of these fields
pub record IsOne (fields : List Field) (text : List ℕ) : Type 0 where
  pub has : HasFields fields text
  pub some : 0 < length fields
  pub names : AreDistinct Plain (map name_in fields)

-- ---- the stanza of the text

pub names-shown : (n : ℕ) (pieces : List Piece) → map name_in (map field_of (fields_in n pieces)) ≡ names_in pieces
names-shown n [] = refl
names-shown n (Comment line ∷ pieces) = names-shown (n + 1) pieces
names-shown n (Group line more ∷ pieces) = ap (λ names. name_of line ∷ names) (names-shown (n + 1 + length more) pieces)

pub IsOne-groups : (fields : List Field) (text : List ℕ) (one : IsOne fields text) → Groups Plain (lines_of text) one.has.pieces
IsOne-groups fields text one = record {
  lines = one.has.lines;
  each = one.has.each;
  names = subst (AreDistinct Plain) (sym (ap (map name_in) (one.has.shown 1)) ∙ names-shown 1 one.has.pieces) one.names;
}

some-lines : (n : ℕ) (pieces : List Piece) → 0 < length (map field_of (fields_in n pieces)) → (line : List ℕ) × (lines : List (List ℕ)) × (flat_map lines_of_piece pieces ≡ line ∷ lines)
some-lines n [] some = absurd (omega arith)
some-lines n (Comment line ∷ pieces) some = (line, flat_map lines_of_piece pieces, refl)
some-lines n (Group line more ∷ pieces) some = (line, more ++ flat_map lines_of_piece pieces, refl)

all_kept : (lines : List (List ℕ)) → without_last_comments Plain lines ≡ lines
all_kept [] = refl
all_kept (line ∷ lines) = ap (before_kept Plain line) (all_kept lines) ∙ go lines where
  go : (lines : List (List ℕ)) → before_kept Plain line lines ≡ line ∷ lines
  go [] = rw (is_comment-plain line) refl
  go (next ∷ lines) = refl

stanza_in-plain : (n : ℕ) (line : List ℕ) (lines : List (List ℕ)) → stanza_in Plain n (line ∷ lines) ≡ Some (stanza_of Plain n (line ∷ lines))
stanza_in-plain n line lines =
    cond-false (is_comment Plain line) (stanza_in Plain (n + 1) lines) (Some (stanza_of Plain n (without_last_comments Plain (line ∷ lines)))) (is_comment-plain line)
    ∙ ap (λ ls. Some (stanza_of Plain n ls)) (all_kept (line ∷ lines))

stanza_in-one : (fields : List Field) (text : List ℕ) (n : ℕ) → IsOne fields text → stanza_in Plain n (lines_of text) ≡ Some (stanza_of Plain n (lines_of text))
stanza_in-one fields text n one =
    let first = some-lines 1 one.has.pieces (subst (λ (fs : List Field). 0 < length fs) (sym (one.has.shown 1)) one.some) in
    let lines = one.has.lines ∙ first.2 in
    ap (stanza_in Plain n) lines ∙ stanza_in-plain n first.0 first.1 ∙ ap (λ ls. Some (stanza_of Plain n ls)) (sym lines)

-- it has the fields and the bytes
read-one : (fields : List Field) (text : List ℕ) (n : ℕ) → IsOne fields text → read_stanza (stanza_of Plain n (lines_of text)) ≡ record { fields = fields; bytes = Some text }
read-one fields text n one =
    let shown : map field_of (fields_of Plain n (lines_of text)) ≡ fields =
    ap (λ ls. map field_of (fields_of Plain n ls)) one.has.lines
    ∙ ap (map field_of) (fields_of-pieces Plain n one.has.pieces one.has.each)
    ∙ one.has.shown n in
    let bytes = concat-lines_of text in
    cc

-- ---- the items of the text

items-one : (fields : List Field) (text : List ℕ) (n : ℕ) (rest : List (List ℕ)) → IsOne fields text → EndsStanza rest → items_of_lines Plain n (lines_of text ++ rest) ≡ Ok (stanza_of Plain n (lines_of text)) ∷ items_of_lines Plain (n + length (lines_of text)) rest
items-one fields text n rest one ends =
    items-front Plain n (lines_of text) rest (stanza_of Plain n (lines_of text)) one.has.inside ends
    (clean-from_Groups Plain n (lines_of text) one.has.pieces (IsOne-groups fields text one))
    (stanza_in-one fields text n one)

pub ReadsAs-one : (fields : List Field) (text : List ℕ) → IsOne fields text → ReadsAs text (record { fields = fields; bytes = Some text } ∷ [])
unfolding items_of
ReadsAs-one fields text one = (
  stanza_of Plain 1 (lines_of text) ∷ [],
  ap (items_of_lines Plain 1) (sym (append-nil (lines_of text))) ∙ items-one fields text 1 [] one tt,
  ap (λ s. s ∷ []) (read-one fields text 1 one),
)

-- ---- stanzas, one behind the other

-- the items of the lines from number n on are these stanzas
ReadsFrom : ℕ → List (List ℕ) → List Stanza → Type 0
ReadsFrom n lines stanzas = (read : List StanzaText) × (items_of_lines Plain n lines ≡ map Ok read) × (map read_stanza read ≡ stanzas)

reads_from : (n : ℕ) (stanzas : List Stanza) → AllByRecursion (λ (s : Stanza). IsOne s.fields (stanza_text s)) stanzas → ReadsFrom n (lines_of (file_text stanzas)) (map as_written stanzas)
unfolding ReadsFrom
reads_from n [] are = ([], refl, refl)
reads_from n (stanza ∷ stanzas) are =
    let text = stanza_text stanza in
    let rest = lines_of (file_text stanzas) in
    let empty = NEWLINE ∷ [] in
    let next = n + length (lines_of text) in
    let later = reads_from (next + 1) stanzas are.1 in
    let lines : lines_of (file_text (stanza ∷ stanzas)) ≡ lines_of text ++ empty ∷ rest =
    ap lines_of (append_assoc text empty (file_text stanzas)) ∙ are.0.has.whole (empty ++ file_text stanzas) in (
      stanza_of Plain n (lines_of text) ∷ later.0,
      ap (items_of_lines Plain n) lines
          ∙ items-one stanza.fields text n (empty ∷ rest) are.0 refl
          ∙ ap (λ items. Ok (stanza_of Plain n (lines_of text)) ∷ items) (items-separator Plain next empty rest refl ∙ later.1),
      ap (λ s. s ∷ map read_stanza later.0) (read-one stanza.fields text n are.0) ∙ ap (λ ss. as_written stanza ∷ ss) later.2,
    )

pub ReadsAs-all : (stanzas : List Stanza) → AllByRecursion (λ (s : Stanza). IsOne s.fields (stanza_text s)) stanzas → ReadsAs (file_text stanzas) (map as_written stanzas)
unfolding ReadsFrom items_of
ReadsAs-all stanzas are = reads_from 1 stanzas are

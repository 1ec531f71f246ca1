-- A stanza as it was read, with a newline at its end, and one whose fields can be written: the text of each is one stanza.
use Rattle.std.proofs.Common.{◌≡◌, ℕ, ◌<◌, List, [], ◌∷◌, length, map, sym, ap, subst, ◌∙◌, arith, inl, inr}
use Rattle.std.specs.List.{AllByRecursion}
use Rattle.std.specs.Option.{option_map_or}
use Rattle.rules.specs.Stanza.{Stanza}
use Rattle.stanza.specs.Line.{lines_of}
use Rattle.stanza.specs.Field.{without_newline}
use Rattle.stanza.specs.Stanza.{StanzaText}
use Rattle.stanza.proofs.StanzaLemmas.{NoSeparators}
use Rattle.stanza.proofs.AloneLemmas.{lines_of-concat}
use Rattle.relation.specs.PackageStanza.{field_of}
use Rattle.status_text.specs.Spelling.{fields_text, closed, stanza_text}
use Rattle.status_text.specs.ReadBack.{WasRead, WasTouched, IsWritableStanza}
use Rattle.status_text.proofs.LineLemmas.{IsWhole-closed}
use Rattle.status_text.proofs.StanzaLemmas.{HasFields-written}
use Rattle.status_text.proofs.ReadLemmas.{IsOne}
use Rattle.status_text.proofs.FoundLemmas.{IsFound, IsFound-in}
use Rattle.status_text.proofs.ClosedLemmas.{close_last, close_pieces, lines_of-closed, NoSeparators-closed, lines-closed, each-closed, fields-closed}

lines_of-closed_some : (text : List ℕ) → 0 < length (lines_of text) → lines_of (closed text) ≡ close_last (lines_of text)
lines_of-closed_some [] some = absurd (omega arith)
lines_of-closed_some (b ∷ bs) some = lines_of-closed b bs

IsOne-found : (stanza : StanzaText) → IsFound stanza → IsOne (map field_of stanza.fields) (closed stanza.raw)
IsOne-found stanza is_found =
    let alone = is_found.alone in
    let pieces = is_found.pieces in
    let read : lines_of stanza.raw ≡ alone.lines =
    ap (λ (s : StanzaText). lines_of s.raw) alone.is ∙ lines_of-concat alone.lines alone.are in
    let lines : lines_of (closed stanza.raw) ≡ close_last alone.lines =
    lines_of-closed_some stanza.raw (subst (λ ls. 0 < length ls) (sym read) is_found.some) ∙ ap close_last read in
    record {
      has = record {
        pieces = close_pieces pieces;
        lines = lines ∙ ap close_last is_found.groups.lines ∙ lines-closed pieces;
        each = each-closed pieces is_found.groups.each;
        shown = λ n. fields-closed n pieces is_found.groups.each ∙ is_found.fields n;
        inside = subst NoSeparators (sym lines) (NoSeparators-closed alone.lines alone.inside);
        whole = IsWhole-closed (without_newline stanza.raw);
      };
      some = is_found.writable.some;
      names = is_found.writable.names;
    }

one-read : (stanza : Stanza) → WasRead stanza → IsOne stanza.fields (stanza_text stanza)
one-read stanza was =
    subst (λ (s : Stanza). IsOne s.fields (stanza_text s)) (sym was.3) (IsOne-found was.1 (IsFound-in was.0 was.1 was.2))

one-touched : (stanza : Stanza) → WasTouched stanza → IsOne stanza.fields (stanza_text stanza)
one-touched stanza was =
    let text : stanza_text stanza ≡ fields_text stanza.fields = ap (λ bytes. option_map_or closed bytes (fields_text stanza.fields)) was.0 in
    let fields : IsOne stanza.fields (fields_text stanza.fields) =
    record { has = HasFields-written stanza.fields was.1.each; some = was.1.some; names = was.1.names } in
    subst (IsOne stanza.fields) (sym text) fields

pub each-one : (stanzas : List Stanza) → AllByRecursion IsWritableStanza stanzas → AllByRecursion (λ (s : Stanza). IsOne s.fields (stanza_text s)) stanzas
each-one [] are = tt
each-one (stanza ∷ stanzas) are =
    (elim are.0 [ inl was ↦ one-read stanza was | inr was ↦ one-touched stanza was ], each-one stanzas are.1)

use Rattle.std.specs.Arc.{arc_slice_items}
use Rattle.std.proofs.Common.{◌≡◌, ◌∙◌, ◌&&◌, Bool, true, false, Option, Some, List, ℕ, IfSome, ap, refl, subst, sym, bytes_eq}
use Rattle.std.specs.Option.{option_copied}
use Rattle.std.specs.Ordering.{is_eq}
use Rattle.rules.specs.FileRecord.{FileRecord, IndexStanza}
use Rattle.rules.specs.NamedLaws.{bytes_eq-same, bytes_eq-true}
use Rattle.rules.specs.Step.{is_named}
use Rattle.rules.specs.Version.{version_cmp}
use Rattle.status.proofs.FoundLemmas.{found-name}
use Rattle.status.proofs.HandedLemmas.{can-unpack}
use Rattle.status.proofs.StepLemmas.{IsGood, named-good, unpacked-text}
use Rattle.status.specs.Applicable.{handed_in, is_indexed_as}
use Rattle.status.specs.Change.{IsTextOf, IsTextUnpacked}
use Rattle.status.specs.Slots.{entry_named}
use Rattle.status.specs.Stored.{written}
use Rattle.status.specs.Written.{entry_over}
use Rattle.status_text.specs.Spelling.{stanza_text}
use Rattle.status.proofs.unpack.text_unpacked.Goals as goal

and-left : (a b : Bool) → (a && b) ≡ true → a ≡ true
and-left true b h = refl
and-left false b h = h

pub returns-in_ok-from_vec-in-Some-clause-text : goal.returns-in_ok-from_vec-in-Some-clause-text
returns-in_ok-from_vec-in-Some-clause-text c =
    let arch = c.args.table.now.arch in
    let name = c.args.name.now in
    let slots = c.args.table.now.slots in
    let given = option_copied c.args.given in
    let indexed = c.in-Some.indexed in
    let text = arc_slice_items c.in_ok-from_vec-in-Some.field-0 in
    let handed : handed_in arch given ≡ Some indexed = ap (λ (a : List ℕ). handed_in a given) (sym c.arch.ensures) ∙ c.in-Some.ensures.0 in
    let passes : is_indexed_as name c.args.version.now (handed_in arch given) ≡ true =
    ap (λ (a : List ℕ). is_indexed_as name c.args.version.now (handed_in a given)) (sym c.arch.ensures) ∙ c.in-Some.ensures.1 in
    let named : indexed.listed.pkg.name ≡ name =
    bytes_eq-true indexed.listed.pkg.name name (and-left (bytes_eq indexed.listed.pkg.name name) (is_eq (version_cmp indexed.listed.pkg.version c.args.version.now))
    (ap (is_indexed_as name c.args.version.now) (sym handed) ∙ passes)) in
    let old_is : c.find-old.result ≡ entry_named name slots = c.find-old.ensures ∙ ap (λ n. entry_named n slots) c.as_bytes.ensures.bytes in
    let is : text ≡ stanza_text (entry_over indexed (entry_named name slots)).stanza =
    c.in_ok-from_vec-in-Some.ensures ∙ c.in_ok-text-in-Some.ensures ∙ ap (λ (old : Option FileRecord). stanza_text (entry_over indexed old).stanza) old_is in
    let good : (entry : FileRecord) → entry_named name slots ≡ Some entry → (is_named indexed.listed.pkg.name entry.status ≡ true) × IsGood arch entry = λ entry there. (
      bytes_eq-same entry.status.name indexed.listed.pkg.name (found-name name slots entry there ∙ sym named),
      named-good arch name slots entry c.is_sound.ensures.each there,
    ) in
    let text_is : IsTextOf arch text (written (entry_over indexed (entry_named name slots))) =
    unpacked-text arch text indexed (entry_named name slots) (can-unpack arch given indexed handed) good is in (
      passes,
      subst (λ (some : Option IndexStanza). IfSome some (λ one. IsTextUnpacked one c.args.table.now name text)) (sym handed) (record { named = named; text_is = text_is }),
    )

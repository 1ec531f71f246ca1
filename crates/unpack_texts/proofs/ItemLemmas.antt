-- Where a stanza stands among what is read of a text.
use Rattle.std.proofs.Common.{◌≡◌, ◌+◌, ◌<◌, ◌≤◌, ℕ, true, false, List, [], ◌∷◌, ◌++◌, length, map, Option, None, Some, Ok, Err, refl, sym, ap, ◌∙◌, arith, length-append, is_some}
use Rattle.stanza.specs.Reading.{GoesOn, Reaches, Reading, to_read}
use Rattle.stanza.specs.Stanza.{StanzaText}
use Rattle.stanza.specs.declared.error.ReaderError.{ReaderError}
use Rattle.unpack_texts.specs.Fetched.{EndsWith, HasRead, IsStanzaAt, Items}

-- two stanzas with as many before them are one
pub same-place : (before front : List StanzaText) (s t : StanzaText) (later rest : Items)
    → map Ok before ++ Ok s ∷ later ≡ map Ok front ++ Ok t ∷ rest → length before ≡ length front → s ≡ t
same-place [] [] s t later rest e n = cc
same-place [] (y ∷ front) s t later rest e n = absurd (omega arith)
same-place (x ∷ before) [] s t later rest e n = absurd (omega arith)
same-place (x ∷ before) (y ∷ front) s t later rest e n =
    same-place before front s t later rest (cc) (omega arith)

-- behind an error no stanza stands
pub none-behind-error : (before front : List StanzaText) (error : ReaderError) (s : StanzaText) (later : Items)
    → map Ok before ++ Err error ∷ [] ≡ map Ok front ++ Ok s ∷ later → length before ≤ length front → ⊥
none-behind-error [] [] error s later e n = cc
none-behind-error [] (y ∷ front) error s later e n = cc
none-behind-error (x ∷ before) [] error s later e n = omega arith
none-behind-error (x ∷ before) (y ∷ front) error s later e n =
    none-behind-error before front error s later (cc) (omega arith)

-- behind the end no stanza stands
pub none-behind-end : (before front : List StanzaText) (s : StanzaText) (later : Items)
    → map Ok before ++ [] ≡ map Ok front ++ Ok s ∷ later → length before ≤ length front → ⊥
none-behind-end [] [] s later e n = cc
none-behind-end [] (y ∷ front) s later e n = cc
none-behind-end (x ∷ before) [] s later e n = omega arith
none-behind-end (x ∷ before) (y ∷ front) s later e n =
    none-behind-end before front s later (cc) (omega arith)

-- one more stanza
with-one-more : (before : List StanzaText) (s : StanzaText) (later : Items) → map Ok (before ++ s ∷ []) ++ later ≡ map Ok before ++ Ok s ∷ later
with-one-more [] s later = refl
with-one-more (x ∷ before) s later = ap (λ items. Ok x ∷ items) (with-one-more before s later)

-- where a stanza was reached, it was the first that was left
reached-one : (there : Option StanzaText) (items later : Items) → Reaches there items later → is_some there ≡ true
    → (s : StanzaText) × (there ≡ Some s) × (items ≡ Ok s ∷ later)
reached-one None items later reaches some = cc
reached-one (Some s) items later reaches some = (s, refl, reaches)

-- where none was reached, none was left
reached-none : (there : Option StanzaText) (items later : Items) → Reaches there items later → is_some there ≡ false → items ≡ []
reached-none None items later reaches none = reaches.0
reached-none (Some s) items later reaches none = cc

-- behind the stanzas that were read comes this one
then-read : (items : Items) (n : ℕ) (old new : Reading) (left more : List ℕ) (s : StanzaText) → HasRead items n old left
    → new.stanza ≡ Some s → to_read old left ≡ Ok s ∷ to_read new more → HasRead items (n + 1) new more
then-read items n old new left more s read reached_is first = record {
  before = read.before ++ s ∷ [];
  is = read.is ∙ ap (λ (rest : Items). map Ok read.before ++ rest) first ∙ sym (with-one-more read.before s (to_read new more));
  count = omega (arith, read.count, length-append read.before (s ∷ []));
  last = rw reached_is (read.before, refl);
  some = λ _. rw reached_is refl;
}

-- one more stanza was read
pub goes-on : (items : Items) (n : ℕ) (old new : Reading) (left more : List ℕ) → HasRead items n old left → GoesOn old new left more
    → is_some new.stanza ≡ true → HasRead items (n + 1) new more
goes-on items n old new left more read on some =
    let one = reached-one new.stanza (to_read old left) (to_read new more) on some in
    then-read items n old new left more one.0 read one.1 one.2

-- where no stanza comes any more, none has a later number
pub none-later : (items : Items) (n number : ℕ) (old new : Reading) (left more : List ℕ) → HasRead items n old left → GoesOn old new left more
    → is_some new.stanza ≡ false → n < number → (s : StanzaText) → IsStanzaAt items number s → ⊥
none-later items n number old new left more read on none less s there =
    let over = reached-none new.stanza (to_read old left) (to_read new more) on none in
    none-behind-end read.before there.before s there.later
    (ap (λ (rest : Items). map Ok read.before ++ rest) (sym over) ∙ sym read.is ∙ there.is) (omega (arith, read.count, there.count))

-- where a refusal comes, no stanza has a later number
pub none-refused : (items : Items) (n number : ℕ) (old : Reading) (left : List ℕ) (error : ReaderError) → HasRead items n old left
    → to_read old left ≡ Err error ∷ [] → n < number → (s : StanzaText) → IsStanzaAt items number s → ⊥
none-refused items n number old left error read refused less s there =
    none-behind-error read.before there.before error s there.later
    (ap (λ (rest : Items). map Ok read.before ++ rest) (sym refused) ∙ sym read.is ∙ there.is) (omega (arith, read.count, there.count))

-- the stanza that was reached has its number
pub reached-there : (items : Items) (number : ℕ) (reading : Reading) (left : List ℕ) (s : StanzaText) → HasRead items number reading left
    → reading.stanza ≡ Some s → IsStanzaAt items number s
reached-there items number reading left s read is =
    let last : EndsWith read.before s = rw is at read.last in
    record {
      before = last.0;
      later = to_read reading left;
      is = read.is ∙ ap (λ (b : List StanzaText). map Ok b ++ to_read reading left) last.1 ∙ with-one-more last.0 s (to_read reading left);
      count = omega (arith, read.count, ap length last.1 ∙ length-append last.0 (s ∷ []));
    }

-- where none was reached, no stanza has that number
pub none-there : (items : Items) (number : ℕ) (reading : Reading) (left : List ℕ) (s : StanzaText) → HasRead items number reading left
    → reading.stanza ≡ None → IsStanzaAt items number s → ⊥
none-there items number reading left s read is there =
    let some : is_some reading.stanza ≡ true = read.some (omega (arith, there.count)) in
    let none : false ≡ true = rw is at some in cc

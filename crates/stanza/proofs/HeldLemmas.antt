-- Bytes that are held while a text is read: more of them, and stanzas cut out of them.
use Rattle.std.proofs.Common.{◌≡◌, ℕ, ◌+◌, ◌-◌, ◌<◌, ◌≤◌, Bool, List, [], ◌∷◌, ◌++◌, length, take, drop, refl, sym, ap, subst, ◌∙◌, arith, append_assoc, Option, None, Some, Ok, Err}
use Rattle.std.proofs.lemmas.List.{drop-append-le, drop-drop, length-append, length-drop, length-take}
use Rattle.std.proofs.lemmas.Bool.{lt-ltb}
use Rattle.std.specs.Io.KnownBytes.{Consumes}
use Rattle.stanza.specs.declared.form.Form.{Form}
use Rattle.stanza.specs.declared.error.ReaderError.TheVariants.{TooLarge}
use Rattle.stanza.specs.declared.ahead.Ahead.{Ahead}
use Rattle.stanza.specs.declared.held.Held.{Held}
use Rattle.stanza.specs.declared.held.Cut.{Cut}
use Rattle.stanza.specs.declared.held.Cut.TheVariants as cut
use Rattle.stanza.specs.declared.starts.FieldStart.{FieldStart}
use Rattle.stanza.specs.Starts.{starts_of}
use Rattle.stanza.specs.Line.{lines_of}
use Rattle.stanza.specs.Stanza.{stanza_of}
use Rattle.stanza.specs.Streamed.{FindsAhead, IsAhead, IsOpen, MayFollow, SkipsAhead, read_within}
use Rattle.stanza.specs.Held.{FillsWith, GivesStanza, IsCut, IsHeld, NeedsMore, filled_of, pending_of, read_of, total_of}

somes : {a b : List ℕ} → (let x : Option (List ℕ) = Some a in x) ≡ Some b → a ≡ b
somes e = cc

-- what a source had and has left, where it is known, is what was held and what is held before it
abbrev pub Fills : Option (List ℕ) → Option (List ℕ) → Held → Held → Type 0
Fills known now old held = (left : List ℕ) → known ≡ Some left → (more : List ℕ) × (now ≡ Some more) × FillsWith old held left more

consumed : (more block : List ℕ) (after : Option (List ℕ)) → Consumes (Some more) after block → (rest : List ℕ) × (after ≡ Some rest) × (more ≡ block ++ rest)
consumed more block None taken = absurd taken
consumed more block (Some rest) taken = (rest, refl, taken)

pub length-filled : (held : Held) → IsHeld held → length (filled_of held) ≡ held.end
length-filled held is = omega (arith, is.filled, length-take held.end held.bytes.items)

pub length-pending : (held : Held) → IsHeld held → length (pending_of held) ≡ held.end - held.begin
length-pending held is = omega (arith, length-drop held.begin (filled_of held), length-filled held is)

-- what is held once a block more was read
pub record ReadsMore (held new : Held) (block : List ℕ) : Type 0 where
  pub bytes : filled_of new ≡ filled_of held ++ block
  pub begin : new.begin ≡ held.begin
  pub end : new.end ≡ held.end + length block
  pub before : new.before ≡ held.before
  pub room : new.room + length block ≡ held.room

pub pending-more : (held new : Held) (block : List ℕ) → IsHeld held → ReadsMore held new block → pending_of new ≡ pending_of held ++ block
pending-more held new block is reads =
    ap (λ k. drop k (filled_of new)) reads.begin ∙ ap (drop held.begin) reads.bytes
    ∙ drop-append-le held.begin (filled_of held) block (omega (arith, is.within, length-filled held is))

pub Fills-more : (old held new : Held) (known before after : Option (List ℕ)) (block : List ℕ) → IsHeld held → Fills known before old held → Consumes before after block
    → ReadsMore held new block → Fills known after old new
Fills-more old held new known before after block is fills taken reads = λ left e.
    let f = fills left e in
    let t = consumed f.0 block after (subst (λ o. Consumes o after block) f.1 taken) in
    let pending = pending-more held new block is reads in (
      t.0,
      t.1,
      record {
        text = f.2.text ∙ ap (λ x. pending_of held ++ x) t.2 ∙ sym (append_assoc (pending_of held) block t.0) ∙ ap (λ x. x ++ t.0) (sym pending);
        most = f.2.most ∙ omega (arith, reads.room, ap length pending, length-append (pending_of held) block);
        before = f.2.before ∙ sym reads.before;
      },
    )

pub IsHeld-more : (held new : Held) (block : List ℕ) → IsHeld held → ReadsMore held new block → new.end ≤ length new.bytes.items → IsHeld new
IsHeld-more held new block is reads filled = record {
  filled = filled;
  within = omega (arith, is.within, reads.begin, reads.end);
  fits = omega (arith, is.within, is.fits, reads.begin, reads.end, reads.before, reads.room);
}

pub total-more : (held new : Held) (block : List ℕ) → IsHeld held → ReadsMore held new block → total_of new ≡ total_of held
total-more held new block is reads =
    omega (arith, reads.room, ap length (pending-more held new block is reads), length-append (pending_of held) block)

-- nothing is read yet, where the bytes that are answered were let go
pub Fills-moved : (known : Option (List ℕ)) (old new : Held) → pending_of new ≡ pending_of old → new.room ≡ old.room → new.before ≡ old.before → Fills known known old new
Fills-moved known old new pending room before = λ left e. (
  left,
  e,
  record {
    text = ap (λ x. x ++ left) (sym pending);
    most = omega (arith, ap length pending, room);
    before = sym before;
  },
)

-- ---- bytes that are answered

-- what is still to be answered, by the bytes that are pending and how many may be read in all
pub read-moved : (form : Form) (n len lines room : ℕ) (text left : List ℕ) → len ≤ length text → read_within form (n + lines) (length text + room - len) (drop len text ++ left) ≡ read_within form (n + lines) (length (drop len text) + room) (drop len text ++ left)
read-moved form n len lines room text left within =
    ap (λ k. read_within form (n + lines) k (drop len text ++ left)) (let e : length text + room - len ≡ length (drop len text) + room = omega (arith, within, length-drop len text) in e)

-- what is held once so many bytes, of so many lines, are answered
pub record Moves (old new : Held) (len lines : ℕ) : Type 0 where
  pub bytes : filled_of new ≡ filled_of old
  pub size : length new.bytes.items ≡ length old.bytes.items
  pub end : new.end ≡ old.end
  pub begin : new.begin ≡ old.begin + len
  pub before : new.before ≡ old.before + lines
  pub room : new.room ≡ old.room

-- so many bytes, of so many lines, are answered
abbrev pub moved : Held → ℕ → ℕ → Held
moved held len lines = record held { begin = held.begin + len; before = held.before + lines }

module _ (old new : Held) (len lines : ℕ) where
  pub pending-moved : Moves old new len lines → pending_of new ≡ drop len (pending_of old)
  pending-moved moves = ap (λ k. drop k (filled_of new)) moves.begin ∙ ap (drop (old.begin + len)) moves.bytes ∙ sym (drop-drop len old.begin (filled_of old))

  pub IsHeld-moved : Moves old new len lines → IsHeld old → len ≤ length (pending_of old) → lines ≤ len → IsHeld new
  IsHeld-moved moves is within each = record {
    filled = omega (arith, is.filled, moves.size, moves.end);
    within = omega (arith, moves.begin, moves.end, within, is.within, length-pending old is);
    fits = omega (arith, moves.begin, moves.end, moves.before, moves.room, within, each, is.within, is.fits, length-pending old is);
  }

  pub total-moved : Moves old new len lines → total_of new ≤ total_of old
  total-moved moves = omega (arith, moves.room, ap length (pending-moved moves), length-drop len (pending_of old))

  -- what is still to be answered
  pub read-of-moved : (form : Form) (left : List ℕ) → Moves old new len lines → len ≤ length (pending_of old)
      → read_within form (old.before + 1 + lines) (length (pending_of old) + old.room - len) (drop len (pending_of old) ++ left) ≡ read_of form new left
  read-of-moved form left moves within =
      let number : old.before + 1 + lines ≡ new.before + 1 = omega (arith, moves.before) in
      read-moved form (old.before + 1) len lines old.room (pending_of old) left within
      ∙ ap (λ k. read_within form k (length (drop len (pending_of old)) + old.room) (drop len (pending_of old) ++ left)) number
      ∙ ap (λ x. read_within form (new.before + 1) (length x + old.room) (x ++ left)) (sym (pending-moved moves))
      ∙ ap (λ k. read_within form (new.before + 1) (length (pending_of new) + k) (pending_of new ++ left)) (sym moves.room)

  -- past a gap
  pub gap-moved : (is_over : Bool) (form : Form) (left : List ℕ) → Moves old new len lines → SkipsAhead is_over form (old.before + 1) (pending_of old) len lines → MayFollow is_over left → read_of form old left ≡ read_of form new left
  gap-moved is_over form left moves skips may =
      skips.items left (length (pending_of old) + old.room) may (omega arith) ∙ read-of-moved form left moves skips.within

  -- past a stanza
  pub stanza-moved : (is_over : Bool) (form : Form) (end : ℕ) (left : List ℕ) → Moves old new len lines → IsAhead is_over form (old.before + 1) (pending_of old) end len lines → MayFollow is_over left
      → read_of form old left ≡ Ok (stanza_of form (old.before + 1) (lines_of (take end (pending_of old)))) ∷ read_of form new left
  stanza-moved is_over form end left moves ahead may =
      ahead.items left (length (pending_of old) + old.room) may (omega arith)
      ∙ ap (λ x. Ok (stanza_of form (old.before + 1) (lines_of (take end (pending_of old)))) ∷ x) (read-of-moved form left moves ahead.within)

-- where no more may be read
pub large-held : (form : Form) (held : Held) (left : List ℕ) → IsOpen form (held.before + 1) (pending_of held) → 0 < length left → held.room ≡ 0 → read_of form held left ≡ Err TooLarge ∷ []
large-held form held left opens follows none =
    ap (λ k. read_within form (held.before + 1) k (pending_of held ++ left)) (let e : length (pending_of held) + held.room ≡ length (pending_of held) = omega (arith, none) in e) ∙ opens left follows

pub IsOpen-none : (form : Form) (n : ℕ) → IsOpen form n []
IsOpen-none form n later follows =
    rw (lt-ltb 0 (length later) follows) refl

-- a stanza that is found behind a gap
pub stanza-gives : (old held new : Held) (ahead : Ahead) (answer : Option Ahead) (starts : List FieldStart) (is_over : Bool) (form : Form) → answer ≡ Some ahead
    → FindsAhead is_over form (held.before + 1) (pending_of held) starts answer
    → ((left : List ℕ) → MayFollow is_over left → read_of form old left ≡ read_of form held left) → total_of held ≤ total_of old → Moves held new ahead.len ahead.lines
    → GivesStanza is_over form old new starts (record { from = held.begin; len = ahead.end; line = held.before + 1 })
stanza-gives old held new ahead answer starts is_over form is finds gap total moves =
    let f = subst (FindsAhead is_over form (held.before + 1) (pending_of held) starts) is finds in
    let raw : take ahead.end (pending_of held) ≡ take ahead.end (drop held.begin (filled_of new)) = ap (λ b. take ahead.end (drop held.begin b)) (sym moves.bytes) in
    record {
      placed = record {
        some = omega (arith, f.0.some, f.0.order, f.0.within, ap length raw, length-take ahead.end (pending_of held));
        starts_are = f.1 ∙ ap (λ x. starts_of form 0 (held.before + 1) (lines_of x)) raw;
      };
      less = omega (arith, total, moves.room, ap length (pending-moved held new ahead.len ahead.lines moves), length-drop ahead.len (pending_of held), f.0.some, f.0.order, f.0.within);
      read = λ left may. gap left may ∙ stanza-moved held new ahead.len ahead.lines is_over form ahead.end left moves f.0 may
          ∙ ap (λ x. Ok (stanza_of form (held.before + 1) (lines_of x)) ∷ read_of form new left) raw;
    }

-- ---- reading on

-- the same is still to be answered once more is held
pub filled-read : (form : Form) (old new : Held) (left more : List ℕ) → FillsWith old new left more → read_of form old left ≡ read_of form new more
filled-read form old new left more fills =
    ap (λ k. read_within form (k + 1) (length (pending_of old) + old.room) (pending_of old ++ left)) fills.before
    ∙ ap (λ k. read_within form (new.before + 1) k (pending_of old ++ left)) fills.most
    ∙ ap (λ x. read_within form (new.before + 1) (length (pending_of new) + new.room) x) fills.text

pub needs-more : (is_over : Bool) (form : Form) (old new : Held) (starts : List FieldStart) (answer : Cut) → answer ≡ cut.More → IsCut is_over form old new starts answer → NeedsMore is_over form old new
needs-more is_over form old new starts answer is finds = subst (IsCut is_over form old new starts) is finds

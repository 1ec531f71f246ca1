-- The lines of a text that is read as it comes.
use Rattle.std.specs.Prelude.{◌≢◌, ◌<◌, ◌≤◌, ℕ, List, [], ◌∷◌, ◌++◌, length, Option}
use Rattle.std.specs.Io.KnownBytes.{Consumes, IsAtEnd, prepend_known}
use Rattle.std.specs.List.{All}
use Rattle.text_lines.specs.declared.lines.Heard.{Heard}
use Rattle.text_lines.specs.declared.lines.Heard.TheVariants.{Last, Line, Nothing, TooLong}
use Rattle.text_lines.specs.declared.lines.Lines.{Lines}

-- the bytes that are left of a text, where those of its source are known: those that were read and not yet handed on, and then the source's
abbrev pub left_of : {T : Type 0} → (T → Option (List ℕ)) → Lines T → Option (List ℕ)
left_of left lines = prepend_known lines.block (left lines.text)

-- no byte is a newline
abbrev pub HasNoNewline : List ℕ → Type 0
HasNoNewline bytes = All (λ b. b ≢ 10) bytes

-- what was heard is the front of the bytes that were left: a line and the newline that ends it; the last line, which none ends; nothing, of
-- a text that is over; or more bytes without a newline than a line may have
abbrev pub HasHeard : ℕ → Option (List ℕ) → Option (List ℕ) → Heard → Type 0
HasHeard most old new (Line line) = Consumes old new (line.items ++ 10 ∷ []) × HasNoNewline line.items × (length line.items ≤ most)
HasHeard most old new (Last line) = Consumes old new line.items × IsAtEnd new × HasNoNewline line.items × (0 < length line.items) × (length line.items ≤ most)
HasHeard most old new Nothing = IsAtEnd old × Consumes old new []
HasHeard most old new TooLong = (front : List ℕ) × Consumes old new front × HasNoNewline front × (most < length front)

-- Lines that are heard and replied to, one after the other.
use Rattle.std.specs.Prelude.{◌≡◌, ◌≢◌, ◌⊎◌, ◌<◌, ℕ, List, [], ◌∷◌, ◌++◌, Option, length, true}
use Rattle.std.specs.Io.KnownBytes.{Consumes, IsAtEnd}
use Rattle.conversation.specs.Stream.{IsBehind, Written}
use Rattle.conversation.specs.declared.ended.Ended.{Ended}
use Rattle.conversation.specs.declared.ended.Ended.TheVariants as ended
use Rattle.text_lines.specs.Lines.{HasNoNewline}

-- each line that was heard, with its newline, has its reply, one behind the other
pub data AreReplies (Replies : List ℕ → List ℕ → Type 0) : List ℕ → List ℕ → Type 0 where
  none : AreReplies Replies [] []
  more : {heard said line reply : List ℕ} → AreReplies Replies heard said → HasNoNewline line → Replies line reply
      → AreReplies Replies (heard ++ (line ++ 10 ∷ [])) (said ++ reply)

-- the same, and behind it the last line, which no newline ends, has its reply
pub record AreRepliesWithLast (Replies : List ℕ → List ℕ → Type 0) (heard said : List ℕ) : Type 0 where
  pub heard_before : List ℕ
  pub said_before : List ℕ
  pub line : List ℕ
  pub reply : List ℕ
  pub replies : AreReplies Replies heard_before said_before
  pub plain : HasNoNewline line
  pub there : 0 < length line
  pub is_reply : Replies line reply
  pub heard_is : heard ≡ heard_before ++ line
  pub said_is : said ≡ said_before ++ reply

-- each line that was heard has its reply
abbrev pub AreReplied : (List ℕ → List ℕ → Type 0) → List ℕ → List ℕ → Type 0
AreReplied Replies heard said = AreReplies Replies heard said ⊎ AreRepliesWithLast Replies heard said

-- the text that is left begins with more bytes without a newline than a line may have
abbrev pub IsTooLong : ℕ → Option (List ℕ) → Type 0
IsTooLong most left = (front : List ℕ) × (rest : Option (List ℕ)) × Consumes left rest front × HasNoNewline front × (most < length front)

-- lines were heard from the front of a text and this was said in reply: up to its end where each is answered, and up to a line that has
-- too many bytes where one has
pub record AreHeard (most : ℕ) (Replies : List ℕ → List ℕ → Type 0) (text : Option (List ℕ)) (said : List ℕ) (how : Ended) : Type 0 where
  pub heard : List ℕ
  pub left : Option (List ℕ)
  pub consumed : Consumes text left heard
  pub replied : AreReplied Replies heard said
  pub whole : how ≡ ended.Answered → IsAtEnd left
  pub long : how ≡ ended.TooLong → IsTooLong most left

-- this stands behind what was written before; or it couldn't be written, and a write failed
pub record IsWrittenUnless (how : Ended) (old new : Written) (said : List ℕ) : Type 0 where
  pub stands : how ≢ ended.Unwritten → IsBehind old new said
  pub failed : how ≡ ended.Unwritten → new.has_failed ≡ true

-- lines were heard from the front of a text, and what was said in reply stands behind what was written before
abbrev pub AreAnswered : ℕ → (List ℕ → List ℕ → Type 0) → Option (List ℕ) → Written → Written → Ended → Type 0
AreAnswered most Replies text old new how = (said : List ℕ) × AreHeard most Replies text said how × IsWrittenUnless how old new said

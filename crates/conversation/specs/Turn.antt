-- One line after the other.
use Rattle.std.specs.Prelude.{◌≡◌, ◌⊎◌, ℕ, List, [], ◌∷◌, ◌++◌, Option, None, Some, Result, Ok, Err, true}
use Rattle.std.specs.Io.KnownBytes.{Consumes}
use Rattle.conversation.specs.Conversation.{AreAnswered, AreReplies}
use Rattle.conversation.specs.Stream.{IsBehind, Written}
use Rattle.conversation.specs.declared.ended.Ended.{Ended}
use Rattle.conversation.specs.declared.ended.Ended.TheVariants as ended
use Rattle.text_lines.specs.Lines.{HasNoNewline}

-- a line that no newline ends has this reply, and it stands behind what was written before
pub record HasReply (Replies : List ℕ → List ℕ → Type 0) (line : List ℕ) (old new : Written) : Type 0 where
  pub reply : List ℕ
  pub is_reply : Replies line reply
  pub written : IsBehind old new reply

-- the line has its reply; or memory was wanting, and nothing is written; or it couldn't be written, and a write failed
abbrev pub IsReplied : {A : Type 0} → (List ℕ → List ℕ → Type 0) → List ℕ → Written → Written → Result A Ended → Type 0
IsReplied Replies line old new (Ok done) = HasReply Replies line old new
IsReplied Replies line old new (Err how) = ((how ≡ ended.OutOfMemory) × (new ≡ old)) ⊎ ((how ≡ ended.Unwritten) × (new.has_failed ≡ true))

-- one line was heard, with its newline, and has its reply
pub record IsNextAnswered (Replies : List ℕ → List ℕ → Type 0) (text left : Option (List ℕ)) (old new : Written) : Type 0 where
  pub line : List ℕ
  pub heard : Consumes text left (line ++ 10 ∷ [])
  pub plain : HasNoNewline line
  pub replied : HasReply Replies line old new

-- the conversation goes on behind one line, or ends
abbrev pub IsTurn : ℕ → (List ℕ → List ℕ → Type 0) → Option (List ℕ) → Option (List ℕ) → Written → Written → Option Ended → Type 0
IsTurn most Replies text left old new None = IsNextAnswered Replies text left old new
IsTurn most Replies text left old new (Some how) = AreAnswered most Replies text old new how

-- so far each line has its reply, and they stand behind what was written before
pub record AreAnsweredSoFar (Replies : List ℕ → List ℕ → Type 0) (text left : Option (List ℕ)) (old new : Written) : Type 0 where
  pub heard : List ℕ
  pub said : List ℕ
  pub consumed : Consumes text left heard
  pub replies : AreReplies Replies heard said
  pub written : IsBehind old new said

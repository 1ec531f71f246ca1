-- A conversation begins, goes on by a line, and ends.
use Rattle.std.proofs.Common.{◌≡◌, ◌≢◌, ◌⊎◌, ◌∙◌, ◌++◌, ◌∷◌, ◌<◌, ℕ, List, [], Option, ap, append-nil, append_assoc, inl, inr, length, refl, subst, sym, true}
use Rattle.std.specs.Io.KnownBytes.{Consumes, IsAtEnd}
use Rattle.std.proofs.KnownBytes.{Appends-nil, Appends-trans, Consumes-nil, Consumes-trans}
use Rattle.conversation.specs.Conversation.{AreAnswered, AreReplied, AreReplies, IsTooLong, IsWrittenUnless, more, none}
use Rattle.conversation.specs.Stream.{IsBehind, Written}
use Rattle.conversation.specs.Turn.{AreAnsweredSoFar, HasReply, IsNextAnswered}
use Rattle.conversation.specs.declared.ended.Ended.{Ended}
use Rattle.conversation.specs.declared.ended.Ended.TheVariants as ended
use Rattle.text_lines.specs.Lines.{HasNoNewline}

-- nothing more is written
pub behind_none : (old : Written) → IsBehind old old []
behind_none old = record { appended = Appends-nil old.contents; failed = refl }

-- one text behind the other
pub behind_on : (old then new : Written) (said later : List ℕ) → IsBehind old then said → IsBehind then new later → IsBehind old new (said ++ later)
behind_on old then new said later before is = record {
  appended = Appends-trans old.contents then.contents new.contents said later before.appended is.appended;
  failed = is.failed ∙ before.failed;
}

-- where it didn't end since a reply couldn't be written, what is written stands
pub unless_stands : (how : Ended) (old new : Written) (said : List ℕ) → how ≢ ended.Unwritten → IsBehind old new said
    → IsWrittenUnless how old new said
unless_stands how old new said could is = record { stands = λ other. is; failed = λ unwritten. absurd (could unwritten) }

module _ (Replies : List ℕ → List ℕ → Type 0) where
  -- the replies to some lines and to later ones are those to all
  pub replies_on : {heard said later said_later : List ℕ} → AreReplies Replies heard said → AreReplies Replies later said_later
      → AreReplies Replies (heard ++ later) (said ++ said_later)
  replies_on {heard} {said} before none =
      subst (λ (h : List ℕ). AreReplies Replies h (said ++ [])) (sym (append-nil heard))
      (subst (λ (s : List ℕ). AreReplies Replies heard s) (sym (append-nil said)) before)
  replies_on {heard} {said} before (more {heard = later} {said = said_later} {line} {reply} so_far plain is) =
      subst (λ (h : List ℕ). AreReplies Replies h (said ++ (said_later ++ reply))) (append_assoc heard later (line ++ 10 ∷ []))
      (subst (λ (s : List ℕ). AreReplies Replies ((heard ++ later) ++ (line ++ 10 ∷ [])) s) (append_assoc said said_later reply)
      (more (replies_on before so_far) plain is))

  -- the same where the last line has no newline
  pub replied_on : {heard said later said_later : List ℕ} → AreReplies Replies heard said → AreReplied Replies later said_later
      → AreReplied Replies (heard ++ later) (said ++ said_later)
  replied_on before (inl later) = inl (replies_on before later)
  replied_on {heard} {said} before (inr later) = inr (record {
    heard_before = heard ++ later.heard_before;
    said_before = said ++ later.said_before;
    line = later.line;
    reply = later.reply;
    replies = replies_on before later.replies;
    plain = later.plain;
    there = later.there;
    is_reply = later.is_reply;
    heard_is = ap (λ (h : List ℕ). heard ++ h) later.heard_is ∙ sym (append_assoc heard later.heard_before later.line);
    said_is = ap (λ (s : List ℕ). said ++ s) later.said_is ∙ sym (append_assoc said later.said_before later.reply);
  })

  -- before the first line
  pub so_far_none : (text : Option (List ℕ)) (old : Written) → AreAnsweredSoFar Replies text text old old
  so_far_none text old = record { heard = []; said = []; consumed = Consumes-nil text; replies = none; written = behind_none old }

  -- one line more
  pub so_far_more : {text left later : Option (List ℕ)} {old then new : Written} → AreAnsweredSoFar Replies text left old then
      → IsNextAnswered Replies left later then new → AreAnsweredSoFar Replies text later old new
  so_far_more {text} {left} {later} {old} {then} {new} so_far next = record {
    heard = so_far.heard ++ (next.line ++ 10 ∷ []);
    said = so_far.said ++ next.replied.reply;
    consumed = Consumes-trans text left later so_far.heard (next.line ++ 10 ∷ []) so_far.consumed next.heard;
    replies = more so_far.replies next.plain next.replied.is_reply;
    written = behind_on old then new so_far.said next.replied.reply so_far.written next.replied.written;
  }

  module _ (most : ℕ) where
    -- what is heard and said behind some lines is heard and said of all
    pub ends_behind : (text left : Option (List ℕ)) (old then new : Written) (how : Ended) → AreAnsweredSoFar Replies text left old then
        → AreAnswered most Replies left then new how → AreAnswered most Replies text old new how
    ends_behind text left old then new how so_far later = (
      so_far.said ++ later.0,
      record {
        heard = so_far.heard ++ later.1.heard;
        left = later.1.left;
        consumed = Consumes-trans text left later.1.left so_far.heard later.1.heard so_far.consumed later.1.consumed;
        replied = replied_on so_far.replies later.1.replied;
        whole = later.1.whole;
        long = later.1.long;
      },
      record {
        stands = λ could. behind_on old then new so_far.said later.0 so_far.written (later.2.stands could);
        failed = later.2.failed;
      },
    )

    -- it ends without a line more, for a reason that says nothing of the lines, and nothing is written but where that failed
    pub ends_still : (text : Option (List ℕ)) (old new : Written) (how : Ended) → how ≢ ended.Answered → how ≢ ended.TooLong
        → (how ≢ ended.Unwritten → new ≡ old) → (how ≡ ended.Unwritten → new.has_failed ≡ true) → AreAnswered most Replies text old new how
    ends_still text old new how some short same failed = (
      [],
      record {
        heard = [];
        left = text;
        consumed = Consumes-nil text;
        replied = inl none;
        whole = λ is. absurd (some is);
        long = λ is. absurd (short is);
      },
      record {
        stands = λ could. subst (λ (out : Written). IsBehind old out []) (sym (same could)) (behind_none old);
        failed = failed;
      },
    )

    -- it ends where memory was wanting for a reply, or one couldn't be written
    pub ends_unsaid : (text : Option (List ℕ)) (old new : Written) (how : Ended)
        → ((how ≡ ended.OutOfMemory) × (new ≡ old)) ⊎ ((how ≡ ended.Unwritten) × (new.has_failed ≡ true))
        → AreAnswered most Replies text old new how
    ends_unsaid text old new how (inl is) = subst (λ (why : Ended). AreAnswered most Replies text old new why) (sym is.0)
        (ends_still text old new ended.OutOfMemory (λ e. (let wrong : ended.OutOfMemory ≡ ended.Answered = e in cc))
        (λ e. (let wrong : ended.OutOfMemory ≡ ended.TooLong = e in cc)) (λ could. is.1)
        (λ e. absurd (let wrong : ended.OutOfMemory ≡ ended.Unwritten = e in cc)))
    ends_unsaid text old new how (inr is) = subst (λ (why : Ended). AreAnswered most Replies text old new why) (sym is.0)
        (ends_still text old new ended.Unwritten (λ e. (let wrong : ended.Unwritten ≡ ended.Answered = e in cc))
        (λ e. (let wrong : ended.Unwritten ≡ ended.TooLong = e in cc)) (λ could. absurd (could refl)) (λ e. is.1))

    -- it ends where nothing is left
    pub ends_whole : (text : Option (List ℕ)) (old : Written) → IsAtEnd text → AreAnswered most Replies text old old ended.Answered
    ends_whole text old over = (
      [],
      record {
        heard = [];
        left = text;
        consumed = Consumes-nil text;
        replied = inl none;
        whole = λ is. over;
        long = λ is. absurd (let wrong : ended.Answered ≡ ended.TooLong = is in cc);
      },
      unless_stands ended.Answered old old [] (λ e. (let wrong : ended.Answered ≡ ended.Unwritten = e in cc)) (behind_none old),
    )

    -- it ends at a line that is too long
    pub ends_long : (text : Option (List ℕ)) (old : Written) → IsTooLong most text → AreAnswered most Replies text old old ended.TooLong
    ends_long text old long = (
      [],
      record {
        heard = [];
        left = text;
        consumed = Consumes-nil text;
        replied = inl none;
        whole = λ is. absurd (let wrong : ended.TooLong ≡ ended.Answered = is in cc);
        long = λ is. long;
      },
      unless_stands ended.TooLong old old [] (λ e. (let wrong : ended.TooLong ≡ ended.Unwritten = e in cc)) (behind_none old),
    )

    -- it ends behind the last line, which no newline ends
    pub ends_last : (text left : Option (List ℕ)) (old new : Written) (line : List ℕ) → Consumes text left line → IsAtEnd left → HasNoNewline line
        → 0 < length line → HasReply Replies line old new → AreAnswered most Replies text old new ended.Answered
    ends_last text left old new line consumed over plain there has = (
      has.reply,
      record {
        heard = line;
        left = left;
        consumed = consumed;
        replied = inr (record {
          heard_before = [];
          said_before = [];
          line = line;
          reply = has.reply;
          replies = none;
          plain = plain;
          there = there;
          is_reply = has.is_reply;
          heard_is = refl;
          said_is = refl;
        });
        whole = λ is. over;
        long = λ is. absurd (let wrong : ended.Answered ≡ ended.TooLong = is in cc);
      },
      unless_stands ended.Answered old new has.reply (λ e. (let wrong : ended.Answered ≡ ended.Unwritten = e in cc)) has.written,
    )

-- what replies so replies so too
pub replies_so : (First Second : List ℕ → List ℕ → Type 0) → ((line reply : List ℕ) → First line reply → Second line reply)
    → {heard said : List ℕ} → AreReplies First heard said → AreReplies Second heard said
replies_so First Second then none = none
replies_so First Second then (more {line} {reply} so_far plain is) = more (replies_so First Second then so_far) plain (then line reply is)

pub replied_so : (First Second : List ℕ → List ℕ → Type 0) → ((line reply : List ℕ) → First line reply → Second line reply)
    → {heard said : List ℕ} → AreReplied First heard said → AreReplied Second heard said
replied_so First Second then (inl is) = inl (replies_so First Second then is)
replied_so First Second then (inr is) = inr (record {
  heard_before = is.heard_before;
  said_before = is.said_before;
  line = is.line;
  reply = is.reply;
  replies = replies_so First Second then is.replies;
  plain = is.plain;
  there = is.there;
  is_reply = then is.line is.reply is.is_reply;
  heard_is = is.heard_is;
  said_is = is.said_is;
})

pub answered_so : (most : ℕ) (First Second : List ℕ → List ℕ → Type 0) → ((line reply : List ℕ) → First line reply → Second line reply)
    → (text : Option (List ℕ)) (old new : Written) (how : Ended) → AreAnswered most First text old new how → AreAnswered most Second text old new how
answered_so most First Second then text old new how is = (
  is.0,
  record {
    heard = is.1.heard;
    left = is.1.left;
    consumed = is.1.consumed;
    replied = replied_so First Second then is.1.replied;
    whole = is.1.whole;
    long = is.1.long;
  },
  is.2,
)

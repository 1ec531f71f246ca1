-- A line that is UTF-8 is read as JSON, and another one is no JSON value.
use Rattle.std.proofs.Common.{◌≡◌, ◌∙◌, ℕ, Bool, List, None, true, false, ap, if◌then◌else◌, inl, inr, refl}
use Rattle.std.specs.Str.{IsUtf8, is_utf8}
use Rattle.std.proofs.lemmas.Str.{IsUtf8-from_is_utf8, is_utf8-from_IsUtf8}
use Rattle.serde_json.specs.Read.{read}
use Rattle.questions.specs.Question.{value_in}
use Rattle.questions.proofs.question.value_in.Goals as goal

-- what a line holds where it is UTF-8, and where it isn't
held : (line : List ℕ) (test : Bool) → is_utf8 line ≡ test → value_in line ≡ (if test then read line else None)
held line test is = ap (λ (t : Bool). if t then read line else None) is

-- a line whose text isn't JSON, if it is one
none_held : (line : List ℕ) (test : Bool) → is_utf8 line ≡ test → (IsUtf8 line → read line ≡ None) → value_in line ≡ None
none_held line true is none = held line true is ∙ none (IsUtf8-from_is_utf8 line is)
none_held line false is none = held line false is

pub returns-in-Ok-clause-ok : goal.returns-in-Ok-clause-ok
returns-in-Ok-clause-ok c =
    let line = c.args.line.now in
    held line true (is_utf8-from_IsUtf8 line c.in-Ok.ensures.ok.0) ∙ c.in-Ok.ensures.ok.1

pub returns-in-Err-clause-err : goal.returns-in-Err-clause-err
returns-in-Err-clause-err c =
    let line = c.args.line.now in
    elim c.refusal_of.ensures [ inl memory ↦ inl memory | inr other ↦ inr (none_held line (is_utf8 line) refl (c.in-Err.ensures.err other)) ]

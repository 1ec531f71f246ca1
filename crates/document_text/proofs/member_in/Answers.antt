-- Bytes that are UTF-8 hold the member of their text, and others hold nothing but themselves.
use Rattle.std.proofs.Common.{◌≡◌, ◌∙◌, Bool, List, true, false, ap, if◌then◌else◌, refl, sym, unwrap_or, ℕ}
use Rattle.std.specs.Str.{is_utf8}
use Rattle.std.proofs.lemmas.Result.{IfOk-weaker}
use Rattle.std.proofs.lemmas.Str.{IsUtf8-from_is_utf8, is_utf8-from_IsUtf8}
use Rattle.document_text.specs.DocumentText.{text_in, text_member}
use Rattle.document_text.proofs.member_in.Goals as goal

-- a test that isn't met
unmet : (test : Bool) → (test ≡ true → test ≡ false) → test ≡ false
unmet true fails = fails refl
unmet false fails = refl

-- what bytes hold where they are UTF-8, and where they aren't
held : (bytes : List ℕ) (test : Bool) → is_utf8 bytes ≡ test → text_in bytes ≡ (if test then unwrap_or (text_member bytes) bytes else bytes)
held bytes test is = ap (λ (t : Bool). if t then unwrap_or (text_member bytes) bytes else bytes) is

pub returns-in-Ok : goal.returns-in-Ok
returns-in-Ok c =
    let bytes = c.args.bytes.now in
    IfOk-weaker c.member_of.result _ _
    (λ member is. ap (λ own. unwrap_or own bytes) (is ∙ ap text_member c.in-Ok.ensures.cases.0)
    ∙ sym (held bytes true (is_utf8-from_IsUtf8 bytes c.in-Ok.ensures.cases.1))) c.member_of.ensures

pub returns-in-Err : goal.returns-in-Err
returns-in-Err c =
    let bytes = c.args.bytes.now in
    sym (held bytes false (unmet (is_utf8 bytes) (λ e. absurd (c.in-Err.ensures.cases.0 (IsUtf8-from_is_utf8 bytes e)))))

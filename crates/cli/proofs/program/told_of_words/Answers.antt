-- What is told of words of which one is no text, of words that spell no call, and of words that spell one.
use Rattle.std.proofs.Common.{◌≡◌, ◌≢◌, ◌∷◌, [], Global, Some, Vec, inl, inr, map, refl, sym, ℕ}
use Rattle.std.specs.List.{All}
use Rattle.std.specs.Prelude.{IsUtf8}
use Rattle.clap.specs.Kinds.{HasKind}
use Rattle.clap.specs.Values.{kind_of}
use Rattle.clap.specs.declared.error.kind.ErrorKind.TheVariants as kind
use Rattle.cli.proofs.LeavingLemmas.{all_left}
use Rattle.cli.proofs.ResultLemmas.{if_ok}
use Rattle.cli.proofs.WordsLemmas.{holds_of_none, holds_of_some, usage_by}
use Rattle.cli.proofs.ToldLemmas.{later_left, later_told, left_told_so, none_told, told_so}
use Rattle.cli.proofs.program.told_of_words.Goals as goal
use Rattle.cli.specs.Leaving.{IsLeftOfAsked}
use Rattle.cli.specs.Told.{IsOutcomeOfCall}
use Rattle.cli.specs.Words.{IsLeftOfWords, IsOutcomeOfWords}
use Rattle.command_line.specs.Asked.{asked_by}
use Rattle.command_line.specs.Joined.{joined_words}
use Rattle.command_line.specs.Spelled.{faults_of, spelled}
use Rattle.outcomes.specs.Outcome.{IsOutcomeOfKind, streams_on}

pub returns-in_err-texts-clause-left : goal.returns-in_err-texts-clause-left
returns-in_err-texts-clause-left g c at was f k =
    let words = map (λ (word : Vec ℕ Global). word.items) c.args.words.now in
    let out = streams_on g.W.Write.contents g.E.Write.contents c.args.out.now c.args.err.now in
    none_told at was _ _ out out (IsLeftOfWords g.H.Journal.Disk.honest g.H.Journal.Disk.facts words at was) _ c.from_residual.ensures.0 (f, k)

pub returns-in_default-clause-printed : goal.returns-in_default-clause-printed
returns-in_default-clause-printed g c =
    let words = map (λ (word : Vec ℕ Global). word.items) c.args.words.now in
    let out = streams_on g.W.Write.contents g.E.Write.contents c.args.out.now c.args.err.now in
    let none : ¬ All IsUtf8 words = holds_of_none c.in_ok-texts.field-0 _ _ c.in_default.is c.in_ok-texts.ensures in
    rw c.to_print.ensures (later_told c.outcome_of_usage.result (IsOutcomeOfWords (g.H.Host.files c.args.host.now) words) out out refl
    (if_ok c.outcome_of_usage.result
    (λ outcome. (kind_of c.mistake.result ≢ kind.OutOfMemory) × IsOutcomeOfKind (kind_of c.mistake.result) outcome)
    (IsOutcomeOfWords (g.H.Host.files c.args.host.now) words)
    (λ outcome is. inr (inr (none, usage_by (kind.ValueValidation ∷ []) c.mistake.result outcome c.mistake.ensures is)))
    c.outcome_of_usage.ensures))

pub returns-in_default-clause-left : goal.returns-in_default-clause-left
returns-in_default-clause-left g c at was f k =
    let words = map (λ (word : Vec ℕ Global). word.items) c.args.words.now in
    let out = streams_on g.W.Write.contents g.E.Write.contents c.args.out.now c.args.err.now in
    let none : ¬ All IsUtf8 words = holds_of_none c.in_ok-texts.field-0 _ _ c.in_default.is c.in_ok-texts.ensures in
    let leaves = IsLeftOfWords g.H.Journal.Disk.honest g.H.Journal.Disk.facts words at was in
    rw c.to_print.ensures (later_left at was _ _ out out leaves c.outcome_of_usage.result
    (all_left at was _ _ (λ outcome. (kind_of c.mistake.result ≢ kind.OutOfMemory) × IsOutcomeOfKind (kind_of c.mistake.result) outcome) leaves
    (λ outcome is same. inr (inr (none, usage_by (kind.ValueValidation ∷ []) c.mistake.result outcome c.mistake.ensures is), same))
    c.outcome_of_usage.result c.outcome_of_usage.ensures (f, k)))

pub returns-in_err-words-clause-left : goal.returns-in_err-words-clause-left
returns-in_err-words-clause-left g c at was f k =
    let words = map (λ (word : Vec ℕ Global). word.items) c.args.words.now in
    let out = streams_on g.W.Write.contents g.E.Write.contents c.args.out.now c.args.err.now in
    none_told at was _ _ out out (IsLeftOfWords g.H.Journal.Disk.honest g.H.Journal.Disk.facts words at was) _
    c.from_residual-in_err-words.ensures.0 (f, k)

pub returns-in-Ok-clause-printed : goal.returns-in-Ok-clause-printed
returns-in-Ok-clause-printed g c =
    let words = map (λ (word : Vec ℕ Global). word.items) c.args.words.now in
    let files = g.H.Host.files c.args.host.now in
    let asked = asked_by c.in-Ok.call in
    let texts = holds_of_some c.in_ok-texts.field-0 c.in-Some.texts _ _ c.in-Some.is c.in_ok-texts.ensures in
    let said : spelled (joined_words words) ≡ Some asked =
    rw (sym texts.1, sym c.as_slice.ensures.value, sym c.in_ok-words.ensures, sym c.as_slice-2.ensures.value) c.in-Ok.ensures in
    told_so c.told_of_call.result (IsOutcomeOfCall files asked) (IsOutcomeOfWords files words)
    (streams_on g.W.Write.contents g.E.Write.contents c.args.out.now c.args.err.now) (streams_on g.W.Write.contents g.E.Write.contents c.told_of_call.new.out c.told_of_call.new.err)
    (λ outcome is. inl (texts.0, (asked, said, is))) c.told_of_call.ensures.printed

pub returns-in-Ok-clause-left : goal.returns-in-Ok-clause-left
returns-in-Ok-clause-left g c at was f k =
    let words = map (λ (word : Vec ℕ Global). word.items) c.args.words.now in
    let asked = asked_by c.in-Ok.call in
    let honest = g.H.Journal.Disk.honest in
    let facts = g.H.Journal.Disk.facts in
    let texts = holds_of_some c.in_ok-texts.field-0 c.in-Some.texts _ _ c.in-Some.is c.in_ok-texts.ensures in
    let said : spelled (joined_words words) ≡ Some asked =
    rw (sym texts.1, sym c.as_slice.ensures.value, sym c.in_ok-words.ensures, sym c.as_slice-2.ensures.value) c.in-Ok.ensures in
    left_told_so at was (g.H.Host.files c.told_of_call.new.host) (g.H.Host.kept c.told_of_call.new.host)
    (streams_on g.W.Write.contents g.E.Write.contents c.args.out.now c.args.err.now) (streams_on g.W.Write.contents g.E.Write.contents c.told_of_call.new.out c.told_of_call.new.err)
    (IsLeftOfAsked honest facts asked at was) (IsLeftOfWords honest facts words at was)
    (λ outcome is. inl (texts.0, (asked, said, is))) c.told_of_call.result (c.told_of_call.ensures.left at was f k)

pub returns-clause-printed : goal.returns-clause-printed
returns-clause-printed g c =
    let words = map (λ (word : Vec ℕ Global). word.items) c.args.words.now in
    let out = streams_on g.W.Write.contents g.E.Write.contents c.args.out.now c.args.err.now in
    let texts = holds_of_some c.in_ok-texts.field-0 c.in-Some.texts _ _ c.in-Some.is c.in_ok-texts.ensures in
    let kinds : HasKind (faults_of (joined_words words)) c.in-Err.error =
    rw (sym texts.1, sym c.as_slice.ensures.value, sym c.in_ok-words.ensures, sym c.as_slice-2.ensures.value) c.in-Err.ensures in
    let usage = c.outcome_of_usage-in-Err in
    rw c.to_print-in-Err.ensures (later_told usage.result (IsOutcomeOfWords (g.H.Host.files c.args.host.now) words) out out refl
    (if_ok usage.result (λ outcome. (kind_of c.in-Err.error ≢ kind.OutOfMemory) × IsOutcomeOfKind (kind_of c.in-Err.error) outcome)
    (IsOutcomeOfWords (g.H.Host.files c.args.host.now) words)
    (λ outcome is. inr (inl (texts.0, usage_by (faults_of (joined_words words)) c.in-Err.error outcome kinds is))) usage.ensures))

pub returns-clause-left : goal.returns-clause-left
returns-clause-left g c at was f k =
    let words = map (λ (word : Vec ℕ Global). word.items) c.args.words.now in
    let out = streams_on g.W.Write.contents g.E.Write.contents c.args.out.now c.args.err.now in
    let texts = holds_of_some c.in_ok-texts.field-0 c.in-Some.texts _ _ c.in-Some.is c.in_ok-texts.ensures in
    let kinds : HasKind (faults_of (joined_words words)) c.in-Err.error =
    rw (sym texts.1, sym c.as_slice.ensures.value, sym c.in_ok-words.ensures, sym c.as_slice-2.ensures.value) c.in-Err.ensures in
    let usage = c.outcome_of_usage-in-Err in
    let leaves = IsLeftOfWords g.H.Journal.Disk.honest g.H.Journal.Disk.facts words at was in
    rw c.to_print-in-Err.ensures (later_left at was _ _ out out leaves usage.result
    (all_left at was _ _ (λ outcome. (kind_of c.in-Err.error ≢ kind.OutOfMemory) × IsOutcomeOfKind (kind_of c.in-Err.error) outcome) leaves
    (λ outcome is same. inr (inl (texts.0, usage_by (faults_of (joined_words words)) c.in-Err.error outcome kinds is), same))
    usage.result usage.ensures (f, k)))

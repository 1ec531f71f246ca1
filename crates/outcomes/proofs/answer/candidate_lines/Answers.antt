use Rattle.std.proofs.Common.{◌∙◌, ◌+◌, ◌++◌, ap, ap₂, append-nil, drop, drop_of_length-le, map, sym}
use Rattle.command_line.proofs.WordLemmas.{left_at}
use Rattle.outcomes.specs.Answer.{candidate_line, candidate_lines}
use Rattle.outcomes.proofs.LineLemmas.{none_left, one_name}
use Rattle.outcomes.proofs.answer.candidate_lines.Goals as goal

pub loop-name-preserved : goal.loop-name-preserved
loop-name-preserved c =
    let names = c.args.names.now in
    let name = left_at (λ name. name.now) names c.loop-name.name-index _ c.loop-name-test.true in
    one_name c.loop-name.lines.items c.extend_from_slice.new.self.items c.in_ok-line.line.items _ c.in-Some.candidate.now _
    (map (λ name. name.now) (drop (c.loop-name.name-index + 1) names)) c.loop-name.rest.now c.in-Some.behind.now
    (c.in_ok-extend_from_slice.ensures.items ∙ ap (λ l. c.loop-name.lines.items ++ l) c.as_slice.ensures.value)
    (c.in_ok-line.ensures ∙ ap₂ candidate_line c.as_bytes.ensures.value c.as_ref.ensures.value) name c.in-Some.ensures.cases.0
    ∙ c.loop-name.invariant

pub returns-in_default : goal.returns-in_default
returns-in_default c = sym (append-nil c.loop-name.lines.items)
    ∙ sym (ap (λ ts. c.loop-name.lines.items ++ ts)
    (none_left (map (λ name. name.now) (drop c.loop-name.name-index c.args.names.now)) c.loop-name.rest.now c.in_default.ensures.cases))
    ∙ c.loop-name.invariant

pub returns : goal.returns
returns c = sym (append-nil c.loop-name.lines.items)
    ∙ sym (ap (λ ns. c.loop-name.lines.items ++ candidate_lines (map (λ name. name.now) ns) c.loop-name.rest.now)
    (drop_of_length-le c.args.names.now c.loop-name-test.false))
    ∙ c.loop-name.invariant

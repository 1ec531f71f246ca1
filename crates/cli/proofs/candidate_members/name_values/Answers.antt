-- The object of one more name.
use Rattle.std.proofs.Common.{◌∙◌, ◌+◌, ◌++◌, ap, ap₂, append-nil, drop, drop_of_length-le, map, sym}
use Rattle.cli.proofs.MemberLemmas.{none_left, one_name}
use Rattle.cli.proofs.candidate_members.name_values.Goals as goal
use Rattle.cli.specs.Members.{name_data, names_data}
use Rattle.command_line.proofs.WordLemmas.{left_at}
use Rattle.serde_json.specs.View.{view}

pub loop-name-preserved : goal.loop-name-preserved
loop-name-preserved c =
    let names = c.args.names.now in
    let name = left_at (λ name. name.now) names c.loop-name.name-index _ c.loop-name-test.true in
    one_name (map view c.loop-name.values.items) (map view c.push_value.new.values.items) (view c.in_ok-value.value) _ c.in-Some.candidate.now _
    (map (λ name. name.now) (drop (c.loop-name.name-index + 1) names)) c.loop-name.rest.now c.in-Some.behind.now
    c.in_ok-push_value.ensures
    (c.in_ok-value.ensures ∙ ap₂ name_data c.as_bytes.ensures.value c.as_ref.ensures.value) name c.in-Some.ensures.cases.0
    ∙ c.loop-name.invariant

pub returns-in_default : goal.returns-in_default
returns-in_default c =
    let made = map view c.loop-name.values.items in
    sym (append-nil made)
    ∙ sym (ap (λ ds. made ++ ds)
    (none_left (map (λ name. name.now) (drop c.loop-name.name-index c.args.names.now)) c.loop-name.rest.now c.in_default.ensures.cases))
    ∙ c.loop-name.invariant

pub returns : goal.returns
returns c =
    let made = map view c.loop-name.values.items in
    sym (append-nil made)
    ∙ sym (ap (λ ns. made ++ names_data (map (λ name. name.now) ns) c.loop-name.rest.now)
    (drop_of_length-le c.args.names.now c.loop-name-test.false))
    ∙ c.loop-name.invariant

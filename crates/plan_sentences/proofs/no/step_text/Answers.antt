-- The pieces stand one behind another.
use Rattle.std.proofs.Common.{◌≡◌, ◌++◌, ◌∙◌, ap}
use Rattle.std.specs.Prelude.{codes, decimal}
use Rattle.plan_sentences.specs.No.{code_of, line_words}
use Rattle.plan_sentences.proofs.GrowLemmas.{by_one, by_six, from_nothing}
use Rattle.plan_sentences.proofs.no.step_text.Goals as goal

pub returns : goal.returns
returns c =
    let line = line_words c.args.step.now in
    let rule = code_of c.args.rule in
    let first : c.extend_from_slice.new.self.items ≡ c.new-text.result.items ++ codes "Step " = cc c.in_ok-extend_from_slice.ensures.items in
    let third : c.extend_from_slice-2.new.self.items ≡ c.push_count.new.text.items ++ codes " is '" =
    cc c.in_ok-extend_from_slice-2.ensures.items in
    let fourth : c.extend_from_slice-3.new.self.items ≡ c.extend_from_slice-2.new.self.items ++ line =
    c.in_ok-extend_from_slice-3.ensures.items ∙ ap (λ said. c.extend_from_slice-2.new.self.items ++ said) (c.as_slice.ensures.value ∙ c.in_ok-line.ensures) in
    let fifth : c.extend_from_slice-4.new.self.items ≡ c.extend_from_slice-3.new.self.items ++ codes "', which isn't allowed (" =
    cc c.in_ok-extend_from_slice-4.ensures.items in
    let sixth : c.extend_from_slice-5.new.self.items ≡ c.extend_from_slice-4.new.self.items ++ rule =
    c.in_ok-extend_from_slice-5.ensures.items ∙ ap (λ said. c.extend_from_slice-4.new.self.items ++ said) c.code_of.ensures in
    let last : c.extend_from_slice-6.new.self.items ≡ c.extend_from_slice-5.new.self.items ++ codes "): " =
    cc c.in_ok-extend_from_slice-6.ensures.items in
    from_nothing c.new-text.result.items _ c.extend_from_slice-6.new.self.items c.new-text.ensures.items
    (by_one c.new-text.result.items (codes "Step ") (decimal c.args.number ++ (codes " is '" ++ (line ++ (codes "', which isn't allowed (" ++ (rule ++ codes "): ")))))
    c.extend_from_slice.new.self.items c.extend_from_slice-6.new.self.items first
    (by_six c.extend_from_slice.new.self.items (decimal c.args.number) (codes " is '") line (codes "', which isn't allowed (") rule (codes "): ")
    c.push_count.new.text.items c.extend_from_slice-2.new.self.items c.extend_from_slice-3.new.self.items
    c.extend_from_slice-4.new.self.items c.extend_from_slice-5.new.self.items c.extend_from_slice-6.new.self.items
    c.in_ok-push_count.ensures third fourth fifth sixth last))

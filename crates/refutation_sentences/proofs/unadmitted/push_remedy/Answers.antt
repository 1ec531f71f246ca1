-- The pieces one behind another.
use Rattle.std.proofs.Common.{◌≡◌, ◌++◌}
use Rattle.std.specs.Prelude.{codes}
use Rattle.refutation_sentences.specs.Reasons.{remedy_before, remedy_behind}
use Rattle.refutation_sentences.proofs.GrowLemmas.{by_five}
use Rattle.refutation_sentences.proofs.unadmitted.push_remedy.Goals as goal

pub returns : goal.returns
returns c =
    let old = c.args.text.now.items in
    let name = c.args.name.now in
    let version = c.args.version.now in
    let before = remedy_before c.args.is_offered in
    let behind = remedy_behind c.args.is_offered in
    let equals = codes " (= " in
    let first : c.extend_from_slice.new.self.items ≡ old ++ before = cc (c.in_ok-extend_from_slice.ensures.items, c.remedy_before.ensures) in
    let second : c.extend_from_slice-2.new.self.items ≡ c.extend_from_slice.new.self.items ++ name = cc c.in_ok-extend_from_slice-2.ensures.items in
    let third : c.extend_from_slice-3.new.self.items ≡ c.extend_from_slice-2.new.self.items ++ equals = cc c.in_ok-extend_from_slice-3.ensures.items in
    let fourth : c.extend_from_slice-4.new.self.items ≡ c.extend_from_slice-3.new.self.items ++ version =
    cc (c.in_ok-extend_from_slice-4.ensures.items, c.text.ensures.value) in
    let fifth : c.extend_from_slice-5.new.self.items ≡ c.extend_from_slice-4.new.self.items ++ behind =
    cc (c.in_ok-extend_from_slice-5.ensures.items, c.remedy_behind.ensures) in
    by_five old before name equals version behind _ _ _ _ _ first second third fourth fifth

-- The words are those of the name and of its highest version.
use Rattle.std.proofs.Common.{◌≡◌, ◌++◌, ◌∙◌, refl}
use Rattle.std.specs.Prelude.{codes}
use Rattle.refutation_sentences.proofs.GrowLemmas.{by_three}
use Rattle.refutation_sentences.proofs.goals.push_uncandidated.Goals as goal

pub returns : goal.returns
returns c =
    let old = c.args.text.now.items in
    let name = c.args.name.now in
    let has = codes " has no candidate: " in
    let grown = c.in_ok-push_highest.ensures in
    let first : c.extend_from_slice.new.self.items ≡ old ++ name = cc c.in_ok-extend_from_slice.ensures.items in
    let second : c.extend_from_slice-2.new.self.items ≡ c.extend_from_slice.new.self.items ++ has = cc c.in_ok-extend_from_slice-2.ensures.items in (
      name ++ (has ++ grown.0),
      by_three old name has grown.0 _ _ _ first second grown.1,
      (grown.0, c.requires, grown.2, refl),
    )

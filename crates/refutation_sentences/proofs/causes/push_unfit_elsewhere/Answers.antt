-- The pieces one behind another.
use Rattle.std.proofs.Common.{◌≡◌, ◌++◌}
use Rattle.std.specs.Prelude.{codes}
use Rattle.refutation_sentences.specs.Words.{package_words}
use Rattle.refutation_sentences.proofs.GrowLemmas.{by_five}
use Rattle.refutation_sentences.proofs.causes.push_unfit_elsewhere.Goals as goal

pub returns : goal.returns
returns c =
    let old = c.args.text.now.items in
    let before = codes "no index has a package " in
    let name = c.args.name.now in
    let between = codes ", and " in
    let pkg = package_words c.args.stanza.now.pkg in
    let behind = codes " provides it in no version that fits" in
    let first : c.extend_from_slice.new.self.items ≡ old ++ before = cc c.in_ok-extend_from_slice.ensures.items in
    let second : c.extend_from_slice-2.new.self.items ≡ c.extend_from_slice.new.self.items ++ name = cc c.in_ok-extend_from_slice-2.ensures.items in
    let third : c.extend_from_slice-3.new.self.items ≡ c.extend_from_slice-2.new.self.items ++ between = cc c.in_ok-extend_from_slice-3.ensures.items in
    let fourth : c.push_versioned.new.text.items ≡ c.extend_from_slice-3.new.self.items ++ pkg =
    cc (c.in_ok-push_versioned.ensures, c.name.ensures, c.text.ensures.value, c.version-version.ensures) in
    let fifth : c.extend_from_slice-4.new.self.items ≡ c.push_versioned.new.text.items ++ behind = cc c.in_ok-extend_from_slice-4.ensures.items in
    by_five old before name between pkg behind _ _ _ _ _ first second third fourth fifth

-- The pieces stand one behind another, and the package is that of the record.
use Rattle.std.proofs.Common.{◌≡◌, ◌++◌, ℕ, List, arith, subst}
use Rattle.std.specs.Prelude.{codes, [], if◌then◌else◌}
use Rattle.std.specs.Option.{option_copied}
use Rattle.std.proofs.lemmas.Grind.{common_steps}
use Rattle.rules.specs.Package.{Pkg}
use Rattle.plan_sentences.specs.No.{IsMatched, is_provided, matched_words, package_words, record_words}
use Rattle.plan_sentences.proofs.GrowLemmas.{by_six, from_nothing}
use Rattle.plan_sentences.proofs.against.against.Goals as goal

pub returns : goal.returns
returns c = λ present.
    let other = c.args.other.now in
    let atoms = c.args.atoms.now in
    let matched = option_copied c.matched_in-matched.result in
    let words : Pkg → List ℕ = λ there. package_words c.args.pkg.now ++ (c.args.verb.now ++ (matched_words there matched ++ (codes ", and "
    ++ (record_words other ++ (if is_provided there matched then codes " and provides this" else []))))) in
    let there = c.in-Some.there.now in
    let fourth : c.extend_from_slice-2.new.self.items ≡ c.push_matched.new.text.items ++ codes ", and " =
    cc c.in_ok-extend_from_slice-2.ensures.items in
    let last : c.extend_from_slice-3.new.self.items
    ≡ c.push_record.new.text.items ++ (if is_provided there matched then codes " and provides this" else []) = grind (arith, common_steps) in
    let grown : c.extend_from_slice-3.new.self.items ≡ words there =
    from_nothing c.new-text.result.items (words there) c.extend_from_slice-3.new.self.items c.new-text.ensures.items
    (by_six c.new-text.result.items (package_words c.args.pkg.now) c.args.verb.now (matched_words there matched) (codes ", and ") (record_words other)
    (if is_provided there matched then codes " and provides this" else [])
    c.push_pkg.new.text.items c.extend_from_slice.new.self.items c.push_matched.new.text.items c.extend_from_slice-2.new.self.items
    c.push_record.new.text.items c.extend_from_slice-3.new.self.items
    c.in_ok-push_pkg.ensures c.in_ok-extend_from_slice.ensures.items c.in_ok-push_matched.ensures fourth c.in_ok-push_record.ensures last) in
    let both = subst (λ (pkg : Pkg). IsMatched atoms pkg matched × (c.extend_from_slice-3.new.self.items ≡ words pkg)) c.in-Some.ensures.same
    (c.matched_in-matched.ensures, grown) in
    (matched, both.0, both.1)

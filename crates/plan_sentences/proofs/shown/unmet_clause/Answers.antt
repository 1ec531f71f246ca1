-- The pieces stand one behind another.
use Rattle.std.proofs.Common.{◌≡◌, ◌++◌, ◌∙◌, ℕ, Global, List, Vec, ap, map}
use Rattle.std.specs.Prelude.{codes}
use Rattle.plan_sentences.specs.No.{alternatives_words, bracketed, package_words, verb_of}
use Rattle.plan_sentences.proofs.GrowLemmas.{by_five, from_nothing}
use Rattle.plan_sentences.proofs.shown.unmet_clause.Goals as goal

pub returns : goal.returns
returns c = λ distinct.
    let there = map (λ (item : Vec ℕ Global). item.items) c.in_ok-there.there.items in
    let verb = verb_of c.args.field in
    let second : c.extend_from_slice.new.self.items ≡ c.push_pkg.new.text.items ++ verb =
    c.in_ok-extend_from_slice.ensures.items ∙ ap (λ said. c.push_pkg.new.text.items ++ said) c.verb_of.ensures in
    let last : c.push_bracketed.new.text.items ≡ c.extend_from_slice-2.new.self.items ++ bracketed there =
    c.in_ok-push_bracketed.ensures ∙ ap (λ (items : List (Vec ℕ Global)). c.extend_from_slice-2.new.self.items ++ bracketed (map (λ (item : Vec ℕ Global). item.items) items))
    c.as_slice.ensures.value in (
      there,
      c.in_ok-there.ensures distinct,
      from_nothing c.new-text.result.items _ c.push_bracketed.new.text.items c.new-text.ensures.items
          (by_five c.new-text.result.items (package_words c.args.pkg.now) verb (alternatives_words c.args.atoms.now) c.args.behind.now (bracketed there)
          c.push_pkg.new.text.items c.extend_from_slice.new.self.items c.push_clause.new.text.items c.extend_from_slice-2.new.self.items
          c.push_bracketed.new.text.items c.in_ok-push_pkg.ensures second c.in_ok-push_clause.ensures c.in_ok-extend_from_slice-2.ensures.items last),
    )

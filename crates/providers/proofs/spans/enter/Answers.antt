-- The table has one name more, with all of its offers.
use Rattle.std.proofs.Common.{◌≡◌, ◌+◌, ◌∷◌, ℕ, List, drop, sym, ap, ◌∙◌}
use Rattle.std.specs.List.{prefix_len}
use Rattle.std.proofs.lemmas.List.{drop_more}
use Rattle.providers.specs.Offers.{Offer, is_offer_of}
use Rattle.providers.proofs.SpanLemmas.{IsEntered, some_run, table_more}
use Rattle.providers.proofs.spans.enter.Goals as goal

pub returns-clause-further : goal.returns-clause-further
returns-clause-further c =
    let offers : List Offer = c.args.offers.now in
    let first : Offer = c.index-offers-start.result in
    let is : drop c.args.start offers ≡ first ∷ drop (c.args.start + 1) offers
    = drop_more offers c.args.start first c.requires.left ∙ ap (λ (o : Offer). o ∷ drop (c.args.start + 1) offers) (sym c.index-offers-start.is) in
    let entered : IsEntered c.args.spans.now.entries c.insert.new.self.entries c.name.result (c.args.start, c.args.start + c.run_len.result)
    = λ name. c.in_ok-insert.ensures.updates.0 (record { ref_ptr = c.name.result.ref_ptr; now = name }) in
    some_run offers c.args.start first c.args.spans.now.entries c.insert.new.self.entries c.name.result c.run_len.result
    c.requires.sorted is c.name.ensures
    (c.run_len.ensures.value ∙ ap (prefix_len (is_offer_of first.name)) c.split_at.ensures.back
    ∙ ap (λ (name : List ℕ). prefix_len (is_offer_of name) (drop c.args.start offers)) (sym c.name.ensures))
    c.requires.before entered

pub returns-clause-before : goal.returns-clause-before
returns-clause-before c =
    let offers : List Offer = c.args.offers.now in
    let first : Offer = c.index-offers-start.result in
    let is : drop c.args.start offers ≡ first ∷ drop (c.args.start + 1) offers
    = drop_more offers c.args.start first c.requires.left ∙ ap (λ (o : Offer). o ∷ drop (c.args.start + 1) offers) (sym c.index-offers-start.is) in
    let entered : IsEntered c.args.spans.now.entries c.insert.new.self.entries c.name.result (c.args.start, c.args.start + c.run_len.result)
    = λ name. c.in_ok-insert.ensures.updates.0 (record { ref_ptr = c.name.result.ref_ptr; now = name }) in
    table_more offers c.args.start first c.args.spans.now.entries c.insert.new.self.entries c.name.result c.run_len.result
    c.requires.sorted is c.name.ensures
    (c.run_len.ensures.value ∙ ap (prefix_len (is_offer_of first.name)) c.split_at.ensures.back
    ∙ ap (λ (name : List ℕ). prefix_len (is_offer_of name) (drop c.args.start offers)) (sym c.name.ensures))
    c.requires.before entered

-- All kinds of premises, one after another.
use Rattle.std.proofs.Common.{◌⊎◌, subst}
use Rattle.refutation.specs.Premise.{IsPremise}
use Rattle.refutation.specs.declared.line.Premise.{Premise}
use Rattle.encode.specs.Encoding.{Encoding}
use Rattle.encode.specs.Growing.{Grows, IsAgainst, IsGoalAsked, IsNeed, IsOfStart}
use Rattle.encode.proofs.GrowLemmas.{all_premises, and_then, in_words}
use Rattle.encode.proofs.premises.add_premises.Goals as goal

pub returns : goal.returns
returns c =
    let Goals : Premise → Type 0 = λ reason. IsPremise c.args.facts.now reason × IsGoalAsked reason in
    let Starts : Premise → Type 0 = λ reason. IsPremise c.args.facts.now reason × IsOfStart reason in
    let Needs : Premise → Type 0 = λ reason. IsPremise c.args.facts.now reason × IsNeed reason in
    let Against : Premise → Type 0 = λ reason. IsPremise c.args.facts.now reason × IsAgainst reason in
    let From : Encoding → Type 0 = λ encoding. Grows c.args.facts.now encoding c.add_needs.new.encoding Needs in
    in_words c.args.facts.now c.args.encoding.now c.add_all_against.new.encoding
    (λ reason. ((Goals reason ⊎ Starts reason) ⊎ Needs reason) ⊎ Against reason) (IsPremise c.args.facts.now) (all_premises c.args.facts.now)
    (and_then c.args.facts.now c.args.encoding.now c.add_needs.new.encoding c.add_all_against.new.encoding
    (λ reason. (Goals reason ⊎ Starts reason) ⊎ Needs reason) Against
    (and_then c.args.facts.now c.args.encoding.now c.add_starts.new.encoding c.add_needs.new.encoding (λ reason. Goals reason ⊎ Starts reason) Needs
    (and_then c.args.facts.now c.args.encoding.now c.add_goals.new.encoding c.add_starts.new.encoding Goals Starts
    c.in_ok-add_goals.ensures c.in_ok-add_starts.ensures) (subst From c.end_unowned.ensures c.in_ok-add_needs.ensures))
    c.in_ok-add_all_against.ensures)

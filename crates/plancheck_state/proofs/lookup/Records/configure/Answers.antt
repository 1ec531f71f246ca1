-- Each package of the names is configured in its turn.
use Rattle.std.proofs.Common.{◌≡◌, ◌∙◌, List, ℕ, true, ap, refl, subst, sym, take}
use Rattle.std.specs.List.{All}
use Rattle.std.proofs.lemmas.List.{take_all}
use Rattle.rules.specs.Database.{Record, HasDistinctNames, IsPresent}
use Rattle.rules.specs.Step.{changed, configured, is_among, is_named}
use Rattle.plancheck_state.proofs.NamedChanges.{configured-next, configured-none, distinct-changed, present-next}
use Rattle.plancheck_state.proofs.lookup.Records.configure.Goals as goal

pub configure_one-requires-clause-distinct : goal.configure_one-requires-clause-distinct
configure_one-requires-clause-distinct c = subst HasDistinctNames (sym c.loop-name.invariant)
    (distinct-changed (is_among (take c.loop-name.name-index c.args.names.now)) configured c.args.self.now (λ entry. refl) c.requires.distinct)

pub configure_one-requires-clause-present : goal.configure_one-requires-clause-present
configure_one-requires-clause-present c =
    subst (λ name. All (λ (entry : Record). is_named name entry ≡ true → IsPresent entry) c.loop-name.self) (sym c.as_bytes.ensures.bytes)
    (subst (All (λ (entry : Record). is_named c.name-item.result entry ≡ true → IsPresent entry)) (sym c.loop-name.invariant)
    (present-next c.args.names.now c.loop-name.name-index c.name-item.result c.args.self.now c.loop-name-test.true c.name-item.is
    c.requires.present))

pub loop-name-preserved : goal.loop-name-preserved
loop-name-preserved c =
    let so_far = take c.loop-name.name-index c.args.names.now in
    c.configure_one.ensures
    ∙ ap (changed (is_named c.as_bytes.result.now) configured) c.loop-name.invariant
    ∙ ap (λ name. changed (is_named name) configured (changed (is_among so_far) configured c.args.self.now)) c.as_bytes.ensures.bytes
    ∙ configured-next c.args.names.now c.loop-name.name-index c.name-item.result c.args.self.now c.loop-name-test.true c.name-item.is

pub loop-name-init : goal.loop-name-init
loop-name-init c = configured-none c.args.self.now

pub returns : goal.returns
returns c = c.loop-name.invariant
    ∙ ap (λ (names : List (List ℕ)). changed (is_among names) configured c.args.self.now)
    (take_all c.loop-name.name-index c.args.names.now c.loop-name-test.false)

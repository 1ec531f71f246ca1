-- The first that is installed is the least.
use Rattle.std.proofs.Common.{◌≡◌, List, ℕ, true, false, sym, subst, ◌∙◌}
use Rattle.std.specs.List.{All}
use Rattle.std.proofs.lemmas.List.Elements.{All-more}
use Rattle.plancheck_group.proofs.PartLemmas.{up_to_end}
use Rattle.rules.specs.Database.{HasRecord, IsInstalled}
use Rattle.fixed_order.proofs.RemovalLemmas.{least_at}
use Rattle.fixed_order.proofs.removal.least_installed.Goals as goal

pub returns-then-is_installed : goal.returns-then-is_installed
returns-then-is_installed c = least_at (λ name. HasRecord IsInstalled name c.args.db.now) c.args.keys.now
    c.loop-key.key-index c.key-item.result c.requires c.loop-key-test.true c.key-item.is c.loop-key.invariant
    (subst (λ (name : List ℕ). HasRecord IsInstalled name c.args.db.now) c.name.ensures (c.is_installed.ensures.0 c.if-is_installed.true))

pub loop-key-preserved : goal.loop-key-preserved
loop-key-preserved c = All-more (λ name. ¬ HasRecord IsInstalled name c.args.db.now) c.args.keys.now c.loop-key.key-index
    c.key-item.result c.loop-key-test.true c.loop-key.invariant
    (subst (λ (name : List ℕ). ¬ HasRecord IsInstalled name c.args.db.now) (c.name.ensures ∙ c.key-item.is)
    (λ has. absurd (let e : true ≡ false = sym (c.is_installed.ensures.1 has) ∙ c.if-is_installed.false in cc)))

pub returns : goal.returns
returns c = up_to_end (All (λ name. ¬ HasRecord IsInstalled name c.args.db.now)) c.args.keys.now
    c.loop-key.key-index c.loop-key-test.false c.loop-key.invariant

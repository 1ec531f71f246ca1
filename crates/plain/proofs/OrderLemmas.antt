-- A plain change to an acceptable selection is ordered by the fixed order.
use Rattle.std.proofs.Common.{ℕ, List, [], ◌∷◌, ◌++◌, map, refl, sym, subst}
use Rattle.rules.specs.Database.{Record}
use Rattle.rules.specs.Package.{Pkg}
use Rattle.rules.specs.Run.{Run, after}
use Rattle.rules.specs.Sound.{selected}
use Rattle.rules.specs.Universe.{Universe}
use Rattle.rules.specs.declared.step.Step.{Step}
use Rattle.rules.specs.declared.step.Step.TheVariants as step
use Rattle.rules.proofs.RunLemmas.{Run-append}
use Rattle.plain.specs.Change.{IsToRemove}
use Rattle.plain.specs.Laws.{PlainChangeIsOrdered}
use Rattle.plain.specs.PhaseLaws.{AreUnpacked, EndsWell}
use Rattle.plain.specs.Order.{AreConfigures, AreRemovals, IsConfigurableGroup, after_all, unpack_of}
use Rattle.plain.specs.Underway.{IsUnderway}
use Rattle.plain.proofs.ConfigureLemmas.{configures_keep}
use Rattle.plain.proofs.ClashLemmas.{start_is_quiet}
use Rattle.plain.proofs.PurgeLemmas.{purges_end_well}
use Rattle.plain.proofs.RemovalLemmas.{removals_are_allowed}
use Rattle.plain.proofs.UnpackLemmas.{unpacks_are_allowed}

-- behind the removals: they were a run, the change is underway and nothing is to be removed
pub record AreRemoved (u : Universe) (start : List Record) (members : List Pkg) (db : List Record) (steps : List Step) (reached : List Record) : Type 0 where
  pub run : Run u db steps reached
  pub underway : IsUnderway u start members reached
  pub none : (name : List ℕ) → ¬ IsToRemove members reached name

pub removals_run : (u : Universe) (start : List Record) (members : List Pkg) (steps : List Step) (db : List Record)
    → IsUnderway u start members db → AreRemovals u members db steps
    → AreRemoved u start members db steps (after_all u db steps)
removals_run u start members [] db underway none = record { run = refl; underway = underway; none = none }
removals_run u start members (taken ∷ rest) db underway removals =
    let next = removals_are_allowed u start db members taken underway removals.0 in
    let later = removals_run u start members rest (after u db taken) next.1 removals.1 in
    record { run = (next.0, later.run); underway = later.underway; none = later.none }

-- behind the configures besides no group may be configured
pub record AreConfigured (u : Universe) (start : List Record) (members : List Pkg) (db : List Record) (steps : List Step) (reached : List Record) : Type 0 where
  pub run : Run u db steps reached
  pub underway : IsUnderway u start members reached
  pub none : (name : List ℕ) → ¬ IsToRemove members reached name
  pub stuck : (group : List (List ℕ)) → ¬ IsConfigurableGroup u reached group

pub configures_run : (u : Universe) (start : List Record) (members : List Pkg) (steps : List Step) (db : List Record)
    → IsUnderway u start members db → ((name : List ℕ) → ¬ IsToRemove members db name) → AreConfigures u db steps
    → AreConfigured u start members db steps (after_all u db steps)
configures_run u start members [] db underway none stuck = record { run = refl; underway = underway; none = none; stuck = stuck }
configures_run u start members (step.Unpack name version ∷ rest) db underway none configures = absurd configures.0
configures_run u start members (step.Deconfigure name ∷ rest) db underway none configures = absurd configures.0
configures_run u start members (step.Remove name ∷ rest) db underway none configures = absurd configures.0
configures_run u start members (step.Purge name ∷ rest) db underway none configures = absurd configures.0
configures_run u start members (step.Configure names ∷ rest) db underway none configures =
    let allowed = configures.0.group.allowed in
    let next = configures_keep u start db members names underway none allowed in
    let later = configures_run u start members rest (after u db (step.Configure names)) next.0 next.1 configures.1 in
    record { run = (allowed, later.run); underway = later.underway; none = later.none; stuck = later.stuck }

-- four lists of steps in a row are a run
joined : (u : Universe) (start first second third finish : List Record) (a b c d : List Step) → Run u start a first → Run u first b second
    → Run u second c third → Run u third d finish → Run u start (a ++ (b ++ (c ++ d))) finish
joined u start first second third finish a b c d one_ two three four =
    Run-append u start first finish a (b ++ (c ++ d)) one_
    (Run-append u first second finish b (c ++ d) two (Run-append u second third finish c d three four))

pub plain_change_is_ordered : PlainChangeIsOrdered
plain_change_is_ordered u start selection steps change order =
    let members = selected u selection in
    let unpacked : AreUnpacked u start members order.unpacks order.all_unpacked =
    subst (AreUnpacked u start members order.unpacks) (sym order.all_unpacked_is)
    (unpacks_are_allowed u start selection order.unpacks change order.unpacks_are) in
    let removed : AreRemoved u start members order.all_unpacked order.removals order.all_removed =
    subst (AreRemoved u start members order.all_unpacked order.removals) (sym order.all_removed_is)
    (removals_run u start members order.removals order.all_unpacked unpacked.underway order.removals_are) in
    let configured : AreConfigured u start members order.all_removed order.configures order.all_configured =
    subst (AreConfigured u start members order.all_removed order.configures) (sym order.all_configured_is)
    (configures_run u start members order.configures order.all_removed removed.underway removed.none order.configures_are) in
    let finish = after_all u order.all_configured (map step.Purge order.purges) in
    let ended : EndsWell u order.all_configured members (map step.Purge order.purges) finish =
    purges_end_well u start order.all_configured selection order.purges change configured.underway configured.none configured.stuck order.purges_are in (
      start_is_quiet u start members change.plain,
      (
        finish,
        record {
          run = subst (λ ss. Run u start ss finish) (sym order.parts)
              (joined u start order.all_unpacked order.all_removed order.all_configured finish (map unpack_of order.unpacks) order.removals
              order.configures (map step.Purge order.purges) unpacked.run removed.run configured.run ended.run);
          good = ended.good;
          installed = ended.installed;
        },
      ),
    )

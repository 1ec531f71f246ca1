-- The whole: the unpacks of a plain change lead to where it is underway.
use Rattle.std.proofs.Common.{◌≡◌, ℕ, Bool, List, ◌++◌, map, sym, ap, subst, ◌∙◌}
use Rattle.rules.specs.Package.{Pkg}
use Rattle.rules.specs.Run.{Run}
use Rattle.plain.specs.Underway.{IsUnderway}
use Rattle.rules.specs.Database.{Record}
use Rattle.rules.specs.Sound.{selected}
use Rattle.rules.specs.Universe.{Universe}
use Rattle.rules.specs.declared.step.Step.{Step}
use Rattle.plain.specs.Change.{IsPlainChange}
use Rattle.plain.specs.Order.{after_all, to_unpack, unpack_of}
use Rattle.plain.specs.PhaseLaws.{AreUnpacked}
use Rattle.plain.proofs.SelectedLemmas.{members_are_by_name}
use Rattle.plain.proofs.UnpackLemmas.{unpacks_are_allowed}

-- the unpacks are a run to where the change is underway
pub unpacks_lead : (u : Universe) (start : List Record) (selection : ℕ → Bool) → IsPlainChange u start selection
    → AreUnpacked u start (selected u selection) (to_unpack start (selected u selection))
    (after_all u start (map unpack_of (to_unpack start (selected u selection))))
unpacks_lead u start selection change = unpacks_are_allowed u start selection (to_unpack start (selected u selection)) change
    (members_are_by_name u start selection change)

-- from a copy of the start the unpacks are a run
pub unpacks_run : (u : Universe) (start db : List Record) (selection : ℕ → Bool) (steps : List Step) → IsPlainChange u start selection
    → db ≡ start → steps ≡ map unpack_of (to_unpack start (selected u selection)) → Run u db steps (after_all u db steps)
unpacks_run u start db selection steps change same are = subst (λ (d : List Record). Run u d steps (after_all u d steps)) (sym same)
    (subst (λ (s : List Step). Run u start s (after_all u start s)) (sym are) (unpacks_lead u start selection change).run)

-- where they lead
pub unpacked_is : (u : Universe) (start db reached : List Record) (steps : List Step) (pkgs : List Pkg) → db ≡ start
    → steps ≡ map unpack_of pkgs → reached ≡ after_all u db steps → reached ≡ after_all u start (map unpack_of pkgs)
unpacked_is u start db reached steps pkgs same are leads =
    leads ∙ ap (λ (d : List Record). after_all u d steps) same ∙ ap (λ (s : List Step). after_all u start s) are

-- there the change is underway
pub unpacked_underway : (u : Universe) (start db reached : List Record) (selection : ℕ → Bool) (steps : List Step)
    → IsPlainChange u start selection → db ≡ start → steps ≡ map unpack_of (to_unpack start (selected u selection))
    → reached ≡ after_all u db steps → IsUnderway u start (selected u selection) reached
unpacked_underway u start db reached selection steps change same are leads = subst (λ (d : List Record). IsUnderway u start (selected u selection) d)
    (sym (unpacked_is u start db reached steps (to_unpack start (selected u selection)) same are leads)) (unpacks_lead u start selection change).underway

-- the parts of the whole
pub parts_are : (unpacks known removals configures purges purged : List Step) → unpacks ≡ known → purges ≡ purged
    → unpacks ++ (removals ++ (configures ++ purges)) ≡ known ++ (removals ++ (configures ++ purged))
parts_are unpacks known removals configures purges purged are last =
    ap (λ (s : List Step). s ++ (removals ++ (configures ++ purges))) are
    ∙ ap (λ (s : List Step). known ++ (removals ++ (configures ++ s))) last

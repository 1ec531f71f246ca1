-- Texts that are no versions, each with its first fault, and the parts of one that is (Policy 5.6.12).
use Rattle.std.proofs.Common.{◌≡◌, Some, None, [], codes, refl}
use Rattle.rules.specs.Version.{revision_of, upstream_of}
use Rattle.rules.specs.VersionFault.{first_fault}
use Rattle.rules.specs.declared.bad_version.BadVersion.TheVariants.{BadByte, BadEpoch, Empty, EmptyRevision, EmptyUpstream, EpochTooLarge}

no_revision_behind_the_hyphen : first_fault (codes "1.0-") ≡ Some EmptyRevision
unfolding first_fault
no_revision_behind_the_hyphen = refl

no_epoch_before_the_colon : first_fault (codes ":1") ≡ Some BadEpoch
unfolding first_fault
no_epoch_before_the_colon = refl

letter_for_an_epoch : first_fault (codes "a:1") ≡ Some BadEpoch
unfolding first_fault
letter_for_an_epoch = refl

epoch_above_the_greatest : first_fault (codes "2147483648:1") ≡ Some EpochTooLarge
unfolding first_fault
epoch_above_the_greatest = refl

nothing_at_all : first_fault [] ≡ Some Empty
unfolding first_fault
nothing_at_all = refl

nothing_behind_the_epoch : first_fault (codes "1:") ≡ Some EmptyUpstream
unfolding first_fault
nothing_behind_the_epoch = refl

underscore : first_fault (codes "1_0") ≡ Some BadByte
unfolding first_fault
underscore = refl

greatest_epoch_and_two_hyphens : first_fault (codes "2147483647:1-2-3") ≡ None
unfolding first_fault
greatest_epoch_and_two_hyphens = refl

upstream_before_the_last_hyphen : upstream_of (codes "2147483647:1-2-3") ≡ codes "1-2"
upstream_before_the_last_hyphen = refl

revision_behind_the_last_hyphen : revision_of (codes "2147483647:1-2-3") ≡ codes "3"
revision_behind_the_last_hyphen = refl

-- Seven comparisons of versions, from Policy 5.6.12, deb-version(7) and dpkg.
use Rattle.std.proofs.Common.{◌≡◌, ◌≢◌, codes, refl}
use Rattle.std.specs.declared.cmp.Ordering.TheVariants.{Less, Greater}
use Rattle.rules.specs.Version.{SameVersion, version_cmp}

-- a tilde sorts before the end of a part
candidate_before_release : version_cmp (codes "1.0~rc1-1") (codes "1.0-1") ≡ Less
unfolding version_cmp
candidate_before_release = refl

-- a missing epoch is 0, numbers compare by value, and a missing revision equals `0`
missing_parts_are_zero : SameVersion (codes "1.0") (codes "0:1.00-0")
unfolding version_cmp
missing_parts_are_zero = refl

-- a missing number is 0
missing_number_is_zero : SameVersion (codes "1.") (codes "1.0")
unfolding version_cmp
missing_number_is_zero = refl

-- revisions compare by numbers and not as plain text
ten_after_nine : version_cmp (codes "1.0-10") (codes "1.0-9") ≡ Greater
unfolding version_cmp
ten_after_nine = refl

-- letters sort before other bytes
letters_before_others : version_cmp (codes "1.0a") (codes "1.0+") ≡ Less
unfolding version_cmp
letters_before_others = refl

-- the epoch decides first
epoch_decides : version_cmp (codes "1:0.1") (codes "9.9") ≡ Greater
unfolding version_cmp
epoch_decides = refl

-- nothing doesn't sort before a tilde
end_after_tilde : version_cmp (codes "1.0") (codes "1.0~") ≢ Less
unfolding version_cmp
end_after_tilde h = cc h

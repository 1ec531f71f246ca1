-- Each field Status says the words that it is written for.
use Rattle.std.proofs.Common.{◌≡◌, ◌++◌, Some, refl, codes}
use Rattle.rules.specs.Stanza.{flag_word, state_word, want_word}
use Rattle.rules.specs.declared.status.Flag.{Flag}
use Rattle.rules.specs.declared.status.Flag.TheVariants as flags
use Rattle.rules.specs.declared.status.State.{State}
use Rattle.rules.specs.declared.status.State.TheVariants.{NotInstalled, ConfigFiles, HalfInstalled, Unpacked, HalfConfigured, TriggersAwaited, TriggersPending, Installed}
use Rattle.rules.specs.declared.status.Want.{Want}
use Rattle.rules.specs.declared.status.Want.TheVariants.{Unknown, Install, Hold, Deinstall, Purge}
use Rattle.status_text.specs.Words.{read_words}

pub words-read : (want : Want) (flag : Flag) (state : State)
    → read_words (want_word want ++ codes " " ++ flag_word flag ++ codes " " ++ state_word state)
    ≡ Some (record { want = want; flag = flag; state = state })
unfolding read_words
words-read Unknown flags.Ok NotInstalled = refl
words-read Unknown flags.Ok ConfigFiles = refl
words-read Unknown flags.Ok HalfInstalled = refl
words-read Unknown flags.Ok Unpacked = refl
words-read Unknown flags.Ok HalfConfigured = refl
words-read Unknown flags.Ok TriggersAwaited = refl
words-read Unknown flags.Ok TriggersPending = refl
words-read Unknown flags.Ok Installed = refl
words-read Unknown flags.ReinstallRequired NotInstalled = refl
words-read Unknown flags.ReinstallRequired ConfigFiles = refl
words-read Unknown flags.ReinstallRequired HalfInstalled = refl
words-read Unknown flags.ReinstallRequired Unpacked = refl
words-read Unknown flags.ReinstallRequired HalfConfigured = refl
words-read Unknown flags.ReinstallRequired TriggersAwaited = refl
words-read Unknown flags.ReinstallRequired TriggersPending = refl
words-read Unknown flags.ReinstallRequired Installed = refl
words-read Install flags.Ok NotInstalled = refl
words-read Install flags.Ok ConfigFiles = refl
words-read Install flags.Ok HalfInstalled = refl
words-read Install flags.Ok Unpacked = refl
words-read Install flags.Ok HalfConfigured = refl
words-read Install flags.Ok TriggersAwaited = refl
words-read Install flags.Ok TriggersPending = refl
words-read Install flags.Ok Installed = refl
words-read Install flags.ReinstallRequired NotInstalled = refl
words-read Install flags.ReinstallRequired ConfigFiles = refl
words-read Install flags.ReinstallRequired HalfInstalled = refl
words-read Install flags.ReinstallRequired Unpacked = refl
words-read Install flags.ReinstallRequired HalfConfigured = refl
words-read Install flags.ReinstallRequired TriggersAwaited = refl
words-read Install flags.ReinstallRequired TriggersPending = refl
words-read Install flags.ReinstallRequired Installed = refl
words-read Hold flags.Ok NotInstalled = refl
words-read Hold flags.Ok ConfigFiles = refl
words-read Hold flags.Ok HalfInstalled = refl
words-read Hold flags.Ok Unpacked = refl
words-read Hold flags.Ok HalfConfigured = refl
words-read Hold flags.Ok TriggersAwaited = refl
words-read Hold flags.Ok TriggersPending = refl
words-read Hold flags.Ok Installed = refl
words-read Hold flags.ReinstallRequired NotInstalled = refl
words-read Hold flags.ReinstallRequired ConfigFiles = refl
words-read Hold flags.ReinstallRequired HalfInstalled = refl
words-read Hold flags.ReinstallRequired Unpacked = refl
words-read Hold flags.ReinstallRequired HalfConfigured = refl
words-read Hold flags.ReinstallRequired TriggersAwaited = refl
words-read Hold flags.ReinstallRequired TriggersPending = refl
words-read Hold flags.ReinstallRequired Installed = refl
words-read Deinstall flags.Ok NotInstalled = refl
words-read Deinstall flags.Ok ConfigFiles = refl
words-read Deinstall flags.Ok HalfInstalled = refl
words-read Deinstall flags.Ok Unpacked = refl
words-read Deinstall flags.Ok HalfConfigured = refl
words-read Deinstall flags.Ok TriggersAwaited = refl
words-read Deinstall flags.Ok TriggersPending = refl
words-read Deinstall flags.Ok Installed = refl
words-read Deinstall flags.ReinstallRequired NotInstalled = refl
words-read Deinstall flags.ReinstallRequired ConfigFiles = refl
words-read Deinstall flags.ReinstallRequired HalfInstalled = refl
words-read Deinstall flags.ReinstallRequired Unpacked = refl
words-read Deinstall flags.ReinstallRequired HalfConfigured = refl
words-read Deinstall flags.ReinstallRequired TriggersAwaited = refl
words-read Deinstall flags.ReinstallRequired TriggersPending = refl
words-read Deinstall flags.ReinstallRequired Installed = refl
words-read Purge flags.Ok NotInstalled = refl
words-read Purge flags.Ok ConfigFiles = refl
words-read Purge flags.Ok HalfInstalled = refl
words-read Purge flags.Ok Unpacked = refl
words-read Purge flags.Ok HalfConfigured = refl
words-read Purge flags.Ok TriggersAwaited = refl
words-read Purge flags.Ok TriggersPending = refl
words-read Purge flags.Ok Installed = refl
words-read Purge flags.ReinstallRequired NotInstalled = refl
words-read Purge flags.ReinstallRequired ConfigFiles = refl
words-read Purge flags.ReinstallRequired HalfInstalled = refl
words-read Purge flags.ReinstallRequired Unpacked = refl
words-read Purge flags.ReinstallRequired HalfConfigured = refl
words-read Purge flags.ReinstallRequired TriggersAwaited = refl
words-read Purge flags.ReinstallRequired TriggersPending = refl
words-read Purge flags.ReinstallRequired Installed = refl

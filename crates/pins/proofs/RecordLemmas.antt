-- Records before others: none change nothing, and those before those before others are all before the others.
use Rattle.std.proofs.Common.{◌≡◌, List, [], ◌++◌, Result, Ok, Err, refl, sym, ap, append_assoc}
use Rattle.rules.specs.declared.release.Preference.{Preference}
use Rattle.pins.specs.Prefs.{with_records}
use Rattle.pins.specs.declared.error.PrefsFault.{PrefsFault}

pub with_records-none : (later : Result (List Preference) PrefsFault) → with_records [] later ≡ later
with_records-none (Err fault) = refl
with_records-none (Ok later) = refl

pub with_records-twice : (first second : List Preference) (later : Result (List Preference) PrefsFault)
    → with_records first (with_records second later) ≡ with_records (first ++ second) later
with_records-twice first second (Err fault) = refl
with_records-twice first second (Ok later) = ap Ok (sym (append_assoc first second later))

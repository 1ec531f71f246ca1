-- An index that is there is read, and none that isn't.
use Rattle.std.proofs.Common.{refl}
use Rattle.cli.proofs.archives.find_in_index.Goals as goal

pub returns-in_ok-find_in_text-in-Ok-clause-archives : goal.returns-in_ok-find_in_text-in-Ok-clause-archives
returns-in_ok-find_in_text-in-Ok-clause-archives g c at known =
    let bytes = c.in-Ok.ensures.text at known in (bytes.0, bytes.1, c.in_ok-find_in_text-in-Ok.ensures.archives bytes.0 bytes.2)

pub returns-in-Err-Unreadable-clause-archives : goal.returns-in-Err-Unreadable-clause-archives
returns-in-Err-Unreadable-clause-archives g c at known = (c.in-Err-Unreadable.ensures.missing at known c.in-Err-Unreadable.field-0-is, refl)

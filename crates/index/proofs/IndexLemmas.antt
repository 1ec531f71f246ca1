-- Stanzas before later ones: none change nothing, and those before others before the later ones are both before them.
use Rattle.std.proofs.Common.{◌≡◌, ◌+◌, [], Result, Ok, Err, refl, ap, append_assoc, arith}
use Rattle.index.specs.declared.error.IndexFault.{IndexFault}
use Rattle.index.specs.Index.{ReadStanzas, joined, with_stanzas}

joined-none : (later : ReadStanzas) → joined (record { listed = []; skipped = 0 }) later ≡ later
joined-none later = let e : 0 + later.skipped ≡ later.skipped = omega arith in rw e refl

pub with_stanzas-none : (later : Result ReadStanzas IndexFault) → with_stanzas (record { listed = []; skipped = 0 }) later ≡ later
with_stanzas-none (Err fault) = refl
with_stanzas-none (Ok later) = ap Ok (joined-none later)

joined-twice : (first second later : ReadStanzas) → joined first (joined second later) ≡ joined (joined first second) later
joined-twice first second later =
    let e : first.skipped + (second.skipped + later.skipped) ≡ (first.skipped + second.skipped) + later.skipped = omega arith in
    rw (e, append_assoc) refl

pub with_stanzas-twice : (first second : ReadStanzas) (later : Result ReadStanzas IndexFault) → with_stanzas first (with_stanzas second later) ≡ with_stanzas (joined first second) later
with_stanzas-twice first second (Err fault) = refl
with_stanzas-twice first second (Ok later) = ap Ok (joined-twice first second later)

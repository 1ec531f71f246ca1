-- The stanzas in order, and the earliest of each version.
use Rattle.std.proofs.Common.{◌≡◌, ℕ, Bool, List, Some, sym, ap, ◌∙◌}
use Rattle.std.specs.List.{Contains}
use Rattle.rules.specs.Available.{is_of}
use Rattle.rules.specs.Step.{IndexPackage}
use Rattle.rules.specs.Universe.{IsOf}
use Rattle.universe_parts.specs.FindLaws.{find-exists, find-some, sorted-one}
use Rattle.universe_parts.specs.PairLaws.{is_of-from, is_of-parts, same_pair}
use Rattle.candidates.specs.Stanza.{IsOrdered, stanza_of}
use Rattle.candidates.specs.StanzaLaws.{listed_cmp_total}
use Rattle.candidates.proofs.StanzaOrder.{listed_cmp-tied}

-- what is found of a version stands in order
pub ordered_found : (listed ordered : List IndexPackage) → IsOrdered listed ordered → (name version : List ℕ) (stanza : IndexPackage)
    → stanza_of listed name version ≡ Some stanza → Contains ordered stanza × IsOf name version stanza.pkg
ordered_found listed ordered is name version stanza at =
    let there = find-some (λ (other : IndexPackage). is_of name version other.pkg) ordered stanza (is.earliest name version ∙ at) in
    (there.0, is_of-parts name version stanza.pkg there.1)

-- what stands in order is found of its version
pub found_ordered : (listed ordered : List IndexPackage) → IsOrdered listed ordered → (stanza : IndexPackage) → Contains ordered stanza
    → (name version : List ℕ) → IsOf name version stanza.pkg → stanza_of listed name version ≡ Some stanza
found_ordered listed ordered is stanza within name version of =
    let p : IndexPackage → Bool = λ other. is_of name version other.pkg in
    let first = find-exists p ordered stanza within (is_of-from name version stanza.pkg of) in
    let at = find-some p ordered first.0 first.1 in
    let own : IsOf name version first.0.pkg = is_of-parts name version first.0.pkg at.1 in
    sym (is.earliest name version) ∙ first.1 ∙ ap Some
    (sorted-one listed_cmp_total ordered is.ascending first.0 stanza at.0 within
    (listed_cmp-tied first.0 stanza (same_pair name version first.0.pkg stanza.pkg own of)))

-- a stanza of a version stands in order as the one that is found
pub ordered_stanza : (listed ordered : List IndexPackage) → IsOrdered listed ordered → (other : IndexPackage) → Contains listed other
    → (name version : List ℕ) → IsOf name version other.pkg
    → (stanza : IndexPackage) × Contains ordered stanza × IsOf name version stanza.pkg
ordered_stanza listed ordered is other within name version of =
    let first = find-exists (λ (stanza : IndexPackage). is_of name version stanza.pkg) listed other within (is_of-from name version other.pkg of) in
    let there = ordered_found listed ordered is name version first.0 first.1 in
    (first.0, there.0, there.1)

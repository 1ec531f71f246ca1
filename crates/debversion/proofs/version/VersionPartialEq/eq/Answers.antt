-- Equal texts are equal versions.
use Rattle.std.proofs.Common.{◌≡◌, ℕ, List, Bool, true, sym, ap, subst, ◌∙◌}
use Rattle.std.proofs.lemmas.Slice.Eq.{bytes_eq-Decides}
use Rattle.std.specs.Cmp.{eq_by_cmp_equiv}
use Rattle.std.specs.Ordering.{eq_by_cmp}
use Rattle.rules.specs.Version.{version_cmp}
use Rattle.rules.specs.VersionOrderLaws.{version_cmp_total}
use Rattle.debversion.proofs.version.VersionPartialEq.eq.Goals as goal

equal : (v w : List ℕ) → v ≡ w → eq_by_cmp version_cmp v w ≡ true
equal v w same = subst (λ (x : List ℕ). eq_by_cmp version_cmp v x ≡ true) same ((eq_by_cmp_equiv version_cmp_total).refl v)

pub returns-then-eq : goal.returns-then-eq
returns-then-eq c =
    let same = (bytes_eq-Decides c.self.inside.text.now c.other.inside.text.now).0 (sym c.if-eq.ensures) in
    sym (equal c.args.self.now c.args.other.now (sym c.self.view_is ∙ same ∙ c.other.view_is))

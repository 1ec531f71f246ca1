-- A record of the name holds it, and the installed packages are those of the installed records.
use Rattle.std.proofs.Common.{◌≡◌}
use Rattle.rules.specs.Database.{Record, IsInstalled}
use Rattle.rules.specs.Package.{Pkg}
use Rattle.rules.specs.Sound.{HasMember}
use Rattle.plancheck_state.specs.HolderLaws.{holders-any, named-holds}
use Rattle.plancheck_state.specs.InstalledLaws.{some_installed, installed_some}
use Rattle.plancheck_state.proofs.installed.has_member.Goals as goal

pub returns : goal.returns
unfolding HasMember
returns c =
    let P : Pkg → Type 0 = λ member. member.name ≡ c.args.name.now in
    let Q : Record → Type 0 = λ entry. IsInstalled entry × (entry.name ≡ c.args.name.now) in
    let both = holders-any Q c.args.name.now c.args.db.now c.holders.result c.holders.ensures
    (λ entry has. named-holds c.args.name.now entry has.1) in (
      λ there. some_installed P c.args.db.now (both.0 (c.some_is_installed.ensures.0 there)),
      λ has. c.some_is_installed.ensures.1 (both.1 (installed_some P c.args.db.now has)),
    )

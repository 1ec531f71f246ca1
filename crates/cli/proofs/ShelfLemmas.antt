-- What is found at the paths of a host whose files are known.
use Rattle.std.proofs.Common.{◌≡◌, Option, None, Some, refl, ap, subst}
use Rattle.std.specs.Option.{option_map}
use Rattle.cli.specs.Files.{Files, shelved_at}
use Rattle.cli.specs.declared.files.Paths.{Paths}
use Rattle.inputs.specs.Texts.{Shelved}

-- what is found at the paths where the files are known
pub found_at : {host_files : Option Files} (paths : Paths) (files : Files) → host_files ≡ Some files
    → option_map (λ files. shelved_at files paths) host_files ≡ Some (shelved_at files paths)
found_at paths files known = ap (option_map (λ files. shelved_at files paths)) known

-- what holds of what is found at the paths of known files holds of what is found
pub holds_at : (host_files : Option Files) (paths : Paths) (P : Shelved → Type 0)
    → ((files : Files) → host_files ≡ Some files → P (shelved_at files paths))
    → (at : Shelved) → option_map (λ files. shelved_at files paths) host_files ≡ Some at → P at
holds_at None paths P holds at is = absurd (let e : None ≡ Some at = is in cc)
holds_at (Some files) paths P holds at is =
    subst P (let e : Some (shelved_at files paths) ≡ Some at = is in cc) (holds files refl)

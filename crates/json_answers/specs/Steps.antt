-- The objects of the steps of a plan, and how many there are of each action (docs/FORMATS.md, "Answers as JSON").
use Rattle.std.specs.Prelude.{◌≡◌, ℕ, List, [], ◌∷◌, Option, None, Some, bytes_eq, codes, filter, length, map}
use Rattle.json_answers.specs.Document.{text_data, text_or_null}
use Rattle.json_answers.specs.Objects.{with_number, with_text}
use Rattle.json_answers.specs.declared.archives.Archive.{Archive}
use Rattle.rules.specs.declared.step.Step.{Step}
use Rattle.rules.specs.declared.step.Step.TheVariants as step
use Rattle.serde_json.specs.Data.{Data, Members, array, no_members, null, number, object, put, unsigned}
use Rattle.serde_json.specs.View.{items_of}

-- the word for what a step does
abbrev pub action_of : Step → List ℕ
action_of (step.Unpack name version) = codes "unpack"
action_of (step.Deconfigure name) = codes "deconfigure"
action_of (step.Configure names) = codes "configure"
action_of (step.Remove name) = codes "remove"
action_of (step.Purge name) = codes "purge"

-- the object of a step that does this to the package of this name
abbrev pub named_data : List ℕ → List ℕ → Data
named_data action name = object (put (codes "name") (text_data name) (with_text (codes "action") action no_members))

-- the object of a step that configures the packages of these names, in their order
abbrev pub configure_data : List (List ℕ) → Data
configure_data names =
    object (put (codes "names") (array (items_of (map text_data names))) (with_text (codes "action") (codes "configure") no_members))

-- the number, or null where there is none
abbrev pub number_or_null : Option ℕ → Data
number_or_null None = null
number_or_null (Some count) = number (unsigned count)

-- the object of a step that unpacks this version of the package, with these fields of its stanza
abbrev pub unpack_data : List ℕ → List ℕ → Option (List ℕ) → Option ℕ → Option (List ℕ) → Data
unpack_data name version filename size sha256 = object (put (codes "sha256") (text_or_null sha256) (put (codes "size") (number_or_null size)
    (put (codes "filename") (text_or_null filename) (put (codes "version") (text_data version) (put (codes "name") (text_data name)
    (with_text (codes "action") (codes "unpack") no_members))))))

-- the same of the archive that was found: of none no field is there
abbrev pub unpack_with : List ℕ → List ℕ → Option Archive → Data
unpack_with name version None = unpack_data name version None None None
unpack_with name version (Some archive) = unpack_data name version archive.filename archive.size archive.sha256

-- the object of the step, with what was found of the archive that it unpacks
abbrev pub step_data : Step → Option Archive → Data
step_data (step.Unpack name version) archive = unpack_with name version archive
step_data (step.Deconfigure name) archive = named_data (codes "deconfigure") name
step_data (step.Configure names) archive = configure_data names
step_data (step.Remove name) archive = named_data (codes "remove") name
step_data (step.Purge name) archive = named_data (codes "purge") name

-- the objects of steps, each with what was found of its archive
abbrev pub steps_data : List Step → List (Option Archive) → List Data
steps_data (step ∷ steps) (archive ∷ archives) = step_data step archive ∷ steps_data steps archives
steps_data _ _ = []

-- how many of the steps do this
abbrev pub count_of : List ℕ → List Step → ℕ
count_of action steps = length (filter (λ step. bytes_eq (action_of step) action) steps)

-- the members with how many of the steps do this
abbrev pub with_count : List ℕ → List Step → Members → Members
with_count action steps members = with_number action (count_of action steps) members

-- the object of how many steps there are of each action
abbrev pub counts_data : List Step → Data
counts_data steps = object (with_count (codes "purge") steps (with_count (codes "remove") steps (with_count (codes "configure") steps
    (with_count (codes "deconfigure") steps (with_count (codes "unpack") steps no_members)))))

-- the members with the objects of the steps, in their order, and with how many there are of each action
abbrev pub with_steps : List Step → List (Option Archive) → Members → Members
with_steps steps archives members =
    put (codes "counts") (counts_data steps) (put (codes "steps") (array (items_of (steps_data steps archives))) members)

-- the new members are the old ones with the steps, each with the archive that these give for it
abbrev pub AreWithSteps : (Step → Option Archive) → List Step → Members → Members → Type 0
AreWithSteps archives steps old new = new ≡ with_steps steps (map archives steps) old

-- The lines that tell what a plan changes (this project's own form).
use Rattle.std.specs.Prelude.{◌≡◌, ◌++◌, ◌==◌, ℕ, Bool, true, false, List, [], ◌∷◌, map, length, Option, Some, None, codes, decimal, if◌then◌else◌}
use Rattle.std.specs.List.{flat_map}
use Rattle.phrases.specs.Phrases.{joined, versioned}
use Rattle.rules.specs.Database.{Record}
use Rattle.rules.specs.Run.{Run}
use Rattle.rules.specs.Universe.{Universe}
use Rattle.rules.specs.declared.step.Step.{Step}
use Rattle.plan_sentences.specs.Changes.{AreChanges, Change, kind_of, version_in}
use Rattle.plan_sentences.specs.declared.kind.Kind.{Kind}
use Rattle.plan_sentences.specs.declared.kind.Kind.TheVariants as kind

-- a change as it is told: behind a package that is gone stands a reason, in free words
pub record Told : Type 0 where
  pub change : Change
  pub reason : List ℕ

-- a name in its line: `foo 1 -> 2` where it was and is present, `foo 2` where it is new, `foo 1` with the reason where it is gone, and else `foo`
abbrev pub item_between : List ℕ → List ℕ → Option (List ℕ) → Option (List ℕ) → List ℕ
item_between name reason (Some old) (Some new) = versioned name old ++ (codes " -> " ++ new)
item_between name reason None (Some new) = versioned name new
item_between name reason (Some old) None = versioned name old ++ reason
item_between name reason None None = name

-- a told change in its line
abbrev pub item_of : Told → List ℕ
item_of told = item_between told.change.name told.reason (version_in told.change.old) (version_in told.change.new)

-- whether what has become of a name is of this kind
abbrev pub is_of : Kind → Option Kind → Bool
is_of kind.New (Some kind.New) = true
is_of kind.Upgraded (Some kind.Upgraded) = true
is_of kind.Downgraded (Some kind.Downgraded) = true
is_of kind.Removed (Some kind.Removed) = true
is_of kind.Purged (Some kind.Purged) = true
is_of kind other = false

-- a told change in the line of the kind, if it is of this kind
abbrev pub item_in : Kind → Told → List (List ℕ)
item_in of_kind told = if is_of of_kind (kind_of told.change) then item_of told ∷ [] else []

-- the items of the line of a kind: of each change of the kind one
abbrev pub items_of : Kind → List Told → List (List ℕ)
items_of of_kind told = flat_map (item_in of_kind) told

-- the items of the lines
pub record Items : Type 0 where
  pub new : List (List ℕ)
  pub upgraded : List (List ℕ)
  pub downgraded : List (List ℕ)
  pub removed : List (List ℕ)
  pub purged : List (List ℕ)

-- those of these changes
abbrev pub items_in : List Told → Items
items_in told = record {
  new = items_of kind.New told;
  upgraded = items_of kind.Upgraded told;
  downgraded = items_of kind.Downgraded told;
  removed = items_of kind.Removed told;
  purged = items_of kind.Purged told;
}

-- a line of items under a heading; none where there are no items: `New: foo 1, bar 2`
abbrev pub line : List ℕ → List (List ℕ) → List ℕ
line heading [] = []
line heading (item ∷ items) = heading ++ (codes ": " ++ (joined (codes ", ") (item ∷ items) ++ codes "\n"))

-- the lines of what is new, upgraded, downgraded, removed and purged
abbrev pub item_lines : Items → List ℕ
item_lines items = line (codes "New") items.new
    ++ (line (codes "Upgraded") items.upgraded
    ++ (line (codes "Downgraded") items.downgraded
    ++ (line (codes "Removed") items.removed
    ++ line (codes "Purged") items.purged)))

-- what else is told of names, in free words: the deconfigured ones, those older than their candidates, and those that were broken before
pub record Further : Type 0 where
  pub deconfigured : List (List ℕ)
  pub older : List (List ℕ)
  pub mended : List (List ℕ)
  pub given_up : List (List ℕ)

-- its lines
abbrev pub further_lines : Further → List ℕ
further_lines further = line (codes "Deconfigured") further.deconfigured
    ++ (line (codes "Older than the candidate") further.older
    ++ (line (codes "Broken before, mended") further.mended
    ++ line (codes "Broken before, removed") further.given_up))

-- how many are downgraded, where some are: `1 downgraded, `
abbrev pub downgraded_words : ℕ → List ℕ
downgraded_words count = if count == 0 then [] else decimal count ++ codes " downgraded, "

-- how many are purged, where some are: `, 1 purged`
abbrev pub purged_words : ℕ → List ℕ
purged_words count = if count == 0 then [] else codes ", " ++ (decimal count ++ codes " purged")

-- how many are upgraded and downgraded: `1 upgraded, `
abbrev pub kept_words : ℕ → ℕ → List ℕ
kept_words upgraded downgraded = decimal upgraded ++ (codes " upgraded, " ++ downgraded_words downgraded)

-- how many are removed and purged: `0 removed`
abbrev pub gone_words : ℕ → ℕ → List ℕ
gone_words removed purged = decimal removed ++ (codes " removed" ++ (purged_words purged ++ codes "\n"))

-- how many are new, upgraded, downgraded, removed and purged: `2 new, 1 upgraded, 0 removed`
abbrev pub counts_words : ℕ → ℕ → ℕ → ℕ → ℕ → List ℕ
counts_words new upgraded downgraded removed purged =
    decimal new ++ (codes " new, " ++ (kept_words upgraded downgraded ++ gone_words removed purged))

-- the line that counts the items
abbrev pub counts_line : Items → List ℕ
counts_line items = counts_words (length items.new) (length items.upgraded) (length items.downgraded) (length items.removed) (length items.purged)

-- the lines that tell these changes, with what else is told
abbrev pub text_of : List Told → Further → List ℕ
text_of told further = item_lines (items_in told) ++ (further_lines further ++ counts_line (items_in told))

-- the text tells what changes from the start to the end: of each kind all changes and no others
abbrev pub TellsChanges : List Record → List Record → List ℕ → Type 0
TellsChanges start finish text = (told : List Told) × (further : Further)
    × AreChanges start finish (map (λ one. one.change) told) × (text ≡ text_of told further)

-- the text tells what changes from the start to the database after all the steps
abbrev pub TellsPlan : Universe → List Record → List Step → List ℕ → Type 0
TellsPlan u start steps text = (finish : List Record) × Run u start steps finish × TellsChanges start finish text

-- What a document is: a line of JSON (RFC 8259) that has the text of an answer as one of its members.
use Rattle.std.specs.Prelude.{◌≡◌, ◌≤◌, ◌++◌, ℕ, List, Option, None, Some, codes}
use Rattle.std.specs.Str.Lossy.{utf8_lossy}
use Rattle.json.specs.Lex.{tokens}
use Rattle.json.specs.Print.{print}
use Rattle.serde_json.specs.Data.{Data, Members, depth, null, object, put, string}
use Rattle.serde_json.specs.Read.{max_depth, read}
use Rattle.serde_json.specs.Written.{IsInOrder}

-- the JSON string of bytes: each part of them that isn't UTF-8 is a replacement character (Unicode 3.9)
abbrev pub text_data : List ℕ → Data
text_data bytes = string (utf8_lossy bytes)

-- the JSON string of bytes, or null where there are none
abbrev pub text_or_null : Option (List ℕ) → Data
text_or_null None = null
text_or_null (Some bytes) = text_data bytes

-- the line is the JSON text of this value, with each member and item once and in order and no space between tokens, and a newline
-- behind it; read again it is the value, where that nests no deeper than texts may
pub record IsLineOf (value : Data) (printed : List ℕ) : Type 0 where
  pub line : List ℕ
  pub in_order : IsInOrder line value
  pub compact : line ≡ print (tokens line)
  pub reads_back : depth value ≤ max_depth → read line ≡ Some value
  pub ended : printed ≡ line ++ codes "\n"

-- the object of these members, of which `text` is the text
abbrev pub object_with : List ℕ → Members → Data
object_with text members = object (put (codes "text") (text_data text) members)

-- it is a document of the text: the line of an object of which `text` is the text
abbrev pub IsDocumentOf : List ℕ → List ℕ → Type 0
IsDocumentOf text printed = (members : Members) × IsLineOf (object_with text members) printed

-- the object of these members, of which `refused` is why nothing else is answered
abbrev pub refused_with : List ℕ → Members → Data
refused_with words members = object (put (codes "refused") (text_data words) members)

-- The text of an answer in the bytes of a file: as it stands, or in a JSON document (RFC 8259).
use Rattle.std.specs.Prelude.{ℕ, List, Option, codes, if◌then◌else◌, option_and_then, unwrap_or}
use Rattle.std.specs.Str.{is_utf8}
use Rattle.serde_json.specs.Find.{as_str, get}
use Rattle.serde_json.specs.Read.{read}

-- the string at the key `text` of the JSON object that a text is, where it is one and has such
abbrev pub text_member : List ℕ → Option (List ℕ)
text_member text = option_and_then as_str (option_and_then (get (codes "text")) (read text))

-- the text that bytes hold: of the JSON text of an object with a string at `text` that string, and else the bytes as they stand
abbrev pub text_in : List ℕ → List ℕ
text_in bytes = if is_utf8 bytes then unwrap_or (text_member bytes) bytes else bytes

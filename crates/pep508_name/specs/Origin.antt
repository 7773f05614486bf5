-- Where a requirement comes from, and its JSON value.
use Rattle.std.specs.Prelude.{ℕ, if◌then◌else◌, List, codes, Option, Some, None, option_and_then, Result, Ok}
use Rattle.std.specs.Prelude.{Err}
use Rattle.std.specs.Str.{bytes_eq}
use Rattle.std.specs.String.{string_bytes}
use Rattle.serde_json.specs.Data.{Data, null, boolean, number, string, array, object, Items, no_items, item}
use Rattle.serde_json.specs.Data.{Members, no_members, member}
use Rattle.serde_json.specs.Find.{as_str, as_array}
use Rattle.read_outcome.specs.declared.FromValueError.{FromValueError}
use Rattle.read_outcome.specs.declared.FromValueError.TheVariants.{Shape, Text}
use Rattle.pep508_name.specs.declared.InvalidNameError.{InvalidNameError}
use Rattle.pep508_name.specs.declared.InvalidNameError.TheVariants.{Memory, InvalidName}
use Rattle.pep508_name.specs.declared.origin.RequirementOrigin.{RequirementOrigin}
use Rattle.pep508_name.specs.declared.origin.RequirementOrigin.TheVariants as rust
use Rattle.pep508_name.specs.Name.{name_of}

-- a file, by its path; a project, by its path and its normal name; a workspace
pub data Origin : Type 0 where
  File : List ℕ → Origin
  Project : List ℕ → List ℕ → Origin
  Workspace : Origin

-- an origin of the program, with its texts as their bytes
abbrev pub origin_of : RequirementOrigin → Origin
origin_of (rust.File path) = File (string_bytes path)
origin_of (rust.Project path name) = Project (string_bytes path) name
origin_of rust.Workspace = Workspace

-- the path of an origin
abbrev pub origin_path : Origin → List ℕ
origin_path (File path) = path
origin_path (Project path name) = path
origin_path Workspace = codes "(workspace)"

-- the JSON value of an origin: `{"file": path}`, `{"project": [path, name]}`, `"workspace"`
abbrev pub origin_value : Origin → Data
origin_value (File path) = object (member (codes "file") (string path) no_members)
origin_value (Project path name) =
    object (member (codes "project") (array (item (string path) (item (string name) no_items))) no_members)
origin_value Workspace = string (codes "workspace")

-- why a JSON value is not an origin: it has none of the three forms, or a project's name, this text, is not
-- a name
pub data OriginFault : Type 0 where
  NoOrigin : OriginFault
  NoName : List ℕ → OriginFault

-- the only member of an object, its name and its value
abbrev pub sole_member : Members → Option (List ℕ × Data)
sole_member no_members = None
sole_member (member name value no_members) = Some (name, value)
sole_member (member name value (member other more rest)) = None

-- two texts, if both are
abbrev pub both_texts : Option (List ℕ) → Option (List ℕ) → Option (List ℕ × List ℕ)
both_texts (Some first) (Some second) = Some (first, second)
both_texts (Some first) None = None
both_texts None second = None

-- the two texts of an array that has two items, both of them texts
abbrev pub two_texts : Items → Option (List ℕ × List ℕ)
two_texts no_items = None
two_texts (item first no_items) = None
two_texts (item first (item second no_items)) = both_texts (as_str first) (as_str second)
two_texts (item first (item second (item third rest))) = None

-- the file of a path
abbrev pub file_reading : Option (List ℕ) → Result Origin OriginFault
file_reading None = Err NoOrigin
file_reading (Some path) = Ok (File path)

-- the project of a path and a name, which is written as this text
abbrev pub named_project : List ℕ → List ℕ → Option (List ℕ) → Result Origin OriginFault
named_project path text None = Err (NoName text)
named_project path text (Some name) = Ok (Project path name)

-- the project of a path and a name's text
abbrev pub project_reading : Option (List ℕ × List ℕ) → Result Origin OriginFault
project_reading None = Err NoOrigin
project_reading (Some texts) = named_project texts.0 texts.1 (name_of texts.1)

-- the origin of an object, by its only member
abbrev pub member_reading : Option (List ℕ × Data) → Result Origin OriginFault
member_reading None = Err NoOrigin
member_reading (Some sole) =
    if bytes_eq sole.0 (codes "file") then file_reading (as_str sole.1)
    else (if bytes_eq sole.0 (codes "project")
    then project_reading (option_and_then two_texts (as_array sole.1))
    else Err NoOrigin)

-- the origin of a text
abbrev pub text_reading : List ℕ → Result Origin OriginFault
text_reading text = if bytes_eq text (codes "workspace") then Ok Workspace else Err NoOrigin

-- the origin that a value is: one in just one of the three forms; another is not an origin
abbrev pub origin_reading : Data → Result Origin OriginFault
origin_reading null = Err NoOrigin
origin_reading (boolean truth) = Err NoOrigin
origin_reading (number value) = Err NoOrigin
origin_reading (string text) = text_reading text
origin_reading (array items) = Err NoOrigin
origin_reading (object members) = member_reading (sole_member members)

-- the fault that an error reports of a value, unless it is lack of memory
abbrev pub told_origin : FromValueError InvalidNameError → Option OriginFault
told_origin Shape = Some NoOrigin
told_origin (Text Memory) = None
told_origin (Text (InvalidName text)) = Some (NoName (string_bytes text))

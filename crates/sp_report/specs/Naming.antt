-- What stands in a line for a block, a transaction or a lock.
use Rattle.std.specs.Prelude.{ℕ, List, Option, Some, None}
use Rattle.hex.specs.Hex.{encode_lower}
use Rattle.sp_ids.specs.Key.{bytes_of}
use Rattle.sp_names.specs.Labels.{AllLabels, Label, name_of, no_labels}
use Rattle.sp_report.specs.declared.naming.Naming.{Naming}
use Rattle.sp_report.specs.declared.naming.Naming.TheVariants.{Hex, Names}

-- the names that a naming gives: none where ids stand for themselves
abbrev pub labels_of : Naming → AllLabels
labels_of Hex = no_labels
labels_of (Names names) = names.now

-- an id as a label: its 32 bytes as 64 lower case hexadecimal digits, the first byte first
unfoldable pub hex_label : ℕ → List ℕ
hex_label id = encode_lower (bytes_of id)

abbrev pub name_or_hex : Option (List ℕ) → ℕ → List ℕ
name_or_hex (Some name) id = name
name_or_hex None id = hex_label id

-- what stands for an id: its name, or else its digits
abbrev pub label_of : List Label → ℕ → List ℕ
label_of labels id = name_or_hex (name_of labels id) id

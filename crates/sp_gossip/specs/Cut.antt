-- Where a script begins in a text: the lines before its line `nodes` are a scenario.
use Rattle.std.specs.Prelude.{ℕ, ◌+◌, ◌&&◌, not, Bool, true, false, if◌then◌else◌, List, [], ◌∷◌, filter, fold, length, Option, Some, None}
use Rattle.sp_play.specs.Words.{is_line_end}
use Rattle.sp_gossip.specs.Script.{begins_with_nodes}

-- a text in two
pub record Parts : Type 0 where
  pub scenario : List ℕ
  pub script : Option (List ℕ)

abbrev pub behind_byte : ℕ → Parts → Parts
behind_byte byte parts = record { scenario = byte ∷ parts.scenario; script = parts.script }

-- the script begins with the first line whose first word is `nodes`; a line begins here, or it doesn't
unfoldable pub parts_from : Bool → List ℕ → Parts
parts_from begins [] = record { scenario = []; script = None }
parts_from begins (byte ∷ bytes) =
    if begins && begins_with_nodes (byte ∷ bytes) then record { scenario = []; script = Some (byte ∷ bytes) }
    else behind_byte byte (parts_from (is_line_end byte) bytes)

-- the scenario and the script of a text
abbrev pub parts : List ℕ → Parts
parts text = parts_from true text

-- the last line lacks its end
abbrev pub is_open : List ℕ → Bool
is_open text = fold (λ before byte. not (is_line_end byte)) false text

-- how many lines a text has
unfoldable pub line_count : List ℕ → ℕ
line_count text = length (filter is_line_end text) + (if is_open text then 1 else 0)

-- What is written for a scenario: by playing it, by building its feed, and by drilling it.
use Rattle.std.specs.Prelude.{ℕ, true, List, [], ◌++◌, Option, Some, None, Result, Ok, Err}
use Rattle.std.specs.List.{flat_map}
use Rattle.sp_block.specs.Block.{ReadBlock}
use Rattle.sp_block.specs.declared.fault.BlockFault.{BlockFault}
use Rattle.sp_engine.specs.Arrivals.{kept_by_all}
use Rattle.sp_engine.specs.Blocks.{block_in}
use Rattle.sp_feed.specs.Kinds.{Said}
use Rattle.sp_names.specs.Labels.{AllLabels}
use Rattle.sp_node.specs.Answers.{answers, arrivals_of}
use Rattle.sp_node.specs.Terms.{Terms, terms_of}
use Rattle.sp_play.specs.Feeds.{feed_text}
use Rattle.sp_play.specs.Scene.{Scene}
use Rattle.sp_play.specs.declared.why.LineFault.{LineFault}
use Rattle.spectre.specs.Lines.{fault_text}
use Rattle.spectre.specs.Summary.{summary}
use Rattle.spectre.specs.declared.purpose.Purpose.{Purpose}
use Rattle.spectre.specs.declared.purpose.Purpose.TheVariants.{Play, Build, Drill}

-- what answers the messages behind these arrivals, if the genesis block is spelled
abbrev pub lines_by : AllLabels → Result ReadBlock BlockFault → Terms → List (List ℕ) → List Said → List ℕ
lines_by labels (Ok genesis) terms before messages = answers labels genesis terms before messages
lines_by labels (Err fault) terms before messages = []

-- the profile and the bits of a scene
abbrev pub scene_terms : Scene → Terms
scene_terms scene = terms_of scene.profile scene.bits

-- what answers a scene's messages, with names as labels
abbrev pub scene_lines : Scene → List ℕ
scene_lines scene = lines_by scene.names (block_in true scene.genesis) (scene_terms scene) [] scene.messages

-- the answers, and then the line of the fault
unfoldable pub played : Scene → List ℕ
played scene = scene_lines scene ++ fault_text scene.fault

-- with a fault, its line alone
abbrev pub unless_faulty : Option LineFault → List ℕ → List ℕ
unless_faulty None text = text
unless_faulty (Some fault) text = fault_text (Some fault)

-- the feed of a scene
unfoldable pub built : Scene → List ℕ
built scene = unless_faulty scene.fault (feed_text scene)

-- the blocks that are kept of a scene's messages
abbrev pub kept_in : ReadBlock → Scene → List ReadBlock
kept_in genesis scene = kept_by_all scene.bits genesis (flat_map arrivals_of scene.messages)

abbrev pub summary_by : Result ReadBlock BlockFault → Scene → List ℕ
summary_by (Ok genesis) scene = summary scene.profile scene.names (kept_in genesis scene)
summary_by (Err fault) scene = []

-- the summary of a scene after all its messages
abbrev pub summary_in : Scene → List ℕ
summary_in scene = summary_by (block_in true scene.genesis) scene

unfoldable pub drilled : Scene → List ℕ
drilled scene = unless_faulty scene.fault (summary_in scene)

-- what is written for a scene
abbrev pub scene_output : Purpose → Scene → List ℕ
scene_output Play scene = played scene
scene_output Build scene = built scene
scene_output Drill scene = drilled scene

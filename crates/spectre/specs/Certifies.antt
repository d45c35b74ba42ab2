-- What `certify` writes for a feed.
use Rattle.std.specs.Prelude.{◌≡◌, ℕ, true, List, [], ◌∷◌, ◌++◌, codes, flat_map, Option, Some, None, Result, Ok, Err}
use Rattle.sp_block.specs.Block.{ReadBlock}
use Rattle.sp_block.specs.declared.fault.BlockFault.{BlockFault}
use Rattle.sp_cert.specs.Certificate.{Certificate}
use Rattle.sp_cert.specs.Format.{cert_text}
use Rattle.sp_cert.specs.Made.{certificate_of}
use Rattle.sp_cert.specs.declared.fault.CertifyFault.{CertifyFault}
use Rattle.sp_cert.specs.declared.fault.CertifyFault.TheVariants.{NoPair, Memory}
use Rattle.sp_engine.specs.Arrivals.{kept_by_all}
use Rattle.sp_engine.specs.Blocks.{block_in}
use Rattle.sp_feed.specs.Feed.{Feed}
use Rattle.sp_feed.specs.Format.{Head}
use Rattle.sp_feed.specs.Kinds.{Said}
use Rattle.sp_model.specs.declared.profile.Profile.{Profile}
use Rattle.sp_model.specs.declared.word.Word.{Word}
use Rattle.sp_model.specs.declared.word.Word.TheVariants as words
use Rattle.sp_model.specs.Votes.{word}
use Rattle.sp_node.specs.Answers.{arrivals_of}
use Rattle.sp_pool.specs.Kept.{graph_in, present}
use Rattle.spectre.specs.Replay.{fed}

-- `fault no-pair`
unfoldable pub no_pair_text : List ℕ
no_pair_text = codes "fault no-pair" ++ 10 ∷ []

-- a certificate, or why there is none
abbrev pub Certified : Type 0
Certified = Result Certificate CertifyFault

-- the certificate's bytes, or the line of why there is none
abbrev pub certified_text : Certified → List ℕ
certified_text (Ok cert) = cert_text cert
certified_text (Err NoPair) = no_pair_text
certified_text (Err Memory) = []

-- there is one where the two are different present blocks
abbrev pub certified_for : Word → Certificate → Certified
certified_for words.Before cert = Ok cert
certified_for words.After cert = Ok cert
certified_for words.Tie cert = Ok cert
certified_for words.Same cert = Err NoPair
certified_for words.Absent cert = Err NoPair

-- the certificate of two blocks over these kept ones
unfoldable pub certified_over : ℕ → ℕ → Profile → List ReadBlock → Certified
certified_over x y profile kept = certified_for (word (graph_in profile kept) (present kept) x y) (certificate_of profile kept x y)

-- over those that are kept of a feed's messages, if the genesis block is spelled
abbrev pub certified_with : ℕ → ℕ → Result ReadBlock BlockFault → Head → List Said → Option Certified
certified_with x y (Ok genesis) head messages = Some (certified_over x y head.profile (kept_by_all head.bits genesis (flat_map arrivals_of messages)))
certified_with x y (Err fault) head messages = None

abbrev pub certified_under : ℕ → ℕ → Option Head → List Said → Option Certified
certified_under x y None messages = None
certified_under x y (Some head) messages = certified_with x y (block_in true head.genesis) head messages

abbrev pub certified_by : ℕ → ℕ → Feed → Option Certified
certified_by x y f = certified_under x y f.head f.messages

-- the certificate over the blocks that are kept of a feed
unfoldable pub certified_fed : ℕ → ℕ → List ℕ → Option Certified
certified_fed x y input = certified_by x y (fed input)

-- ---- how it ends

-- there is a certificate
abbrev pub IsCertified : Option Certified → Type 0
IsCertified None = ⊥
IsCertified (Some (Ok cert)) = Unit {0}
IsCertified (Some (Err fault)) = ⊥

-- the two are one block, or one of them isn't present
abbrev pub IsNoPairBy : Option Certified → Type 0
IsNoPairBy c = c ≡ Some (Err NoPair)

-- What `check` writes for a certificate.
use Rattle.std.specs.Prelude.{ℕ, List, [], ◌∷◌, ◌++◌, codes, Option, Some, None}
use Rattle.std.specs.Fmt.{decimal}
use Rattle.sp_cert.specs.Certificate.{Certificate}
use Rattle.sp_cert.specs.Format.{Malformed, Said, Truncated, Whole}
use Rattle.sp_cert.specs.Refusals.{refusal}
use Rattle.sp_cert.specs.declared.fault.CheckFault.{CheckFault}
use Rattle.sp_cert.specs.declared.fault.CheckFault.TheVariants.{Parent, Pair, World, Vote, Sum, Memory}
use Rattle.sp_model.specs.Votes.{word_of}
use Rattle.sp_report.specs.Lines.{malformed_text, truncated_text, word_text}
use Rattle.sp_report.specs.Naming.{hex_label}

-- `shown X Y WORD`: the ids in hexadecimal, and the word of the sign, as in a line of a vote
unfoldable pub shown_text : Certificate → List ℕ
shown_text cert = codes "shown " ++ hex_label cert.x ++ 32 ∷ [] ++ hex_label cert.y ++ 32 ∷ [] ++ word_text (word_of cert.sign) ++ 10 ∷ []

-- the line of a refusal: places are numbers from 0
unfoldable pub refuted_text : CheckFault → List ℕ
refuted_text (Parent block) = codes "fault refuted parent " ++ decimal block ++ 10 ∷ []
refuted_text Pair = codes "fault refuted pair" ++ 10 ∷ []
refuted_text (World place) = codes "fault refuted world " ++ decimal place ++ 10 ∷ []
refuted_text (Vote place block) = codes "fault refuted vote " ++ decimal place ++ 32 ∷ [] ++ decimal block ++ 10 ∷ []
refuted_text Sum = codes "fault refuted sum" ++ 10 ∷ []
refuted_text Memory = []

-- of a certificate, by what refuses it
abbrev pub judged_text : Certificate → Option CheckFault → List ℕ
judged_text cert None = shown_text cert
judged_text cert (Some fault) = refuted_text fault

-- of what bytes say: what is no certificate has the line of a feed's fault
abbrev pub said_text : Said → List ℕ
said_text (Whole cert) = judged_text cert (refusal cert)
said_text (Malformed at) = malformed_text at
said_text (Truncated at) = truncated_text at

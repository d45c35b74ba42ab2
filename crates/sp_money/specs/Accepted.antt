-- Which payments are accepted, by a flag for each transaction.
use Rattle.std.specs.Prelude.{Bool, List, [], ◌∷◌, if◌then◌else◌}
use Rattle.sp_tx.specs.Parts.{Transaction}
use Rattle.sp_carry.specs.Payment.{Payment, payment_of}

-- the payments of the transactions whose flag is set, in order; there are none where either list has ended
abbrev pub accepted_in : List Transaction → List Bool → List Payment
accepted_in [] flags = []
accepted_in (t ∷ ts) [] = []
accepted_in (t ∷ ts) (now ∷ flags) = if now then payment_of t ∷ accepted_in ts flags else accepted_in ts flags

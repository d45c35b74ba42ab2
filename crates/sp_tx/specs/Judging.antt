-- What is found in parts that are no bytes yet, for the contracts of private functions alone.
use Rattle.std.specs.Prelude.{◌≡◌, ◌≢◌, ℕ, List, ◌++◌, Result, Err, IfErr, OnOk}
use Rattle.sp_form.specs.Form.{Form}
use Rattle.sp_form.specs.Reading.{read}
use Rattle.sp_tx.specs.declared.fault.TxFault.{TxFault}
use Rattle.sp_tx.specs.declared.fault.TxFault.TheVariants.{Short}

-- The rules are met, or the text has this fault, whatever follows it. It never ends too early.
pub record Judges {A : Type 0} (result : Result (Unit {0}) TxFault) (met : Type 0) (form : Form TxFault A) (text : List ℕ) : Type 0 where
  pub ok : OnOk result met
  pub fault : IfErr result (λ fault. (fault ≢ Short) × ((rest : List ℕ) → read form (text ++ rest) ≡ Err fault))

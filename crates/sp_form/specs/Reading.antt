-- Reading from left to right by a format, as readers do. What is promised of them stands in Form; of this file public
-- contracts cite `Answers` and `IsCause`, and the crate sp_engine `read`, with a law that ties it to Form.
use Rattle.std.specs.Prelude.{◌≡◌, ℕ, List, length, take, drop, Option, Some, None, Result, Ok, Err, nat_lt, if◌then◌else◌}
use Rattle.sp_form.specs.declared.fault.ReadFault.{ReadFault}
use Rattle.sp_form.specs.declared.fault.ReadFault.TheVariants.{Fault, Memory}
use Rattle.sp_form.specs.Form.{Form, whole, field, first_broken}

-- the rest of reading a field, by the first rule that it breaks
abbrev pub unless : {E X : Type 0} → Option E → Result X E → Result X E
unless None read = read
unless (Some fault) read = Err fault

-- the value and the bytes behind it, or the first fault
unfoldable pub read : {E A : Type 0} → Form E A → List ℕ → Result (A × List ℕ) E
read (whole x) list = Ok (x, list)
read (field width short rules next) list =
    if nat_lt (length list) width then Err short
    else unless (first_broken (rules (take width list))) (read (next (take width list)) (drop width list))

-- the next step, where the one before gave a value
infixl 10 ◌then◌
abbrev pub ◌then◌ : {E X Y : Type 0} → Result X E → (X → Result Y E) → Result Y E
(Ok x) then f = f x
(Err e) then f = Err e

-- What a function returned, seen by view, is what reading gives, unless memory ran out.
abbrev pub Fails : {E Y : Type 0} → ReadFault E → Result Y E → Type 0
Fails Memory read = Unit {0}
Fails (Fault fault) read = read ≡ Err fault

-- the same of what was read and what is left, for the contracts of private functions alone
abbrev pub Gives : {E X Y : Type 0} → (X → Y) → Result X (ReadFault E) → Result Y E → Type 0
Gives view (Ok x) read = read ≡ Ok (view x)
Gives view (Err e) read = Fails e read

-- what a function answered is this, unless memory ran out
abbrev pub Answers : {E X : Type 0} → Result X (ReadFault E) → Result X E → Type 0
Answers (Ok x) read = read ≡ Ok x
Answers (Err e) read = Fails e read

-- a fault only where it is the first one; want of memory may come always
abbrev pub IsCause : {E : Type 0} → (E → Type 0) → ReadFault E → Type 0
IsCause first Memory = Unit {0}
IsCause first (Fault fault) = first fault

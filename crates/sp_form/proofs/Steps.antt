-- Reading one format after another, as a function with `?` does.
use Rattle.std.proofs.Common.{◌≡◌, ℕ, List, Result, Ok, Err, refl, ◌∙◌}
use Rattle.sp_form.specs.declared.fault.ReadFault.{ReadFault}
use Rattle.sp_form.specs.declared.fault.ReadFault.TheVariants.{Fault, Memory}
use Rattle.sp_form.specs.Form.{Form, whole, bind}
use Rattle.sp_form.specs.Reading.{read, Fails}
use Rattle.sp_form.proofs.FormLaws.{read_then}

pub goes_on : {E A B : Type 0} (form : Form E A) (f : A → Form E B) (list : List ℕ) (x : A) (rest : List ℕ) (r : Result (B × List ℕ) E) → read form list ≡ Ok (x, rest) → read (f x) rest ≡ r → read (bind form f) list ≡ r
goes_on form f list x rest r first second = read_then form f list ∙ rw first second

pub stops : {E A B : Type 0} (form : Form E A) (f : A → Form E B) (list : List ℕ) (e : ReadFault E) → Fails e (read form list) → Fails e (read (bind form f) list)
stops form f list Memory h = tt
stops form f list (Fault fault) h = read_then form f list ∙ rw h refl

pub stops_later : {E A B : Type 0} (form : Form E A) (f : A → Form E B) (list : List ℕ) (x : A) (rest : List ℕ) (e : ReadFault E) → read form list ≡ Ok (x, rest) → Fails e (read (f x) rest) → Fails e (read (bind form f) list)
stops_later form f list x rest Memory h k = tt
stops_later form f list x rest (Fault fault) h k = goes_on form f list x rest (Err fault) h k

pub nothing_more : {E A : Type 0} (x : A) (list : List ℕ) → (let r : Result (A × List ℕ) E = read (whole x) list in r) ≡ Ok (x, list)
unfolding read
nothing_more x list = refl

pub ruleset steps = (nothing_more, goes_on, stops, stops_later)

-- What the code answers, as a scan says it.
use Rattle.std.specs.Prelude.{ℕ, List, Ok, Err, Result}
use Rattle.forms.specs.declared.reader.Stuck.{Stuck}
use Rattle.forms.specs.Scans.{Got}

-- an answer x and what is left of the line, where f x is what x stands for
abbrev pub taken : {X Y : Type 0} → (X → Y) → Result X Stuck → List ℕ → Got Y
taken f (Ok x) t = Ok (f x, t)
taken f (Err e) t = Err t

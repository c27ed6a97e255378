-- How a refusal is written: `(refused NUMBER PLACE DETAIL)`, with a carried refusal as a last form inside.
use Rattle.std.specs.Prelude.{ℕ, List, ◌++◌, Some, None, codes, decimal, Option}
use Rattle.refusals.specs.declared.Place.{Place}
use Rattle.refusals.specs.declared.Place.TheVariants.{Part, Sender, Expander, Cipher, Sealing, Receiver}
use Rattle.refusals.specs.declared.Reason.{Reason}
use Rattle.refusals.specs.declared.Refusal.{Refusal}

abbrev pub place_name : Place → List ℕ
place_name Part = codes "part"
place_name Sender = codes "sender"
place_name Expander = codes "expander"
place_name Cipher = codes "cipher"
place_name Sealing = codes "sealing"
place_name Receiver = codes "receiver"

abbrev pub told : Reason → List ℕ
told r = decimal r.number ++ (codes " " ++ (place_name r.place ++ (codes " " ++ decimal r.detail)))

abbrev pub nested : Option Reason → List ℕ
nested None = codes ")"
nested (Some r) = codes " (refused " ++ (told r ++ codes "))")

abbrev pub spelled : Refusal → List ℕ
spelled r = codes "(refused " ++ (told r.reason ++ nested r.carried)

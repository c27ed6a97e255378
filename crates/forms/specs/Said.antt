-- What the values that reading answers say.
use Rattle.std.specs.Prelude.{ℕ, List, Some, None, Ok, Err, Option, Result}
use Rattle.forms.specs.declared.command.Command.{Command}
use Rattle.forms.specs.declared.command.Command.TheVariants.{Draw, GiveUp, Seal, Receive}
use Rattle.forms.specs.declared.hex.Hex.{Hex}
use Rattle.forms.specs.declared.opening.Keys.{Keys}
use Rattle.forms.specs.declared.opening.Opening.{Opening}
use Rattle.forms.specs.declared.unread.Unread.{Unread}
use Rattle.forms.specs.Hex.{unhexed}
use Rattle.forms.specs.Spelling.{Ends, Asked, draw, give_up, seal, receive}

-- the bytes that a byte string of a line stands for
abbrev pub bytes_of : Hex → List ℕ
bytes_of h = unhexed h.digits.now

-- those of a word that may be one
abbrev pub heard : Option Hex → Option (List ℕ)
heard None = None
heard (Some h) = Some (bytes_of h)

abbrev pub keys_of : Keys → List ℕ × List ℕ × List ℕ
keys_of k = (bytes_of k.hash, bytes_of k.expander, bytes_of k.header)

abbrev pub ends_of : Opening → Ends
ends_of o = record { pile = o.pile; hash_key = bytes_of o.keys.hash; expander_key = bytes_of o.keys.expander; header_key = bytes_of o.keys.header; line = o.line; first = o.first }

abbrev pub asked_of : Command → Asked
asked_of Draw = draw
asked_of GiveUp = give_up
asked_of (Seal header text) = seal (bytes_of header) (bytes_of text)
asked_of (Receive header «record») = receive (bytes_of header) (bytes_of «record»)

-- a form f, where `of` f is what it says, or a column
abbrev pub said : {X Y : Type 0} → (X → Y) → Result X Unread → Result Y ℕ
said of (Ok f) = Ok (of f)
said of (Err u) = Err u.0

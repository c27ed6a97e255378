-- How an answer is written.
use Rattle.std.specs.Prelude.{◌≡◌, ℕ, List, ◌++◌, take, codes, decimal}
use Rattle.std.specs.Borrow.{Bor}
use Rattle.refusals.specs.Spelling as refusal
use Rattle.forms.specs.Hex.{hexed}
use Rattle.forms.specs.declared.answer.Answer.{Answer}
use Rattle.forms.specs.declared.answer.Answer.TheVariants.{Ready, Ticket, GivenUp, NoTicket, Record, Text, Refused, Unread}

abbrev pub spelled : Answer (Bor (List ℕ)) → List ℕ
spelled Ready = codes "(ready)"
spelled (Ticket number) = codes "(ticket " ++ (decimal number ++ codes ")")
spelled (GivenUp number) = codes "(given-up " ++ (decimal number ++ codes ")")
spelled NoTicket = codes "(no-ticket)"
spelled (Record bytes) = codes "(record " ++ (hexed bytes.now ++ codes ")")
spelled (Text bytes) = codes "(text " ++ (hexed bytes.now ++ codes ")")
spelled (Refused r) = refusal.spelled r
spelled (Unread column) = codes "(unread " ++ (decimal column ++ codes ")")

-- b is a, where a record or a text is the front of the area
abbrev pub Tells : Answer ℕ → List ℕ → Answer (Bor (List ℕ)) → Type 0
Tells Ready out b = b ≡ Ready
Tells (Ticket n) out b = b ≡ Ticket n
Tells (GivenUp n) out b = b ≡ GivenUp n
Tells NoTicket out b = b ≡ NoTicket
Tells (Record n) out b = (bytes : Bor (List ℕ)) × (b ≡ Record bytes) × (bytes.now ≡ take n out)
Tells (Text n) out b = (bytes : Bor (List ℕ)) × (b ≡ Text bytes) × (bytes.now ≡ take n out)
Tells (Refused r) out b = b ≡ Refused r
Tells (Unread c) out b = b ≡ Unread c

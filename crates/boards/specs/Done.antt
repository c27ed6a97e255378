-- What an opening did.
use Rattle.sealing.specs.declared.plain_open.Opened.{Opened}
use Rattle.boards.specs.declared.answer.Done.{Done}

-- the number of a record, with the length of its text
abbrev pub done : Opened → Done
done o = record { number = o.number; length = o.length }

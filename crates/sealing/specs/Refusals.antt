-- What each fault of sealing tells.
use Rattle.refusals.specs.Table as table
use Rattle.refusals.specs.declared.Refusal.{Refusal}
use Rattle.ciphers.specs.Refusals as ciphers
use Rattle.sealing.specs.declared.fault.SealingFault.{SealingFault}
use Rattle.sealing.specs.declared.fault.SealingFault.TheVariants.{RecordShort, HeaderLong, Cipher, WorkShort, AreaShort, NumberOutside, NoSealing}

abbrev pub told : SealingFault → Refusal
told (RecordShort n) = table.alone (table.record_short n)
told (HeaderLong n) = table.alone (table.header_long n)
told (Cipher f) = ciphers.told f
told (WorkShort n) = table.alone (table.work_short n)
told (AreaShort n) = table.alone (table.area_short n)
told (NumberOutside n) = table.alone (table.number_outside n)
told NoSealing = table.alone table.no_sealing

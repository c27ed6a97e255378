use Rattle.std.proofs.Common.{◌≡◌, length, take}
use Rattle.aes.specs.Cipher.{key_words}
use Rattle.aes.proofs.schedule.key_words.Given as goal

abbrev pub invariant-loop-i : goal.invariant-loop-i
invariant-loop-i l = (take l.i l.w ≡ key_words l.key l.i) × (length l.w ≡ 60)

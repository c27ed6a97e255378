use Rattle.std.proofs.Common.{◌≡◌, ◌-◌, length, take}
use Rattle.aes.specs.Cipher.{key_words, expanded}
use Rattle.aes.proofs.schedule.key_expansion.Given as goal

abbrev pub invariant-loop-i : goal.invariant-loop-i
invariant-loop-i l = (take l.i l.w ≡ expanded l.nk (l.i - l.nk) (key_words l.key l.nk)) × (length l.w ≡ 60)

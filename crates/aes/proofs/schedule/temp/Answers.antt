use Rattle.std.proofs.Common.{sym, ap, ◌∙◌, ap₂}
use lib.Bits.{bit_xor}
use Rattle.aes.specs.Cipher.{sub_word}
use Rattle.aes.proofs.Expansion.{temp-zero, temp-four, temp-low, temp-else}
use Rattle.aes.proofs.schedule.temp.Goals as goal
use Rattle.aes.proofs.schedule.temp.Goals.{else-nk-gt6-via-then-nk-gt6+else-i-nk-eq4, else-nk-gt6-via-else-nk-gt6}

pub returns-then-i-nk-eq0 : goal.returns-then-i-nk-eq0
returns-then-i-nk-eq0 c =
    ap₂ bit_xor (c.sub_word.ensures ∙ ap sub_word c.rot_word.ensures) c.rcon.ensures
    ∙ sym (temp-zero c.args.nk c.args.i c.args.w c.if-i-nk-eq0.true)

pub returns-then-i-nk-eq4 : goal.returns-then-i-nk-eq4
returns-then-i-nk-eq4 c =
    c.sub_word-then-i-nk-eq4.ensures
    ∙ sym (temp-four c.args.nk c.args.i c.args.w c.if-nk-gt6.true c.if-i-nk-eq4.true)

pub returns-else-nk-gt6 : goal.returns-else-nk-gt6
returns-else-nk-gt6 c =
    elim c.else-nk-gt6.branch [
      | else-nk-gt6-via-then-nk-gt6+else-i-nk-eq4 w ↦ sym (temp-else c.args.nk c.args.i c.args.w c.if-i-nk-eq0.false w.if-nk-gt6.true w.if-i-nk-eq4.false)
      | else-nk-gt6-via-else-nk-gt6 w ↦ sym (temp-low c.args.nk c.args.i c.args.w c.if-i-nk-eq0.false w.if-nk-gt6.false)
    ]

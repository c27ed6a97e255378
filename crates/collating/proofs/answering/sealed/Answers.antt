use Rattle.std.proofs.Common.{◌≡◌, ◌==◌, true, length, rules}
use Rattle.aes.specs.Key.{admitted}
use Rattle.collating.proofs.answering.sealed.Goals as goal

-- each key has a length that its part takes
pub returns-in_ok-hash-in-A-clause-after : goal.returns-in_ok-hash-in-A-clause-after
returns-in_ok-hash-in-A-clause-after c =
    let s = c.args.sealing.now in
    let h : (length s.keys.hash_key.now == 16) ≡ true = search rules in
    let e : admitted (length s.keys.expander_key.now) ≡ true = search rules in
    let j : (length s.header_key.now == 16) ≡ true = search rules in
    search rules

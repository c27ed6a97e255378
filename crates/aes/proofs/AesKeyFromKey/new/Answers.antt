use Rattle.std.proofs.Common.{◌≡◌, ◌*◌, ◌%◌, ◌≤◌, length, ap, ◌∙◌, rules}
use Rattle.from_key.proofs.Making.{made}
use Rattle.aes.specs.Key.{key_of, admitted}
use Rattle.aes.proofs.Expansion.{key_back, scheduled}
use Rattle.aes.proofs.Values.{words-admitted}
use Rattle.aes.proofs.AesKeyFromKey.new.Goals as goal
use Rattle.aes.proofs.AesKeyFromKey.new.Goals.{After-key_expansion}

-- a key of 4 or 8 words
sized : (c : goal.After-key_expansion)
    → (length c.args.key.now ≡ 4 * c.match-key.nk) × (4 ≤ c.match-key.nk) × (c.match-key.nk ≤ 8) × (c.match-key.nk % 4 ≡ 0)
sized c = (search rules, search rules, search rules, search rules)

pub invariant_of-result : goal.invariant_of-result
invariant_of-result c =
    let s = sized c in record {
      sized = (s.1, s.2, s.3);
      scheduled = scheduled c.args.key.now c.key_expansion.result c.match-key.nk c.key_expansion.ensures (λ i. (c.type_inv.key i).fits) s.0;
    }

pub returns : goal.returns
unfolding key_of
returns c =
    let s = sized (goal.at.returns c).After-key_expansion in
    made admitted c.args.key.now _
    (ap admitted s.0 ∙ words-admitted c.match-key.nk s.1 s.2 s.3)
    (key_back c.args.key.now c.key_expansion.result c.match-key.nk c.key_expansion.ensures (λ i. (c.type_inv.key i).fits) s.0)

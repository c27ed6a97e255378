use Rattle.std.proofs.Common.{◌≡◌, Some, None, codes, sym, ap, ◌∙◌}
use Rattle.std.specs.Str.{bytes_eq}
use Rattle.forms.specs.Hex.{unhexed, spelled_by}
use Rattle.forms.proofs.Spelled.{dash-spells, pairs-spell, none-spells, spelt}
use Rattle.forms.proofs.hex.HexTryFromRefSliceU8.try_from.Goals as goal
use Rattle.forms.proofs.hex.HexTryFromRefSliceU8.try_from.Goals.{then-eq-via-then-eq, then-eq-via-else-eq+then-is_pairs}

pub returns-then-eq : goal.returns-then-eq
returns-then-eq c =
    let w = c.args.word.now in
    let dash : c.eq.result ≡ bytes_eq w (codes "-") = c.eq.ensures ∙ ap (bytes_eq w) c.as_slice.ensures in
    let e : Some (unhexed w) ≡ spelled_by w = elim c.then-eq.branch [
      | then-eq-via-then-eq b ↦ dash-spells w (sym dash ∙ b.if-eq.true)
      | then-eq-via-else-eq+then-is_pairs b ↦ pairs-spell w (sym dash ∙ b.if-eq.false) (sym b.is_pairs.ensures ∙ b.if-is_pairs.true)
    ] in
    record { value = e; spelled = spelt w (Some (unhexed w)) e }

pub returns : goal.returns
returns c =
    let w = c.args.word.now in
    let dash : c.eq.result ≡ bytes_eq w (codes "-") = c.eq.ensures ∙ ap (bytes_eq w) c.as_slice.ensures in
    let e = none-spells w (sym dash ∙ c.if-eq.false) (sym c.is_pairs.ensures ∙ c.if-is_pairs.false) in
    record { value = e; spelled = spelt w None e }

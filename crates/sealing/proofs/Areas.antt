-- An area that is written part by part.
use Rattle.std.proofs.Common.{◌≡◌, ℕ, ◌-◌, List, ◌++◌, length, ap, ◌∙◌}
use borrow.Rule.Slice.PartMut.{put_mid}
use Rattle.std.proofs.lemmas.List.{take_at}
use Rattle.octets.proofs.Slices.{put_mid-tail}

-- the front was written first, and then all that is left
pub laid : (a : ℕ) (p q r : List ℕ) → length p ≡ a → put_mid a (length (p ++ r) - a) (p ++ r) q ≡ p ++ q
laid a p q r h = put_mid-tail a (p ++ r) q ∙ ap (λ (x : List ℕ). x ++ q) (take_at p r a h)

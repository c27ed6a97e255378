-- What reading a whole word answers.
use Rattle.std.specs.Prelude.{◌≡◌, ℕ, List, Result}
use Rattle.std.specs.Result.{result_ok}
use Rattle.forms.specs.declared.hex.Hex.{Hex}
use Rattle.forms.specs.declared.hex.NotHex.{NotHex}
use Rattle.forms.specs.Hex.{spelled_by, Spelt}
use Rattle.forms.specs.Said.{heard}

-- r is the byte string that the word w spells, if it spells one
pub record Spells (w : List ℕ) (r : Result Hex NotHex) : Type 0 where
  pub value : heard (result_ok r) ≡ spelled_by w
  pub spelled : Spelt w (heard (result_ok r))

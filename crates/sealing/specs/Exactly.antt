-- Plain open accepts exactly the sealings.
use Rattle.std.specs.Prelude.{◌≡◌, ℕ, ◌+◌, ◌≤◌, List, length, take, Ok, Result}
use Rattle.sealing.specs.Meaning.{Meaning}
use Rattle.sealing.specs.Sealing.{IsSealing}
use Rattle.sealing.specs.declared.fault.SealingFault.{SealingFault}
use Rattle.sealing.specs.declared.plain_open.Opened.{Opened}

-- a header of at most 256 bytes, and areas long enough for the record
pub record LawfulSizes (header r : List ℕ) (work text : ℕ) : Type 0 where
  pub short_header : length header ≤ 256
  pub work_holds : length r ≤ work + 8
  pub text_holds : length r ≤ text + 24

pub record OpensExactly (m : Meaning) (header r : List ℕ) (work : ℕ) (text text' : List ℕ) (answer : Result Opened SealingFault) : Type 0 where
  -- what is accepted is a sealing, in lawful sizes, under the number answered and of the text at the front of the area
  pub accepted : (o : Opened) → answer ≡ Ok o → LawfulSizes header r work (length text) × IsSealing m header r o.number (take o.length text')
  -- a sealing in lawful sizes is accepted
  pub sealed : LawfulSizes header r work (length text) → (n : ℕ) (x : List ℕ) → IsSealing m header r n x → answer ≡ Ok (record { number = n; length = length x })
  -- the number and the text of a sealing are the only ones
  pub only : (n k : ℕ) (x y : List ℕ) → IsSealing m header r n x → IsSealing m header r k y → (n ≡ k) × (x ≡ y)

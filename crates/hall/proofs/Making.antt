-- Ends that were just made.
use Rattle.std.proofs.Common.{◌≡◌, ℕ, Bool, true, false, cond, ltb, List, Ok, Err, Result, arith}
use Rattle.ends.specs.Sending.{Parts, making, started, last}
use Rattle.ends.specs.declared.counter.Counts.{Counts}
use Rattle.ends.specs.declared.fault.SenderFault.{SenderFault}
use Rattle.ends.specs.declared.fault.SenderFault.TheVariants.{FirstNumber}

passed : {T : Type 0} (b : Bool) (f : SenderFault) (x : Result T SenderFault) (w : T) → Ok w ≡ cond b (Err f) x → Ok w ≡ x
passed true f x w e = absurd (let z : ◌≡◌ {A = ℕ} 0 1 = cc in omega arith)
passed false f x w e = e

module _ {C J : Type 0} (cipher : C) (hash : J) (name : List ℕ) (first : ℕ) (p : Parts C J × Counts) (made : Ok p ≡ making cipher hash name first) where
  pub new-sender : p ≡ (record { cipher = cipher; hash = hash; line = name }, started first)
  new-sender =
      let e = passed (ltb last first) (FirstNumber first) _ p (passed (ltb first 1) (FirstNumber first) _ p made) in cc

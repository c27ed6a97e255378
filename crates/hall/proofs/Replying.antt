-- A step at lengths that are known.
use Rattle.std.proofs.Common.{◌≡◌, ℕ, List, subst}
use Rattle.ciphers.specs.declared.wide.WideCipher.{Ghosts as Cipher}
use Rattle.hashes.specs.declared.keyed.KeyedHash.{Ghosts as Hash}
use Rattle.hall.specs.Steps.{State, Steps}
use Rattle.hall.specs.Replies.{Reply}

pub steps-at : {C J : Type 0} (c : Cipher C) (j : Hash J) (h : State C J) (s : List ℕ) (work room : ℕ) (out : List ℕ) (r : Reply) (h' : State C J) (out' : List ℕ) → {n m : ℕ} → work ≡ n → room ≡ m → Steps c j h s work room out r h' out' → Steps c j h s n m out r h' out'
steps-at c j h s work room out r h' out' {n} {m} e f x =
    subst (λ k. Steps c j h s n k out r h' out') f (subst (λ k. Steps c j h s k room out r h' out') e x)

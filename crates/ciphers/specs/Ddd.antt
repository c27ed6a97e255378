-- Docked-double-decker, over a hash of byte strings and a masking: `mask d i` is the sequence of domain d for the input i.
use Rattle.std.specs.Prelude.{ℕ, ◌-◌, List, ◌++◌, length, take, drop}
use Rattle.octets.specs.Strings.{xor}

-- T and V are the first 16 bytes and the last 16, U is what lies between. L is T with the hash of U V added, R is V with the start of
-- `mask 1` of L added, X Y is L U with the start of `mask 2` of R added, and Z is R with the hash of X Y added.
unfoldable pub forth : (List ℕ → List ℕ) → (ℕ → List ℕ → List ℕ) → List ℕ → List ℕ → List ℕ → List ℕ
forth hash mask t u v =
    let l = xor t (hash (u ++ v)) in
    let r = xor v (mask 1 l) in
    let xy = xor (l ++ u) (mask 2 r) in
    xy ++ xor r (hash xy)

-- the same steps backwards, from X Y and Z
unfoldable pub back : (List ℕ → List ℕ) → (ℕ → List ℕ → List ℕ) → List ℕ → List ℕ → List ℕ
back hash mask xy z =
    let r = xor z (hash xy) in
    let lu = xor xy (mask 2 r) in
    let l = take 16 lu in
    let u = drop 16 lu in
    let v = xor r (mask 1 l) in
    xor l (hash (u ++ v)) ++ (u ++ v)

unfoldable pub enc : (List ℕ → List ℕ) → (ℕ → List ℕ → List ℕ) → List ℕ → List ℕ
enc hash mask s = forth hash mask (take 16 s) (take (length s - 32) (drop 16 s)) (drop (length s - 16) s)

unfoldable pub dec : (List ℕ → List ℕ) → (ℕ → List ℕ → List ℕ) → List ℕ → List ℕ
dec hash mask s = back hash mask (take (length s - 16) s) (drop (length s - 16) s)

-- Which line a call speaks of.
use Rattle.std.specs.Prelude.{ℕ, Bool, cond, List, length, Ok, Err, Result, ◌==◌}
use Rattle.refusals.specs.Table.{alone, key_length}
use Rattle.aes.specs.Key.{key_of, admitted}
use Rattle.hashes.specs.Keys.{polyval_key, cmac_key}
use Rattle.hashes.specs.declared.cmac.Cmac.{Cmac}
use Rattle.hashes.specs.declared.polyval.Polyval.{Polyval}
use Rattle.expanders.specs.declared.keys.AesExpander.{AesExpander}
use Rattle.expanders.specs.declared.keys.ChaChaExpander.{ChaChaExpander}
use Rattle.ciphers.specs.declared.ddd.Ddd.{Ddd}
use Rattle.sealing.specs.Meaning.{Meaning}
use Rattle.sealing.specs.Piles.{pile_a, pile_b}
use Rattle.boards.specs.declared.fault.Fault.{Fault}
use Rattle.boards.specs.declared.fault.Fault.TheVariants.{Pile, LineName, Refused}
use Rattle.boards.specs.declared.brought.Brought.{Brought}
use Rattle.boards.specs.declared.line.AnyLine.{AnyLine}
use Rattle.boards.specs.declared.line.AnyLine.TheVariants.{A, B}
use Rattle.sealing.specs.declared.line.Line.{Line}

-- what follows where the length of a key fits, and else its refusal
abbrev pub keyed : {T : Type 0} → Bool → List ℕ → Result T Fault → Result T Fault
keyed fits key next = cond fits next (Err (Refused (alone (key_length (length key)))))

abbrev pub named : {T : Type 0} → List ℕ → Result T Fault → Result T Fault
named name next = cond (length name == 8) next (Err (LineName (length name)))

-- the keys of the parts of a line, and its name
pub record LineKeys : Type 0 where
  pub hash : List ℕ
  pub expander : List ℕ
  pub header : List ℕ
  pub name : List ℕ

-- the keys are judged in the order hash, expander, header hash, and then the name; both hashes take these lengths and the expander those
abbrev pub keys_by : (ℕ → Bool) → (ℕ → Bool) → List ℕ → List ℕ → List ℕ → List ℕ → Result LineKeys Fault
keys_by hash_takes expander_takes hash expander header name =
    keyed (hash_takes (length hash)) hash
    (keyed (expander_takes (length expander)) expander
    (keyed (hash_takes (length header)) header
    (named name (Ok (record { hash = hash; expander = expander; header = header; name = name })))))

-- the keys that the parts of a line hold, and its name
abbrev pub keys_in : {H E : Type 0} → (H → List ℕ) → (E → List ℕ) → Line (Ddd H E) H → LineKeys
keys_in hash expander l = record { hash = hash l.cipher.hash; expander = expander l.cipher.expander; header = hash l.hash; name = l.name.bytes }

-- what was made, as `by` reads it
abbrev pub meant : {L T : Type 0} → (L → T) → Result L Fault → Result T Fault
meant by (Ok l) = Ok (by l)
meant by (Err f) = Err f

-- what a line of each pile means, from its keys
abbrev pub by_a : LineKeys → Meaning
by_a k = pile_a k.hash k.expander k.header k.name

abbrev pub by_b : LineKeys → Meaning
by_b k = pile_b k.hash k.expander k.header k.name

abbrev pub line_a : List ℕ → List ℕ → List ℕ → List ℕ → Result Meaning Fault
line_a hash expander header name = meant by_a (keys_by (λ n. (n == 16)) (λ n. admitted n) hash expander header name)

abbrev pub line_b : List ℕ → List ℕ → List ℕ → List ℕ → Result Meaning Fault
line_b hash expander header name = meant by_b (keys_by (λ n. (n == 16)) (λ n. (n == 32)) hash expander header name)

-- the pile is judged first: 97 is a, 98 is b
abbrev pub line_of : ℕ → List ℕ → List ℕ → List ℕ → List ℕ → Result Meaning Fault
line_of pile hash expander header name =
    cond (pile == 97) (line_a hash expander header name) (cond (pile == 98) (line_b hash expander header name) (Err (Pile pile)))

abbrev pub line_brought : Brought → Result Meaning Fault
line_brought b = line_of b.pile b.hash_key.now b.expander_key.now b.header_key.now b.name.now

-- what a line that was made means
abbrev pub meant_a : Line (Ddd Polyval AesExpander) Polyval → Meaning
meant_a l = by_a (keys_in (λ h. polyval_key h) (λ e. key_of e.key) l)

abbrev pub meant_b : Line (Ddd Cmac ChaChaExpander) Cmac → Meaning
meant_b l = by_b (keys_in (λ h. cmac_key h) (λ e. e.key) l)

abbrev pub meant_by : AnyLine → Meaning
meant_by (A l) = meant_a l
meant_by (B l) = meant_b l

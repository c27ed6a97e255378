-- Fourteen marked cases of the definitions that the calls' contracts cite.
use Rattle.std.specs.Prelude.{◌≡◌, ℕ, ◌^◌, ◌≤◌, true, false, List, [], ◌∷◌, replicate, Some, None, Ok, Err, Option, Result}
use Rattle.octets.specs.Strings.{zeros}
use Rattle.refusals.specs.Table.{because, alone, carrying}
use Rattle.refusals.specs.declared.Place.TheVariants.{Expander, Cipher, Sealing, Receiver}
use Rattle.refusals.specs.declared.Refusal.{Refusal}
use Rattle.aes_tables.specs.Field.{sbox}
use Rattle.hashes.specs.Known.{E}
use Rattle.hashes.specs.Polyval.{polyval}
use Rattle.sealing.specs.Calls.{fitting, numbered}
use Rattle.sealing.specs.Piles.{decked}
use Rattle.sealing.specs.Refusals as sealing
use Rattle.sealing.specs.declared.fault.SealingFault.{SealingFault}
use Rattle.ends.specs.Refusals.{told_receiver}
use Rattle.ends.specs.Window.{accepted, judging}
use Rattle.ends.specs.declared.window.Marks.{Marks}
use Rattle.ends.specs.declared.fault.ReceiverFault.TheVariants.{Window}
use Rattle.ends.specs.declared.fault.WindowFault.{WindowFault}

-- the refusal that an answer is, if it is one
abbrev pub refusal : {T : Type 0} → Result T SealingFault → Option Refusal
refusal (Ok x) = None
refusal (Err f) = Some (sealing.told f)

abbrev pub window_refusal : Result (Unit {0}) WindowFault → Option Refusal
window_refusal (Ok x) = None
window_refusal (Err f) = Some (told_receiver (Window f))

-- a window whose highest is 100
abbrev pub highest100 : ℕ → Marks
highest100 marks = record { highest = 100; marks = marks }

pub record Marked : Type 0 where
  -- the S-box
  pub sbox_00 : sbox 0x00 ≡ 0x63
  pub sbox_01 : sbox 0x01 ≡ 0x7c
  pub sbox_53 : sbox 0x53 ≡ 0xed
  -- the POLYVAL hash under the key E, which is 01, fourteen 00, c2
  pub empty : polyval E [] ≡ zeros 16
  pub one : polyval E (0x01 ∷ []) ≡ 0x09 ∷ zeros 15
  pub sixteen : polyval E (replicate 16 0x01) ≡ 0x81 ∷ replicate 15 0x01
  -- a text of 15, 16, 4,096 or 4,097 bytes that is sealed under docked-double-decker as it is shipped, whatever its hashes and sequences, with a
  -- header that is short enough and an area that is long enough
  pub texts : (hash : List ℕ → List ℕ) (sequence : ℕ → List ℕ → List ℕ → List ℕ) (header : List ℕ → List ℕ) (name : List ℕ) (h : ℕ) → h ≤ 256
      → (refusal (fitting (decked hash sequence header name) h 15 8192) ≡ Some (alone (because 5 Cipher 32)))
      × (fitting (decked hash sequence header name) h 16 8192 ≡ Ok 40)
      × (fitting (decked hash sequence header name) h 4096 8192 ≡ Ok 4120)
      × (refusal (fitting (decked hash sequence header name) h 4097 8192) ≡ Some (carrying (because 6 Cipher 4112) (because 4 Expander 4096)))
  -- to a window whose highest is 100 come 37, which was not accepted, 36, and 100 again
  pub late : (marks : ℕ) → accepted (highest100 marks) 37 ≡ false → window_refusal (judging (highest100 marks) 37) ≡ None
  pub later : (marks : ℕ) → window_refusal (judging (highest100 marks) 36) ≡ Some (alone (because 16 Receiver 100))
  pub again : (marks : ℕ) → accepted (highest100 marks) 100 ≡ true → window_refusal (judging (highest100 marks) 100) ≡ Some (alone (because 17 Receiver 100))
  -- the numbers 0 and 2^40
  pub number_0 : refusal {T = ℕ} (numbered 0 (Ok 0)) ≡ Some (alone (because 11 Sealing 0))
  pub number_last : refusal {T = ℕ} (numbered (2 ^ 40) (Ok (2 ^ 40))) ≡ None

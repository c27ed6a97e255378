-- A line that is obeyed lengthens every run.
use Rattle.std.proofs.Common.{◌≡◌, ℕ, List, [], ◌∷◌, length, Some, None, Ok, Err, Option, Result, sym, refl, ap, ◌∙◌, subst}
use Rattle.octets.specs.Strings.{Bytes}
use Rattle.ciphers.specs.declared.wide.WideCipher.{Ghosts as Cipher}
use Rattle.hashes.specs.declared.keyed.KeyedHash.{Ghosts as Hash}
use Rattle.sealing.specs.Meaning.{Meaning}
use Rattle.ends.specs.Runs.{Event, draws, gives_up, Run, Step}
use Rattle.ends.specs.Sending.{drawing, giving_up}
use Rattle.ends.specs.declared.window.Marks.{Marks}
use Rattle.ends.specs.declared.ticket.Ticket.{Ticket}
use Rattle.forms.specs.Columns.{Reads}
use Rattle.forms.specs.Spelling.{Asked, Asks, draw, give_up, seal, receive}
use Rattle.hall.specs.Sessions.{with_held, sealed_by, received_by, calls, calls_read, world, Led, Leads, Continues}
use Rattle.hall.specs.Steps.{State, meaning_of, sending, counting_held, Obeys, ObeysRead, Steps}
use Rattle.hall.specs.Replies.{Reply}

module _ {C J : Type 0} (c : Cipher C) (j : Hash J) (h h' : State C J) (sender : h'.sender ≡ h.sender) (receiver : h'.receiver ≡ h.receiver) where
  -- a run that ends at h' does so for the parts that it began with
  kept : (m₂ : Meaning) (first : ℕ) (es : List Event) (second : Marks) → Run (meaning_of c j h.sender) (meaning_of c j h.receiver) m₂ first es (world h' second) → Led c j m₂ first es h' second
  kept m₂ first es second run =
      subst (λ p. Run (meaning_of c j p) (meaning_of c j h'.receiver) m₂ first es (world h' second)) (sym sender)
      (subst (λ p. Run (meaning_of c j h.sender) (meaning_of c j p) m₂ first es (world h' second)) (sym receiver) run)

  one : (e : Event) → ((m₂ : Meaning) (second : Marks) → Step (meaning_of c j h.sender) (meaning_of c j h.receiver) m₂ (world h second) e (world h' second)) → Leads c j h (e ∷ []) h'
  one e step m₂ first before second run = kept m₂ first (e ∷ before) second (world h second, run, step m₂ second)

  none : h'.counting ≡ h.counting → h'.window ≡ h.window → Leads c j h [] h'
  none counting window m₂ first before second run =
      let e : world h second ≡ world h' second = cc in
      kept m₂ first before second (subst (Run (meaning_of c j h.sender) (meaning_of c j h.receiver) m₂ first before) e run)

module _ {C J : Type 0} (c : Cipher C) (j : Hash J) (h h' : State C J) (work : ℕ) (out : List ℕ) (r : Reply) (out' : List ℕ) where
  leads-give-up : (held : Option Ticket) → h.held ≡ held → Obeys c j h work (length out) out give_up r h' out' → Leads c j h (with_held (λ t. gives_up t (giving_up h.counting t)) held) h'
  leads-give-up None e o = none c j h h' o.sender o.receiver (o.counting ∙ ap (counting_held (giving_up h.counting) h.counting) e) o.window
  leads-give-up (Some t) e o =
      one c j h h' o.sender o.receiver (gives_up t (giving_up h.counting t)) (λ m₂ second. ((refl, o.counting ∙ ap (counting_held (giving_up h.counting) h.counting) e), o.window, refl))

  leads-seal : (header text : List ℕ) → Bytes header → Bytes text → (held : Option Ticket) → h.held ≡ held → Obeys c j h work (length out) out (seal header text) r h' out' → Leads c j h (with_held (sealed_by c j h work out header text) held) h'
  leads-seal header text bh bt None e o = none c j h h' o.sender o.receiver (o.counting ∙ ap (counting_held (sending c j h work (length out) header text) h.counting) e) o.window
  leads-seal header text bh bt (Some t) e o =
      one c j h h' o.sender o.receiver (sealed_by c j h work out header text t)
      (λ m₂ second. (
        record { header_bytes = bh; text_bytes = bt; answer = refl; after = o.counting ∙ ap (counting_held (sending c j h work (length out) header text) h.counting) e; written = refl },
        o.window,
        refl,
      ))

  leads : (a : Asked) (s : List ℕ) → Asks a s → Obeys c j h work (length out) out a r h' out' → Leads c j h (calls c j h work out a) h'
  leads draw s asks o = one c j h h' o.sender o.receiver (draws (drawing h.counting)) (λ m₂ second. ((refl, o.counting), o.window, refl))
  leads give_up s asks o = leads-give-up h.held refl o
  leads (seal header text) s (bh, bt, e) o = leads-seal header text bh bt h.held refl o
  leads (receive header x) s (bh, bx, e) o =
      one c j h h' o.sender o.receiver (received_by c j h work out header x)
      (λ m₂ second. (record { header_bytes = bh; record_bytes = bx; answer = refl; after = o.window; written = refl }, o.counting, refl))

  leads-read : (s : List ℕ) (q : Result Asked ℕ) → Reads Asks s q → ObeysRead c j h work (length out) out q r h' out' → Leads c j h (calls_read c j h work out q) h'
  leads-read s (Ok a) (long, asks) o = leads a s asks o
  leads-read s (Err k) reads (e, same, kept) = none c j h h' (ap (λ x. x.sender) same) (ap (λ x. x.receiver) same) (ap (λ x. x.counting) same) (ap (λ x. x.window) same)

  pub continues : (s : List ℕ) {n : ℕ} → work ≡ n → Steps c j h s work (length out) out r h' out' → Continues c j h s n out h'
  continues s e (q, reads, o) = subst (λ k. Continues c j h s k out h') e (q, reads, leads-read s q reads o)

-- The promise, from what is kept of a sender and of each receiver.
use Rattle.std.proofs.Common.{ℕ, ◌≤◌, List, [], ◌∷◌, length, sym, subst}
use Rattle.sealing.proofs.Sealings.{only}
use Rattle.sealing.specs.Meaning.{Meaning, Lawful}
use Rattle.ends.proofs.Receivers.{Stands, receipt, outcome, stands-fresh, stands-next, due, alike}
use Rattle.ends.proofs.Senders.{counted, once-ups}
use Rattle.ends.specs.Promise.{Same, Promise, Accepting, at_first, at_second, drawn, handed_by, numbers, occurs}
use Rattle.ends.specs.Runs.{Event, draws, seals, gives_up, first_receives, second_receives, Receipt, handed_out, Receives, World, Run}
use Rattle.ends.specs.declared.window.Marks.{Marks}

-- one receiver: how its window stands, and that it accepted what was due
pub record Took (m : Meaning) (es : List Receipt) (w : Marks) : Type 0 where
  pub stands : Stands w (numbers (handed_by es))
  pub accepting : Accepting m es

module _ (m m₁ m₂ : Meaning) (law : Lawful m) (law₁ : Lawful m₁) (law₂ : Lawful m₂) (same₁ : Same m m₁) (same₂ : Same m m₂) (n : ℕ) where
  took : (m' : Meaning) → Lawful m' → Same m m' → (es : List Receipt) (w w' : Marks) (h r : List ℕ) (k : ℕ) (x x' : List ℕ) → (a : _) → Took m es w → Receives m' w h r k x x' a w' → Took m (receipt h r k x x' a ∷ es) w'
  took m' law' same' es w w' h r k x x' a i s =
      let o = outcome m m' law law' same' w w' h r k x x' a s in
      record {
        stands = stands-next m w w' (receipt h r k x x' a) (handed_by es) (handed_out a x') i.stands o;
        accepting = (due m law w w' (receipt h r k x x' a) es (handed_out a x') s.header_bytes i.stands o, i.accepting);
      }

  first-took : (es : List Event) (w : World) → Run m m₁ m₂ n es w → Took m (at_first es) w.first
  first-took [] w (one, top, e) = subst (λ (y : World). Took m [] y.first) (sym e) (record { stands = stands-fresh; accepting = tt })
  first-took (draws a ∷ es) w' (w, run, s) = subst (Took m (at_first es)) (sym s.1) (first-took es w run)
  first-took (seals t h x r r' a ∷ es) w' (w, run, s) = subst (Took m (at_first es)) (sym s.1) (first-took es w run)
  first-took (gives_up t a ∷ es) w' (w, run, s) = subst (Took m (at_first es)) (sym s.1) (first-took es w run)
  first-took (first_receives h r k x x' a ∷ es) w' (w, run, s) = took m₁ law₁ same₁ (at_first es) w.first w'.first h r k x x' a (first-took es w run) s.0
  first-took (second_receives h r k x x' a ∷ es) w' (w, run, s) = subst (Took m (at_first es)) (sym s.2) (first-took es w run)

  second-took : (es : List Event) (w : World) → Run m m₁ m₂ n es w → Took m (at_second es) w.second
  second-took [] w (one, top, e) = subst (λ (y : World). Took m [] y.second) (sym e) (record { stands = stands-fresh; accepting = tt })
  second-took (draws a ∷ es) w' (w, run, s) = subst (Took m (at_second es)) (sym s.2) (second-took es w run)
  second-took (seals t h x r r' a ∷ es) w' (w, run, s) = subst (Took m (at_second es)) (sym s.2) (second-took es w run)
  second-took (gives_up t a ∷ es) w' (w, run, s) = subst (Took m (at_second es)) (sym s.2) (second-took es w run)
  second-took (first_receives h r k x x' a ∷ es) w' (w, run, s) = subst (Took m (at_second es)) (sym s.2) (second-took es w run)
  second-took (second_receives h r k x x' a ∷ es) w' (w, run, s) = took m₂ law₂ same₂ (at_second es) w.second w'.second h r k x x' a (second-took es w run) s.0

pub promised : (m : Meaning) → Lawful m → Promise m
promised m law m₁ m₂ law₁ law₂ same₁ same₂ first es w run =
    let c = counted m law first m₁ m₂ es w run in
    let f = first-took m m₁ m₂ law law₁ law₂ same₁ same₂ first es w run in
    let s = second-took m m₁ m₂ law law₁ law₂ same₁ same₂ first es w run in
    record {
      first_accepts = f.accepting;
      second_accepts = s.accepting;
      only = λ header r n k x y hb p q. only m law header r hb n k x y p q;
      sealings = c.sealings;
      upwards = c.upwards;
      places = c.places;
      once = λ n. subst (λ (l : List ℕ). occurs n l ≤ 1) (sym c.upwards) (once-ups first (length (drawn es)) n);
      agree = alike m (at_first es) (at_second es) f.accepting s.accepting;
    }

-- What is kept of a sender over a run.
use Rattle.std.proofs.Common.{◌≡◌, ℕ, zero, suc, ◌+◌, ◌^◌, ◌≤◌, Bool, true, false, cond, eqb, ltb, List, [], ◌∷◌, length, Some, None, Ok, Err, Option, Result, sym, refl, ap, ◌∙◌, subst, arith}
use Rattle.std.proofs.lemmas.Bool.{cond_both, eqb-true, ltb-false}
use Rattle.std.specs.Option.{option_to_list}
use Rattle.sealing.proofs.Examined.{unless-ok}
use Rattle.sealing.proofs.Sealings.{fitting-seals}
use Rattle.sealing.specs.Calls.{fitting}
use Rattle.sealing.specs.Meaning.{Meaning, Lawful}
use Rattle.sealing.specs.declared.fault.SealingFault.{SealingFault}
use Rattle.ends.specs.Promise.{drawn, sealed, given_up, occurs, ups, Sealings}
use Rattle.ends.specs.Runs.{Event, draws, seals, gives_up, first_receives, second_receives, Draws, GivesUp, Seals, World, Run}
use Rattle.ends.specs.Sending.{drawing_at, is_out, wrong_ticket, handed_back}
use Rattle.ends.specs.declared.counter.Counts.{Counts}
use Rattle.ends.specs.declared.fault.SenderFault.{SenderFault}
use Rattle.ends.specs.declared.fault.SenderFault.TheVariants.{UsedUp}
use Rattle.ends.specs.declared.ticket.Returned.{Returned}
use Rattle.ends.specs.declared.ticket.Ticket.{Ticket}

-- a number past the last is in no list of numbers that go up by ones
none-past : (first k n : ℕ) → first + k ≤ n → occurs n (ups first k) ≡ 0
none-past first zero n h = refl
none-past first (suc k) n h =
    let i : occurs n (ups first k) ≡ 0 = none-past first k n (omega arith) in
    cond_both (eqb n (first + k)) 1 0 (λ c. c + occurs n (ups first k) ≡ 0) (λ e. let z = eqb-true n (first + k) e in absurd (omega arith)) (λ e. omega arith)

pub once-ups : (first k n : ℕ) → occurs n (ups first k) ≤ 1
once-ups first zero n = omega arith
once-ups first (suc k) n =
    cond_both (eqb n (first + k)) 1 0 (λ c. c + occurs n (ups first k) ≤ 1)
    (λ e. let z = eqb-true n (first + k) e in omega (arith, none-past first k n (omega arith))) (λ e. omega (arith, once-ups first k n))

-- what an answer that is not refused says of the counting before
drew : (o : Option ℕ) (next : ℕ) (t : Ticket) → Ok t ≡ drawing_at o next → (o ≡ None) × (t.number ≡ next) × (next ≤ 2 ^ 40)
drew (Some n) next t e = absurd cc
drew None next t e =
    let u = unless-ok (ltb (2 ^ 40) next) UsedUp (Ok (record { number = next })) t e in
    let z : t ≡ record { number = next } = cc in
    (refl, ap (λ (x : Ticket). x.number) z, ltb-false (2 ^ 40) next u.0)

was-out : (o : Option ℕ) (n : ℕ) → is_out o n ≡ true → o ≡ Some n
was-out None n e = absurd cc
was-out (Some k) n e = ap (λ (x : ℕ). Some x) (eqb-true k n e)

spent : (b : Bool) (t : Ticket) (next : Result ℕ Returned) (k : ℕ) → Ok k ≡ cond b next (Err (wrong_ticket t)) → (b ≡ true) × (Ok k ≡ next)
spent true t next k e = (refl, e)
spent false t next k e = absurd cc

fitted : (t : Ticket) (v : Result ℕ SealingFault) (k : ℕ) → Ok k ≡ handed_back t v → Ok k ≡ v
fitted t (Ok j) k e = let z : k ≡ j = cc in ap (λ (x : ℕ). Ok x) z
fitted t (Err f) k e = absurd cc

pub record Counted (m : Meaning) (first : ℕ) (es : List Event) (c : Counts) : Type 0 where
  pub positive : 1 ≤ first
  pub next : c.next ≡ first + length (drawn es)
  pub upwards : drawn es ≡ ups first (length (drawn es))
  pub places : (n : ℕ) → occurs n (drawn es) ≡ occurs n (sealed es) + occurs n (given_up es) + occurs n (option_to_list c.outstanding)
  pub bounded : (n : ℕ) → c.outstanding ≡ Some n → (1 ≤ n) × (n ≤ 2 ^ 40)
  pub sealings : Sealings m es

module _ (m : Meaning) (law : Lawful m) (first : ℕ) where
  drawn-more : (es : List Event) (c c' : Counts) (a : Result Ticket SenderFault) → Counted m first es c → Draws c a c' → Counted m first (draws a ∷ es) c'
  drawn-more es c c' (Ok t) i (e, after) =
      let d = drew c.outstanding c.next t e in
      let n : t.number ≡ first + length (drawn es) = d.1 ∙ i.next in
      let nx = i.next in
      let one = i.positive in
      let out : c'.outstanding ≡ Some t.number = ap (λ (x : Counts). x.outstanding) after in
      let nx' : c'.next ≡ c.next + 1 = ap (λ (x : Counts). x.next) after in
      record {
        positive = i.positive;
        next = omega arith;
        upwards = let u = i.upwards in rw (n, ← u) refl;
        places = λ k. let p = i.places k in
            let q : occurs k (drawn es) ≡ occurs k (sealed es) + occurs k (given_up es) + 0 = p ∙ ap (λ (o : Option ℕ). occurs k (sealed es) + occurs k (given_up es) + occurs k (option_to_list o)) d.0 in
            rw out (omega arith);
        bounded = λ k o. let z : t.number ≡ k = some_same t.number k (sym out ∙ o) in let le = d.2 in let eq = d.1 in (omega arith, omega arith);
        sealings = i.sealings;
      }
    where
      some_same : (x y : ℕ) → Some x ≡ Some y → x ≡ y
      some_same x y e = cc
  drawn-more es c c' (Err f) i (e, after) = subst (λ (x : Counts). Counted m first (draws (Err f) ∷ es) x) (sym after) (record {
    positive = i.positive;
    next = i.next;
    upwards = i.upwards;
    places = i.places;
    bounded = i.bounded;
    sealings = i.sealings;
  })

  -- a ticket that was out and is spent: its number goes from the outstanding to the sealed or the given up
  out-spent : (c c' : Counts) (n k : ℕ) → c.outstanding ≡ Some n → c' ≡ record { next = c.next; outstanding = None } → (a b d : ℕ) → d ≡ a + b + occurs k (option_to_list c.outstanding) → d ≡ cond (eqb k n) 1 0 + (a + b) + occurs k (option_to_list c'.outstanding)
  out-spent c c' n k out after a b d p =
      let q : d ≡ a + b + (cond (eqb k n) 1 0 + 0) = p ∙ ap (λ (o : Option ℕ). a + b + occurs k (option_to_list o)) out in
      let none : c'.outstanding ≡ None = ap (λ (x : Counts). x.outstanding) after in
      rw none (omega arith)

  unspent : (c c' : Counts) (n : ℕ) → c' ≡ record { next = c.next; outstanding = None } → c'.outstanding ≡ Some n → ⊥
  unspent c c' n after o =
      let none : c'.outstanding ≡ None = ap (λ (x : Counts). x.outstanding) after in
      cc

  sealed-more : (es : List Event) (c c' : Counts) (t : Ticket) (header text area area' : List ℕ) (a : Result ℕ Returned) → Counted m first es c → Seals m c t header text area area' a c' → Counted m first (seals t header text area area' a ∷ es) c'
  sealed-more es c c' t header text area area' (Ok k) i s =
      let g = spent (is_out c.outstanding t.number) t (handed_back t (fitting m (length header) (length text) (length area))) k s.answer in
      let out = was-out c.outstanding t.number g.0 in
      let f = fitted t (fitting m (length header) (length text) (length area)) k g.1 in
      let range = i.bounded t.number out in
      let nx : c'.next ≡ c.next = ap (λ (x : Counts). x.next) s.after in
      record {
        positive = i.positive;
        next = nx ∙ i.next;
        upwards = i.upwards;
        places = λ n. let p = out-spent c c' t.number n out s.after (occurs n (sealed es)) (occurs n (given_up es)) (occurs n (drawn es)) (i.places n) in omega arith;
        bounded = λ n o. absurd (unspent c c' n s.after o);
        sealings = (fitting-seals m law header s.header_bytes t.number text area area' k s.text_bytes range.0 range.1 f s.written, i.sealings);
      }
  sealed-more es c c' t header text area area' (Err f) i s = subst (λ (x : Counts). Counted m first (seals t header text area area' (Err f) ∷ es) x) (sym s.after) (record {
    positive = i.positive;
    next = i.next;
    upwards = i.upwards;
    places = i.places;
    bounded = i.bounded;
    sealings = i.sealings;
  })

  given-more : (es : List Event) (c c' : Counts) (t : Ticket) (a : Result ℕ Returned) → Counted m first es c → GivesUp c t a c' → Counted m first (gives_up t a ∷ es) c'
  given-more es c c' t (Ok k) i (e, after) =
      let g = spent (is_out c.outstanding t.number) t (Ok t.number) k e in
      let out = was-out c.outstanding t.number g.0 in
      let nx : c'.next ≡ c.next = ap (λ (x : Counts). x.next) after in
      record {
        positive = i.positive;
        next = nx ∙ i.next;
        upwards = i.upwards;
        places = λ n. let p = out-spent c c' t.number n out after (occurs n (sealed es)) (occurs n (given_up es)) (occurs n (drawn es)) (i.places n) in omega arith;
        bounded = λ n o. absurd (unspent c c' n after o);
        sealings = i.sealings;
      }
  given-more es c c' t (Err f) i (e, after) = subst (λ (x : Counts). Counted m first (gives_up t (Err f) ∷ es) x) (sym after) (record {
    positive = i.positive;
    next = i.next;
    upwards = i.upwards;
    places = i.places;
    bounded = i.bounded;
    sealings = i.sealings;
  })

  -- a call at a receiver leaves the sender as it was
  pub counted : (m₁ m₂ : Meaning) (es : List Event) (w : World) → Run m m₁ m₂ first es w → Counted m first es w.sender
  counted m₁ m₂ [] w (one, top, e) = subst (λ (x : World). Counted m first [] x.sender) (sym e) (record {
    positive = one;
    next = omega arith;
    upwards = refl;
    places = λ n. refl;
    bounded = λ n o. absurd cc;
    sealings = tt;
  })
  counted m₁ m₂ (draws a ∷ es) w' (w, run, s) = drawn-more es w.sender w'.sender a (counted m₁ m₂ es w run) s.0
  counted m₁ m₂ (seals t h x r r' a ∷ es) w' (w, run, s) = sealed-more es w.sender w'.sender t h x r r' a (counted m₁ m₂ es w run) s.0
  counted m₁ m₂ (gives_up t a ∷ es) w' (w, run, s) = given-more es w.sender w'.sender t a (counted m₁ m₂ es w run) s.0
  counted m₁ m₂ (first_receives h r k x x' a ∷ es) w' (w, run, s) = let i = counted m₁ m₂ es w run in subst (λ (c : Counts). Counted m first (first_receives h r k x x' a ∷ es) c) (sym s.1) (record {
    positive = i.positive;
    next = i.next;
    upwards = i.upwards;
    places = i.places;
    bounded = i.bounded;
    sealings = i.sealings;
  })
  counted m₁ m₂ (second_receives h r k x x' a ∷ es) w' (w, run, s) = let i = counted m₁ m₂ es w run in subst (λ (c : Counts). Counted m first (second_receives h r k x x' a ∷ es) c) (sym s.1) (record {
    positive = i.positive;
    next = i.next;
    upwards = i.upwards;
    places = i.places;
    bounded = i.bounded;
    sealings = i.sealings;
  })

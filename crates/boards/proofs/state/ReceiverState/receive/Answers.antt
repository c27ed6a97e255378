use Rattle.std.proofs.Common.{◌≡◌, true, ◌++◌, length, drop, Ok, sym, ap, ◌∙◌, subst}
use Rattle.ends.specs.Receiving.{receiving, parts_of}
use Rattle.ends.specs.Receiving as ends
use Rattle.ends.specs.Window.{window_of, possible}
use Rattle.sealing.specs.Calls.{text_of}
use Rattle.sealing.specs.Meaning.{meaning_of}
use Rattle.boards.specs.Done.{done}
use Rattle.boards.specs.Receiving.{marks_of, Leaves}
use Rattle.boards.proofs.Received.{same-meaning, took-answer, took-after}
use Rattle.boards.proofs.state.ReceiverState.receive.Goals as goal

pub returns : goal.returns
returns g c =
    let m = meaning_of g.C.WideCipher g.J.KeyedHash c.args.line in
    let s = c.args.self.now in
    let s' = c.keep.new.self in
    let o = c.in_ok-opened.opened in
    let w = window_of c.in_ok-window.window in
    let w₁ = ends.marks_of c.resume-receiver.result in
    let w₂ = ends.marks_of c.receive.new.self in
    let meant = same-meaning g.C.WideCipher g.J.KeyedHash c.args.line (parts_of c.resume-receiver.result) c.resume-receiver.ensures.parts in
    let h = c.args.header.now in
    let r = c.args.record.now in
    let k = length c.args.work.now in
    let n = length c.args.text.now in
    let took : Ok o ≡ receiving m w₁ h r k n = c.in_ok-opened.ensures.answer ∙ ap (λ x. receiving x w₁ h r k n) meant in
    let after : marks_of s' ≡ w₂ = c.keep.ensures ∙ c.kept.ensures.answer in
    let lasts : possible (marks_of s') ≡ true = ap possible after ∙ c.kept.ensures.lasting in
    let did : c.into.result ≡ done o = c.into.ensures in
    record {
      answer = ap Ok did ∙ took-answer m s s' w w₁ w₂ h r k n o c.in_ok-window.ensures c.resume-receiver.ensures.window took c.in_ok-opened.ensures.after after lasts;
      after = subst (λ d. Leaves (Ok d) s s') (sym did) (took-after m s s' w w₁ w₂ h r k n o c.in_ok-window.ensures c.resume-receiver.ensures.window took c.in_ok-opened.ensures.after after lasts);
      area = c.in_ok-opened.ensures.area ∙ ap (λ x. text_of x r ++ drop (length (text_of x r)) c.args.text.now) meant;
    }

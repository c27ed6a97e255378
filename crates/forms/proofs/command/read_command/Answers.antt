use Rattle.std.proofs.Common.{◌≡◌, ℕ, length, Ok, Err, Result, refl, ap, ◌∙◌, ap₂, rules}
use Rattle.std.specs.Result.{MatchResult}
use Rattle.std.proofs.lemmas.Result.{MatchResult-weaker}
use Rattle.forms.specs.Said.{asked_of}
use Rattle.forms.specs.Scans.{either, limited}
use Rattle.forms.specs.Spelling.{Asked}
use Rattle.forms.specs.Spelling as asked
use Rattle.forms.specs.declared.command.Command.TheVariants.{Seal, Receive}
use Rattle.forms.proofs.Reading.{within-limit, one_of, ok-is, made_of, command-read}
use Rattle.forms.proofs.command.read_command.Goals as goal

pub returns : goal.returns
returns c =
    let s = c.args.line.now in
    let sealed : MatchResult c.two_strings-seal.result (λ p. c.map-seal.result ≡ Ok (Seal p.0 p.1)) (λ u. c.map-seal.result ≡ Err u) = MatchResult-weaker c.two_strings-seal.result c.map-seal.ensures.cases (λ x b. ok-is _ _ _ b (λ y e. search rules)) (λ _ e. e) in
    let received : MatchResult c.two_strings-receive.result (λ p. c.map-receive.result ≡ Ok (Receive p.0 p.1)) (λ u. c.map-receive.result ≡ Err u) = MatchResult-weaker c.two_strings-receive.result c.map-receive.ensures.cases (λ x b. ok-is _ _ _ b (λ y e. search rules)) (λ _ e. e) in
    let words = one_of asked_of c.word-draw.result c.word-give_up.result c.either.result c.either.ensures ∙ ap₂ either c.word-draw.ensures c.word-give_up.ensures in
    let strings =
    one_of asked_of c.map-seal.result c.map-receive.result c.either-2.result c.either-2.ensures
    ∙ ap₂ either (made_of Seal asked.seal (λ a b. refl) _ _ _ _ _ _ sealed c.two_strings-seal.ensures) (made_of Receive asked.receive (λ a b. refl) _ _ _ _ _ _ received c.two_strings-receive.ensures) in
    let all = one_of asked_of c.either.result c.either-2.result c.either-3.result c.either-3.ensures ∙ ap₂ either words strings in
    let done = command-read s _ (within-limit asked_of (length s) c.either-3.result c.limited.result c.limited.ensures ∙ ap (λ (r : Result Asked ℕ). limited (length s) r) all) in
    record { reads = done.reads; only = done.only }

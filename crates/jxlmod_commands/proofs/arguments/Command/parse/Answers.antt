use Rattle.std.proofs.Common.{◌≡◌, ◌∙◌, arith, sym, length, map, string_bytes}
use Rattle.std.proofs.lemmas.List.{length-map}
use Rattle.jxlmod_commands.proofs.ArgumentLemmas.{no_decode, no_encode, no_sections}
use Rattle.jxlmod_commands.proofs.arguments.Command.parse.Goals as goal

pub returns-in_err-command-in-2 : goal.returns-in_err-command-in-2
returns-in_err-command-in-2 c = rw c.from_residual.ensures (no_encode (map string_bytes c.args.words.now) (length-map c.args.words.now string_bytes ∙ c.in-2.is) c.in_err-command-in-2.ensures)

pub returns-in_err-command-in-6 : goal.returns-in_err-command-in-6
returns-in_err-command-in-6 c = rw c.from_residual-in_err-command-in-6.ensures (no_decode (map string_bytes c.args.words.now) (length-map c.args.words.now string_bytes ∙ c.in-6.is) c.in_err-command-in-6.ensures)

pub returns-in_err-command-in_default : goal.returns-in_err-command-in_default
returns-in_err-command-in_default c =
    let words = c.args.words.now in
    let count = length-map words string_bytes in
    let two : length words ≡ 2 → ⊥ = λ e. omega (arith, e) in
    let six : length words ≡ 6 → ⊥ = λ e. omega (arith, e) in
    rw c.from_residual-in_err-command-in_default.ensures (no_sections (map string_bytes words) (λ e. two (sym count ∙ e)) (λ e. six (sym count ∙ e)) c.in_err-command-in_default.ensures)

use Rattle.std.proofs.Common.{ℕ, List, Option, Ok, subst, rules, string_bytes, map}
use Rattle.std.proofs.lemmas.Result.{on_ok_weaker}
use Rattle.std.specs.Io.KnownBytes.{Consumes, IsAtEnd}
use Rattle.jxlmod_commands.specs.declared.arguments.Command.{Command}
use Rattle.jxlmod_commands.specs.Arguments.{AreFor}
use Rattle.jxlmod_commands.specs.Run.{IsPrinted}
use Rattle.jxlmod_commands.proofs.ArgumentLemmas.{AreFor-one}
use Rattle.jxlmod_commands.proofs.run.carry_out.Goals as goal

-- what was made for one command of the words was made for each, since they have one at most
IsPrinted-each : (prints : Command → List ℕ → List ℕ → Type 0) (words : List (List ℕ)) (c : Command) → AreFor words c → {left rest held holds : Option (List ℕ)} → IsPrinted (prints c) left rest held holds → (d : Command) → AreFor words d → IsPrinted (prints d) left rest held holds
IsPrinted-each prints words c asked printed d asked_too =
    let P : Command → Type 0 = λ e. prints e printed.bytes printed.made in
    record { bytes = printed.bytes; made = printed.made; read = printed.read; ended = printed.ended; printed = subst P (AreFor-one words c d asked asked_too) printed.printed; written = printed.written }

pub returns-clause-done : goal.returns-clause-done
returns-clause-done g c =
    let at_end : IsAtEnd (g.R.Read.remaining c.read_to_end.new.self) = search rules in
    let read : Consumes (g.R.Read.remaining c.args.input.now) (g.R.Read.remaining c.read_to_end.new.self) c.deref.result.now = search rules in
    let prints = λ (d : Command) (bytes made : List ℕ). g.P.Print.may_return bytes d (Ok made) in
    let printed : prints c.in-Some.command c.deref.result.now c.in_ok-made.made.items = search rules in
    on_ok_weaker c.write_bytes.result (λ wrote d asked _. IsPrinted-each prints (map string_bytes c.args.words.now) c.in-Some.command c.in-Some.ensures (record { bytes = c.deref.result.now; made = c.in_ok-made.made.items; read = read; ended = at_end; printed = printed; written = rw c.deref-2.ensures.value at wrote }) d asked) c.write_bytes.ensures.ok

-- Each word of the list is what the code read of it.
use Rattle.std.proofs.Common.{◌≡◌, length, arith, ◌∙◌}
use Rattle.std.proofs.lemmas.List.{length-map}
use Rattle.jxlmod_commands.proofs.WordLemmas.{word_at}
use Rattle.jxlmod_commands.proofs.arguments.Command.encode.Goals as goal

pub returns : goal.returns
returns c =
    let words = c.args.words.now in
    let count : length words ≡ 2 = omega arith in
    record {
      count = simp length-map count;
      named = word_at _ words 0 c.name-item.result _ (omega arith) c.name-item.is c.as_str.ensures.value ∙ c.in_ok-of_encode.ensures;
      typed = word_at _ words 1 c.samples-item.result _ (omega arith) c.samples-item.is c.as_str-2.ensures.value ∙ c.in_ok-parse.ensures;
    }

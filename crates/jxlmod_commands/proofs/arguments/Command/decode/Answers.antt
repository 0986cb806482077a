-- Each word of the list is what the code read of it.
use Rattle.std.proofs.Common.{◌≡◌, length, arith, ◌∙◌}
use Rattle.std.proofs.lemmas.List.{length-map}
use Rattle.jxlmod_commands.proofs.WordLemmas.{word_at, number_at}
use Rattle.jxlmod_commands.proofs.arguments.Command.decode.Goals as goal

pub returns : goal.returns
returns c =
    let words = c.args.words.now in
    let count : length words ≡ 6 = omega arith in
    record {
      count = simp length-map count;
      named = word_at _ words 0 c.name-item.result _ (omega arith) c.name-item.is c.as_str.ensures.value ∙ c.in_ok-of_decode.ensures;
      wide = number_at _ words 1 c.width-item.result _ _ (omega arith) c.width-item.is c.as_str-2.ensures.value c.in_ok-number.ensures;
      high = number_at _ words 2 c.height-item.result _ _ (omega arith) c.height-item.is c.as_str-3.ensures.value c.in_ok-number-2.ensures;
      many = number_at _ words 3 c.channels-item.result _ _ (omega arith) c.channels-item.is c.as_str-4.ensures.value c.in_ok-number-3.ensures;
      deep = number_at _ words 4 c.bit_depth-item.result _ _ (omega arith) c.bit_depth-item.is c.as_str-5.ensures.value c.in_ok-number-4.ensures;
      typed = word_at _ words 5 c.samples-item.result _ (omega arith) c.samples-item.is c.as_str-6.ensures.value ∙ c.in_ok-parse.ensures;
    }

use Rattle.std.proofs.Common.{◌≡◌, ◌∷◌, ◌++◌, [], arith, rules, string_bytes}
use Rattle.std.specs.Fmt.{signed_decimal}
use Rattle.std.proofs.lemmas.Grind.{common_steps}
use Rattle.jxl_text.proofs.TextLemmas.{row_printed}
use Rattle.jxl_text.proofs.printing.append_row.Goals as goal
use Rattle.jxl_text.proofs.printing.append_row.Goals.{in-Some+in_ok-write+else-loop-sample-test, in_default}

pub returns : goal.returns
returns g c =
    elim c.match-split_first.branch [
      | in-Some+in_ok-write+else-loop-sample-test w ↦
          let cut : c.args.row.now ≡ w.in-Some.first.now ∷ w.in-Some.rest.now = search rules in
          let begun : string_bytes w.write.new.self ≡ string_bytes c.args.text.now ++ signed_decimal (g.S.Sealed.to_int w.in-Some.first.now) = search rules in
          let ended : string_bytes c.push.new.self ≡ string_bytes w.loop-sample.text ++ 10 ∷ [] = search rules in
          row_printed g.S.Sealed.to_int _ _ _ _ _ _ _ _ cut w.loop-sample-test.false begun w.loop-sample.invariant ended
      | in_default w ↦ grind (arith, common_steps)
    ]

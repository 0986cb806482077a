use Rattle.std.proofs.Common.{◌≡◌, ℤ, ◌++◌, ◌∷◌, [], List, length, rules, arith, ap, sym, subst}
use Rattle.std.specs.List.{AllZip}
use Rattle.jxlm_base.specs.Grid.{Grid}
use Rattle.jxl_picture.specs.Orientations.{IsOriented}
use Rattle.jxl_picture.proofs.Orienting.{all_passed, item_passed, one_more_oriented}
use Rattle.jxl_picture.proofs.orientation.oriented_channels.Goals as goal

pub loop-channel-init : goal.loop-channel-init
loop-channel-init c =
    let gives = c.into_iter-channel-iterator.ensures.into_iter_gives in
    record { left = sym gives.0; count = search rules; oriented = rw c.new-shown.ensures.items tt }

pub loop-channel-preserved : goal.loop-channel-preserved
loop-channel-preserved c =
    let steps = c.in-Some.ensures.steps in
    let pushed : c.push.new.self.items ≡ c.loop-channel.shown.items ++ c.in_ok-oriented.field-0 ∷ [] = search rules in
    let one = ap length steps.0 in
    let is : IsOriented c.args.orientation c.in-Some.channel c.in_ok-oriented.field-0 = search rules in
    record {
      left = item_passed c.args.channels.items c.loop-channel.yielded c.loop-channel.channel-iterator.rest.items c.next.new.self.rest.items c.in-Some.channel c.loop-channel.invariant.left steps.0;
      count = omega (arith, one, steps.1, c.loop-channel.invariant.count);
      oriented = rw pushed (one_more_oriented (IsOriented c.args.orientation) c.loop-channel.yielded c.loop-channel.shown.items c.in-Some.channel c.in_ok-oriented.field-0 c.loop-channel.invariant.oriented is);
    }

pub returns : goal.returns
returns c =
    let none : length c.loop-channel.channel-iterator.rest.items ≡ 0 = omega (arith, c.in-None.ensures.steps.0, c.loop-channel.invariant.count) in
    let all = all_passed c.args.channels.items c.loop-channel.yielded c.loop-channel.channel-iterator.rest.items c.loop-channel.invariant.left none in
    subst (λ (xs : List (Grid ℤ)). AllZip (IsOriented c.args.orientation) xs c.loop-channel.shown.items) (sym all) c.loop-channel.invariant.oriented

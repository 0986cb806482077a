use Rattle.std.proofs.Common.{◌≡◌, ◌≤◌, length, refl, sym, subst, arith, ◌∙◌}
use Rattle.jxlm_samples.specs.Part.{cells_before}
use Rattle.jxlm_samples.specs.Reading.{part_of, regions_of, row_width}
use Rattle.jxlm_samples.proofs.Starting.{after_none, as_many_channels}
use Rattle.jxlm_encode_tokens.specs.Inner.Walks.{AreFirstTokens}
use Rattle.jxlm_encode_tokens.proofs.part.push_channels.Goals as goal

pub loop-i-init : goal.loop-i-init
loop-i-init g c = record {
  long = refl;
  tokens = c.requires.before;
  roomy = c.requires.roomy;
  last = after_none c.args.coding.now 0 c.args.walk.now.state;
}

pub push_channel-requires-clause-room : goal.push_channel-requires-clause-room
push_channel-requires-clause-room g c κs within = subst (λ n. row_width c.args.coding.now ≤ n) (sym c.loop-i.invariant.long) c.requires.room

pub loop-i-preserved : goal.loop-i-preserved
loop-i-preserved g c = record {
  long = c.push_channel.auto.scratch ∙ c.loop-i.invariant.long;
  tokens = c.in_ok-push_channel.ensures.tokens;
  roomy = c.in_ok-push_channel.ensures.roomy;
  last = c.in_ok-push_channel.ensures.last;
}

pub returns : goal.returns
returns g c =
    let all : c.loop-i.i ≡ length (regions_of c.args.coding.now) = let end = c.loop-i.auto.i-end in let n = as_many_channels c.args.coding.now in omega (arith, end, n, c.loop-i-test.false) in
    subst (λ n. AreFirstTokens c.args.coding.now g.S.Sealed.width g.S.Sealed.to_int c.args.store.now g.T.TokenForm.form (cells_before (part_of c.args.coding.now).channels n) c.loop-i.tokens.items) all c.loop-i.invariant.tokens

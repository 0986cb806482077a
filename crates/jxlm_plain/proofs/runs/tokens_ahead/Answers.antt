use Rattle.std.proofs.Common.{◌≡◌, ◌+◌, ◌≤◌, inl, inr, ◌∙◌, Ok, arith, length, refl, subst}
use Rattle.std.proofs.lemmas.Bool.{cases_lt}
use Rattle.jxlm_bits.specs.Bits.{bytes_of, position_of}
use Rattle.jxlm_bits.specs.Decoding.{TakesTokens}
use Rattle.jxlm_plain.specs.Plain.{plain_read}
use Rattle.jxlm_plain.specs.declared.plain.Code.TheVariants.{Fixed}
use Rattle.jxlm_plain.specs.declared.plain.Mode.TheVariants.{Runs}
use Rattle.jxlm_plain.proofs.PlainGives.{read_given, state}
use Rattle.jxlm_plain.proofs.RunTokens.{takes_owed, takes_run}
use Rattle.jxlm_plain.proofs.runs.tokens_ahead.Goals as goal

pub loop-k-init : goal.loop-k-init
loop-k-init c =
    let here = c.requires.here in
    let same = c.fill_from.ensures.many in
    let min = c.min-k.ensures in
    let p = position_of c.args.bits.now in
    let k = c.min-k.result in
    let left = c.args.before.left in
    let n = length c.args.tokens.now in
    let owed : k ≤ left = omega (arith, min) in
    let inside : k ≤ n = omega (arith, min) in
    record {
      many = same;
      inside = omega (arith, same, inside);
      near = omega arith;
      none = elim (cases_lt left n) [
        | inl few ↦ inl (omega (arith, min, few))
        | inr all ↦ inr (omega (arith, min, all, same))
      ];
      tokens = λ codes clusters c' m is. takes_owed (bytes_of c.args.bits.now) codes clusters c.args.width c' m is c.fill_from.new.tokens (state (Runs c.args.before.last left) codes clusters) p 0 c.args.before.last left
          (p + 0) k k owed (omega arith) (λ j least below. c.fill_from.ensures.filled j least (omega (arith, below))) (refl, omega arith);
    }

pub token_ahead-now-requires-clause-none : goal.token_ahead-now-requires-clause-none
token_ahead-now-requires-clause-none c =
    elim c.loop-k.invariant.none [
      | inl none ↦ none
      | inr end ↦ absurd (omega (arith, end, c.loop-k-test.true))
    ]

pub token_ahead-now-requires-clause-few : goal.token_ahead-now-requires-clause-few
token_ahead-now-requires-clause-few c =
    let near = c.loop-k.invariant.near in
    let few = c.requires.few in
    let many = c.loop-k.invariant.many in
    omega (arith, near, few, many, c.loop-k-test.true)

pub token_ahead-now-requires-clause-room : goal.token_ahead-now-requires-clause-room
token_ahead-now-requires-clause-room c =
    let near = c.loop-k.invariant.near in
    let room = c.requires.room in
    let many = c.loop-k.invariant.many in
    omega (arith, near, room, many, c.loop-k-test.true)

pub loop-k-preserved : goal.loop-k-preserved
loop-k-preserved c =
    let h = c.loop-k.invariant in
    let bytes = bytes_of c.args.bits.now in
    let p = position_of c.args.bits.now in
    let many = h.many in
    let near = h.near in
    let step = c.token_ahead-now.ensures.near in
    let old = c.loop-k.now in
    let new = c.token_ahead-now.result in
    let wrote = c.repeat_last-count.ensures in
    let count = c.repeat_last-count.result in
    let least = wrote.least in
    let most = wrote.most in
    let inside = wrote.inside in
    let same = wrote.many in
    record {
      many = same ∙ many;
      inside = omega (arith, inside, same);
      near = omega (arith, near, step, least);
      none = elim wrote.whole [
        | inl all ↦ inl (omega (arith, all))
        | inr end ↦ inr (omega (arith, end, same))
      ];
      tokens = λ codes clusters c' m is. takes_run bytes codes clusters c.args.width c' m is c.loop-k.tokens c.repeat_last-count.new.tokens (state (Runs c.args.before.last c.args.before.left) codes clusters) p c.loop-k.k
          (state (Runs old.last old.left) codes clusters) (p + old.at) new.last new.left (p + new.at) count least most wrote.kept wrote.filled
          (read_given (Runs old.last old.left) (Runs new.last new.left) codes clusters (Fixed c.args.width) (Ok new.last) bytes (p + old.at) (p + new.at) c' m is c.token_ahead-now.ensures.gives)
          (h.tokens codes clusters c' m is);
    }

pub returns-clause-gives : goal.returns-clause-gives
returns-clause-gives c = λ codes clusters k m is.
    let h = c.loop-k.invariant in
    let inside = h.inside in
    let p = position_of c.args.bits.now in
    let all : c.loop-k.k ≡ length c.loop-k.tokens = omega (arith, inside, c.loop-k-test.false) in
    subst (λ n. TakesTokens (λ u q. plain_read u (bytes_of c.args.bits.now) q k m) c.loop-k.tokens (state (Runs c.args.before.last c.args.before.left) codes clusters) p n (state (Runs c.loop-k.now.last c.loop-k.now.left) codes clusters) (p + c.loop-k.now.at)) all (h.tokens codes clusters k m is)

pub returns-clause-near : goal.returns-clause-near
returns-clause-near c =
    let near = c.loop-k.invariant.near in
    let inside = c.loop-k.invariant.inside in
    let many = c.loop-k.invariant.many in
    omega (arith, near, inside, many)

use Rattle.std.proofs.Common.{◌≡◌, sym, ◌++◌, ◌∷◌, [], subst, rules, arith, w32, w64}
use Rattle.std.proofs.lemmas.Int.{to_z-of_z}
use Rattle.jxlm_predictor.specs.Holding.{state_of}
use Rattle.jxlm_predictor.specs.Standing.{HasSameRoom, StandsAt}
use Rattle.jxlm_inverse.proofs.palette.next_sample.Goals as goal

pub returns-clause-value : goal.returns-clause-value
returns-clause-value g c = λ s samples stands.
    let at : StandsAt (state_of c.properties-properties.result) s samples = subst (λ st. StandsAt st s samples) (sym c.properties-properties.ensures.unchanged) stands in
    cc (c.sampled.ensures.value s samples at, to_z-of_z w32 c.args.index c.ranges.index, to_z-of_z w64 c.args.colour c.ranges.colour)

pub returns-clause-stands : goal.returns-clause-stands
returns-clause-stands g c = λ s samples stands.
    let at : StandsAt (state_of c.properties-properties.result) s samples = subst (λ st. StandsAt st s samples) (sym c.properties-properties.ensures.unchanged) stands in
    let same : c.sampled.new.properties.0 ≡ c.state-1.given.0 = first_of (cc, search rules, grind arith) in
    subst (λ st. StandsAt st s (samples ++ g.S.Sealed.to_int c.sampled.result ∷ [])) same (c.sampled.ensures.stands s samples at)

pub returns-clause-room : goal.returns-clause-room
returns-clause-room g c =
    let same : c.sampled.new.properties.0 ≡ c.state-1.given.0 = first_of (cc, search rules, grind arith) in
    subst (λ st. HasSameRoom st c.state-1.given.0) c.properties-properties.ensures.unchanged
    (subst (λ st. HasSameRoom (state_of c.properties-properties.result) st) same c.sampled.ensures.room)

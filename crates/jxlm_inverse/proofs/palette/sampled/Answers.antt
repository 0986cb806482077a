use Rattle.std.proofs.Common.{◌≡◌, ap, ◌∙◌, ◌++◌, ◌∷◌, [], subst, ◌+ℤ◌, rules, w32, w64, FitsSigned}
use Rattle.std.specs.Prelude.{if◌then◌else◌, int_lt, pos}
use Rattle.std.specs.Int.{int_wrap}
use Rattle.std.proofs.lemmas.Int.{to_z-of_z}
use Rattle.jxlm_predictor.specs.Standing.{StandsAt}
use Rattle.jxlm_inverse.proofs.palette.sampled.Goals as goal

pub returns-clause-value : goal.returns-clause-value
returns-clause-value g c = λ s samples stands.
    let t = c.args.palette.now in
    let w = g.S.Sealed.width in
    let narrow : FitsSigned w32 c.predict-predicted.result = search rules in
    let wide : FitsSigned w64 c.raised.result = search rules in
    let sum : c.raised.result ≡ (if int_lt c.args.index (pos t.nb_deltas) then c.args.colour +ℤ c.predict-predicted.result else c.args.colour) =
    cc (c.raised.ensures, to_z-of_z w32 c.args.index c.ranges.index, to_z-of_z w64 c.args.colour c.ranges.colour, to_z-of_z w32 c.predict-predicted.result narrow) in
    let value : c.sample_of-sample.result ≡ g.S.Sealed.from_int (int_wrap w c.raised.result) = cc (c.sample_of-sample.ensures, to_z-of_z w64 c.raised.result wide) in
    ap g.S.Sealed.to_int value ∙ g.met.S.Sealed.to_int_from_int (int_wrap w c.raised.result)
    ∙ ap (int_wrap w) (sum ∙ ap (λ z. if int_lt c.args.index (pos t.nb_deltas) then c.args.colour +ℤ z else c.args.colour) (c.predict-predicted.ensures s samples stands))

pub returns-clause-stands : goal.returns-clause-stands
returns-clause-stands g c = λ s samples stands.
    let fits : FitsSigned w32 c.to_i32.result = search rules in
    subst (λ z. StandsAt c.record.new.self.0 s (samples ++ z ∷ [])) (to_z-of_z w32 c.to_i32.result fits ∙ c.to_i32.ensures.value) (c.record.ensures.stands s samples stands)

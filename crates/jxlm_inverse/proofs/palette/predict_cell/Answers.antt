use Rattle.std.proofs.Common.{◌≡◌, [], ◌∷◌, ◌++◌, ◌+ℤ◌, ap, ◌∙◌, subst, arith, rules, w32, w64, FitsSigned}
use Rattle.std.specs.Prelude.{if◌then◌else◌, int_lt, pos}
use Rattle.std.specs.Int.{int_wrap}
use Rattle.std.proofs.lemmas.Int.{to_z-of_z, fits_signed_from_abs}
use Rattle.jxlm_base.specs.Regions.{store_meanings}
use Rattle.jxlm_predictor.specs.Standing.{StandsAt, setting}
use Rattle.jxlm_predictor.specs.Predictions.{prediction}
use Rattle.jxlm_inverse.specs.Palette.{colour_index, colour_of, finished_sample}
use Rattle.jxlm_inverse.specs.Inner.PaletteSteps.{table_in}
use Rattle.jxlm_inverse.proofs.PaletteSteps.{finished_is, is_ready}
use Rattle.jxlm_inverse.proofs.palette.predict_cell.Goals as goal

pub next_sample-sample-requires-clause-ready : goal.next_sample-sample-requires-clause-ready
next_sample-sample-requires-clause-ready g c κs within = is_ready c.args.palette.now c.args.channel.index.width c.args.channel.index.height c.args.x c.args.y c.args.state.now c.args.store.now c.requires.stands c.requires.column c.requires.in_rows c.requires.few_rows

pub returns-clause-sets : goal.returns-clause-sets
returns-clause-sets g c = λ before stands.
    let t = c.args.palette.now in
    let p = c.args.channel in
    let w = g.S.Sealed.width in
    let to_int = g.S.Sealed.to_int in
    let ints = store_meanings to_int c.args.store.now in
    let n = c.number_at.result in
    let i = c.colour_index-index.result in
    let bound = c.colour-colour.ensures.bound in
    let narrow : FitsSigned w32 i = search rules in
    let small : FitsSigned w32 n = search rules in
    let same : i ≡ colour_index t n = cc (c.colour_index-index.ensures, to_z-of_z w32 n small) in
    let wide : FitsSigned w64 c.colour-colour.result = fits_signed_from_abs w64 c.colour-colour.result (omega arith) in
    let value : to_int c.next_sample-sample.result ≡ int_wrap w (if int_lt i (pos t.nb_deltas) then c.colour-colour.result +ℤ prediction t.wp_header before p.index.width t.d_pred else c.colour-colour.result) =
    cc (c.next_sample-sample.ensures.value (setting p.index.width t.wp_header []) before stands, to_z-of_z w32 i narrow, to_z-of_z w64 c.colour-colour.result wide) in
    let colour : c.colour-colour.result ≡ colour_of c.args.bit_depth t (table_in p ints) i p.number = cc (c.colour-colour.ensures.value, to_z-of_z w32 i narrow) in
    record {
      sample = c.next_sample-sample.result;
      sample_is = value ∙ finished_is w c.args.bit_depth t (table_in p ints) n i p.number before p.index.width c.colour-colour.result same colour
          ∙ ap (λ z. finished_sample w c.args.bit_depth t (table_in p ints) z p.number before p.index.width) c.number_at.ensures;
      written = c.region_set.ensures;
    }

pub returns-clause-stands : goal.returns-clause-stands
unfolding returns-clause-sets
returns-clause-stands g c = λ before stands.
    let t = c.args.palette.now in
    let p = c.args.channel in
    subst (λ z. StandsAt c.next_sample-sample.new.state (setting p.index.width t.wp_header []) (before ++ z ∷ [])) ((returns-clause-sets g c before stands).sample_is)
    (c.next_sample-sample.ensures.stands (setting p.index.width t.wp_header []) before stands)

-- The list is that of the definitions.
use Rattle.std.proofs.Common.{◌≡◌, ℤ, get_or, pos, FitsSigned, ap, ◌∙◌, rules}
use Rattle.std.specs.Prelude.{map}
use Rattle.std.specs.Int.{w32, int_wrap}
use Rattle.std.proofs.lemmas.Int.{to_z-of_z}
use Rattle.jxlm_base.specs.Regions.{store_meanings}
use Rattle.jxlm_weighted.specs.Around.{neighbours_of}
use Rattle.jxlm_weighted.specs.SelfCorrecting.{error_property}
use Rattle.jxlm_predictor.specs.Holding.{surroundings}
use Rattle.jxlm_predictor.specs.Inner.OwnProperties.{own_list}
use Rattle.jxlm_predictor.proofs.PropertiesLaws.{own_kept, own_property}
use Rattle.jxlm_predictor.proofs.properties.Properties.own.Goals as goal

pub returns : goal.returns
returns g c = λ s samples k stands below.
    let state = c.args.self.now.state.now in
    let around = neighbours_of c.args.self.now.around in
    let fe : FitsSigned w32 c.maximum_error-error.result = search rules in
    let error : c.maximum_error-error.result ≡ error_property s.weights samples s.width = c.maximum_error-error.ensures s.weights s.width samples (c.requires.correction_is s samples stands) in
    let kept = own_kept s state.x state.y state.w state.n state.nw state.gradient c.maximum_error-error.result state.previous.items state.current.items samples around stands.rolls (c.requires.around_is s samples stands) error in
    let listed = c.own_properties.ensures
    ∙ ap (λ (v : ℤ). map (int_wrap w32) (own_list state.x state.y around state.gradient v)) (to_z-of_z w32 c.maximum_error-error.result fe) in
    ap (λ xs. get_or xs k (pos 0)) (listed ∙ kept)
    ∙ own_property (surroundings s (store_meanings g.S.Sealed.to_int c.args.self.now.store.now) samples) k below

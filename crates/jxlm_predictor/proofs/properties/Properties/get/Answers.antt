use Rattle.std.proofs.Common.{◌≡◌, ℤ, get_or, pos, FitsSigned, sym, ap, ◌∙◌, rules}
use Rattle.std.specs.Int.{w32, int_wrap}
use Rattle.std.proofs.lemmas.Int.{to_z-of_z}
use Rattle.jxlm_base.specs.Regions.{store_meanings}
use Rattle.jxlm_weighted.specs.Around.{neighbours_of}
use Rattle.jxlm_predictor.specs.Holding.{surroundings}
use Rattle.jxlm_predictor.specs.Inner.OwnProperties.{own_list}
use Rattle.jxlm_weighted.specs.SelfCorrecting.{error_property}
use Rattle.jxlm_predictor.proofs.PropertiesLaws.{own_property_kept, own_property, later_property}
use Rattle.jxlm_predictor.proofs.properties.Properties.get.Goals as goal

pub returns-then-property-lt16 : goal.returns-then-property-lt16
returns-then-property-lt16 g c = λ s samples stands.
    let state = c.args.self.now.state.now in
    let fr : FitsSigned w32 c.own_property.result = search rules in
    let fe : FitsSigned w32 c.maximum_error-error.result = search rules in
    let error : c.maximum_error-error.result ≡ error_property s.weights samples s.width = c.maximum_error-error.ensures s.weights s.width samples (c.requires.correction_is s samples stands) in
    to_z-of_z w32 c.own_property.result fr ∙ c.own_property.ensures
    ∙ ap (λ (v : ℤ). int_wrap w32 (get_or (own_list c.args.self.now.state.now.x c.args.self.now.state.now.y (neighbours_of c.args.self.now.around) c.args.self.now.state.now.gradient v) c.args.property (pos 0))) (to_z-of_z w32 c.maximum_error-error.result fe)
    ∙ own_property_kept s state.x state.y state.w state.n state.nw state.gradient c.maximum_error-error.result state.previous.items state.current.items samples (neighbours_of c.args.self.now.around) c.args.property stands.rolls (c.requires.around_is s samples stands) error c.if-property-lt16.true
    ∙ own_property (surroundings s (store_meanings g.S.Sealed.to_int c.args.self.now.store.now) samples) c.args.property c.if-property-lt16.true

pub returns-else-property-lt16 : goal.returns-else-property-lt16
returns-else-property-lt16 g c = λ s samples stands.
    let f : FitsSigned w32 c.of_earlier.result = search rules in
    to_z-of_z w32 c.of_earlier.result f ∙ c.of_earlier.ensures s samples stands
    ∙ sym (later_property (surroundings s (store_meanings g.S.Sealed.to_int c.args.self.now.store.now) samples) c.args.property c.if-property-lt16.false)

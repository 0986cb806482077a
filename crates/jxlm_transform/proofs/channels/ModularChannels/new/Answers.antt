use Rattle.std.proofs.Common.{◌≡◌, ◌∙◌, ◌++◌, ◌∷◌, [], ap, sym, subst, arith, take, get_or, length}
use Rattle.std.specs.List.{All}
use Rattle.std.proofs.lemmas.List.{get_or_default, length-map, map-append, take_more}
use Rattle.jxlm_base.specs.Regions.{region}
use Rattle.jxlm_transform.specs.Channels.{infos, regions}
use Rattle.jxlm_transform.specs.Ends.{HasEnds}
use Rattle.jxlm_transform.proofs.Ends.{ends_push}
use Rattle.jxlm_transform.proofs.WholeRegions.{whole-next}
use Rattle.jxlm_transform.proofs.channels.ModularChannels.new.Goals as goal

pub loop-info-preserved : goal.loop-info-preserved
loop-info-preserved c =
    let xs = c.loop-info.placed.items in
    let given = c.args.given.now in
    let i = c.loop-info.info-index in
    let d = c.whole.result.info in
    let own : d ≡ get_or given i d = c.whole.ensures.info ∙ get_or_default given i _ d c.loop-info-test.true in
    let place : c.whole.result.region ≡ region c.len.result 0 0 d.width d.height = c.whole.ensures.region ∙ ap (λ x. region c.len.result 0 0 x.width x.height) (sym c.whole.ensures.info) in
    let count : c.len.result ≡ length (regions xs) = c.len.ensures ∙ c.loop-info.placed.ok.0 ∙ sym (length-map xs (λ p. p.region)) in
    let is : regions c.push.new.self.items ≡ regions xs ++ c.whole.result.region ∷ [] = ap regions c.in_ok-push.ensures.items ∙ map-append (λ p. p.region) xs (c.whole.result ∷ []) in
    record {
      list = ap infos c.in_ok-push.ensures.items ∙ map-append (λ p. p.info) xs (c.whole.result ∷ []) ∙ ap (λ ys. ys ++ d ∷ []) c.loop-info.invariant.list
          ∙ ap (λ x. take i given ++ x ∷ []) own ∙ sym (take_more given i d c.loop-info-test.true);
      made = is ∙ ap (λ r. regions xs ++ r ∷ []) (place ∙ ap (λ x. region c.len.result 0 0 x.width x.height) own) ∙ whole-next given i d (regions xs) c.len.result c.loop-info-test.true count c.loop-info.invariant.made;
      ends = subst (All HasEnds) (sym is) (ends_push (regions xs) c.whole.result.region c.loop-info.invariant.ends (subst HasEnds (sym place) (record { column = omega arith; row = omega arith })));
    }

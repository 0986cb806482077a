-- Each entry is the prediction of the predictor of that number.
use Rattle.std.proofs.Common.{refl, rules}
use Rattle.jxl_encode_properties.proofs.Steps.{entry}
use Rattle.jxl_encode_properties.proofs.walk.predictions_of.Goals as goal

pub returns : goal.returns
returns c = λ s samples at.
    (entry c.predict.result _ _ _ (search rules) (c.predict.ensures s samples at)
    (entry c.predict-2.result _ _ _ (search rules) (c.predict-2.ensures s samples at)
    (entry c.predict-3.result _ _ _ (search rules) (c.predict-3.ensures s samples at)
    (entry c.predict-4.result _ _ _ (search rules) (c.predict-4.ensures s samples at)
    (entry c.predict-5.result _ _ _ (search rules) (c.predict-5.ensures s samples at)
    (entry c.predict-6.result _ _ _ (search rules) (c.predict-6.ensures s samples at)
    (entry c.predict-7.result _ _ _ (search rules) (c.predict-7.ensures s samples at)
    (entry c.predict-8.result _ _ _ (search rules) (c.predict-8.ensures s samples at)
    (entry c.predict-9.result _ _ _ (search rules) (c.predict-9.ensures s samples at)
    (entry c.predict-10.result _ _ _ (search rules) (c.predict-10.ensures s samples at)
    (entry c.predict-11.result _ _ _ (search rules) (c.predict-11.ensures s samples at)
    (entry c.predict-12.result _ _ _ (search rules) (c.predict-12.ensures s samples at)
    (entry c.predict-13.result _ _ _ (search rules) (c.predict-13.ensures s samples at)
    (entry c.predict-14.result _ _ _ (search rules) (c.predict-14.ensures s samples at) refl))))))))))))))

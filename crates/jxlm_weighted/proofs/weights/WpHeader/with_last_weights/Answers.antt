use Rattle.std.proofs.Common.{refl, ◌∙◌}
use Rattle.jxlm_weighted.proofs.ListedWeights.{after, ended, refused, no_header}
use Rattle.jxlm_weighted.proofs.weights.WpHeader.with_last_weights.Goals as goal

pub returns-in_err-field : goal.returns-in_err-field
returns-in_err-field c = record {
  gives = refused c.from_residual.result _ _ c.in_err-field.field-0.0 c.from_residual.ensures.1 (
      ended 4 _ _ refl c.in_err-field.ensures.gives);
  ranges = λ h. no_header c.from_residual.result c.in_err-field.field-0.0 c.from_residual.ensures.1;
  bytes = c.field.ensures.bytes;
}

pub returns-in_err-field-2 : goal.returns-in_err-field-2
returns-in_err-field-2 c = record {
  gives = refused c.from_residual-in_err-field-2.result _ _ c.in_err-field-2.field-0.0 c.from_residual-in_err-field-2.ensures.1 (
      after 4 _ _ refl c.in_ok-field.ensures.gives c.field.ensures.bytes (λ s1.
      ended 4 _ _ s1 c.in_err-field-2.ensures.gives));
  ranges = λ h. no_header c.from_residual-in_err-field-2.result c.in_err-field-2.field-0.0 c.from_residual-in_err-field-2.ensures.1;
  bytes = c.field-2.ensures.bytes ∙ c.field.ensures.bytes;
}

pub returns-in_err-field-3 : goal.returns-in_err-field-3
returns-in_err-field-3 c = record {
  gives = refused c.from_residual-in_err-field-3.result _ _ c.in_err-field-3.field-0.0 c.from_residual-in_err-field-3.ensures.1 (
      after 4 _ _ refl c.in_ok-field.ensures.gives c.field.ensures.bytes (λ s1.
      after 4 _ _ s1 c.in_ok-field-2.ensures.gives c.field-2.ensures.bytes (λ s2.
      ended 4 _ _ s2 c.in_err-field-3.ensures.gives)));
  ranges = λ h. no_header c.from_residual-in_err-field-3.result c.in_err-field-3.field-0.0 c.from_residual-in_err-field-3.ensures.1;
  bytes = c.field-3.ensures.bytes ∙ c.field-2.ensures.bytes ∙ c.field.ensures.bytes;
}

pub returns-in_err-field-4 : goal.returns-in_err-field-4
returns-in_err-field-4 c = record {
  gives = refused c.from_residual-in_err-field-4.result _ _ c.in_err-field-4.field-0.0 c.from_residual-in_err-field-4.ensures.1 (
      after 4 _ _ refl c.in_ok-field.ensures.gives c.field.ensures.bytes (λ s1.
      after 4 _ _ s1 c.in_ok-field-2.ensures.gives c.field-2.ensures.bytes (λ s2.
      after 4 _ _ s2 c.in_ok-field-3.ensures.gives c.field-3.ensures.bytes (λ s3.
      ended 4 _ _ s3 c.in_err-field-4.ensures.gives))));
  ranges = λ h. no_header c.from_residual-in_err-field-4.result c.in_err-field-4.field-0.0 c.from_residual-in_err-field-4.ensures.1;
  bytes = c.field-4.ensures.bytes ∙ c.field-3.ensures.bytes ∙ c.field-2.ensures.bytes ∙ c.field.ensures.bytes;
}

pub returns : goal.returns
returns c = record {
  gives =
      after 4 _ _ refl c.in_ok-field.ensures.gives c.field.ensures.bytes (λ s1.
      after 4 _ _ s1 c.in_ok-field-2.ensures.gives c.field-2.ensures.bytes (λ s2.
      after 4 _ _ s2 c.in_ok-field-3.ensures.gives c.field-3.ensures.bytes (λ s3.
      after 4 _ _ s3 c.in_ok-field-4.ensures.gives c.field-4.ensures.bytes (λ s4. refl))));
  ranges = λ h. record { p1 = h.p1; p2 = h.p2; p3a = h.p3a; p3b = h.p3b; p3c = h.p3c; p3d = h.p3d; p3e = h.p3e; w0 = c.in_ok-field.ensures.below; w1 = c.in_ok-field-2.ensures.below; w2 = c.in_ok-field-3.ensures.below; w3 = c.in_ok-field-4.ensures.below };
  bytes = c.field-4.ensures.bytes ∙ c.field-3.ensures.bytes ∙ c.field-2.ensures.bytes ∙ c.field.ensures.bytes;
}

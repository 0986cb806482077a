use Rattle.std.proofs.Common.{false, ap, sym, refl, ◌∙◌}
use Rattle.jxlm_bits.specs.Bits.{position_of}
use Rattle.jxlm_weighted.specs.Inner.ListedWeights.{last_weights}
use Rattle.jxlm_weighted.specs.declared.weights.WpHeader.{WpHeader}
use Rattle.jxlm_weighted.proofs.ListedWeights.{after, ended, no_header, read_on, refused}
use Rattle.jxlm_weighted.proofs.weights.WpHeader.listed.Goals as goal

pub returns-in_err-field : goal.returns-in_err-field
returns-in_err-field c = record {
  gives = refused c.from_residual.result _ _ c.in_err-field.field-0.0 c.from_residual.ensures.1 (
      ended 5 _ _ refl c.in_err-field.ensures.gives);
  ranges = no_header c.from_residual.result c.in_err-field.field-0.0 c.from_residual.ensures.1;
  bytes = c.field.ensures.bytes;
}

pub returns-in_err-field-2 : goal.returns-in_err-field-2
returns-in_err-field-2 c = record {
  gives = refused c.from_residual-in_err-field-2.result _ _ c.in_err-field-2.field-0.0 c.from_residual-in_err-field-2.ensures.1 (
      after 5 _ _ refl c.in_ok-field.ensures.gives c.field.ensures.bytes (λ s1.
      ended 5 _ _ s1 c.in_err-field-2.ensures.gives));
  ranges = no_header c.from_residual-in_err-field-2.result c.in_err-field-2.field-0.0 c.from_residual-in_err-field-2.ensures.1;
  bytes = c.field-2.ensures.bytes ∙ c.field.ensures.bytes;
}

pub returns-in_err-field-3 : goal.returns-in_err-field-3
returns-in_err-field-3 c = record {
  gives = refused c.from_residual-in_err-field-3.result _ _ c.in_err-field-3.field-0.0 c.from_residual-in_err-field-3.ensures.1 (
      after 5 _ _ refl c.in_ok-field.ensures.gives c.field.ensures.bytes (λ s1.
      after 5 _ _ s1 c.in_ok-field-2.ensures.gives c.field-2.ensures.bytes (λ s2.
      ended 5 _ _ s2 c.in_err-field-3.ensures.gives)));
  ranges = no_header c.from_residual-in_err-field-3.result c.in_err-field-3.field-0.0 c.from_residual-in_err-field-3.ensures.1;
  bytes = c.field-3.ensures.bytes ∙ c.field-2.ensures.bytes ∙ c.field.ensures.bytes;
}

pub returns-in_err-field-4 : goal.returns-in_err-field-4
returns-in_err-field-4 c = record {
  gives = refused c.from_residual-in_err-field-4.result _ _ c.in_err-field-4.field-0.0 c.from_residual-in_err-field-4.ensures.1 (
      after 5 _ _ refl c.in_ok-field.ensures.gives c.field.ensures.bytes (λ s1.
      after 5 _ _ s1 c.in_ok-field-2.ensures.gives c.field-2.ensures.bytes (λ s2.
      after 5 _ _ s2 c.in_ok-field-3.ensures.gives c.field-3.ensures.bytes (λ s3.
      ended 5 _ _ s3 c.in_err-field-4.ensures.gives))));
  ranges = no_header c.from_residual-in_err-field-4.result c.in_err-field-4.field-0.0 c.from_residual-in_err-field-4.ensures.1;
  bytes = c.field-4.ensures.bytes ∙ c.field-3.ensures.bytes ∙ c.field-2.ensures.bytes ∙ c.field.ensures.bytes;
}

pub returns-in_err-field-5 : goal.returns-in_err-field-5
returns-in_err-field-5 c = record {
  gives = refused c.from_residual-in_err-field-5.result _ _ c.in_err-field-5.field-0.0 c.from_residual-in_err-field-5.ensures.1 (
      after 5 _ _ refl c.in_ok-field.ensures.gives c.field.ensures.bytes (λ s1.
      after 5 _ _ s1 c.in_ok-field-2.ensures.gives c.field-2.ensures.bytes (λ s2.
      after 5 _ _ s2 c.in_ok-field-3.ensures.gives c.field-3.ensures.bytes (λ s3.
      after 5 _ _ s3 c.in_ok-field-4.ensures.gives c.field-4.ensures.bytes (λ s4.
      ended 5 _ _ s4 c.in_err-field-5.ensures.gives)))));
  ranges = no_header c.from_residual-in_err-field-5.result c.in_err-field-5.field-0.0 c.from_residual-in_err-field-5.ensures.1;
  bytes = c.field-5.ensures.bytes ∙ c.field-4.ensures.bytes ∙ c.field-3.ensures.bytes ∙ c.field-2.ensures.bytes ∙ c.field.ensures.bytes;
}

pub returns-in_err-field-6 : goal.returns-in_err-field-6
returns-in_err-field-6 c = record {
  gives = refused c.from_residual-in_err-field-6.result _ _ c.in_err-field-6.field-0.0 c.from_residual-in_err-field-6.ensures.1 (
      after 5 _ _ refl c.in_ok-field.ensures.gives c.field.ensures.bytes (λ s1.
      after 5 _ _ s1 c.in_ok-field-2.ensures.gives c.field-2.ensures.bytes (λ s2.
      after 5 _ _ s2 c.in_ok-field-3.ensures.gives c.field-3.ensures.bytes (λ s3.
      after 5 _ _ s3 c.in_ok-field-4.ensures.gives c.field-4.ensures.bytes (λ s4.
      after 5 _ _ s4 c.in_ok-field-5.ensures.gives c.field-5.ensures.bytes (λ s5.
      ended 5 _ _ s5 c.in_err-field-6.ensures.gives))))));
  ranges = no_header c.from_residual-in_err-field-6.result c.in_err-field-6.field-0.0 c.from_residual-in_err-field-6.ensures.1;
  bytes = c.field-6.ensures.bytes ∙ c.field-5.ensures.bytes ∙ c.field-4.ensures.bytes ∙ c.field-3.ensures.bytes ∙ c.field-2.ensures.bytes ∙ c.field.ensures.bytes;
}

pub returns-in_err-field-7 : goal.returns-in_err-field-7
returns-in_err-field-7 c = record {
  gives = refused c.from_residual-in_err-field-7.result _ _ c.in_err-field-7.field-0.0 c.from_residual-in_err-field-7.ensures.1 (
      after 5 _ _ refl c.in_ok-field.ensures.gives c.field.ensures.bytes (λ s1.
      after 5 _ _ s1 c.in_ok-field-2.ensures.gives c.field-2.ensures.bytes (λ s2.
      after 5 _ _ s2 c.in_ok-field-3.ensures.gives c.field-3.ensures.bytes (λ s3.
      after 5 _ _ s3 c.in_ok-field-4.ensures.gives c.field-4.ensures.bytes (λ s4.
      after 5 _ _ s4 c.in_ok-field-5.ensures.gives c.field-5.ensures.bytes (λ s5.
      after 5 _ _ s5 c.in_ok-field-6.ensures.gives c.field-6.ensures.bytes (λ s6.
      ended 5 _ _ s6 c.in_err-field-7.ensures.gives)))))));
  ranges = no_header c.from_residual-in_err-field-7.result c.in_err-field-7.field-0.0 c.from_residual-in_err-field-7.ensures.1;
  bytes = c.field-7.ensures.bytes ∙ c.field-6.ensures.bytes ∙ c.field-5.ensures.bytes ∙ c.field-4.ensures.bytes ∙ c.field-3.ensures.bytes ∙ c.field-2.ensures.bytes ∙ c.field.ensures.bytes;
}

pub returns : goal.returns
returns c =
    let h : WpHeader = record { default_wp = false; wp_p1 = c.in_ok-field.field-0; wp_p2 = c.in_ok-field-2.field-0; wp_p3a = c.in_ok-field-3.field-0; wp_p3b = c.in_ok-field-4.field-0; wp_p3c = c.in_ok-field-5.field-0; wp_p3d = c.in_ok-field-6.field-0; wp_p3e = c.in_ok-field-7.field-0; wp_w0 = 0; wp_w1 = 0; wp_w2 = 0; wp_w3 = 0 } in
    record {
      gives = read_on c.with_last_weights.result _ _ _ (
          after 5 _ _ refl c.in_ok-field.ensures.gives c.field.ensures.bytes (λ s1.
          after 5 _ _ s1 c.in_ok-field-2.ensures.gives c.field-2.ensures.bytes (λ s2.
          after 5 _ _ s2 c.in_ok-field-3.ensures.gives c.field-3.ensures.bytes (λ s3.
          after 5 _ _ s3 c.in_ok-field-4.ensures.gives c.field-4.ensures.bytes (λ s4.
          after 5 _ _ s4 c.in_ok-field-5.ensures.gives c.field-5.ensures.bytes (λ s5.
          after 5 _ _ s5 c.in_ok-field-6.ensures.gives c.field-6.ensures.bytes (λ s6.
          after 5 _ _ s6 c.in_ok-field-7.ensures.gives c.field-7.ensures.bytes (λ s7.
          ap (λ l. (last_weights h).read l (position_of c.field-7.new.bits)) (sym s7))))))))) c.with_last_weights.ensures.gives;
      ranges = c.with_last_weights.ensures.ranges (record { p1 = c.in_ok-field.ensures.below; p2 = c.in_ok-field-2.ensures.below; p3a = c.in_ok-field-3.ensures.below; p3b = c.in_ok-field-4.ensures.below; p3c = c.in_ok-field-5.ensures.below; p3d = c.in_ok-field-6.ensures.below; p3e = c.in_ok-field-7.ensures.below });
      bytes = c.with_last_weights.ensures.bytes ∙ c.field-7.ensures.bytes ∙ c.field-6.ensures.bytes ∙ c.field-5.ensures.bytes ∙ c.field-4.ensures.bytes ∙ c.field-3.ensures.bytes ∙ c.field-2.ensures.bytes ∙ c.field.ensures.bytes;
    }

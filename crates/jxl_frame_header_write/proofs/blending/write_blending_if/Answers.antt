use Rattle.std.proofs.Common.{sym, ◌∙◌}
use Rattle.std.proofs.lemmas.Bool.{eqb-true}
use Rattle.jxl_frame_header_write.proofs.BlendingSpellings.{blending_parts, blending_spelled}
use Rattle.jxl_frame_header_write.proofs.blending.write_blending_if.Goals as goal

pub write_field_if-requires-clause-usual : goal.write_field_if-requires-clause-usual
write_field_if-requires-clause-usual c = λ e. eqb-true c.mode_number-mode.result 0 (c.mode_number-mode.ensures.replaces ∙ (blending_parts c.args.present c.args.extra c.args.partial c.args.info c.requires).mode e)

pub write_field_if-requires-2-clause-spelled : goal.write_field_if-requires-2-clause-spelled
write_field_if-requires-2-clause-spelled c = λ e. ((blending_parts c.args.present c.args.extra c.args.partial c.args.info c.requires).alpha (sym c.by_alpha-by_alpha.ensures ∙ e)).0

pub write_field_if-requires-2-clause-usual : goal.write_field_if-requires-2-clause-usual
write_field_if-requires-2-clause-usual c = λ e. (blending_parts c.args.present c.args.extra c.args.partial c.args.info c.requires).no_alpha (sym c.by_alpha-by_alpha.ensures ∙ e)

pub write_flag_if-requires : goal.write_flag_if-requires
write_flag_if-requires c = record { usual = λ e. (blending_parts c.args.present c.args.extra c.args.partial c.args.info c.requires).clamp (rw (c.by_alpha-by_alpha.ensures, c.is_product.ensures) at e) }

pub write_number_if-requires-clause-fits : goal.write_number_if-requires-clause-fits
write_number_if-requires-clause-fits c = (blending_parts c.args.present c.args.extra c.args.partial c.args.info c.requires).small

pub returns : goal.returns
returns c =
    blending_spelled c.args.present c.args.extra c.args.partial c.args.info c.mode_number-mode.result c.args.bits.now c.write_field_if.new.bits c.write_field_if-2.new.bits c.write_flag_if.new.bits c.write_number_if.new.bits
    (blending_parts c.args.present c.args.extra c.args.partial c.args.info c.requires) c.mode_number-mode.ensures c.in_ok-write_field_if.ensures (rw c.by_alpha-by_alpha.ensures at c.in_ok-write_field_if-2.ensures)
    (rw (c.by_alpha-by_alpha.ensures, c.is_product.ensures) at c.in_ok-write_flag_if.ensures) (rw c.replaces.ensures at c.in_ok-write_number_if.ensures)

use Rattle.std.proofs.Common.{◌∙◌, refl}
use Rattle.std.specs.Option.{option_copied}
use Rattle.jxl_command.proofs.Asking.{an_output, no_output, some_text, unwrap_text}
use Rattle.jxlenc.proofs.Asking.{effort_read}
use Rattle.jxlenc.proofs.options.Options.of.Goals as goal
use Rattle.jxlenc.proofs.options.Options.of.Goals.{then-eq, else-eq}

pub returns : goal.returns
returns c = record {
  input = unwrap_text c.get_str-2.result _ c.unwrap_or.result _ c.get_str-2.ensures c.unwrap_or.ensures;
  output = elim c.if-eq.branch [
    | then-eq w ↦ no_output c.get_str-given.result _ _ c.unwrap_or-path.result c.if-eq.output c.get_str-given.ensures c.unwrap_or-path.ensures (w.if-eq.ensures) w.output-is
    | else-eq w ↦ an_output c.get_str-given.result _ _ c.unwrap_or-path.result c.if-eq.output c.get_str-given.ensures refl c.unwrap_or-path.ensures (w.if-eq.ensures) w.output-is
  ];
  has_output = c.is_some.ensures ∙ some_text c.get_str-given.result _ c.get_str-given.ensures;
  output_name = unwrap_text c.if-eq.output _ c.unwrap_or-2.result (option_copied c.if-eq.output) refl c.unwrap_or-2.ensures;
  effort = effort_read c.get_str.result _ c.and_then-effort.result c.unwrap_or-3.result c.get_str.ensures c.and_then-effort.ensures c.unwrap_or-3.ensures;
  boxed = (c.get_flag.ensures.none, c.get_flag.ensures.value, c.get_flag.ensures.other);
  icc = c.get_str-3.ensures;
  exif = c.get_str-4.ensures;
  xmp = c.get_str-5.ensures;
  quiet = (c.get_flag-2.ensures.none, c.get_flag-2.ensures.value, c.get_flag-2.ensures.other);
}

use Rattle.std.proofs.Common.{◌≡◌, ◌∙◌, ap, refl, not, is_some, codes, ◌||◌}
use Rattle.std.specs.Option.{option_copied}
use Rattle.jxl_command.proofs.Asking.{an_output, no_output, some_text, unwrap_text}
use Rattle.jxldec_options.proofs.Asking.{apng_read, ending_text, format_read, number_read, or_text, same_or}
use Rattle.jxldec_options.proofs.options.Options.of.Goals as goal
use Rattle.jxldec_options.proofs.options.Options.of.Goals.{then-eq, else-eq, then-is_some, else-is_some}
use Rattle.jxldec_options.specs.Options.{task_of as the_task}
use Rattle.jxldec_options.specs.Asked.{wants_picture}
use Rattle.clap.specs.Matches.{first_value, found_of}

pub returns : goal.returns
returns c =
    let one = or_text c.get_str-frames.result c.if-eq.output c.or.result (option_copied c.get_str-frames.result) (option_copied c.if-eq.output) refl refl c.or.ensures in
    let two = or_text c.get_str-frames.result c.if-eq.output c.or-2.result (option_copied c.get_str-frames.result) (option_copied c.if-eq.output) refl refl c.or-2.ensures in
    let end = ending_text c.or.result c.and_then.result _ one c.and_then.ensures in
    let word = or_text c.get_str-5.result c.and_then.result c.or-name.result _ _ c.get_str-5.ensures end c.or-name.ensures in
    let given = some_text c.get_str-7.result _ c.get_str-7.ensures in
    let same = same_or (some_text c.get_str-2.result _ c.get_str-2.ensures) (some_text c.get_str-3.result _ c.get_str-3.ensures) (some_text c.get_str-4.result _ c.get_str-4.ensures) in
    let others = is_some (first_value (found_of c.args.matches.now) (codes "icc")) || is_some (first_value (found_of c.args.matches.now) (codes "exif")) || is_some (first_value (found_of c.args.matches.now) (codes "xmp")) in
    let picture : c.if-is_some.task_of ≡ wants_picture (found_of c.args.matches.now) = elim c.if-is_some.branch [
      | then-is_some w ↦ w.task_of-is ∙ w.if-is_some.true ∙ ap (λ p. p || not others) (w.if-is_some.ensures ∙ given)
      | else-is_some w ↦ w.task_of-is ∙ ap not (w.has_some.ensures ∙ same) ∙ ap (λ p. p || not others) (w.if-is_some.ensures ∙ given)
    ] in
    record {
      input = unwrap_text c.get_str-6.result _ c.unwrap_or.result _ c.get_str-6.ensures c.unwrap_or.ensures;
      frames = c.get_str-frames.ensures;
      output = elim c.if-eq.branch [
        | then-eq w ↦ no_output c.get_str.result _ _ c.unwrap_or-path.result c.if-eq.output c.get_str.ensures c.unwrap_or-path.ensures (w.if-eq.ensures) w.output-is
        | else-eq w ↦ an_output c.get_str.result _ _ c.unwrap_or-path.result c.if-eq.output c.get_str.ensures refl c.unwrap_or-path.ensures (w.if-eq.ensures) w.output-is
      ];
      output_name = unwrap_text c.or-2.result _ c.unwrap_or-2.result _ two c.unwrap_or-2.ensures;
      task = record {
        info = c.get_flag.result;
        frame = c.get_one.result;
        animated = c.is_some_and.result;
        is_info = (c.get_flag.ensures.none, c.get_flag.ensures.value, c.get_flag.ensures.other);
        is_frame = number_read 32 _ c.get_one.result c.get_one.ensures.none c.get_one.ensures.value;
        is_animated = apng_read c.or-name.result _ c.is_some_and.result word c.is_some_and.ensures;
        is = c.task_of.ensures ∙ ap (λ p. the_task c.get_flag.result c.get_one.result p c.is_some_and.result) picture;
      };
      icc = c.get_str-2.ensures;
      exif = c.get_str-3.ensures;
      xmp = c.get_str-4.ensures;
      format = format_read c.or-name.result _ c.and_then-2.result word c.and_then-2.ensures;
      limits = record {
        pixels = c.get_one-2.result;
        bytes = c.get_one-3.result;
        decisions = c.get_one-4.result;
        codewords = c.get_one-5.result;
        is_pixels = number_read 64 _ c.get_one-2.result c.get_one-2.ensures.none c.get_one-2.ensures.value;
        is_bytes = number_read 64 _ c.get_one-3.result c.get_one-3.ensures.none c.get_one-3.ensures.value;
        is_decisions = number_read 32 _ c.get_one-4.result c.get_one-4.ensures.none c.get_one-4.ensures.value;
        is_codewords = number_read 64 _ c.get_one-5.result c.get_one-5.ensures.none c.get_one-5.ensures.value;
        are = c.limits_of.ensures;
      };
      quiet = (c.get_flag-2.ensures.none, c.get_flag-2.ensures.value, c.get_flag-2.ensures.other);
      has_output = c.is_some-2.ensures ∙ some_text c.get_str-8.result _ c.get_str-8.ensures;
    }

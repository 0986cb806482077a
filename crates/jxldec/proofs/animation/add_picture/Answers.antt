use Rattle.jxldec.proofs.animation.add_picture.Goals as goal

pub returns-in-Ok-clause-ok : goal.returns-in-Ok-clause-ok
returns-in-Ok-clause-ok c = λ profile exif xmp plays first others is. record {
  delay = c.of-delay.result;
  delay_is = c.of-delay.ensures;
  is = c.in-Ok.ensures.ok profile exif xmp plays first others is;
}

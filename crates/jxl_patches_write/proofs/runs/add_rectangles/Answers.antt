use Rattle.std.proofs.Common.{◌+◌, ◌-◌, List, [], drop, length, subst, sym, take, arith}
use Rattle.std.proofs.lemmas.List.{append-nil}
use Rattle.jxl_patches.specs.declared.dictionary.Place.{Place}
use Rattle.jxl_patches_write.specs.Inner.Given.{GiveRectangle, GiveRectangles}
use Rattle.jxl_patches_write.proofs.Adding.{adds_after, nothing_in, rest_fits, rest_is}
use Rattle.jxl_patches_write.proofs.Rectangles.{rectangles_more, rectangles_none}
use Rattle.jxl_patches_write.proofs.runs.add_rectangles.Goals as goal

pub loop-init : goal.loop-init
loop-init c = record {
  inside = omega arith;
  passed = omega arith;
  few = omega arith;
  read_as = record { more = []; added = sym (append-nil c.args.tokens.now.items); clusters = nothing_in; holds = rectangles_none c.args.places.now c.args.kinds };
}

pub loop-preserved : goal.loop-preserved
loop-preserved c =
    let places = c.args.places.now in
    let start = c.loop.start in
    let n = c.in_ok-start.field-0 in
    let kinds = c.args.kinds in
    let inside = rest_fits places start n c.loop.invariant.inside c.in_ok-start.ensures.inside in
    let some = c.in_ok-start.ensures.some in
    let passed = c.loop.invariant.passed in
    let few = c.loop.invariant.few in
    record {
      inside = inside;
      passed = omega (arith, some, passed);
      few = omega (arith, some, few);
      read_as =
          adds_after (GiveRectangles kinds c.loop.count (take start places) places) (GiveRectangle kinds (take n (take (length places - start) (drop start places))))
          (GiveRectangles kinds (c.loop.count + 1) (take (start + n) places) places) c.args.tokens.now.items c.loop.tokens.items c.add_first.new.tokens.items c.loop.invariant.read_as c.in_ok-start.ensures.read_as
          (λ xs ys before read_as. rectangles_more places start n c.loop.count kinds xs ys inside before (subst (λ (ps : List Place). GiveRectangle kinds (take n ps) ys) (rest_is places start) read_as));
    }

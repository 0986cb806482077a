use Rattle.std.proofs.Common.{◌≡◌, ◌+◌, ◌++◌, ◌∷◌, [], map, true, false, rules, ap, ◌∙◌, sym, subst}
use Rattle.std.proofs.lemmas.List.{map-append}
use Rattle.std.proofs.lemmas.List.Elements.{All-append, All-cons, All-nil}
use Rattle.jxl_image_header.specs.Images.{image_of}
use Rattle.jxl_frame_header.specs.Frames.{frame_of, is_saved}
use Rattle.jxl_codestream.specs.Fronts.{AreBefore, end_of}
use Rattle.jxl_codestream.specs.FrontParts.{IsReadyFrame, frame_at}
use Rattle.jxl_codestream.proofs.Fronts.{before_more, covers, image_before, low}
use Rattle.jxl_codestream.proofs.front.Frames.read.Goals as goal

pub loop-preserved : goal.loop-preserved
loop-preserved g c =
    let f = c.in_ok-frame.frame in
    let image = image_of c.args.image.now in
    let bytes = c.args.bytes.now in
    let pushed : c.push.new.self.items ≡ c.loop.saved.items ++ f ∷ [] = search rules in
    let saved : is_saved (frame_of f.header) ≡ true = search rules in
    let more = before_more g.D.Decoder.meaning c.args.limits.now bytes image (map frame_at c.loop.saved.items) c.loop.start c.loop.used (frame_at f) c.loop.invariant.before c.in_ok-frame.ensures.start saved
    c.in_ok-frame.ensures.stands in
    let items : map frame_at c.push.new.self.items ≡ map frame_at c.loop.saved.items ++ frame_at f ∷ [] = ap (map frame_at) pushed ∙ map-append frame_at c.loop.saved.items (f ∷ []) in
    let next : c.end-start.result ≡ c.loop.start + end_of f.toc.entries.items = c.end-start.ensures.end ∙ ap (λ n. n + end_of f.toc.entries.items) c.in_ok-frame.ensures.start in
    record {
      before = rw (items, next, c.cells_with-used.ensures) more;
      inside = c.end-start.ensures.inside;
      ready = rw pushed (All-append (IsReadyFrame bytes image) c.loop.saved.items (f ∷ []) c.loop.invariant.ready
          (All-cons (IsReadyFrame bytes image) f [] c.in_ok-frame.ensures.ready (All-nil (IsReadyFrame bytes image))));
    }

pub returns-then-not-is_saved-clause-ok : goal.returns-then-not-is_saved-clause-ok
returns-then-not-is_saved-clause-ok g c =
    let f = c.in_ok-frame.frame in
    let image = image_of c.args.image.now in
    let stands = c.in_ok-frame.ensures.stands in
    let header = image_before g.D.Decoder.meaning c.args.limits.now c.args.bytes.now c.loop.invariant.before in
    let shown : is_saved (frame_of f.header) ≡ false = search rules in
    record {
      stand = (
        c.loop.used,
        subst (λ n. AreBefore g.D.Decoder.meaning c.args.limits.now c.args.bytes.now image (map frame_at c.loop.saved.items) n c.loop.used) (sym c.in_ok-frame.ensures.start) c.loop.invariant.before,
        stands,
        shown,
      );
      ready = record {
        deep = c.requires.allowed.deep;
        many = c.requires.allowed.most;
        low = low image header.1.1;
        saved = c.loop.invariant.ready;
        shown = c.in_ok-frame.ensures.ready;
        covers = covers image image.size (frame_of f.header) stands.0.goes.1 shown;
      };
    }

-- A line for each picture.
use Rattle.std.proofs.Common.{◌≡◌, ℕ, ◌+◌, ◌<◌, List, [], ◌∷◌, ◌++◌, length, get_or, take, ap, ◌∙◌, arith}
use Rattle.std.specs.List.{flat_map, enumerate_from}
use Rattle.std.proofs.lemmas.List.Concat.{flat_map-append}
use Rattle.std.proofs.lemmas.List.{append-nil, take_more, length-take-le}
use Rattle.jxl_image_header.specs.declared.image.Animation.{Animation}
use Rattle.jxl_frame_info.specs.Lines.{frame_line, frame_lines}

enumerate_from-push : (n : ℕ) (xs : List ℕ) (last : ℕ) (x : ℕ) → n + length xs ≡ last → enumerate_from n (xs ++ x ∷ []) ≡ enumerate_from n xs ++ (last, x) ∷ []
enumerate_from-push n [] last x e = ap (λ k. (k, x) ∷ []) (omega arith)
enumerate_from-push n (y ∷ ys) last x e = ap (λ ps. (n, y) ∷ ps) (enumerate_from-push (n + 1) ys last x (omega arith))

frame_lines-push : (a : Animation) (ds : List ℕ) (last d : ℕ) → length ds ≡ last → frame_lines a (ds ++ d ∷ []) ≡ frame_lines a ds ++ frame_line a last d
frame_lines-push a ds last d e =
    let printed = λ (p : ℕ × ℕ). frame_line a p.0 p.1 in
    ap (λ ps. flat_map printed ps) (enumerate_from-push 0 ds last d (omega arith)) ∙ flat_map-append printed (enumerate_from 0 ds) ((last, d) ∷ []) ∙ ap (λ bs. frame_lines a ds ++ bs) (append-nil (frame_line a last d))

pub frame_lines-more : (a : Animation) (ds : List ℕ) (i d : ℕ) → i < length ds → frame_lines a (take (i + 1) ds) ≡ frame_lines a (take i ds) ++ frame_line a i (get_or ds i d)
frame_lines-more a ds i d within = ap (frame_lines a) (take_more ds i d within) ∙ frame_lines-push a (take i ds) i (get_or ds i d) (length-take-le i ds (omega arith))

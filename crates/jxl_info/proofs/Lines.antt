-- A line for each extra channel.
use Rattle.std.proofs.Common.{◌≡◌, ℕ, ◌+◌, ◌<◌, List, [], ◌∷◌, ◌++◌, length, get_or, take, ap, ◌∙◌, arith}
use Rattle.std.specs.List.{flat_map, enumerate_from}
use Rattle.std.proofs.lemmas.List.Concat.{flat_map-append}
use Rattle.std.proofs.lemmas.List.{append-nil, take_more, length-take-le}
use Rattle.jxl_image_header.specs.declared.channel.ExtraChannel.{ExtraChannel}
use Rattle.jxl_info.specs.Channels.{extra_line, extra_lines}

enumerate_from-push : {X : Type 0} (n : ℕ) (xs : List X) (last : ℕ) (x : X) → n + length xs ≡ last → enumerate_from n (xs ++ x ∷ []) ≡ enumerate_from n xs ++ (last, x) ∷ []
enumerate_from-push n [] last x e = ap (λ k. (k, x) ∷ []) (omega arith)
enumerate_from-push n (y ∷ ys) last x e = ap (λ ps. (n, y) ∷ ps) (enumerate_from-push (n + 1) ys last x (omega arith))

extra_lines-push : (cs : List ExtraChannel) (last : ℕ) (c : ExtraChannel) → length cs ≡ last → extra_lines (cs ++ c ∷ []) ≡ extra_lines cs ++ extra_line last c
extra_lines-push cs last c e =
    let printed = λ (p : ℕ × ExtraChannel). extra_line p.0 p.1 in
    ap (λ ps. flat_map printed ps) (enumerate_from-push 0 cs last c (omega arith)) ∙ flat_map-append printed (enumerate_from 0 cs) ((last, c) ∷ []) ∙ ap (λ bs. extra_lines cs ++ bs) (append-nil (extra_line last c))

pub extra_lines-more : (cs : List ExtraChannel) (i : ℕ) (d : ExtraChannel) → i < length cs → extra_lines (take (i + 1) cs) ≡ extra_lines (take i cs) ++ extra_line i (get_or cs i d)
extra_lines-more cs i d within = ap extra_lines (take_more cs i d within) ∙ extra_lines-push (take i cs) i (get_or cs i d) (length-take-le i cs (omega arith))

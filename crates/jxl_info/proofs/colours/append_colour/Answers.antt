use Rattle.std.proofs.Common.{◌≡◌, ◌++◌, ◌∙◌, ap, List, ℕ, string_bytes, codes}
use Rattle.std.proofs.lemmas.Result.{on_ok_weaker}
use Rattle.jxl_info.specs.Colours.{colour_text, meaning_text}
use Rattle.jxl_info.specs.Names.{space_name}
use Rattle.jxl_info.proofs.TextPieces.{grown}
use Rattle.jxl_info.proofs.colours.append_colour.Goals as goal

pub returns : goal.returns
unfolding colour_text
returns c =
    let s = string_bytes c.args.text.now in
    let name = ap (λ (n : List ℕ). s ++ (codes "Color space: " ++ n)) c.space_name-space.ensures in
    on_ok_weaker c.append_meaning.result
    (λ meaning. grown s (string_bytes c.write.new.self) (string_bytes c.append_meaning.new.text) (codes "Color space: ") (space_name c.args.colour.colour_space) (meaning_text c.args.colour) (c.in_ok-write.ensures.bytes ∙ name) meaning)
    c.append_meaning.ensures

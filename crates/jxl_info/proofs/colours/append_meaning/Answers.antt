use Rattle.std.proofs.Common.{◌≡◌, ◌++◌, ◌∙◌, ap, sym, Bool, if◌then◌else◌, List, ℕ, string_bytes, codes}
use Rattle.jxl_info.specs.Colours.{light_text, meaning_text}
use Rattle.jxl_info.specs.Names.{intent_name}
use Rattle.jxl_info.proofs.TextPieces.{grown_by_two}
use Rattle.jxl_info.proofs.colours.append_meaning.Goals as goal

pub returns-in_ok-write-2 : goal.returns-in_ok-write-2
unfolding meaning_text
returns-in_ok-write-2 c =
    let s = string_bytes c.args.text.now in
    let light = light_text c.args.colour in
    let intent = codes ", rendering intent: " in
    grown_by_two s (string_bytes c.append_light.new.text) (string_bytes c.write-else-colour.new.self) light intent c.intent_name-intent.result.now c.in_ok-append_light.ensures c.in_ok-write-2.ensures.bytes
    ∙ ap (λ (n : List ℕ). s ++ ((light ++ intent) ++ n)) c.intent_name-intent.ensures
    ∙ ap (λ (b : Bool). s ++ (if b then codes ", ICC profile" else (light ++ intent) ++ intent_name c.args.colour.rendering_intent)) (sym c.if-colour.false)

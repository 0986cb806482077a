use Rattle.std.proofs.Common.{◌≡◌, List, [], ◌∷◌, ◌++◌, sym, ap, ◌∙◌, subst}
use Rattle.jxlm_bit_writer.specs.declared.token.Token.{Token}
use Rattle.jxl_patches_write.specs.Inner.Given.{GiveAll}
use Rattle.jxl_patches_write.specs.Inner.Tokens.{token_in}
use Rattle.jxl_patches_write.proofs.Dictionaries.{all_read}
use Rattle.jxl_patches_write.proofs.dictionary.tokens_of.Goals as goal

pub returns-clause-read_as : goal.returns-clause-read_as
returns-clause-read_as c =
    let read_as = c.in_ok-count.ensures.read_as in
    let count : Token = token_in 0 c.in_ok-count.count in
    let others = c.deref.ensures.value ∙ read_as.added ∙ ap (λ (ts : List Token). ts ++ read_as.more) c.new-rectangles.ensures.items in
    let pushed = c.in_ok-push.ensures.items ∙ ap (λ (ts : List Token). ts ++ count ∷ []) c.new-tokens.ensures.items in
    let are : c.extend_from_slice.new.self.items ≡ count ∷ read_as.more =
    c.in_ok-extend_from_slice.ensures.items ∙ ap (λ (ts : List Token). ts ++ c.deref.result.now) pushed ∙ ap (λ (ts : List Token). count ∷ ts) others in
    subst (λ (ts : List Token). GiveAll c.args.kinds c.args.places.now ts) (sym are) (all_read c.args.kinds c.in_ok-count.count c.args.places.now read_as.more c.in_ok-count.ensures.few read_as.holds)

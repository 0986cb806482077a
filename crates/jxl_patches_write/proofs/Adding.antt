-- Tokens that were added, one part after another.
use Rattle.std.proofs.Common.{◌≡◌, ℕ, ◌+◌, ◌-◌, ◌<◌, ◌≤◌, List, [], ◌∷◌, ◌++◌, length, get_or, drop, take, refl, ap, ◌∙◌, append_assoc, arith}
use Rattle.std.specs.List.{All}
use Rattle.std.proofs.lemmas.List.{length-drop, take_all}
use Rattle.std.proofs.lemmas.List.Elements.{All-append, All-cons}
use Rattle.jxlm_bit_writer.specs.declared.token.Token.{Token}
use Rattle.jxl_patches.specs.Patches.{nowhere}
use Rattle.jxl_patches.specs.declared.dictionary.Place.{Place}
use Rattle.jxl_patches.specs.declared.dictionary.Rectangle.{Rectangle}
use Rattle.jxl_patches_write.specs.Written.{IsWritable}
use Rattle.jxl_patches_write.specs.Inner.Given.{AddsTokens, AreInClusters, HaveSource, GivePlaces, GiveRectangle}
use Rattle.jxl_patches_write.specs.Inner.Tokens.{source_tokens, token_in}
use Rattle.jxl_patches_write.proofs.Rectangles.{rectangle_read}

abbrev IsIn : Token → Type 0
IsIn t = t.cluster < 7

pub adds_after : (P Q R : List Token → Type 0) (a b c : List Token) → AddsTokens a b P → AddsTokens b c Q → ((xs ys : List Token) → P xs → Q ys → R (xs ++ ys)) → AddsTokens a c R
adds_after P Q R a b c x y join = record {
  more = x.more ++ y.more;
  added = y.added ∙ ap (λ (ts : List Token). ts ++ y.more) x.added ∙ append_assoc a x.more y.more;
  clusters = All-append IsIn x.more y.more x.clusters y.clusters;
  holds = join x.more y.more x.holds y.holds;
}

pub nothing_in : AreInClusters []
nothing_in k d lt = absurd (omega (arith, lt))

source_in : (r : Rectangle) → AreInClusters (source_tokens r)
source_in r =
    All-cons IsIn (token_in 1 r.slot) (token_in 3 r.x0 ∷ token_in 3 r.y0 ∷ token_in 2 (r.width - 1) ∷ token_in 2 (r.height - 1) ∷ []) (omega arith)
    (All-cons IsIn (token_in 3 r.x0) (token_in 3 r.y0 ∷ token_in 2 (r.width - 1) ∷ token_in 2 (r.height - 1) ∷ []) (omega arith)
    (All-cons IsIn (token_in 3 r.y0) (token_in 2 (r.width - 1) ∷ token_in 2 (r.height - 1) ∷ []) (omega arith)
    (All-cons IsIn (token_in 2 (r.width - 1)) (token_in 2 (r.height - 1) ∷ []) (omega arith) (All-cons IsIn (token_in 2 (r.height - 1)) [] (omega arith) nothing_in))))

-- a rectangle, the count of its places, and these
pub run_added : (run : List Place) (kinds : ℕ) (first : Place) (v : ℕ) (old s1 s2 new : List Token) → first ≡ get_or run 0 nowhere → v ≡ length run - 1 → HaveSource run → 0 < length run → All IsWritable run →
    s1 ≡ old ++ source_tokens first.source → s2 ≡ s1 ++ token_in 0 v ∷ [] → AddsTokens s2 new (GivePlaces kinds (get_or run 0 nowhere).source (length run) run) → AddsTokens old new (GiveRectangle kinds run)
run_added run kinds first v old s1 s2 new is_first is_v same some writable e1 e2 x =
    let r : Rectangle = (get_or run 0 nowhere).source in
    let t : Token = token_in 0 (length run - 1) in
    let w = writable 0 nowhere some in
    let one : s1 ≡ old ++ source_tokens r = e1 ∙ ap (λ (p : Place). old ++ source_tokens p.source) is_first in
    let two : s2 ≡ (old ++ source_tokens r) ++ t ∷ [] = e2 ∙ ap (λ (ts : List Token). ts ++ token_in 0 v ∷ []) one ∙ ap (λ (n : ℕ). (old ++ source_tokens r) ++ token_in 0 n ∷ []) is_v in
    record {
      more = source_tokens r ++ (t ∷ x.more);
      added = x.added ∙ ap (λ (ts : List Token). ts ++ x.more) two ∙ append_assoc (old ++ source_tokens r) (t ∷ []) x.more ∙ append_assoc old (source_tokens r) (t ∷ x.more);
      clusters = All-append IsIn (source_tokens r) (t ∷ x.more) (source_in r) (All-cons IsIn t x.more (omega arith) x.clusters);
      holds = rectangle_read run kinds (source_tokens r ++ (t ∷ x.more)) x.more same some w.columns w.rows x.holds refl;
    }

-- places from one on
pub rest_is : (places : List Place) (start : ℕ) → take (length places - start) (drop start places) ≡ drop start places
rest_is places start = let d = length-drop start places in take_all (length places - start) (drop start places) (omega (arith, d))

pub rest_fits : (places : List Place) (start n : ℕ) → start ≤ length places → n ≤ length (take (length places - start) (drop start places)) → start + n ≤ length places
rest_fits places start n le h =
    let e = ap (λ (ps : List Place). length ps) (rest_is places start) in
    let d = length-drop start places in
    omega (arith, e, d, le, h)

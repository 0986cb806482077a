-- What comparing a tree with the limit says.
use Rattle.std.proofs.Common.{◌≡◌, ◌∙◌, ℕ, ◌<◌, ◌≤◌, nat_lt, inr, Bool, true, false, IsTrue, List, Option, None, Some, Result, Ok, Err, ap, refl, subst, sym}
use Rattle.std.specs.Prelude.{IfOk, MatchBool, ◌↔◌}
use Rattle.std.proofs.lemmas.Bool.{ltb-false, ltb-true}
use Rattle.jxlm_bits.specs.Decoding.{Found, Meaning}
use Rattle.jxlm_bits.specs.Grammar.{IsErrorAt, flag}
use Rattle.jxlm_bits.specs.ErrorKind.{ErrorAt, ErrorKind, UnlessNoMemory, Eof, BadEnum, BadProfile, BadTree, NoGlobalTree, BadRct, BadPalette, BadSqueeze, OfDecoder, NoMemory, UnlessMemory}
use Rattle.jxlm_bits.specs.declared.decoder.DecoderError.TheVariants.{UnexpectedEof, Invalid, OutOfMemory}
use Rattle.jxlm_transform.specs.Channels.{ChannelList}
use Rattle.jxlm_tree.specs.Tree.{Config}
use Rattle.jxlm_tree_depth.specs.Depths.{DepthSays, OwnTreeIs, UsesGlobalAt}
use Rattle.jxlm_tree_depth.specs.Inner.{TreeIs, TreeSays, is_memory}

pub never : {X : Type 0} → true ≡ false → X
never e = cc

-- what holds unless it is out of memory holds where it is not
pub reasoned : (k : ErrorKind) {P : Type 0} → is_memory k ≡ false → UnlessMemory k P → P
reasoned Eof e h = h
reasoned (BadEnum name value) e h = h
reasoned (BadProfile text) e h = h
reasoned BadTree e h = h
reasoned NoGlobalTree e h = h
reasoned BadRct e h = h
reasoned BadPalette e h = h
reasoned BadSqueeze e h = h
reasoned (OfDecoder UnexpectedEof) e h = h
reasoned (OfDecoder (Invalid k)) e h = h
reasoned (OfDecoder OutOfMemory) e h = never e
reasoned NoMemory e h = never e

-- what a comparison of a depth with the limit says, by its two answers
pub compared : (deepest n m : ℕ) {P Q : Type 0} → n ≡ m → (deepest < m → P) → (m ≤ deepest → Q) → MatchBool (nat_lt deepest n) P Q
compared deepest n m {P} {Q} e f g = by (nat_lt deepest n) refl where
  by : (b : Bool) → nat_lt deepest n ≡ b → MatchBool b P Q
  by true is = f (subst (λ k. deepest < k) e (ltb-true deepest n is))
  by false is = g (subst (λ k. k ≤ deepest) e (ltb-false deepest n is))

value_of : (b : Bool) (q r : ℕ) → ◌≡◌ {A = Result (Found Bool) ErrorAt} (Ok (record { value = b; position = q })) (Ok (record { value = true; position = r })) → b ≡ true
value_of b q r e = let same : ◌≡◌ {A = Found Bool} (record { value = b; position = q }) (record { value = true; position = r }) = cc in ap (λ (f : Found Bool). f.value) same

no_value : (f : Found Bool) (e : ErrorAt) → ◌≡◌ {A = Result (Found Bool) ErrorAt} (Err e) (Ok f) → ⊥
no_value f e is = cc

-- the flag that was read is that of the header
pub flag_read : (bytes : List ℕ) (p : ℕ) (b : Bool) (q : ℕ) → flag.read bytes p ≡ Ok (record { value = b; position = q }) → IsTrue b ↔ UsesGlobalAt bytes p
flag_read bytes p b q gives = (
  λ t. (q, subst (λ c. flag.read bytes p ≡ Ok (record { value = c; position = q })) t gives),
  λ h. value_of b q h.0 (sym gives ∙ h.1),
)

-- and where there is none, the header does not use the global tree
pub flag_missing : (bytes : List ℕ) (p : ℕ) (e : ErrorAt) → flag.read bytes p ≡ Err e → IsTrue false ↔ UsesGlobalAt bytes p
flag_missing bytes p e gives = (
  λ t. never (sym t),
  λ h. absurd (no_value (record { value = true; position = h.0 }) e (sym gives ∙ h.1)),
)

-- where the header does not use the global tree, its tree is its own
pub own_says : {D E : Type 0} (d : Meaning D) (global : Option (Config D)) (given : ChannelList) (deepest : ℕ) (bytes : List ℕ) (p : ℕ) (result : Result Bool E) (b : Bool) → b ≡ false → IsTrue b ↔ UsesGlobalAt bytes p →
    IfOk result (TreeSays d global given deepest bytes p) → IfOk result (DepthSays d global given deepest bytes p)
own_says d global given deepest bytes p (Ok true) b none uses says = (λ here. never (sym (uses.1 here) ∙ none), says)
own_says d global given deepest bytes p (Ok false) b none uses says = inr says
own_says d global given deepest bytes p (Err e) b none uses says = tt

pub own_is : {D E : Type 0} (d : Meaning D) (global : Option (Config D)) (given : ChannelList) (bytes : List ℕ) (p : ℕ) (result : Result (Option (Config D)) E) (b : Bool) → b ≡ false → IsTrue b ↔ UsesGlobalAt bytes p →
    IfOk result (TreeIs d global given bytes p) → IfOk result (OwnTreeIs d global given bytes p)
own_is d global given bytes p (Ok (Some config)) b none uses tree = (λ here. never (sym (uses.1 here) ∙ none), tree)
own_is d global given bytes p (Ok None) b none uses fails = inr fails
own_is d global given bytes p (Err e) b none uses tree = tt

-- an error that is not out of memory is that of the reading
pub refused : {Y : Type 0} (k : ErrorKind) (reading : Result Y ErrorAt) (q : ℕ) → is_memory k ≡ false → UnlessNoMemory k (IsErrorAt reading k q) → (error : ErrorAt) × (reading ≡ Err error)
refused k reading q e h = by k e h where
  by : (k : ErrorKind) → is_memory k ≡ false → UnlessNoMemory k (IsErrorAt reading k q) → (error : ErrorAt) × (reading ≡ Err error)
  by Eof e h = (record { error = Eof; position = h.place }, h.refuses)
  by (BadEnum name value) e h = (record { error = BadEnum name value; position = h.place }, h.refuses)
  by (BadProfile text) e h = (record { error = BadProfile text; position = h.place }, h.refuses)
  by BadTree e h = (record { error = BadTree; position = h.place }, h.refuses)
  by NoGlobalTree e h = (record { error = NoGlobalTree; position = h.place }, h.refuses)
  by BadRct e h = (record { error = BadRct; position = h.place }, h.refuses)
  by BadPalette e h = (record { error = BadPalette; position = h.place }, h.refuses)
  by BadSqueeze e h = (record { error = BadSqueeze; position = h.place }, h.refuses)
  by (OfDecoder UnexpectedEof) e h = (record { error = OfDecoder UnexpectedEof; position = h.place }, h.refuses)
  by (OfDecoder (Invalid k)) e h = (record { error = OfDecoder (Invalid k); position = h.place }, h.refuses)
  by (OfDecoder OutOfMemory) e h = never e
  by NoMemory e h = never e

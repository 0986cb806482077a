-- Ways that were tried, as a progress heard of them.
use Rattle.std.proofs.Common.{◌≡◌, ℕ, ◌≤◌, List, [], ◌∷◌, ◌++◌, length, Option, Some, None, refl, sym, subst, inl, inr, arith}
use Rattle.std.specs.Global.{Vec}
use Rattle.std.specs.Option.{IfSome}
use Rattle.std.specs.Prelude.{◌⊎◌, MatchOption}
use Rattle.std.proofs.lemmas.Fn.{FoldsTo-push}
use Rattle.std.proofs.lemmas.List.Elements.{All-append, All-cons, All-nil}
use Rattle.jxl_picture.specs.declared.picture.Picture.{Picture}
use Rattle.jxl_encode.specs.Files.{IsCodestreamOf}
use Rattle.jxl_encode.specs.Ways.{IsLengthOf, IsShortestTried}

le_after : (a b c : ℕ) → a ≤ b → b ≤ c → a ≤ c
le_after a b c h k = omega arith

module _ {P : Type 0} (picture : Picture) (gives : P → ℕ → P → Type 0) (old : P) where
  -- no way was tried
  pub none_told : (new : P) (bytes : List ℕ) → new ≡ old → IsShortestTried picture gives old new bytes
  none_told new bytes e = record {
    tried = [];
    told = sym e;
    are = All-nil (IsLengthOf picture);
    shortest = All-nil (λ n. length bytes ≤ n);
  }

  -- one way more
  more_told : (now new : P) (best bytes kept : List ℕ) → IsShortestTried picture gives old now best → gives now (length bytes) new → IsCodestreamOf picture bytes →
      length kept ≤ length best → length kept ≤ length bytes → IsShortestTried picture gives old new kept
  more_told now new best bytes kept so_far next is least other = record {
    tried = so_far.tried ++ (length bytes ∷ []);
    told = FoldsTo-push gives old so_far.tried now (length bytes) new so_far.told next;
    are = All-append (IsLengthOf picture) so_far.tried (length bytes ∷ []) so_far.are
        (All-cons (IsLengthOf picture) (length bytes) [] (bytes, is, refl) (All-nil (IsLengthOf picture)));
    shortest = All-append (λ n. length kept ≤ n) so_far.tried (length bytes ∷ [])
        (λ k d lt. le_after (length kept) (length best) _ least (so_far.shortest k d lt))
        (All-cons (λ n. length kept ≤ n) (length bytes) [] other (All-nil (λ n. length kept ≤ n)));
  }

  pub told_also : (best : Option (Vec ℕ)) (now new : P) (bytes kept : List ℕ) → MatchOption best (now ≡ old) (λ v. IsShortestTried picture gives old now v.items) →
      gives now (length bytes) new → IsCodestreamOf picture bytes → IfSome best (λ v. length kept ≤ length v.items) → length kept ≤ length bytes → IsShortestTried picture gives old new kept
  told_also None now new bytes kept so_far next is least other = more_told now new bytes bytes kept (none_told now bytes so_far) next is other other
  told_also (Some v) now new bytes kept so_far next is least other = more_told now new v.items bytes kept so_far next is least other

-- what is true of both is true of the one that is kept
pub kept_coded : (P : Vec ℕ → Type 0) (best : Option (Vec ℕ)) (other kept : Vec ℕ) → IfSome best P → P other → (best ≡ Some kept) ⊎ (kept ≡ other) → P kept
kept_coded P best other kept so_far next (inl e) = subst (λ (o : Option (Vec ℕ)). IfSome o P) e so_far
kept_coded P best other kept so_far next (inr e) = subst P (sym e) next

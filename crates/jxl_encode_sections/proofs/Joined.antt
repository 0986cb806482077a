-- Lists joined into one.
use Rattle.std.proofs.Common.{List, [], ◌∷◌, ◌++◌}
use Rattle.std.specs.List.{All, flat_map}
use Rattle.std.proofs.lemmas.List.Elements.{All-append, All-cons, All-head, All-nil, All-tail}

module _ {Y : Type 0} (P : Y → Type 0) where
  pub front_of : (xs ys : List Y) → All P (xs ++ ys) → All P xs
  front_of [] ys h = All-nil P
  front_of (x ∷ xs) ys h = All-cons P x xs (All-head P x (xs ++ ys) h) (front_of xs ys (All-tail P x (xs ++ ys) h))

  pub back_of : (xs ys : List Y) → All P (xs ++ ys) → All P ys
  back_of [] ys h = h
  back_of (x ∷ xs) ys h = back_of xs ys (All-tail P x (xs ++ ys) h)

  module _ {X : Type 0} (f : X → List Y) where
    abbrev Each : X → Type 0
    Each x = All P (f x)

    -- what holds of all items of each holds of all
    pub all_joined : (xs : List X) → All Each xs → All P (flat_map f xs)
    all_joined [] h = All-nil P
    all_joined (x ∷ xs) h = All-append P (f x) (flat_map f xs) (All-head Each x xs h) (all_joined xs (All-tail Each x xs h))

    -- and the other way
    pub each_joined : (xs : List X) → All P (flat_map f xs) → All Each xs
    each_joined [] h = All-nil Each
    each_joined (x ∷ xs) h = All-cons Each x xs (front_of (f x) (flat_map f xs) h) (each_joined xs (back_of (f x) (flat_map f xs) h))

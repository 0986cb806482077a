-- Grids of channels, each of which is a buffer of a store.
use Rattle.std.proofs.Common.{◌≡◌, ℕ, suc, ℤ, List, [], ◌∷◌, ◌++◌, length, refl, ap, ◌∙◌, arith, take, drop}
use Rattle.std.specs.List.{All}
use Rattle.std.proofs.lemmas.List.{append-nil, drop_all, take_all}
use Rattle.std.proofs.lemmas.List.Elements.{All-cons, All-nil}
use Rattle.jxlm_base.specs.Grid.{Grid, IsFull}
use Rattle.jxlm_base.specs.Regions.{store_meanings}
use Rattle.jxlm_base.proofs.Regions.{IsFull-meanings}
use Rattle.jxlm_transform.specs.Channels.{AreGridsOf, Channel}
use Rattle.jxlm_transform.specs.Layout.{HasBuffers, sides_of}

module _ {S : Type 0} where
  -- grids of channels are their buffers
  pub own_buffers : (cs : List Channel) (gs : List (Grid S)) → AreGridsOf cs gs → HasBuffers (sides_of cs ++ []) gs
  own_buffers [] [] h = tt
  own_buffers [] (g ∷ gs) h = h
  own_buffers (c ∷ cs) [] h = h
  own_buffers (c ∷ cs) (g ∷ gs) h = (h.0, own_buffers cs gs h.1)

  pub same_count : (cs : List Channel) (gs : List (Grid S)) → AreGridsOf cs gs → length gs ≡ length cs
  same_count [] [] h = refl
  same_count [] (g ∷ gs) h = absurd h
  same_count (c ∷ cs) [] h = absurd h
  same_count (c ∷ cs) (g ∷ gs) h = ap suc (same_count cs gs h.1)

  pub all_full : (cs : List Channel) (gs : List (Grid S)) → AreGridsOf cs gs → All IsFull gs
  all_full [] [] h = All-nil IsFull
  all_full [] (g ∷ gs) h = absurd h
  all_full (c ∷ cs) [] h = absurd h
  all_full (c ∷ cs) (g ∷ gs) h = All-cons IsFull g gs h.0.full (all_full cs gs h.1)

  -- and so of what the cells stand for
  pub meanings_of : (f : S → ℤ) (cs : List Channel) (gs : List (Grid S)) → AreGridsOf cs gs → AreGridsOf cs (store_meanings f gs)
  meanings_of f [] [] h = tt
  meanings_of f [] (g ∷ gs) h = h
  meanings_of f (c ∷ cs) [] h = h
  meanings_of f (c ∷ cs) (g ∷ gs) h = (record { same_width = h.0.same_width; same_height = h.0.same_height; full = IsFull-meanings f g h.0.full }, meanings_of f cs gs h.1)

pub buffers_meanings : {S : Type 0} (f : S → ℤ) (cs : List Channel) (gs : List (Grid S)) → AreGridsOf cs gs → HasBuffers (sides_of cs ++ []) (store_meanings f gs)
buffers_meanings f cs gs h = own_buffers cs (store_meanings f gs) (meanings_of f cs gs h)

pub no_more_grids : {S : Type 0} (f : S → ℤ) (cs : List Channel) (gs : List (Grid S)) → AreGridsOf cs gs → take (length cs) (store_meanings f gs) ≡ store_meanings f gs
no_more_grids f cs gs h =
    let n = same_count cs (store_meanings f gs) (meanings_of f cs gs h) in
    take_all (length cs) (store_meanings f gs) (omega (arith, n))

-- a store that was written as a whole
pub store_back : {X : Type 0} (n : ℕ) (new old : List X) → n ≡ length old → length new ≡ length old → take n (new ++ drop (length new) old) ≡ new
store_back n new old all same =
    ap (λ xs. take n (new ++ xs)) (drop_all (length new) old (omega (arith, same))) ∙ ap (take n) (append-nil new) ∙ take_all n new (omega (arith, all, same))

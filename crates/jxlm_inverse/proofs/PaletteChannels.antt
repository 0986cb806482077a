-- The finished channels of a palette, one after another, the last first.
use Rattle.std.proofs.Common.{◌≡◌, ◌⊎◌, inl, inr, ℕ, ◌+◌, ◌<◌, ◌≤◌, List, [], ◌∷◌, length, sym, refl, ap, ◌∙◌, subst, arith, ℤ}
use Rattle.std.specs.Prelude.{get_or, map}
use Rattle.std.specs.Int.{Width}
use Rattle.std.proofs.lemmas.Bool.{cases_eq}
use Rattle.std.proofs.lemmas.List.{get_or_default, get_or-map, length-map}
use Rattle.jxlm_base.specs.Grid.{Grid, grid}
use Rattle.jxlm_base.specs.Regions.{grid_of, store_meanings, AreApart}
use Rattle.jxlm_base.specs.declared.subgrid.Region.{Region}
use Rattle.jxlm_base.specs.Outside.{KeepsOutside}
use Rattle.jxlm_base.proofs.Regions.{apart_at}
use Rattle.jxlm_base.proofs.Outside.{grid_kept, keeps_all, keeps_both, keeps_one_of, lies_still}
use Rattle.jxlm_transform.specs.declared.transform.Palette.{Palette}
use Rattle.jxlm_inverse.specs.Palette.{IsPaletteOf, PaletteLies, finished_channel}
use Rattle.jxlm_inverse.specs.Inner.PaletteSteps.{ChannelLies, ChannelsDone, IsSimple, channel_at}
use Rattle.jxlm_inverse.proofs.PaletteLaws.{has_image}

module _ {S : Type 0} (to_int : S → ℤ) (w : Width) (t : Palette) (table index : Region) (finished : List Region) (old : List (Grid S)) (lies : PaletteLies t table index finished old) where
  module _ (m : ℕ) (there : m < length finished) where
    abbrev d : Region
    d = index

    -- all but the first are apart from the index channel
    later_apart : 0 < m → AreApart (get_or finished m d) index
    later_apart some =
        elim lies.index_apart [
          | inl first ↦
              subst (AreApart (get_or finished m d)) (get_or_default finished 0 d index (omega arith) ∙ first) (apart_at finished m 0 d lies.apart there (omega arith) (λ e. absurd (omega arith)))
          | inr apart ↦ apart m d there
        ]

    own_or_apart : (index ≡ get_or finished m d) ⊎ AreApart (get_or finished m d) index
    own_or_apart =
        elim (cases_eq m 0) [
          | inl zeroth ↦
              elim lies.index_apart [
                | inl first ↦ inl (sym (ap (λ n. get_or finished n d) zeroth ∙ get_or_default finished 0 d index (omega arith) ∙ first))
                | inr apart ↦ inr (apart m d there)
              ]
          | inr later ↦ inr (later_apart (omega arith))
        ]

    -- the regions of a channel lie in the store, whatever was written in the finished ones
    pub channel_lies : (now : List (Grid S)) → KeepsOutside finished old now → ChannelLies t (channel_at table index finished m) now
    channel_lies now keeps =
        let size = lies.sizes m d there in
        let count = lies.count in
        let height = lies.table_height in
        record {
          table_lies = lies_still finished old now table keeps lies.table_lies;
          index_lies = lies_still finished old now index keeps lies.index_lies;
          target_lies = lies_still finished old now (get_or finished m d) keeps (lies.finished_lie m d there);
          columns = lies.table_width;
          row = omega (arith, count, height, there);
          same_width = size.0;
          same_height = size.1;
          table_apart = lies.table_apart m d there;
          index_apart = own_or_apart;
        }

  module _ (depth : ℕ) where
    pub none_done : ChannelsDone to_int w depth t table index finished (length finished) old old
    none_done = record { within = omega arith; keeps = keeps_all finished old; table_is = refl; index_is = λ h. refl; done = λ c d a b. absurd (omega arith) }

    pub one_done : (m left : ℕ) (now new : List (Grid S)) → left ≡ m + 1 → ChannelsDone to_int w depth t table index finished left old now → KeepsOutside (get_or finished m index ∷ []) now new →
        grid_of (store_meanings to_int new) (get_or finished m index) ≡ finished_channel w depth t (grid_of (store_meanings to_int now) table) (grid_of (store_meanings to_int now) index) m →
        ChannelsDone to_int w depth t table index finished m old new
    one_done m left now new is before keeps fresh =
        let within = before.within in
        let there : m < length finished = omega arith in
        let d : Region = index in
        let target : Region = get_or finished m d in
        let table_same : grid_of (store_meanings to_int new) table ≡ grid_of (store_meanings to_int now) table =
        grid_kept to_int now new target table keeps (lies_still finished old now table before.keeps lies.table_lies) (lies.table_apart m d there) in
        record {
          within = omega arith;
          keeps = keeps_both finished old now new before.keeps (keeps_one_of finished m index now new there keeps);
          table_is = table_same ∙ before.table_is;
          index_is = λ some. grid_kept to_int now new target index keeps (lies_still finished old now index before.keeps lies.index_lies) (later_apart m there some) ∙ before.index_is (omega arith);
          done = λ c e a b.
              elim (cases_eq c m) [
                | inl same ↦
                    ap (λ n. grid_of (store_meanings to_int new) (get_or finished n e)) same ∙ ap (grid_of (store_meanings to_int new)) (get_or_default finished m e d there) ∙ fresh
                    ∙ ap (λ g. finished_channel w depth t g (grid_of (store_meanings to_int now) index) m) before.table_is
                    ∙ ap (λ g. finished_channel w depth t (grid_of (store_meanings to_int old) table) g m) (before.index_is (omega arith))
                    ∙ ap (λ n. finished_channel w depth t (grid_of (store_meanings to_int old) table) (grid_of (store_meanings to_int old) index) n) (sym same)
                | inr other ↦
                    grid_kept to_int now new target (get_or finished c e) keeps (lies_still finished old now (get_or finished c e) before.keeps (lies.finished_lie c e b))
                    (subst (AreApart target) (get_or_default finished c d e b) (apart_at finished m c d lies.apart there b (λ q. other (sym q))))
                    ∙ before.done c e (omega arith) b
              ];
        }

    -- where all are done, they meet the palette's relation
    pub all_done : (new : List (Grid S)) → ChannelsDone to_int w depth t table index finished 0 old new →
        IsPaletteOf w depth t (grid_of (store_meanings to_int old) table) (grid_of (store_meanings to_int old) index) (map (grid_of (store_meanings to_int new)) finished)
    all_done new all =
        let count = lies.count in
        has_image w depth t (grid_of (store_meanings to_int old) table) (grid_of (store_meanings to_int old) index) (map (grid_of (store_meanings to_int new)) finished)
        (length-map finished (grid_of (store_meanings to_int new)) ∙ count)
        (λ c l.
        let there : c < length finished = omega (arith, count, l) in
        get_or-map (grid_of (store_meanings to_int new)) finished c index (grid 0 0 []) there ∙ all.done c index (omega arith) there)

-- a grid without columns has simple indices alone
pub simple_where_empty : (t : Palette) (index : Grid ℤ) → index.width ≤ 0 → IsSimple t index
simple_where_empty t index h = λ y p x l. absurd (omega arith)

-- Where a header of its own can be read for a part: for the first coded channels of an image, and within another header.
use Rattle.std.proofs.Common.{◌≡◌, ℕ, ◌+◌, List, [], ◌++◌, length, sym, subst, arith, append-nil}
use Rattle.std.specs.List.{All}
use Rattle.std.proofs.lemmas.List.Elements.{All-take}
use Rattle.jxlm_base.specs.Grid.{Grid}
use Rattle.jxlm_base.specs.Regions.{AllLie, AreApart, LieApart, Lies}
use Rattle.jxlm_base.specs.declared.subgrid.Region.{Region}
use Rattle.jxlm_chain.specs.Steps.{IsNarrowStore}
use Rattle.jxlm_chain.proofs.ListsApart.{pairs_take, zip_take}
use Rattle.jxlm_transform.specs.declared.channels.PlacedChannel.{PlacedChannel}
use Rattle.jxlm_transform.specs.Channels.{AreRegionsOf, Channel, IsNarrow, infos, regions}
use Rattle.jxl_modular.specs.Image.{Image, front_channels, front_regions}
use Rattle.jxl_modular.specs.Inner.Laid.{IsLaidOut}
use Rattle.jxl_modular.specs.Inner.LayerCode.{CanNest, IsLayer}
use Rattle.jxlm_nested.specs.NestedParts.{nested_channels, regions_in}
use Rattle.jxlm_nested.specs.declared.nested.NestedPart.{NestedPart}
use Rattle.jxl_modular.proofs.Laid.{coded_apart, coded_lie as image_lie, coded_sizes}
use Rattle.jxl_modular.proofs.LayerLaws.{coded_lie, regions_are}

-- pieces of these channels and regions can be read for where these can
nests : {S : Type 0} (pieces : List PlacedChannel) (channels : List Channel) (same_regions : List Region) (store tables : List (Grid S)) → infos pieces ≡ channels → regions pieces ≡ same_regions →
    AreRegionsOf channels same_regions → All IsNarrow channels → AllLie same_regions (store ++ tables) → LieApart same_regions → IsNarrowStore tables → CanNest pieces store tables
nests pieces channels same_regions store tables same_infos are sizes narrow lie apart narrow_tables = record {
  sizes = subst (λ (cs : List Channel). AreRegionsOf cs (regions pieces)) (sym same_infos) (subst (λ (rs : List Region). AreRegionsOf channels rs) (sym are) sizes);
  narrow = subst (λ (cs : List Channel). All IsNarrow cs) (sym same_infos) narrow;
  lie = subst (λ (rs : List Region). AllLie rs (store ++ tables)) (sym are) lie;
  apart = subst (λ (rs : List Region). LieApart rs) (sym are) apart;
  narrow_tables = narrow_tables;
}

pub front_nests : {S D : Type 0} (x : Image S D) → IsLaidOut x → (n : ℕ) (pieces : List PlacedChannel) → infos pieces ≡ front_channels n x → regions pieces ≡ front_regions n x → CanNest pieces x.store []
front_nests {S} x laid n pieces same_infos are =
    nests pieces (front_channels n x) (front_regions n x) x.store [] same_infos are
    (zip_take _ n x.channels x.coded (coded_sizes x laid))
    (All-take IsNarrow n x.channels laid.narrow)
    (subst (λ (store : List (Grid S)). AllLie (front_regions n x) store) (sym (append-nil x.store)) (All-take (λ r. Lies r x.store) n x.coded (image_lie x laid)))
    (pairs_take AreApart n x.coded (coded_apart x laid))
    (λ k d lt. absurd (omega (arith, lt)))

pub layer_nests : {S D : Type 0} (n : NestedPart D) (given : List PlacedChannel) (tables : List (Grid S)) (is : IsLayer n given tables) (store : List (Grid S)) → AllLie (regions given) (store ++ tables) →
    n.placed.channels.buffers ≡ length store + length tables → (pieces : List PlacedChannel) → infos pieces ≡ nested_channels n → regions pieces ≡ regions_in n → CanNest pieces store tables
layer_nests {S} n given tables is store lie count pieces same_infos are =
    let coded = coded_lie n given tables is store lie count in
    let same = regions_are n given tables is store lie count in
    nests pieces (nested_channels n) (regions_in n) store tables same_infos are
    (subst (λ (rs : List Region). AreRegionsOf (nested_channels n) rs) (sym same) coded.sizes)
    is.opened.narrow
    (subst (λ (rs : List Region). AllLie rs (store ++ tables)) (sym same) coded.lie)
    (subst (λ (rs : List Region). LieApart rs) (sym same) coded.apart)
    is.narrow_tables

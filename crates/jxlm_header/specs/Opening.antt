-- What comes before an image's tree, and the order of its checks (ISO/IEC 18181-1, Modular: header and conditions).
use Rattle.std.specs.Prelude.{◌≡◌, ◌+◌, ◌^◌, nat_lt, min, sum_by, List, length, codes, Bool, ℕ, not, ◌&&◌, if◌then◌else◌, Result, Ok, Err}
use Rattle.std.specs.List.{list_any}
use Rattle.jxlm_bits.specs.ErrorKind.{ErrorKind, BadProfile, NoGlobalTree, kind_of, ◌>>=◌}
use Rattle.jxlm_bits.specs.Grammar.{Grammar, IsExact, from_result}
use Rattle.jxlm_bits.specs.Grammar as fields
use Rattle.jxlm_bits.specs.declared.error.Error.{Error}
use Rattle.jxlm_weighted.specs.declared.weights.WpHeader.{WpHeader}
use Rattle.jxlm_transform.specs.Channels.{Channel, ChannelList, area, tables_for}
use Rattle.jxlm_transform.specs.ChannelSteps.{CodedList, coded_list}
use Rattle.jxlm_transform.specs.Kinds.{is_palette, is_squeeze}
use Rattle.jxlm_header.specs.Header.{Header, header_by}

-- what a header says (global tree, a palette, a squeeze, weights), and the steps and channels that its transforms give
pub record Opening : Type 0 where
  pub uses_global : Bool
  pub has_palette : Bool
  pub has_squeeze : Bool
  pub weights : WpHeader
  pub coded : CodedList

-- that of a header whose transforms come to this
abbrev pub opening_of : Header → CodedList → Opening
opening_of header coded = record {
  uses_global = header.use_global_tree;
  has_palette = list_any is_palette header.transform;
  has_squeeze = list_any is_squeeze header.transform;
  weights = header.wp_params;
  coded = coded;
}

-- the conditions, in order: at most 65536 channels are coded, and a global tree that the header asks for was given
abbrev pub conditions : Bool → Header → ChannelList → Result (Unit {0}) ErrorKind
conditions has_global header list =
    if nat_lt 65536 (length list.channels) then Err (BadProfile (codes "nb_channels_tr too large")) else
    if header.use_global_tree && not has_global then Err NoGlobalTree else Ok tt

-- each transform in turn against the channels that the ones before it leave, and then the conditions
abbrev pub resolve : Bool → ChannelList → Header → Result Opening ErrorKind
resolve has_global list header =
    coded_list header.transform list >>= λ coded.
    conditions has_global header coded.list >>= λ _.
    Ok (opening_of header coded)

-- the whole header, by the tables of palettes that the channels ask for, and then what it comes to
abbrev pub opening : Bool → ChannelList → Grammar Opening
opening has_global list = fields.◌>>=◌ (header_by (tables_for list.channels)) λ header. from_result (resolve has_global list header)

-- what a call that checks the conditions returned
abbrev pub CheckGives : Result (Unit {0}) ErrorKind → Result (Unit {0}) Error → Type 0
CheckGives check (Ok u) = check ≡ Ok tt
CheckGives check (Err e) = check ≡ Err (kind_of e)

-- the parser returns what precedes a tree exactly if the bits at its position code it
abbrev pub OpeningIsExact : Type 0
OpeningIsExact = (has_global : Bool) (list : ChannelList) → IsExact (opening has_global list)

-- a tree of the image's own may have one node more than this
abbrev pub node_limit : List Channel → ℕ
node_limit channels = min (1024 + sum_by area channels) (2 ^ 20)

-- and at most this depth
abbrev pub depth_limit : ℕ
depth_limit = 2048

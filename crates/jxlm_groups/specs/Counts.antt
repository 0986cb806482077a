-- How many groups there are, and which parts exist (ISO/IEC 18181-1, frame: groups, LF groups and passes).
use Rattle.std.specs.Prelude.{ℕ, ◌*◌, max, List, [], ◌∷◌, map, Bool, true, false, ◌&&◌, ◌==◌, nat_lt, if◌then◌else◌}
use Rattle.std.specs.List.{enumerate_from, list_any}
use Rattle.jxlm_transform.specs.Channels.{Channel, ChannelList}
use Rattle.jxlm_groups.specs.Passes.{Pass}
use Rattle.jxlm_groups.specs.Cutting.{Kind, columns, rows, global_count, kind_of}
use Rattle.jxlm_groups.specs.Pieces.{SectionPart}
use Rattle.jxlm_groups.specs.declared.part.Kind.TheVariants as kinds
use Rattle.jxlm_groups.specs.declared.part.SectionPart.TheVariants as parts

-- two kinds are the same
abbrev pub is_kind : Kind → Kind → Bool
is_kind kinds.Global kinds.Global = true
is_kind kinds.Lf kinds.Lf = true
is_kind (kinds.Pass p) (kinds.Pass q) = p == q
is_kind one other = false

-- the maximum of numbers, and 0 of none
abbrev pub maximum : List ℕ → ℕ
maximum [] = 0
maximum (n ∷ ns) = max n (maximum ns)

-- into how many groups a channel with its number is cut, where it is of this kind
abbrev pub groups_of : ℕ → List Pass → ℕ → Kind → ℕ × Channel → ℕ
groups_of dim passes count kind p =
    if is_kind kind (kind_of passes count p.0 p.1) then columns dim p.1 * rows dim p.1 else 0

-- how many groups the channels of a kind are cut into: 0 where there is none; channels of one picture have as many each
abbrev pub group_count : ℕ → List Pass → ChannelList → Kind → ℕ
group_count dim passes l kind =
    maximum (map (groups_of dim passes (global_count dim l) kind) (enumerate_from 0 l.channels))

-- the part is one of the groups that a channel with its number is cut into
abbrev pub has_group : ℕ → Kind → SectionPart → Channel → Bool
has_group dim kinds.Lf (parts.Lf k) c = nat_lt k (columns dim c * rows dim c)
has_group dim (kinds.Pass q) (parts.Pass p k) c = (p == q) && nat_lt k (columns dim c * rows dim c)
has_group dim other name c = false

-- there is such a part: the global part is always there, and a group where some channel is cut into it
abbrev pub exists : ℕ → List Pass → ChannelList → SectionPart → Bool
exists dim passes l parts.Global = true
exists dim passes l name =
    list_any (λ p. has_group dim (kind_of passes (global_count dim l) p.0 p.1) name p.1) (enumerate_from 0 l.channels)

-- PAM files, read as they were written.
use Rattle.std.proofs.Common.{◌≡◌, ℕ, suc, ◌+◌, ◌^◌, ◌<◌, ◌≤◌, ℤ, List, [], ◌∷◌, ◌++◌, length, get_or, lit<, Bool, true, false, Some, Ok, Err, refl, sym, ap, ◌∙◌, arith, append_assoc}
use Rattle.std.specs.Prelude.{slice_get, slice_index, slice_range, Option, Result, ◌==◌, if◌then◌else◌, codes}
use Rattle.std.specs.Fmt.{decimal}
use Rattle.std.proofs.lemmas.List.{get_or-drop}
use Rattle.jxlm_base.specs.Grid.{Grid}
use Rattle.jxl_netpbm.specs.Formats.{pam_layers}
use Rattle.jxl_netpbm.specs.Rasters.{maximum, raster_text}
use Rattle.jxl_netpbm_read.specs.Files.{IsNetpbmOf, image_by}
use Rattle.jxl_netpbm_read.specs.Pam.{header_by_lines, keyword_of, line_from, line_with, lines_from, next_line, no_lines, type_of, with_type}
use Rattle.jxl_netpbm_read.specs.Parts.{channel_count, is_side}
use Rattle.jxl_netpbm_read.specs.Words.{and_then, gap, word_length}
use Rattle.jxl_netpbm_read.specs.declared.error.NetpbmError.{NetpbmError}
use Rattle.jxl_netpbm_read.specs.declared.error.NetpbmError.TheVariants.{InvalidHeader}
use Rattle.jxl_netpbm_read.specs.declared.pam.Lines.{Lines}
use Rattle.jxl_netpbm_read.specs.declared.pam.Parsed.{Parsed}
use Rattle.jxl_netpbm_read.specs.declared.pam.TupleType.{TupleType as Kind}
use Rattle.jxl_netpbm_read.specs.declared.words.Number.{Number}
use Rattle.jxl_netpbm_read.specs.declared.words.Word.{Word}
use Rattle.jxl_netpbm_roundtrip.specs.RoundTrip.{IsChannel}
use Rattle.jxl_netpbm_roundtrip.proofs.NumberSamples.{numbers_header, numbers_held, numbers_long}
use Rattle.jxl_netpbm_roundtrip.proofs.PlainReading.{IsReadAs, after_word, bits_read, side_read}
use Rattle.jxl_netpbm_roundtrip.proofs.PnmFiles.{header_by_magic}
use Rattle.jxl_netpbm_roundtrip.proofs.RasterReading.{layers_by}
use Rattle.jxl_netpbm_roundtrip.proofs.WordReading.{At, IsWordAt, at_more, number_read, word_read}

-- the lines after one that is not the last
abbrev parsed : Lines → ℕ → Parsed
parsed l after = record { lines = l; after = after; ended = false }

-- a line with this keyword and value
line_read : (bytes : List ℕ) (p e t : ℕ) (l m : Lines) (word rest next : List ℕ) → IsWordAt bytes p word (t ∷ rest) → e ≡ p + 1 + length word →
    (line : IsReadAs bytes (λ q. line_with bytes (keyword_of word) l e) (λ q. parsed m q) next) → IsReadAs bytes (λ q. next_line bytes l p) (λ q. parsed m q) next
unfolding next_line
line_read bytes p e t l m word rest next at is line = record {
  after = line.after;
  read = ap (λ (r : Result Word NetpbmError). and_then r (λ w. line_with bytes (keyword_of (slice_range bytes w.start w.end)) l w.end)) at.read
      ∙ ap (λ (bs : List ℕ). line_with bytes (keyword_of bs) l (p + 1 + length word)) at.text ∙ ap (λ n. line_with bytes (keyword_of word) l n) (sym is) ∙ line.read;
  next_at = line.next_at;
}

width_line : (bytes : List ℕ) (p n : ℕ) (l : Lines) (rest : List ℕ) → At bytes p (10 ∷ (codes "WIDTH" ++ 32 ∷ (decimal n ++ 10 ∷ rest))) → is_side n ≡ true →
    IsReadAs bytes (λ q. next_line bytes l p) (λ q. parsed (record l { width = Some n }) q) (10 ∷ rest)
unfolding line_from
width_line bytes p n l rest at side =
    let word = word_read bytes p 10 32 (codes "WIDTH") (decimal n ++ 10 ∷ rest) at refl refl in
    let number = side_read bytes (p + 1 + length (codes "WIDTH")) 32 10 n rest word.next_at after_word side in
    let line : IsReadAs bytes (λ q. line_with bytes (keyword_of (codes "WIDTH")) l (p + 1 + length (codes "WIDTH"))) (λ q. parsed (record l { width = Some n }) q) (10 ∷ rest) =
    record { after = number.after; read = ap (λ (r : Result Number NetpbmError). and_then r (λ v. Ok (parsed (record l { width = Some v.value }) v.after))) number.read; next_at = number.next_at } in
    line_read bytes p (p + 1 + length (codes "WIDTH")) 32 l (record l { width = Some n }) (codes "WIDTH") (decimal n ++ 10 ∷ rest) (10 ∷ rest) word refl line

height_line : (bytes : List ℕ) (p n : ℕ) (l : Lines) (rest : List ℕ) → At bytes p (10 ∷ (codes "HEIGHT" ++ 32 ∷ (decimal n ++ 10 ∷ rest))) → is_side n ≡ true →
    IsReadAs bytes (λ q. next_line bytes l p) (λ q. parsed (record l { height = Some n }) q) (10 ∷ rest)
unfolding line_from
height_line bytes p n l rest at side =
    let word = word_read bytes p 10 32 (codes "HEIGHT") (decimal n ++ 10 ∷ rest) at refl refl in
    let number = side_read bytes (p + 1 + length (codes "HEIGHT")) 32 10 n rest word.next_at after_word side in
    let line : IsReadAs bytes (λ q. line_with bytes (keyword_of (codes "HEIGHT")) l (p + 1 + length (codes "HEIGHT"))) (λ q. parsed (record l { height = Some n }) q) (10 ∷ rest) =
    record { after = number.after; read = ap (λ (r : Result Number NetpbmError). and_then r (λ v. Ok (parsed (record l { height = Some v.value }) v.after))) number.read; next_at = number.next_at } in
    line_read bytes p (p + 1 + length (codes "HEIGHT")) 32 l (record l { height = Some n }) (codes "HEIGHT") (decimal n ++ 10 ∷ rest) (10 ∷ rest) word refl line

depth_line : (bytes : List ℕ) (p n : ℕ) (l : Lines) (rest : List ℕ) → At bytes p (10 ∷ (codes "DEPTH" ++ 32 ∷ (decimal n ++ 10 ∷ rest))) → n < 2 ^ 32 →
    IsReadAs bytes (λ q. next_line bytes l p) (λ q. parsed (record l { depth = Some n }) q) (10 ∷ rest)
unfolding line_from
depth_line bytes p n l rest at small =
    let word = word_read bytes p 10 32 (codes "DEPTH") (decimal n ++ 10 ∷ rest) at refl refl in
    let number = number_read bytes (p + 1 + length (codes "DEPTH")) 32 10 n rest word.next_at after_word.gap after_word.space small in
    let line : IsReadAs bytes (λ q. line_with bytes (keyword_of (codes "DEPTH")) l (p + 1 + length (codes "DEPTH"))) (λ q. parsed (record l { depth = Some n }) q) (10 ∷ rest) =
    record { after = number.after; read = ap (λ (r : Result Number NetpbmError). and_then r (λ v. Ok (parsed (record l { depth = Some v.value }) v.after))) number.read; next_at = number.next_at } in
    line_read bytes p (p + 1 + length (codes "DEPTH")) 32 l (record l { depth = Some n }) (codes "DEPTH") (decimal n ++ 10 ∷ rest) (10 ∷ rest) word refl line

maximum_line : (bytes : List ℕ) (p bits : ℕ) (l : Lines) (rest : List ℕ) → At bytes p (10 ∷ (codes "MAXVAL" ++ 32 ∷ (decimal (maximum bits) ++ 10 ∷ rest))) → 1 ≤ bits → bits ≤ 16 →
    IsReadAs bytes (λ q. next_line bytes l p) (λ q. parsed (record l { bits = Some bits }) q) (10 ∷ rest)
unfolding line_from
maximum_line bytes p n l rest at low high =
    let word = word_read bytes p 10 32 (codes "MAXVAL") (decimal (maximum n) ++ 10 ∷ rest) at refl refl in
    let number = bits_read bytes (p + 1 + length (codes "MAXVAL")) 32 10 n rest word.next_at after_word low high in
    let line : IsReadAs bytes (λ q. line_with bytes (keyword_of (codes "MAXVAL")) l (p + 1 + length (codes "MAXVAL"))) (λ q. parsed (record l { bits = Some n }) q) (10 ∷ rest) =
    record { after = number.after; read = ap (λ (r : Result Number NetpbmError). and_then r (λ v. Ok (parsed (record l { bits = Some v.value }) v.after))) number.read; next_at = number.next_at } in
    line_read bytes p (p + 1 + length (codes "MAXVAL")) 32 l (record l { bits = Some n }) (codes "MAXVAL") (decimal (maximum n) ++ 10 ∷ rest) (10 ∷ rest) word refl line

type_line : (bytes : List ℕ) (p : ℕ) (l : Lines) (name rest : List ℕ) (k : Kind) → At bytes p (10 ∷ (codes "TUPLTYPE" ++ 32 ∷ (name ++ 10 ∷ rest))) →
    ((r : List ℕ) → gap false (32 ∷ (name ++ 10 ∷ r)) ≡ 1) → ((r : List ℕ) → word_length (name ++ 10 ∷ r) ≡ length name) → type_of name ≡ Some k →
    IsReadAs bytes (λ q. next_line bytes l p) (λ q. parsed (record l { tuple_type = Some k }) q) (10 ∷ rest)
unfolding line_from
type_line bytes p l name rest k at one size is =
    let word = word_read bytes p 10 32 (codes "TUPLTYPE") (name ++ 10 ∷ rest) at refl refl in
    let start = p + 1 + length (codes "TUPLTYPE") in
    let value = word_read bytes start 32 10 name rest word.next_at (one rest) (size rest) in
    let line : IsReadAs bytes (λ q. line_with bytes (keyword_of (codes "TUPLTYPE")) l start) (λ q. parsed (record l { tuple_type = Some k }) q) (10 ∷ rest) =
    record {
      after = start + 1 + length name;
      read = ap (λ (r : Result Word NetpbmError). and_then r (λ w. with_type l (type_of (slice_range bytes w.start w.end)) w.end)) value.read
          ∙ ap (λ (bs : List ℕ). with_type l (type_of bs) (start + 1 + length name)) value.text ∙ ap (λ (o : Option Kind). with_type l o (start + 1 + length name)) is;
      next_at = value.next_at;
    } in
    line_read bytes p start 32 l (record l { tuple_type = Some k }) (codes "TUPLTYPE") (name ++ 10 ∷ rest) (10 ∷ rest) word refl line

-- the last line
record IsEndAt (bytes : List ℕ) (p : ℕ) (l : Lines) (next : List ℕ) : Type 0 where
  after : ℕ
  read : next_line bytes l p ≡ Ok (record { lines = l; after = after; ended = true })
  next_at : At bytes after (10 ∷ next)

end_line : (bytes : List ℕ) (p : ℕ) (l : Lines) (rest : List ℕ) → At bytes p (10 ∷ (codes "ENDHDR" ++ 10 ∷ rest)) → IsEndAt bytes p l rest
unfolding next_line line_from
end_line bytes p l rest at =
    let word = word_read bytes p 10 10 (codes "ENDHDR") rest at refl refl in
    let end = p + 1 + 6 in
    let none : end ≡ end + 0 = omega arith in
    let first : slice_index bytes end ≡ 10 = ap (slice_index bytes) none ∙ sym (get_or-drop end bytes 0 0) ∙ ap (λ (bs : List ℕ). get_or bs 0 0) word.next_at.is in
    let good : Result Parsed NetpbmError = Ok (record { lines = l; after = end; ended = true }) in
    let bad : Result Parsed NetpbmError = Err InvalidHeader in
    record {
      after = end;
      read = ap (λ (r : Result Word NetpbmError). and_then r (λ w. line_with bytes (keyword_of (slice_range bytes w.start w.end)) l w.end)) word.read
          ∙ ap (λ (bs : List ℕ). line_with bytes (keyword_of bs) l end) word.text ∙ ap (λ b. if b == 10 then good else bad) first;
      next_at = word.next_at;
    }

one_line : (bytes : List ℕ) (n p after : ℕ) (l m : Lines) → next_line bytes l p ≡ Ok (parsed m after) → lines_from (suc n) bytes l p ≡ lines_from n bytes m after
unfolding lines_from
one_line bytes n p after l m is = ap (λ (r : Result Parsed NetpbmError). and_then r (λ s. if s.ended then header_by_lines s.lines (s.after + 1) else lines_from n bytes s.lines s.after)) is

last_line : (bytes : List ℕ) (n p : ℕ) (l : Lines) (rest : List ℕ) (end : IsEndAt bytes p l rest) → lines_from (suc n) bytes l p ≡ header_by_lines l (end.after + 1)
unfolding lines_from
last_line bytes n p l rest end = ap (λ (r : Result Parsed NetpbmError). and_then r (λ s. if s.ended then header_by_lines s.lines (s.after + 1) else lines_from n bytes s.lines s.after)) end.read

-- the types of tuples by their names
abbrev pub name_of : Bool → Bool → List ℕ
name_of true true = codes "GRAYSCALE_ALPHA"
name_of true false = codes "GRAYSCALE"
name_of false true = codes "RGB_ALPHA"
name_of false false = codes "RGB"

abbrev kind_of : Bool → Bool → Kind
kind_of is_grey has_alpha = record { grey = is_grey; alpha = has_alpha }

name_gap : (is_grey has_alpha : Bool) (r : List ℕ) → gap false (32 ∷ (name_of is_grey has_alpha ++ 10 ∷ r)) ≡ 1
name_gap true true r = refl
name_gap true false r = refl
name_gap false true r = refl
name_gap false false r = refl

name_length : (is_grey has_alpha : Bool) (r : List ℕ) → word_length (name_of is_grey has_alpha ++ 10 ∷ r) ≡ length (name_of is_grey has_alpha)
name_length true true r = refl
name_length true false r = refl
name_length false true r = refl
name_length false false r = refl

type_of-name : (is_grey has_alpha : Bool) → type_of (name_of is_grey has_alpha) ≡ Some (kind_of is_grey has_alpha)
type_of-name true true = refl
type_of-name true false = refl
type_of-name false true = refl
type_of-name false false = refl

few : (is_grey has_alpha : Bool) → channel_count is_grey has_alpha < 2 ^ 32
few true true = lit< tt
few true false = lit< tt
few false true = lit< tt
few false false = lit< tt

-- all lines
abbrev pub lines_of : ℕ → ℕ → ℕ → Bool → Bool → Lines
lines_of w h bits is_grey has_alpha = record { width = Some w; height = Some h; depth = Some (channel_count is_grey has_alpha); bits = Some bits; tuple_type = Some (kind_of is_grey has_alpha) }

by_lines : (w h bits start : ℕ) (is_grey has_alpha : Bool) → header_by_lines (lines_of w h bits is_grey has_alpha) start ≡ Ok (numbers_header w h is_grey has_alpha bits start)
unfolding header_by_lines
by_lines w h bits start true true = refl
by_lines w h bits start true false = refl
by_lines w h bits start false true = refl
by_lines w h bits start false false = refl

-- the lines of a header and the samples, one after another
abbrev in_turn : (a b c d e r : List ℕ) → List ℕ
in_turn a b c d e r =
    codes "WIDTH" ++ 32 ∷ (a ++ 10 ∷ (codes "HEIGHT" ++ 32 ∷ (b ++ 10 ∷ (codes "DEPTH" ++ 32 ∷ (c ++ 10 ∷ (codes "MAXVAL" ++ 32 ∷ (d ++ 10 ∷ (codes "TUPLTYPE" ++ 32 ∷ (e ++ 10 ∷ (codes "ENDHDR" ++ 10 ∷ r))))))))))

pam_read : (bytes : List ℕ) (p w h bits : ℕ) (is_grey has_alpha : Bool) (raster : List ℕ) →
    At bytes p (10 ∷ in_turn (decimal w) (decimal h) (decimal (channel_count is_grey has_alpha)) (decimal (maximum bits)) (name_of is_grey has_alpha) raster) →
    is_side w ≡ true → is_side h ≡ true → 1 ≤ bits → bits ≤ 16 →
    IsReadAs bytes (λ q. lines_from 64 bytes no_lines p) (λ q. numbers_header w h is_grey has_alpha bits q) raster
pam_read bytes p w h bits is_grey has_alpha raster at wide high low most =
    let n = channel_count is_grey has_alpha in
    let name = name_of is_grey has_alpha in
    let sixth = codes "ENDHDR" ++ 10 ∷ raster in
    let fifth = codes "TUPLTYPE" ++ 32 ∷ (name ++ 10 ∷ sixth) in
    let fourth = codes "MAXVAL" ++ 32 ∷ (decimal (maximum bits) ++ 10 ∷ fifth) in
    let third = codes "DEPTH" ++ 32 ∷ (decimal n ++ 10 ∷ fourth) in
    let second = codes "HEIGHT" ++ 32 ∷ (decimal h ++ 10 ∷ third) in
    let l1 : Lines = record no_lines { width = Some w } in
    let l2 : Lines = record l1 { height = Some h } in
    let l3 : Lines = record l2 { depth = Some n } in
    let l4 : Lines = record l3 { bits = Some bits } in
    let l5 : Lines = record l4 { tuple_type = Some (kind_of is_grey has_alpha) } in
    let a = width_line bytes p w no_lines second at wide in
    let b = height_line bytes a.after h l1 third a.next_at high in
    let c = depth_line bytes b.after n l2 fourth b.next_at (few is_grey has_alpha) in
    let d = maximum_line bytes c.after bits l3 fifth c.next_at low most in
    let e = type_line bytes d.after l4 name sixth (kind_of is_grey has_alpha) d.next_at (name_gap is_grey has_alpha) (name_length is_grey has_alpha) (type_of-name is_grey has_alpha) in
    let f : IsEndAt bytes e.after l5 raster = end_line bytes e.after l5 raster e.next_at in
    record {
      after = f.after + 1;
      read = one_line bytes 63 p a.after no_lines l1 a.read ∙ one_line bytes 62 a.after b.after l1 l2 b.read ∙ one_line bytes 61 b.after c.after l2 l3 c.read
          ∙ one_line bytes 60 c.after d.after l3 l4 d.read ∙ one_line bytes 59 d.after e.after l4 l5 e.read ∙ last_line bytes 58 e.after l5 raster f ∙ by_lines w h bits (f.after + 1) is_grey has_alpha;
      next_at = at_more bytes f.after (10 ∷ []) raster f.next_at;
    }

-- the lines as they are written
abbrev ended : List ℕ → List ℕ
ended text = text ++ 10 ∷ []

abbrev pub lines_text : (a b c d e : List ℕ) → List ℕ
lines_text a b c d e =
    ((((ended (codes "WIDTH " ++ a) ++ ended (codes "HEIGHT " ++ b)) ++ ended (codes "DEPTH " ++ c)) ++ ended (codes "MAXVAL " ++ d)) ++ ended (codes "TUPLTYPE " ++ e)) ++ ended (codes "ENDHDR")

line_shape : (k a rest : List ℕ) → ended (k ++ a) ++ rest ≡ k ++ (a ++ 10 ∷ rest)
line_shape k a rest = simp append_assoc refl

six_parts : (a b c d e f r : List ℕ) → (((((a ++ b) ++ c) ++ d) ++ e) ++ f) ++ r ≡ a ++ (b ++ (c ++ (d ++ (e ++ (f ++ r)))))
six_parts a b c d e f r = simp append_assoc refl

lines_shape : (a b c d e r : List ℕ) → lines_text a b c d e ++ r ≡ in_turn a b c d e r
lines_shape a b c d e r =
    let w = ended (codes "WIDTH " ++ a) in
    let h = ended (codes "HEIGHT " ++ b) in
    let n = ended (codes "DEPTH " ++ c) in
    let m = ended (codes "MAXVAL " ++ d) in
    let t = ended (codes "TUPLTYPE " ++ e) in
    let sixth : List ℕ = codes "ENDHDR" ++ 10 ∷ r in
    let fifth : List ℕ = codes "TUPLTYPE " ++ (e ++ 10 ∷ sixth) in
    let fourth : List ℕ = codes "MAXVAL " ++ (d ++ 10 ∷ fifth) in
    let third : List ℕ = codes "DEPTH " ++ (c ++ 10 ∷ fourth) in
    let second : List ℕ = codes "HEIGHT " ++ (b ++ 10 ∷ third) in
    let on5 : t ++ sixth ≡ fifth = line_shape (codes "TUPLTYPE ") e sixth in
    let on4 : m ++ (t ++ sixth) ≡ fourth = ap (λ (x : List ℕ). m ++ x) on5 ∙ line_shape (codes "MAXVAL ") d fifth in
    let on3 : n ++ (m ++ (t ++ sixth)) ≡ third = ap (λ (x : List ℕ). n ++ x) on4 ∙ line_shape (codes "DEPTH ") c fourth in
    let on2 : h ++ (n ++ (m ++ (t ++ sixth))) ≡ second = ap (λ (x : List ℕ). h ++ x) on3 ∙ line_shape (codes "HEIGHT ") b third in
    six_parts w h n m t (ended (codes "ENDHDR")) r ∙ ap (λ (x : List ℕ). w ++ x) on2 ∙ line_shape (codes "WIDTH ") a second

pub pam_file : (w h bits start : ℕ) (is_grey has_alpha : Bool) (gs : List (Grid ℤ)) →
    is_side w ≡ true → is_side h ≡ true → 1 ≤ bits → bits ≤ 16 → length gs ≡ channel_count is_grey has_alpha →
    ((k : ℕ) (g : Grid ℤ) → slice_get gs k ≡ Some g → IsChannel (numbers_header w h is_grey has_alpha bits start) g) →
    IsNetpbmOf (80 ∷ 55 ∷ 10 ∷ (lines_text (decimal w) (decimal h) (decimal (channel_count is_grey has_alpha)) (decimal (maximum bits)) (name_of is_grey has_alpha)
    ++ raster_text (maximum bits) (layers_by (maximum bits) gs) w h))
    (image_by (numbers_header w h is_grey has_alpha bits start)) gs
pam_file w h bits start is_grey has_alpha gs wide high low most count own =
    let raster = raster_text (maximum bits) (layers_by (maximum bits) gs) w h in
    let n = decimal (channel_count is_grey has_alpha) in
    let name = name_of is_grey has_alpha in
    let rest = lines_text (decimal w) (decimal h) n (decimal (maximum bits)) name ++ raster in
    let text = 80 ∷ 55 ∷ 10 ∷ rest in
    let at : At text 2 (10 ∷ in_turn (decimal w) (decimal h) n (decimal (maximum bits)) name raster) =
    record { is = ap (λ (bs : List ℕ). 10 ∷ bs) (lines_shape (decimal w) (decimal h) n (decimal (maximum bits)) name raster); inside = omega arith } in
    let read = pam_read text 2 w h bits is_grey has_alpha raster at wide high low most in
    record {
      header = numbers_header w h is_grey has_alpha bits read.after;
      is_header = header_by_magic 55 10 rest ∙ read.read;
      image_is = refl;
      long = numbers_long text w h bits read.after start is_grey has_alpha gs low most read.next_at count;
      count = count;
      samples = numbers_held text w h bits read.after start is_grey has_alpha gs low most read.next_at count own;
    }

-- the layers of a PAM file are all its channels
pub all_layers : (w h bits start : ℕ) (is_grey has_alpha : Bool) (gs : List (Grid ℤ)) → length gs ≡ channel_count is_grey has_alpha →
    pam_layers (image_by (numbers_header w h is_grey has_alpha bits start)) gs ≡ layers_by (maximum bits) gs
all_layers w h bits start true false (a ∷ []) e = refl
all_layers w h bits start true false [] e = absurd (omega (arith, e))
all_layers w h bits start true false (a ∷ b ∷ gs) e = absurd (omega (arith, e))
all_layers w h bits start true true (a ∷ b ∷ []) e = refl
all_layers w h bits start true true [] e = absurd (omega (arith, e))
all_layers w h bits start true true (a ∷ []) e = absurd (omega (arith, e))
all_layers w h bits start true true (a ∷ b ∷ c ∷ gs) e = absurd (omega (arith, e))
all_layers w h bits start false false (a ∷ b ∷ c ∷ []) e = refl
all_layers w h bits start false false [] e = absurd (omega (arith, e))
all_layers w h bits start false false (a ∷ []) e = absurd (omega (arith, e))
all_layers w h bits start false false (a ∷ b ∷ []) e = absurd (omega (arith, e))
all_layers w h bits start false false (a ∷ b ∷ c ∷ d ∷ gs) e = absurd (omega (arith, e))
all_layers w h bits start false true (a ∷ b ∷ c ∷ d ∷ []) e = refl
all_layers w h bits start false true [] e = absurd (omega (arith, e))
all_layers w h bits start false true (a ∷ []) e = absurd (omega (arith, e))
all_layers w h bits start false true (a ∷ b ∷ []) e = absurd (omega (arith, e))
all_layers w h bits start false true (a ∷ b ∷ c ∷ []) e = absurd (omega (arith, e))
all_layers w h bits start false true (a ∷ b ∷ c ∷ d ∷ f ∷ gs) e = absurd (omega (arith, e))

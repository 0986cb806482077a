use Rattle.std.proofs.Common.{◌≡◌, ◌<◌, length, arith, rules}
use Rattle.jxl_image_header.specs.Images.{image_of}
use Rattle.jxl_patches.specs.Dictionaries.{patches_of}
use Rattle.jxl_patches.specs.Patched.{patching}
use Rattle.jxl_patches.specs.SavedParts.{frames_in}
use Rattle.jxl_patches.proofs.Channels.{all_put, fits_stay, none_put, place_more}
use Rattle.jxl_patches.proofs.dictionary.Dictionary.apply.Goals as goal

pub loop-n-init : goal.loop-n-init
loop-n-init c = none_put (patching (image_of c.args.image.now) (frames_in c.args.slots.now) c.args.colours (patches_of c.args.self.now) c.args.channels.now) c.args.channels.now

pub put_place-requires-clause-fits : goal.put_place-requires-clause-fits
put_place-requires-clause-fits c =
    fits_stay (patching (image_of c.args.image.now) (frames_in c.args.slots.now) c.args.colours (patches_of c.args.self.now) c.args.channels.now) c.loop-n.n (frames_in c.args.slots.now) c.args.colours
    (patches_of c.args.self.now) c.args.channels.now c.loop-n.channels c.requires c.loop-n.invariant

pub loop-n-preserved : goal.loop-n-preserved
loop-n-preserved c =
    let lt : c.loop-n.n < length c.args.self.now.places.items = search rules in
    place_more (image_of c.args.image.now) (frames_in c.args.slots.now) c.args.colours (patches_of c.args.self.now) c.args.channels.now c.loop-n.channels c.put_place.new.channels c.loop-n.n lt c.requires
    c.loop-n.invariant c.in_ok-put_place.ensures

pub returns : goal.returns
returns c =
    let total : c.len-n-end.result ≡ length c.args.self.now.places.items = search rules in
    let end : c.loop-n.n ≡ length c.args.self.now.places.items = omega (arith, total) in
    all_put (image_of c.args.image.now) (frames_in c.args.slots.now) c.args.colours (patches_of c.args.self.now) c.args.channels.now c.loop-n.channels (rw end at c.loop-n.invariant)

use Rattle.jxl_encode_image.proofs.Parts.{all_lie}
use Rattle.jxl_encode_image.proofs.image.CodedImage.part.Goals as goal

pub returns : goal.returns
returns g c =
    all_lie g.S.Sealed.to_int c.args.group_dim c.args.passes.now c.args.self.now.channels c.args.self.now.store.items c.args.part c.requires.lie c.pieces.result c.pieces.ensures

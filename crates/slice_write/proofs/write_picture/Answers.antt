use Rattle.std.proofs.Common.{length, refl}
use Rattle.std.specs.Prelude.{flat_map}
use Rattle.slice_write.specs.Slices.{upto}
use Rattle.slice_write.specs.Pictures.{picture, piece, nobody}
use Rattle.patch_base.proofs.Passing.{grew_all, began_all, on_err, map_ok, map_err}
use Rattle.slice_write.proofs.write_picture.Goals as goal

pub returns-in_err-put_picture-clause-prefix : goal.returns-in_err-put_picture-clause-prefix
unfolding picture
returns-in_err-put_picture-clause-prefix g c = on_err _ c.from_residual.result (rw c.new-pen.ensures at c.in_err-put_picture.ensures.prefix)

pub returns-clause-all : goal.returns-clause-all
unfolding picture
returns-clause-all g c = map_ok c.send.result (λ p. grew_all _ (flat_map (piece c.args.layout.now nobody) (upto (length c.args.layout.now.sites))) c.new-pen.ensures refl c.in_ok-put_picture.ensures.ok p) c.send.ensures.ok

pub returns-clause-prefix : goal.returns-clause-prefix
unfolding picture
returns-clause-prefix g c = map_err c.send.result (λ p. began_all _ (flat_map (piece c.args.layout.now nobody) (upto (length c.args.layout.now.sites))) c.new-pen.ensures refl c.in_ok-put_picture.ensures.ok p) c.send.ensures.prefix

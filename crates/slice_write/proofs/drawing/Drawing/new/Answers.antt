use Rattle.std.proofs.Common.{◌≡◌, ◌+◌, ◌++◌, length, get_or, ◌∙◌, ap, sym, refl, arith}
use Rattle.std.specs.Prelude.{flat_map}
use Rattle.std.proofs.lemmas.List.{length_push}
use Rattle.slice_write.specs.Slices.{upto}
use Rattle.slice_write.specs.Pictures.{piece, picture, nobody}
use Rattle.slice_write.proofs.Pieces.{upto_more}
use Rattle.slice_write.proofs.Drawn.{starts_more}
use Rattle.slice_write.proofs.drawing.Drawing.new.Goals as goal

pub loop-cell-preserved : goal.loop-cell-preserved
loop-cell-preserved c =
    let f = piece c.args.layout.now nobody in
    let at : c.len.result ≡ length (flat_map f (upto c.loop-cell.cell)) = omega (arith, c.len.ensures, c.loop-cell.blank.ok.0, ap length c.loop-cell.invariant.text) in
    let this : c.held.result.now ≡ f c.loop-cell.cell = c.held.ensures ∙ c.put_piece.ensures.text ∙ ap (λ l. l ++ f c.loop-cell.cell) c.clear.ensures in
    record {
      text = c.in_ok-extend_from_slice.ensures.items ∙ ap (λ l. l ++ c.held.result.now) c.loop-cell.invariant.text ∙ ap (λ l. flat_map f (upto c.loop-cell.cell) ++ l) this ∙ sym (upto_more f c.loop-cell.cell);
      size = ap length c.in_ok-push.ensures.items ∙ length_push c.loop-cell.starts.items c.len.result ∙ ap (λ n. n + 1) c.loop-cell.invariant.size;
      starts = λ x low. ap (λ l. get_or l x 0) c.in_ok-push.ensures.items ∙ starts_more f c.loop-cell.starts.items c.len.result c.loop-cell.cell x c.loop-cell.invariant.size at c.loop-cell.invariant.starts low;
    }

pub returns : goal.returns
unfolding picture
returns c =
    let f = piece c.args.layout.now nobody in
    let end : c.loop-cell.cell ≡ length c.args.layout.now.sites = omega (arith, c.loop-cell-test.false, c.loop-cell.auto.cell-end, c.size-cell-end.ensures.value) in
    let blank : c.loop-cell.blank.items ≡ flat_map f (upto (length c.args.layout.now.sites)) = c.loop-cell.invariant.text ∙ ap (λ n. flat_map f (upto n)) end in
    record {
      bytes = c.in_ok-bytes.ensures.items ∙ c.deref.ensures.value ∙ blank;
      blank = blank;
      size = c.loop-cell.invariant.size ∙ end;
      starts = λ x low. c.loop-cell.invariant.starts x (omega (arith, low, end));
      same = λ x. refl;
    }

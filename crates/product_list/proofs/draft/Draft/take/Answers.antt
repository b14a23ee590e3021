use Rattle.std.proofs.Common.{◌≡◌, true, false}
use Rattle.product_list.proofs.Texts.{text_passed, text_formless, text_line}
use Rattle.product_list.proofs.draft.Draft.take.Goals as goal

pub returns-then-is_skipped : goal.returns-then-is_skipped
returns-then-is_skipped c = text_passed c.args.two c.args.number c.args.self.now c.args.text.now (c.is_skipped.ensures.0 c.if-is_skipped.true)

pub returns-in-None : goal.returns-in-None
returns-in-None c = rw c.at.ensures (text_formless c.args.two c.args.number c.args.self.now c.args.text.now (λ s. absurd (let e : false ≡ true = c.if-is_skipped.ensures.1 s in cc)) c.in-None.ensures.none)

pub returns-in-Some : goal.returns-in-Some
returns-in-Some c = rw (text_line c.args.two c.args.number c.args.self.now c.args.text.now _ (λ s. absurd (let e : false ≡ true = c.if-is_skipped.ensures.1 s in cc)) c.in-Some.ensures.some) c.put_line.ensures

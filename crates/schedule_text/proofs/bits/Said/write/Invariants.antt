use Rattle.std.proofs.Common.{◌≡◌, ℕ, ◌<◌, length, drop, get_or, false}
use Rattle.source_model.specs.Bits.{bit_after_products}
use Rattle.source_model.specs.Statics.{kinds_of}
use Rattle.schedule_text.specs.inside.Bits.{turned_round}
use Rattle.schedule_text.proofs.bits.Said.write.Given as goal

abbrev pub invariant-loop-p : goal.invariant-loop-p
invariant-loop-p l = record {
  rest : (b : ℕ) → b < length l.bits → bit_after_products (get_or l.bits b false) b (drop l.p (kinds_of l.products)) (drop l.p (turned_round l.self.signs.items l.self.raws.items)) ≡ bit_after_products (get_or l.initial.bits b false) b (kinds_of l.products) (turned_round l.self.signs.items l.self.raws.items);
}

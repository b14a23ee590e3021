-- The bits that a board leaves are those of the source run, and so is the text with them.
use Rattle.std.proofs.Common.{◌≡◌, Bool, false, zero-add, List, ap, ◌∙◌}
use Rattle.std.proofs.lemmas.List.FromFn.{get_or-map-range_with_len}
use Rattle.source_model.specs.declared.Circuit.{Circuit}
use Rattle.source_model.specs.declared.Given.{Given}
use Rattle.source_model.specs.declared.Item.{Item}
use Rattle.source_model.specs.declared.Register.{Register}
use Rattle.source_model.specs.Bits.{bits_after}
use Rattle.source_model.specs.Circuits.{WellFormed, bits_in}
use Rattle.source_model.specs.SourceRun.{bit_after}
use Rattle.board_core.specs.declared.Noted.{Noted}
use Rattle.schedule_text.specs.Text.{text_of, bits_text, two, bit_in}
use Rattle.board_write.specs.Boards.{schedule_of, bits_shown}
use Rattle.board_write.proofs.SameBits.{AgreeBelow, same_text, same_bits}

-- the bits of the registers after the run, read one by one
read_bits : (rs : List Register) (items : List Item) (table : List Given) (bits : List Bool) → bits ≡ bits_after rs items table → AgreeBelow (bits_in rs) (bit_in bits) (bit_after items table)
read_bits rs items table bits e b below =
    ap (λ bs. bit_in bs b) e ∙ get_or-map-range_with_len (bit_after items table) 0 (bits_in rs) b b false below (zero-add b)

pub same_schedule : (c : Circuit) (table : List Given) (h : List Noted) (bits : List Bool) → WellFormed c → bits ≡ bits_after c.registers c.items table → text_of two h c.registers (bit_in bits) ≡ schedule_of c table h
same_schedule c table h bits formed e =
    same_text two h (bit_in bits) (bit_after c.items table) c.registers (read_bits c.registers c.items table bits e) formed.firsts_run_on

pub same_shown : (c : Circuit) (table : List Given) (bits : List Bool) → WellFormed c → bits ≡ bits_after c.registers c.items table → bits_text c.registers (bit_in bits) ≡ bits_shown c table
same_shown c table bits formed e =
    same_bits (bit_in bits) (bit_after c.items table) c.registers (read_bits c.registers c.items table bits e) formed.firsts_run_on

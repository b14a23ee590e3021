use Rattle.std.proofs.Common.{◌∙◌, sym}
use Rattle.rotation_list.proofs.Answering.{list_refused, list_stands, program_refused, program_stands}
use Rattle.rotation_list.proofs.reading.read_either.Goals as goal

pub returns-then-is_list : goal.returns-then-is_list
returns-then-is_list c =
    let list = sym c.is_list.ensures ∙ c.if-is_list.true in
    record {
      read = list_stands c.args.text.now c.read_list.result list c.read_list.ensures.read;
      formed = c.read_list.ensures.formed;
      few = c.read_list.ensures.few;
      letters = c.read_list.ensures.letters;
      refused = list_refused c.args.text.now c.read_list.result list c.read_list.ensures.read;
    }

pub returns-else-is_list : goal.returns-else-is_list
returns-else-is_list c =
    let other = sym c.is_list.ensures ∙ c.if-is_list.false in
    record {
      read = program_stands c.args.text.now c.read_program.result other c.read_program.ensures.read;
      formed = c.read_program.ensures.formed;
      few = c.read_program.ensures.few;
      letters = c.read_program.ensures.letters;
      refused = program_refused c.args.text.now c.read_program.result other c.read_program.ensures.refused;
    }
